use Rattle.std.proofs.Common.{arith}
use Rattle.xd_drive.proofs.Unkilled.{unkilled-most}
use Rattle.xd_drive.proofs.listed_hub.ListedHubHub.say.Goals as goal

pub invariant_of-self-inside-2 : goal.invariant_of-self-inside-2
invariant_of-self-inside-2 c = record {
  roomy = omega (arith, unkilled-most c.push_reserved.new.self.items c.self.inside.0.1.1.0.items.items, c.in_ok-reserve.ensures.ok, c.push_reserved.ensures.len, c.push_reserved.ensures.capacity, c.len.ensures);
}
