use Rattle.std.proofs.Common.{arith}
use Rattle.xd_drive.proofs.Unkilled.{unkilled-kill}
use Rattle.xd_drive.proofs.listed_hub.ListedHubHub.kill.Goals as goal

pub push_reserved-requires : goal.push_reserved-requires
push_reserved-requires c = omega (arith, c.args.self.now.roomy, unkilled-kill c.args.worker c.args.self.now.calls.items c.args.self.now.started c.requires.started c.requires.once)

pub invariant_of-self : goal.invariant_of-self
invariant_of-self c = record {
  roomy =
      let fewer = unkilled-kill c.args.worker c.args.self.now.calls.items c.args.self.now.started c.requires.started c.requires.once in
      rw c.push_reserved.ensures.items (omega (arith, c.args.self.now.roomy, fewer, c.push_reserved.ensures.len, c.push_reserved.ensures.capacity));
}
