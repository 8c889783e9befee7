use Rattle.std.proofs.Common.{◌≡◌, length}
use Rattle.xd_drive.specs.Listed.{from_started}
use Rattle.xd_drive.proofs.listed_hub.next_listed.Given as goal

abbrev pub invariant-loop-next : goal.invariant-loop-next
invariant-loop-next l = from_started l.started l.news.items ≡ from_started l.started l.fn.news.items

abbrev pub decreases-loop-next : goal.decreases-loop-next
decreases-loop-next l = length l.news.items
