use Rattle.std.proofs.Common.{◌≡◌, drop}
use Rattle.xd_run.specs.Workers.{slot_in}
use Rattle.xd_books.proofs.marks.slot_in.Given as goal

abbrev pub invariant-loop-member : goal.invariant-loop-member
invariant-loop-member l = slot_in l.worker l.members ≡ slot_in l.worker (drop l.member-index l.members)
