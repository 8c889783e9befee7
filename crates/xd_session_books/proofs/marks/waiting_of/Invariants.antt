use Rattle.std.proofs.Common.{◌≡◌, take}
use Rattle.xd_run.specs.Workers.{waiting}
use Rattle.xd_session_books.proofs.marks.waiting_of.Given as goal

abbrev pub invariant-loop-i : goal.invariant-loop-i
invariant-loop-i l = l.workers ≡ waiting (take l.i l.members)
