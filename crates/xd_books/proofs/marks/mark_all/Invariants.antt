use Rattle.std.proofs.Common.{◌≡◌, ◌++◌, map, take, drop}
use Rattle.xd_run.specs.Workers.{made}
use Rattle.xd_books.proofs.marks.mark_all.Given as goal

abbrev pub invariant-loop-i : goal.invariant-loop-i
invariant-loop-i l = l.members.items ≡ map (made l.mark l.worker) (take l.i l.fn.members.items) ++ drop l.i l.fn.members.items
