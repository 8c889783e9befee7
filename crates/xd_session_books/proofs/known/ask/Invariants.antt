use Rattle.std.proofs.Common.{◌≡◌, take}
use Rattle.xd_session_books.specs.Known.{steal_of, steal_told}
use Rattle.xd_session_books.proofs.known.ask.Given as goal

abbrev pub invariant-loop-i : goal.invariant-loop-i
invariant-loop-i l = steal_of l.steal ≡ steal_told (take l.i l.acts) (steal_of l.fn.steal)
