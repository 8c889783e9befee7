use Rattle.std.proofs.Common.{◌≡◌, ◌+◌, drop}
use Rattle.xd_session_books.specs.Kept.{place_of}
use Rattle.xd_session_books.proofs.logs.place_of.Given as goal

abbrev pub invariant-loop-i : goal.invariant-loop-i
invariant-loop-i l = l.i + place_of l.worker (drop l.i l.logs) ≡ place_of l.worker l.logs
