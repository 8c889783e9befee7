use Rattle.std.proofs.Common.{◌≡◌, ◌+◌, drop}
use Rattle.xd_session_books.specs.Compared.{place_in_lists}
use Rattle.xd_session_books.proofs.lists.place_of.Given as goal

abbrev pub invariant-loop-i : goal.invariant-loop-i
invariant-loop-i l = l.i + place_in_lists l.slot (drop l.i l.lists) ≡ place_in_lists l.slot l.lists
