use Rattle.xd_session_books.proofs.Compares.{LookedThrough}
use Rattle.xd_session_books.proofs.lists.are_distinct.Given as goal

abbrev pub invariant-loop-text : goal.invariant-loop-text
invariant-loop-text l = LookedThrough l.texts l.text-index l.seen
