use Rattle.std.proofs.Common.{◌≡◌, take}
use Rattle.xd_session_books.specs.Books.{books_of}
use Rattle.xd_session_rules.specs.Rules.{members_told}
use Rattle.xd_session_rules.proofs.outputs.follow.Given as goal

abbrev pub invariant-loop-i : goal.invariant-loop-i
invariant-loop-i l = books_of l.books ≡ record (books_of l.fn.books) { members = members_told (take l.i l.acts) (books_of l.fn.books).members }
