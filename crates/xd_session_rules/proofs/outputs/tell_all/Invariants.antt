use Rattle.std.proofs.Common.{◌≡◌, ◌++◌, take}
use Rattle.xd_session_books.specs.Books.{books_of, shutdowns, told_all}
use Rattle.xd_session_rules.proofs.outputs.tell_all.Given as goal

abbrev pub invariant-loop-i : goal.invariant-loop-i
invariant-loop-i l = record {
  books : books_of l.books ≡ told_all (take l.i l.workers) (books_of l.fn.books);
  entries : l.entries.items ≡ l.fn.entries.items ++ shutdowns (take l.i l.workers);
}
