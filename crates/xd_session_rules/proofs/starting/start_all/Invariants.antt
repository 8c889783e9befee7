use Rattle.std.proofs.Common.{◌≡◌}
use Rattle.xd_run.specs.State.{after_entries, no_one}
use Rattle.xd_run.specs.Histories.{starts_from}
use Rattle.xd_session_books.specs.Books.{books_of}
use Rattle.xd_session_rules.proofs.starting.start_all.Given as goal

abbrev pub invariant-loop-worker : goal.invariant-loop-worker
invariant-loop-worker l = record {
  books : books_of l.books ≡ (after_entries (no_one (books_of l.fn.books).settings) (starts_from 0 l.worker)).books;
  entries : l.entries.items ≡ starts_from 0 l.worker;
}
