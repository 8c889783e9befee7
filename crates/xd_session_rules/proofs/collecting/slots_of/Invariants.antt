use Rattle.std.proofs.Common.{◌≡◌, take, map}
use Rattle.xd_run.specs.Table.{workers_of}
use Rattle.xd_run.specs.Workers.{slot_of}
use Rattle.xd_session_books.specs.Books.{books_of}
use Rattle.xd_session_rules.proofs.collecting.slots_of.Given as goal

abbrev pub invariant-loop-place : goal.invariant-loop-place
invariant-loop-place l = l.items.items ≡ map (λ w. slot_of w (books_of l.books)) (take l.place (workers_of l.books.ledger))
