-- The books that the session keeps.
use Rattle.std.specs.Prelude.{ℕ, ◌==◌, Bool, false, List, [], ◌∷◌, map}
use Rattle.xd_journal.specs.declared.entry.Entry.{Entry}
use Rattle.xd_journal.specs.declared.entry.Entry.TheVariants.{Shutdown}
use Rattle.xd_run.specs.Table.{shut_down}
use Rattle.xd_run.specs.Books.{Books, marked, on_table}
use Rattle.xd_run.specs.Workers.{made_shut}
use Rattle.xd_session_books.specs.declared.run_books.RunBooks.{RunBooks}

-- the books of the definitions for which these stand
abbrev pub books_of : RunBooks → Books
books_of b = record (b.kept) { table = b.ledger }

-- the item is the first of these
abbrev pub is_first : ℕ → List ℕ → Bool
is_first item [] = false
is_first item (t ∷ ts) = item == t

-- a worker was told to shut down
abbrev pub told_to_shut : ℕ → Books → Books
told_to_shut worker b = marked (made_shut worker) (on_table (shut_down worker) b)

-- each of these workers was told to shut down, in order
abbrev pub told_all : List ℕ → Books → Books
told_all [] b = b
told_all (w ∷ ws) b = told_all ws (told_to_shut w b)

-- a Shutdown to each of these workers
abbrev pub shutdowns : List ℕ → List Entry
shutdowns ws = map (λ w. Shutdown w) ws
