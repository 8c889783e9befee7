-- What a collection changes in the state of a run. pytest-xdist's DSession: `worker_collectionfinish`.
use Rattle.std.specs.Prelude.{ℕ, Option, Some, None, if◌then◌else◌}
use Rattle.xd_journal.specs.declared.entry.Ids.{Ids}
use Rattle.xd_journal.specs.declared.entry.RunStop.{RunStop}
use Rattle.xd_run.specs.Books.{marked}
use Rattle.xd_run.specs.Workers.{is_shut, made_collected}
use Rattle.xd_run.specs.Collections.{listed, unequal, with_list}
use Rattle.xd_run.specs.Stops.{stopped_by}
use Rattle.xd_run.specs.Sharing.{State, in_books, joining}

-- a worker that was told to shut down does not join; a collection that differs stops the run
abbrev pub collecting : ℕ → Option RunStop → State → State
collecting worker (Some how) s = if is_shut worker s.books then s else in_books (stopped_by (Some how)) s
collecting worker None s = if is_shut worker s.books then s else joining worker s

-- the state after a collection
abbrev pub after_collected : ℕ → Ids → State → State
after_collected worker given s =
    collecting worker (unequal worker given (listed worker s.books)) (in_books (λ b. marked (made_collected worker) (with_list worker given b)) s)
