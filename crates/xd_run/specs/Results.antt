-- What a result changes in the state of a run. pytest-xdist's DSession: `worker_testreport`, `handle_crashitem`.
use Rattle.std.specs.Prelude.{ℕ, ◌+◌, List, [], ◌∷◌, Option, None}
use Rattle.xd_journal.specs.declared.entry.Outcome.{Outcome}
use Rattle.xd_journal.specs.declared.entry.Outcome.TheVariants.{Failed}
use Rattle.xd_journal.specs.declared.entry.RunStop.{RunStop}
use Rattle.xd_run.specs.Table.{Table, completed}
use Rattle.xd_run.specs.Books.{Books, on_table}
use Rattle.xd_run.specs.Stops.{stopped_by, at_limit}

-- how many failures an outcome is
abbrev pub failing : Outcome → ℕ
failing (Failed code) = 1
failing _ = 0

-- the table after the first of these items was completed
abbrev pub completed_first : ℕ → List ℕ → Table → Table
completed_first worker [] t = t
completed_first worker (i ∷ is) t = completed worker i t

-- only a failure can reach the limit
abbrev pub done_stop : Outcome → Books → Option RunStop
done_stop (Failed code) b = at_limit b
done_stop _ b = None

-- a result counts, and a failure can reach the limit
abbrev pub scored : Outcome → Books → Books
scored outcome b =
    let c = record b { failures = b.failures + failing outcome } in
    stopped_by (done_stop outcome c) c

-- the books after a result of these items
abbrev pub done_books : ℕ → List ℕ → Outcome → Books → Books
done_books worker items outcome b = scored outcome (on_table (completed_first worker items) b)
