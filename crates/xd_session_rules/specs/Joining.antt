-- A worker joins, and the tests are shared.
use Rattle.std.specs.Prelude.{◌≡◌, ℕ, true, false, List, [], sum, Option, Some, None, if◌then◌else◌}
use Rattle.std.specs.List.{range_with_len}
use Rattle.xd_edge.specs.declared.mode.ModeKind.{ModeKind}
use Rattle.xd_journal.specs.declared.entry.Entry.{Entry}
use Rattle.xd_journal.specs.declared.entry.RunStop.{RunStop}
use Rattle.xd_run.specs.Books.{Books}
use Rattle.xd_run.specs.Outputs.{outputs_of_joining, unless_stopped}
use Rattle.xd_run.specs.Plan.{Plan, is_each}
use Rattle.xd_run.specs.Sharing.{State, ids_at, in_books, joining, shared_plan, sizes_from}
use Rattle.xd_run.specs.Stops.{is_stopped, stopped_by}
use Rattle.xd_run.specs.Table.{Table, all_items, has_joined}
use Rattle.xd_run.specs.Workers.{is_shut}
use Rattle.xd_session_books.specs.Known.{Known}
use Rattle.xd_session_rules.specs.Rules.{Acted}

-- before the share no item stands anywhere
abbrev pub IsBare : Table → Type 0
IsBare t = all_items t ≡ []

-- what holds of a worker that gives its collection: it has not joined, before the share no item stands anywhere, and after a
-- stop it was told to shut down
pub record IsToJoin (worker : ℕ) (b : Books) : Type 0 where
  pub absent : has_joined worker b.table ≡ false
  pub bare : b.shared ≡ false → IsBare b.table
  pub told : is_stopped b ≡ true → is_shut worker b ≡ true

-- how many tests each slot has in mode each, and else how many the run has
abbrev pub sizes_in : ModeKind → Books → List ℕ
sizes_in mode b = sizes_from b.lists 0 (if is_each mode then b.settings.workers else 1)

-- the plan once the tests of these books are shared
abbrev pub shared_in : ModeKind → Books → Plan → Plan
shared_in mode b p = shared_plan (sizes_in mode b) (ids_at 0 b.lists) p

-- all items of collections of these sizes come into the pool, in order
abbrev pub filled : List ℕ → Table → Table
filled sizes t = record t { pool = range_with_len 0 (sum sizes) }

-- a collection that differs stops the run, with any other the worker joins
abbrev pub taken_in : ℕ → Option RunStop → State → State
taken_in worker (Some how) s = in_books (stopped_by (Some how)) s
taken_in worker None s = joining worker s

-- that was done, and what it brings was said
abbrev pub TakenIn : ℕ → Option RunStop → State → Books → Known → List Entry → List Entry → (Plan → Type 0) → Type 0
TakenIn worker stop s b k old new stands =
    Acted (unless_stopped s.books (taken_in worker stop s).books (outputs_of_joining worker s.books (taken_in worker stop s))) (taken_in worker stop s) b k old new stands
