-- The reports of a run: one for each test that ended, and one for each test at which a worker went down and that is not
-- tried again.
use Rattle.std.specs.Prelude.{ℕ, ◌≡◌, ◌≤◌, List, [], ◌∷◌, ◌++◌, length, map}
use Rattle.std.specs.List.{range_with_len}
use Rattle.xd_journal.specs.declared.settings.Settings.{Settings}
use Rattle.xd_journal.specs.declared.entry.Outcome.{Outcome}
use Rattle.xd_journal.specs.declared.entry.Entry.{Entry}
use Rattle.xd_journal.specs.declared.entry.Entry.TheVariants.{Done, Down}
use Rattle.xd_journal.specs.declared.entry.RunStop.TheVariants.{Completed}
use Rattle.xd_journal.specs.declared.journal.Journal.{Journal}
use Rattle.xd_run.specs.Ending.{stop_of}
use Rattle.xd_run.specs.Table.{held, crash_item}
use Rattle.xd_run.specs.Plan.{items_named}
use Rattle.xd_run.specs.Workers.{slot_of}
use Rattle.xd_run.specs.Retry.{is_retry}
use Rattle.xd_run.specs.Sharing.{State, ids_at}
use Rattle.xd_run.specs.State.{after_effect, reached, no_one, state_at}

-- the report of an item: how its test ended on a worker, or that the worker went down in it
pub data Report : Type 0 where
  Result : (worker : ℕ) → (item : ℕ) → (outcome : Outcome) → Report
  Crash : (worker : ℕ) → (item : ℕ) → Report

-- the reports of one entry after a state
abbrev pub reports_of : State → Entry → List Report
reports_of s (Done w index outcome ms output) = map (λ item. Result w item outcome) (items_named (slot_of w s.books) (index ∷ []) s.plan)
reports_of s (Down w cause output) = map (λ item. Crash w item) (crash_item (is_retry w s.books) (held w s.books.table))
reports_of s _ = []

-- the reports of these entries after a state, in order
abbrev pub reports_from : State → List Entry → List Report
reports_from s [] = []
reports_from s (e ∷ es) = reports_of (reached s e) e ++ reports_from (after_effect (reached s e) e) es

-- the reports of a run with these settings and entries, in order
-- Example: gw0 completes 0 and dies with 1 and 2: a result of 0 and a crash of 1, unless 1 is tried again; 2 has none yet.
abbrev pub reports : Settings → List Entry → List Report
reports settings entries = reports_from (no_one settings) entries

-- the item that a report is of
abbrev pub item_of : Report → ℕ
item_of (Result w item outcome) = item
item_of (Crash w item) = item

-- the reports of a journal, in order
abbrev pub reports_in : Journal → List Report
reports_in j = reports j.settings j.entries.items

-- the ids of the collection that stands for slot 0: without workers all tests that were collected
abbrev pub collected_ids : Journal → List (List ℕ)
collected_ids j = ids_at 0 (state_at j.settings j.entries.items).books.lists

-- The reports of a run without workers name the first tests that were collected, in order, each once, and all of them
-- where the run was completed.
-- Example: of three tests two have results and the output fails: they name 0 and 1.
pub record NamesInOrder (j : Journal) : Type 0 where
  pub in_order : map item_of (reports_in j) ≡ range_with_len 0 (length (reports_in j))
  pub within : length (reports_in j) ≤ length (collected_ids j)
  pub all : stop_of j ≡ Completed → length (reports_in j) ≡ length (collected_ids j)
