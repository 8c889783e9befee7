-- The tests that an entry speaks of, by the state in which it stands.
use Rattle.std.specs.Prelude.{ℕ, ◌-◌, List, [], length, slice_index_or, Option, if◌then◌else◌}
use Rattle.xd_edge.specs.declared.mode.ModeKind.{ModeKind}
use Rattle.xd_journal.specs.Local.{is_local_mode}
use Rattle.xd_run.specs.Collections.{key}
use Rattle.xd_run.specs.Numbers.{first_of}
use Rattle.xd_run.specs.Plan.{base, total}
use Rattle.xd_run.specs.Retry.{is_retry}
use Rattle.xd_run.specs.Sharing.{State, ids_at}
use Rattle.xd_run.specs.Table.{crash_item, held}
use Rattle.xd_run.specs.Workers.{slot_of}

-- the mode of the run
abbrev pub mode_of : State → ModeKind
mode_of s = s.books.settings.mode

-- the id of the test that the worker calls by this number; nothing where no entry gives it
abbrev pub id_of : ℕ → ℕ → State → List ℕ
id_of worker index s = slice_index_or (ids_at (key worker s.books) s.books.lists) index []

-- the first item that the worker holds
abbrev pub head : ℕ → State → Option ℕ
head worker s = first_of (held worker s.books.table)

-- the item that is reported where the worker goes down: the first that it holds, where that is not tried again
abbrev pub crash_of : ℕ → State → Option ℕ
crash_of worker s = first_of (crash_item (is_retry worker s.books) (held worker s.books.table))

-- the id of an item of the worker's slot
-- Example: in mode each with three tests item 4 has the id of test 1.
abbrev pub item_id : ℕ → ℕ → State → List ℕ
item_id worker item s = id_of worker (item - base (slot_of worker s.books) s.plan) s

-- how many tests the run has: with workers those that were shared, of all slots in mode each; without workers those
-- that were collected
abbrev pub tests : State → ℕ
tests s = if is_local_mode (mode_of s) then length (ids_at 0 s.books.lists) else total s.plan
