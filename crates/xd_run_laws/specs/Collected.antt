-- How many tests a run collected.
use Rattle.std.specs.Prelude.{◌≡◌, ℕ, true, sum, if◌then◌else◌}
use Rattle.xd_journal.specs.declared.settings.Settings.{Settings}
use Rattle.xd_run.specs.Plan.{is_each, total}
use Rattle.xd_run.specs.Books.{Books}
use Rattle.xd_run.specs.Sharing.{State, sizes_from}

-- how many collections have tests of their own: in mode each the first one of each slot, else the first one of the run
abbrev pub slots : Settings → ℕ
slots settings = if is_each settings.mode then settings.workers else 1

-- how many tests these have together
-- Example: two slots of 3 tests in mode each are 6.
abbrev pub collected : Books → ℕ
collected b = sum (sizes_from b.lists 0 (slots b.settings))

-- the tests were shared, and they are those that were collected
pub record IsShared (s : State) : Type 0 where
  pub shared : s.books.shared ≡ true
  pub tests : total s.plan ≡ collected s.books
