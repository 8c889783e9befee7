-- How often the reports of a run name its items.
use Rattle.std.specs.Prelude.{◌≡◌, ℕ, ◌<◌, ◌≤◌, List, map, true, false}
use Rattle.xd_run.specs.Numbers.{times}
use Rattle.xd_run.specs.Plan.{total}
use Rattle.xd_run.specs.Stops.{is_stopped}
use Rattle.xd_run.specs.Sharing.{State}
use Rattle.xd_run.specs.Histories.{is_over}
use Rattle.xd_run.specs.Reports.{Report, item_of}

-- the reports of a run that is in this state name each of its items at most once and nothing else, and each once where
-- the run is over and was not stopped
-- Example: gw0 died in test 0, and gw1 never runs it: one report names it, that of the crash.
pub record AreOnce (rs : List Report) (s : State) : Type 0 where
  pub at_most : (x : ℕ) → times x (map item_of rs) ≤ 1
  pub no_other : (x : ℕ) → total s.plan ≤ x → times x (map item_of rs) ≡ 0
  pub all_told : is_over s.books ≡ true → is_stopped s.books ≡ false → (x : ℕ) → x < total s.plan → times x (map item_of rs) ≡ 1
