-- The whole journal of a run with workers.
use Rattle.std.specs.Prelude.{◌≡◌, ℕ, ◌≤◌, ◌<◌, Bool, true, false, List, ◌++◌, map}
use Rattle.xd_journal.specs.declared.entry.Entry.{Entry}
use Rattle.xd_journal.specs.declared.entry.RunStop.TheVariants.{Completed, OutFault}
use Rattle.xd_journal.specs.declared.journal.Journal.{Journal}
use Rattle.xd_run.specs.Numbers.{times}
use Rattle.xd_run.specs.Stops.{is_stopped}
use Rattle.xd_run.specs.State.{state_at}
use Rattle.xd_run.specs.Histories.{after_starts, is_over, journal_of, after_inputs}
use Rattle.xd_run.specs.Ending.{ending, may_close, stop_of}
use Rattle.xd_run.specs.Proper.{IsProper}
use Rattle.xd_run.specs.Reports.{item_of, reports_in}
use Rattle.xd_run_laws.specs.Collected.{collected}
use Rattle.xd_run_laws.specs.Stopped.{StopsBy}

-- The journal is that of proper inputs, with its end: where the run is over, or anywhere where the output failed.
pub record IsWhole (j : Journal) : Type 0 where
  pub inputs : List Entry
  pub proper : IsProper j.settings inputs
  pub out_failed : Bool
  pub may : may_close out_failed (after_inputs (after_starts j.settings) inputs).books ≡ true
  pub entries : j.entries.items ≡ journal_of j.settings inputs ++ ending out_failed (after_inputs (after_starts j.settings) inputs).books

-- how many tests were collected
abbrev pub tests_in : Journal → ℕ
tests_in j = collected (state_at j.settings j.entries.items).books

-- The journal's reports name each collected test at most once and nothing else, and each once where the run was completed.
pub record NamesEach (j : Journal) : Type 0 where
  pub at_most : (x : ℕ) → times x (map item_of (reports_in j)) ≤ 1
  pub no_other : (x : ℕ) → tests_in j ≤ x → times x (map item_of (reports_in j)) ≡ 0
  pub each : stop_of j ≡ Completed → (x : ℕ) → x < tests_in j → times x (map item_of (reports_in j)) ≡ 1

-- How the run ended: it was completed only where it was over and not stopped, and each stop but that of the output is one
-- that an entry brings.
pub record EndsRightly (j : Journal) : Type 0 where
  pub over : stop_of j ≡ Completed → is_over (state_at j.settings j.entries.items).books ≡ true
  pub unstopped : stop_of j ≡ Completed → is_stopped (state_at j.settings j.entries.items).books ≡ false
  pub stop : (stop_of j ≡ Completed → ⊥) → (stop_of j ≡ OutFault → ⊥) → StopsBy j.settings j.entries.items (stop_of j)
