-- What deaths and retries leave true of a run with honest workers.
use Rattle.std.specs.Prelude.{◌≡◌, ◌+◌, ◌==◌, ℕ, Bool, false, true, List, [], ◌∷◌, ◌++◌, filter, map}
use Rattle.std.specs.List.{list_all}
use Rattle.xd_journal.specs.declared.entry.Entry.{Entry}
use Rattle.xd_journal.specs.declared.entry.Outcome.{Outcome}
use Rattle.xd_journal.specs.declared.news.News.{News}
use Rattle.xd_journal.specs.declared.settings.Settings.{Settings}
use Rattle.xd_run.specs.Numbers.{among}
use Rattle.xd_run.specs.Plan.{base}
use Rattle.xd_run.specs.Proper.{IsProper}
use Rattle.xd_run.specs.Reports.{Report, Crash, Result, reports}
use Rattle.xd_run.specs.State.{state_at}
use Rattle.xd_run.specs.Table.{held}
use Rattle.xd_run.specs.Workers.{slot_of}
use Rattle.xd_run_laws.specs.Crashes.{IsDeath}
use Rattle.xd_worker_tests.specs.History.{Given, no_number_twice, started_tests}
use Rattle.xd_worker_tests.specs.Line.{is_among}
use Rattle.xd_session.specs.History.{Run, run_of}
use Rattle.xd_system.specs.Moment.{IsFirstPart, IsHonestAt, LinkNow}
use Rattle.xd_system.specs.Tells.{outcomes}

-- the report is a result of this worker
abbrev pub is_result_of : ℕ → Report → Bool
is_result_of w (Result v item outcome) = v == w
is_result_of w (Crash v item) = false

-- these ends of tests as results of the worker
abbrev pub results_by : ℕ → Run → List (ℕ × Outcome) → List Report
results_by w r ends = map (λ p. Result w (base (slot_of w r.state.books) r.state.plan + p.0) p.1) ends

-- each of these ends is of a test that was started
abbrev pub are_of_started : List (ℕ × Outcome) → List ℕ → Bool
are_of_started ends started = list_all (λ p. is_among p.0 started) ends

-- The worker started no test twice, and its results among the reports are how the programs of tests that it started ended:
-- the first of these ends, in order. The last ones may have been lost with its link.
-- Example: gw0 ran 0, 1 and 2, and its link was cut in the completion of 2: its results are those of 0 and 1.
pub record ReportsWhatRan (r : Run) (settings : Settings) (w : ℕ) (gs : List Given) : Type 0 where
  pub once : no_number_twice (started_tests gs) ≡ true
  pub ends : List (ℕ × Outcome)
  pub first : IsFirstPart ends (outcomes gs)
  pub results_are : filter (is_result_of w) (reports settings r.entries) ≡ results_by w r ends
  pub started : are_of_started (outcomes gs) (started_tests gs) ≡ true

-- Whatever dies, and whatever is tried again, an honest worker reports what ran.
abbrev pub HonestReports : Type 0
HonestReports = (settings : Settings) (taken : List News) (w : ℕ) (l : LinkNow) → IsProper settings [] → IsHonestAt settings taken w l
    → ReportsWhatRan (run_of settings taken) settings w l.given

-- The crash is of the first test that the worker held when it went down, and no other worker held that test then.
-- Example: gw0 and gw1 hold 0, 2 and 1, 3, and gw0 dies: the crash is of 0, which gw1 does not hold.
pub record IsLoneDeath (settings : Settings) (es : List Entry) (earlier : List Report) (worker item : ℕ) : Type 0 where
  pub death : IsDeath settings es earlier worker item
  pub alone : (v : ℕ) → (v == worker) ≡ false → among item (held v (state_at settings death.before).books.table) ≡ false

-- Each crash among the reports of a run is such a death, whatever its workers do.
abbrev pub CrashesAlone : Type 0
CrashesAlone = (settings : Settings) (taken : List News) (earlier later : List Report) (worker item : ℕ) → IsProper settings []
    → reports settings (run_of settings taken).entries ≡ earlier ++ Crash worker item ∷ later
    → IsLoneDeath settings (run_of settings taken).entries earlier worker item

-- What deaths and retries leave true.
pub record LeftTrue : Type 0 where
  pub reports_what_ran : HonestReports
  pub crashes_alone : CrashesAlone
