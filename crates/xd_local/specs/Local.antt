-- A run in the program itself. The limit on failures is pytest's --maxfail.
use Rattle.std.specs.Prelude.{ℕ, ◌≡◌, ◌≢◌, ◌+◌, ◌<◌, ◌≤◌, nat_le, Bool, true, false, List, [], ◌∷◌, ◌++◌, map, take, length, Option, Some, None, option_map, unwrap_or, sum_by, if◌then◌else◌}
use Rattle.std.specs.List.{list_all}
use Rattle.xd_edge.specs.declared.mode.ModeKind.TheVariants.{Local}
use Rattle.xd_edge.specs.Children.{ChildRun}
use Rattle.xd_edge.specs.Faults.{Rose, RoseBy, StoodStill}
use Rattle.xd_edge.specs.Printing.{ShowsSome}
use Rattle.xd_edge.specs.Sink.{Sunk}
use Rattle.xd_trace.specs.Each.{EachHasMoment}
use Rattle.xd_trace.specs.Noted.{moments}
use Rattle.xd_trace.specs.declared.moments.Moments.{Moments}
use Rattle.xd_suite.specs.declared.test.Test.{Test}
use Rattle.xd_journal.specs.declared.settings.Settings.{Settings}
use Rattle.xd_journal.specs.declared.entry.Entry.TheVariants.{Over}
use Rattle.xd_journal.specs.declared.entry.RunStop.{RunStop}
use Rattle.xd_journal.specs.declared.entry.RunStop.TheVariants.{Completed, MaxFail, OutFault}
use Rattle.xd_journal.specs.declared.journal.Journal.{Journal}
use Rattle.xd_journal.specs.Kept.{most_of_one, most_of_all, output_room, kept_of}
use Rattle.xd_journal.specs.Local.{TestResult, local_entries}
use Rattle.xd_journal.specs.Stop.{reaches}
use Rattle.xd_run.specs.Ending.{stop_of}
use Rattle.xd_run.specs.Legal.{IsLegal}
use Rattle.xd_run.specs.Reports.{NamesInOrder, Report, reports_in}
use Rattle.xd_run.specs.Reports.Report.{Result, Crash}
use Rattle.xd_report.specs.EachReport.{NamesTests}
use Rattle.xd_report.specs.Lines.{run_lines}
use Rattle.xd_child.specs.Ending.{fault_count, outcome_of}
use Rattle.xd_local.specs.Outside.{Reach}
use Rattle.xd_local.specs.Timing.{AreTimed}
use Rattle.xd_local.specs.Print.{PrintsReport, failures_in}

-- without workers, and with this limit on failures; 0 is no limit
abbrev pub local_settings : ℕ → Settings
local_settings maxfail = record { mode = Local; workers = 0; maxfail = maxfail; restarts = 0; chunk = None; reorder = true; retries = 0 }

-- what is kept of the output of these starts, where those before keep `spent` bytes
abbrev pub kept_of_starts : ℕ → List ChildRun → List (List ℕ)
kept_of_starts spent [] = []
kept_of_starts spent (r ∷ rs) =
    let kept = unwrap_or (option_map (λ o. kept_of o (output_room spent) r.output) (outcome_of r.fate)) [] in
    kept ∷ kept_of_starts (spent + length kept) rs

-- how many bytes these results keep
abbrev pub kept_by : List TestResult → ℕ
kept_by [] = 0
kept_by (r ∷ rs) = length r.output + kept_by rs

-- Where they are told, the first of these tests were started in suite order, one start for each result, by their
-- commands, and came to these results, which keep the first bytes of what the failed ones gave.
pub record RanTests (tests : List Test) (results : List TestResult) (old new : Option (List ChildRun)) : Type 0 where
  pub runs : List ChildRun
  pub commands : map (λ r. r.args) runs ≡ take (length results) (map (λ t. t.run) tests)
  pub outcomes : map (λ r. outcome_of r.fate) runs ≡ map (λ r. Some r.outcome) results
  pub outputs : map (λ r. r.output) results ≡ kept_of_starts 0 runs
  pub added : new ≡ option_map (λ l. l ++ runs) old

-- what is seen of the programs and of the output at one moment
pub record RoundSeen : Type 0 where
  pub runs : Option (List ChildRun)
  pub sunk : Option Sunk

module _ {K O : Type 0} (runs : K → Option (List ChildRun)) (sunk : O → Option Sunk) where
  -- what was seen of the programs and of the output at these moments, by what these tell
  abbrev pub rounds_seen : Moments K O → List RoundSeen
  rounds_seen m = map (λ p. record { runs = runs p.0; sunk = sunk p.1 }) (moments m)

-- At this moment the tests of these results and of this one had been started, and no further one; the output had taken the
-- lines of all of them and handed them on.
pub record IsAfterTest (settings : Settings) (tests : List Test) (before : List TestResult) (r : TestResult) (old m : RoundSeen) : Type 0 where
  pub ran : RanTests tests (before ++ r ∷ []) old.runs m.runs
  pub shows : ShowsSome (run_lines settings (local_entries (map (λ t. t.id) tests) (before ++ r ∷ []))) old.sunk m.sunk

-- Each of these results had such a moment: its line was printed before the next test was started.
abbrev pub LinesInTime : Settings → List Test → List TestResult → RoundSeen → List RoundSeen → Type 0
LinesInTime settings tests results old moments = EachHasMoment (λ before r m. IsAfterTest settings tests before r old m) results moments

-- The same where all was printed; else the last result may have had none.
-- Example: the line of the second test of three cannot be written: the first one had its moment.
pub record LinesCame (all_printed : Type 0) (settings : Settings) (tests : List Test) (results : List TestResult) (old : RoundSeen) (moments : List RoundSeen) : Type 0 where
  pub told : List TestResult
  pub last : List TestResult
  pub split : results ≡ told ++ last
  pub one : length last ≤ 1
  pub none : all_printed → last ≡ []
  pub in_time : LinesInTime settings tests told old moments

-- The journal is the collection of these tests, their results and the end; the results are those of their programs, took as
-- long as the clock says, keep no more of their output than the limits allow, and had their lines printed as they came.
pub record RunsSuite (tests : List Test) (j : Journal) (old new : Reach) (moments : List RoundSeen) : Type 0 where
  pub results : List TestResult
  pub entries : j.entries.items ≡ local_entries (map (λ t. t.id) tests) results ++ Over (stop_of j) ∷ []
  pub ran : RanTests tests results old.programs.runs new.programs.runs
  pub timed : AreTimed results old.clock new.clock
  pub few_kept : list_all (λ r. nat_le (length r.output) most_of_one) results ≡ true
  pub few_in_all : kept_by results ≤ most_of_all
  pub lines : LinesCame (stop_of j ≢ OutFault) j.settings tests results (record { runs = old.programs.runs; sunk = old.out.sunk }) moments

-- how a run ends whose report was printed, or was not, by its first stop
abbrev pub stop_after : Bool → Option RunStop → RunStop
stop_after true first = unwrap_or first Completed
stop_after false first = OutFault

-- how a run with this limit ends after that many failures
abbrev pub stop_at : ℕ → ℕ → RunStop
stop_at limit failures = if reaches limit failures then MaxFail failures else Completed

-- No test was run after the one whose failure reached this limit. Where the output did not fail, the run ended by the
-- limit exactly where its failures reached it, with their number.
-- Example: three tests pass, fail and are skipped, and the limit is 1: the third is not run.
pub record KeepsLimit (limit : ℕ) (j : Journal) : Type 0 where
  pub none_later : (k : ℕ) → k < length (reports_in j) → reaches limit (failures_in (take k (reports_in j))) ≡ false
  pub how : stop_of j ≢ OutFault → stop_of j ≡ stop_at limit (failures_in (reports_in j))

-- how many faults of the outside a report stands for
-- Example: a test that could not be started stands for one, and one that failed with status 1 for none.
abbrev pub report_faults : Report → ℕ
report_faults (Result w item outcome) = fault_count outcome
report_faults (Crash w item) = 0

-- how many faults of the outside these reports stand for together
abbrev pub faults_of_reports : List Report → ℕ
faults_of_reports rs = sum_by report_faults rs

-- A run of these tests with this limit on failures, its journal, its report and its programs.
pub record RunsTests (tests : List Test) (maxfail : ℕ) (j : Journal) (old new : Reach) (moments : List RoundSeen) : Type 0 where
  pub legal : IsLegal j
  pub settings : j.settings ≡ local_settings maxfail
  pub suite : RunsSuite tests j old new moments
  pub once : NamesInOrder j
  pub limit : KeepsLimit maxfail j
  pub names : NamesTests j
  pub printed : PrintsReport (stop_of j) j old.out.sunk new.out.sunk
  pub out_fault : stop_of j ≡ OutFault → Rose old.out.faults new.out.faults
  pub still : stop_of j ≢ OutFault → new.out.faults ≡ old.out.faults
  pub completed : StoodStill old.out.faults new.out.faults → stop_of j ≡ stop_at maxfail (failures_in (reports_in j))
  pub child_faults : RoseBy (faults_of_reports (reports_in j)) old.programs.faults new.programs.faults
  pub child_still : faults_of_reports (reports_in j) ≡ 0 → new.programs.faults ≡ old.programs.faults
