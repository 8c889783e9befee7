-- The exit status of a run. The numbers 0, 1 and 5 are pytest's, and 2 is that of its interrupted session; 3 is a choice
-- of this project.
use Rattle.std.specs.Prelude.{ℕ, ◌==◌, List, if◌then◌else◌}
use Rattle.xd_edge.specs.declared.mode.ModeKind.{ModeKind}
use Rattle.xd_journal.specs.declared.entry.RunStop.{RunStop}
use Rattle.xd_journal.specs.declared.entry.RunStop.TheVariants.{Completed, MaxFail, Restarts, Unequal, CollectError, OutFault}
use Rattle.xd_journal.specs.declared.entry.Entry.{Entry}
use Rattle.xd_journal.specs.declared.settings.Settings.{Settings}
use Rattle.xd_journal.specs.declared.journal.Journal.{Journal}
use Rattle.xd_journal.specs.Local.{is_local_mode}
use Rattle.xd_run.specs.Sharing.{State}
use Rattle.xd_run.specs.State.{state_at}
use Rattle.xd_run.specs.Ending.{stop_in}
use Rattle.xd_report.specs.Summary.{counts}
use Rattle.xd_report.specs.Tests.{mode_of, tests}

-- of a run that completed, by how many tests there are and how many failed
abbrev pub completed_status : ℕ → ℕ → ℕ
completed_status collected failures = if collected == 0 then 5 else (if failures == 0 then 0 else 1)

-- by how the run ended
abbrev pub stop_status : ModeKind → RunStop → ℕ → ℕ → ℕ
stop_status mode Completed collected failures = completed_status collected failures
stop_status mode (MaxFail count) _ _ = if is_local_mode mode then 1 else 2
stop_status mode (Restarts worker limit) _ _ = 1
stop_status mode (Unequal worker other place) _ _ = 1
stop_status mode (CollectError worker) _ _ = 2
stop_status mode OutFault _ _ = 3

-- of a run with these settings and entries; without its end by the stop so far
abbrev pub run_status : Settings → List Entry → ℕ
run_status settings es = stop_status settings.mode (stop_in settings es) (tests (state_at settings es)) (counts settings es).failed

-- of a run that is in this state and ends so; what counts are the failures that its books keep
abbrev pub status_in : State → RunStop → ℕ
status_in s how = stop_status (mode_of s) how (tests s) s.books.failures

-- of the run of a journal
-- Example: of a run that completed one test failed and the others passed: 1.
abbrev pub status_of : Journal → ℕ
status_of j = run_status j.settings j.entries.items
