-- A run in the program itself, as far as it came.
use Rattle.std.specs.Prelude.{ℕ, ⊤, ◌≡◌, ◌+◌, ◌≤◌, ◌⊎◌, nat_le, Bool, true, false, List, [], ◌∷◌, ◌++◌, map, length, sum_by, Option}
use Rattle.std.specs.List.{list_all}
use Rattle.xd_edge.specs.Faults.{RoseBy}
use Rattle.xd_edge.specs.Printing.{ShowsSome}
use Rattle.xd_edge.specs.Sink.{Sunk}
use Rattle.xd_suite.specs.declared.test.Test.{Test}
use Rattle.xd_journal.specs.declared.entry.Entry.{Entry}
use Rattle.xd_journal.specs.declared.entry.Entry.TheVariants.{Over}
use Rattle.xd_journal.specs.declared.entry.RunStop.TheVariants.{OutFault}
use Rattle.xd_journal.specs.declared.journal.Journal.{Journal}
use Rattle.xd_journal.specs.Kept.{most_of_one, most_of_all, output_room}
use Rattle.xd_journal.specs.Local.{TestResult, round, local_entries}
use Rattle.xd_journal.specs.Stop.{reaches}
use Rattle.xd_run.specs.Sharing.{State}
use Rattle.xd_run.specs.Results.{failing}
use Rattle.xd_run.specs.State.{after_entries, no_one}
use Rattle.xd_report.specs.declared.reporter.Reporter.{Reporter}
use Rattle.xd_report.specs.Follows.{Follows}
use Rattle.xd_report.specs.Lines.{lines_from, run_lines}
use Rattle.xd_report.specs.Printing.{ShowsEnd, ShowsLines}
use Rattle.xd_report.specs.Status.{status_in}
use Rattle.xd_report.specs.Text.{text_of}
use Rattle.xd_child.specs.declared.running.ChildResult.{ChildResult}
use Rattle.xd_child.specs.Ending.{fault_count}
use Rattle.xd_child.specs.Running.{RanChild}
use Rattle.xd_local.specs.Local.{LinesCame, LinesInTime, RanTests, RoundSeen, kept_by, local_settings, stop_after}
use Rattle.xd_local.specs.Outside.{Programs}
use Rattle.xd_local.specs.Print.{AtStep, OutputFailedAt}
use Rattle.xd_edge.specs.Clock.{Lasts, Ticking}
use Rattle.xd_local.specs.Timing.{AreTimed}

-- the run: its journal, the reporter that follows it, how many bytes of output it keeps, and its programs
pub record Running : Type 0 where
  pub journal : Journal
  pub reporter : Reporter
  pub spent : ℕ
  pub programs : Programs

-- the run, what its output took, and its clock
pub record LocalScene : Type 0 where
  pub run : Running
  pub sunk : Option Sunk
  pub clock : Ticking

-- these as one value, with the moments of the clock
abbrev pub local_scene : Running → Option Sunk → ℕ → Option (List ℕ) → LocalScene
local_scene run sunk moment coming = record { run = run; sunk = sunk; clock = record { moment = moment; coming = coming } }

-- what is seen of its programs and its output
abbrev pub round_at : LocalScene → RoundSeen
round_at s = record { runs = s.run.programs.runs; sunk = s.sunk }

-- the state after a journal
abbrev pub after_journal : Journal → State
after_journal j = after_entries (no_one j.settings) j.entries.items

-- the reporter followed the journal to its end
abbrev pub FollowsJournal : Running → Type 0
FollowsJournal r = Follows r.reporter (after_journal r.journal)

-- the ids of these tests, in order
abbrev pub ids_of_tests : List Test → List (List ℕ)
ids_of_tests tests = map (λ t. t.id) tests

-- nothing was collected yet
pub record NothingCollected (maxfail : ℕ) (r : Running) : Type 0 where
  pub settings : r.journal.settings ≡ local_settings maxfail
  pub entries : r.journal.entries.items ≡ []
  pub unseen : Follows r.reporter (no_one (local_settings maxfail))
  pub nothing_kept : r.spent ≡ 0

-- the collection was noted
pub record HasCollected (tests : List Test) (old new : Running) : Type 0 where
  pub entries : new.journal.entries.items ≡ old.journal.entries.items ++ local_entries (ids_of_tests tests) []
  pub settings : new.journal.settings ≡ old.journal.settings
  pub reporter : new.reporter ≡ old.reporter
  pub spent : new.spent ≡ old.spent
  pub programs : new.programs ≡ old.programs

-- the tests were collected, and nothing of it was printed
pub record WasCollected (tests : List Test) (r : Running) : Type 0 where
  pub settings : r.journal.settings ≡ local_settings r.journal.settings.maxfail
  pub entries : r.journal.entries.items ≡ local_entries (ids_of_tests tests) []
  pub unseen : Follows r.reporter (no_one r.journal.settings)
  pub nothing_kept : r.spent ≡ 0

-- the entries grew by the run of a test and its result
abbrev pub AddsRound : ℕ → TestResult → List Entry → List Entry → Type 0
AddsRound test result old new = new ≡ old ++ round test result

-- what the program of a test came to
abbrev pub child_of : TestResult → ChildResult
child_of r = record { outcome = r.outcome; output = r.output }

-- one test was run and came to this result, and both were noted
pub record IsNoted (test : ℕ) (args : List (List ℕ)) (result : TestResult) (old new : Running) : Type 0 where
  pub entries : AddsRound test result old.journal.entries.items new.journal.entries.items
  pub settings : new.journal.settings ≡ old.journal.settings
  pub ran : RanChild args (output_room old.spent) (child_of result) old.programs.runs new.programs.runs
  pub spent : new.spent ≡ old.spent + length result.output
  pub faults : RoseBy (fault_count result.outcome) old.programs.faults new.programs.faults
  pub still : fault_count result.outcome ≡ 0 → new.programs.faults ≡ old.programs.faults
  pub later : old.programs.faults ≤ new.programs.faults

-- the same, which took as long as the clock says, and nothing of it was printed
pub record NotesTest (test : ℕ) (args : List (List ℕ)) (before now : Ticking) (old new : Running) : Type 0 where
  pub result : TestResult
  pub noted : IsNoted test args result old new
  pub unseen : new.reporter ≡ old.reporter
  pub timed : Lasts result.ms before now

-- what one test adds to the run and its output
pub record RanTest (shown : Bool) (test : ℕ) (args : List (List ℕ)) (old new : LocalScene) : Type 0 where
  pub result : TestResult
  pub noted : IsNoted test args result old.run new.run
  pub timed : Lasts result.ms old.clock new.clock
  pub shows : ShowsLines shown (lines_from (after_journal old.run.journal) (round test result)) old.sunk new.sunk
  pub told : shown ≡ true → FollowsJournal new.run

-- how many of these tests failed
abbrev pub failed_of : List TestResult → ℕ
failed_of [] = 0
failed_of (r ∷ rs) = failing r.outcome + failed_of rs

-- before each of these tests the failures, with `before` earlier ones, had not reached the limit
abbrev pub BelowLimit : ℕ → ℕ → List TestResult → Type 0
BelowLimit limit before [] = ⊤
BelowLimit limit before (r ∷ rs) = (reaches limit before ≡ false) × BelowLimit limit (before + failing r.outcome) rs

-- the failures reached the limit, or all tests were run
abbrev pub HasEnded : ℕ → List Test → List TestResult → Type 0
HasEnded limit tests results = (reaches limit (failed_of results) ≡ true) ⊎ (length results ≡ length tests)

-- how many faults of the outside these results stand for
abbrev pub result_faults : List TestResult → ℕ
result_faults rs = sum_by (λ r. fault_count r.outcome) rs

-- the first tests, as far as they came, with what the outside tells of them
pub record SoFar (results : List TestResult) (tests : List Test) (old new : Running) : Type 0 where
  pub entries : new.journal.entries.items ≡ local_entries (ids_of_tests tests) results
  pub settings : new.journal.settings ≡ old.journal.settings
  pub ran : RanTests tests results old.programs.runs new.programs.runs
  pub faults : RoseBy (result_faults results) old.programs.faults new.programs.faults
  pub still : result_faults results ≡ 0 → new.programs.faults ≡ old.programs.faults
  pub few_kept : list_all (λ r. nat_le (length r.output) most_of_one) results ≡ true
  pub few_in_all : kept_by results ≤ most_of_all
  pub below : BelowLimit old.journal.settings.maxfail 0 results
  pub within : length results ≤ length tests

-- `count` tests were run, and all lines so far were printed
-- Example: two of three tests were run: the journal has their entries, and their lines were handed on.
pub record Progress (count : ℕ) (tests : List Test) (old new : LocalScene) (moments : List RoundSeen) : Type 0 where
  pub results : List TestResult
  pub so_far : SoFar results tests old.run new.run
  pub timed : AreTimed results old.clock new.clock
  pub counted : length results ≡ count
  pub spent_is : new.run.spent ≡ kept_by results
  pub lines : LinesInTime old.run.journal.settings tests results (round_at old) moments
  pub shows : ShowsSome (run_lines new.run.journal.settings new.run.journal.entries.items) old.sunk new.sunk
  pub told : FollowsJournal new.run

-- all lines so far were printed, or the output failed at those of the last step
abbrev pub ShowsSteps : Bool → Journal → Option Sunk → Option Sunk → Type 0
ShowsSteps true j old new = ShowsSome (run_lines j.settings j.entries.items) old new
ShowsSteps false j old new = AtStep j.settings j.entries.items old new

-- the whole report was printed and the output closed, or it failed at the last step, or at the end where all was done
abbrev pub ShowsReport : Bool → Type 0 → Journal → Option Sunk → Option Sunk → Type 0
ShowsReport true did_all j old new = ShowsEnd true (text_of j) old new
ShowsReport false did_all j old new = OutputFailedAt did_all j.settings j.entries.items old new

-- the run came to its end and its lines were printed, or the output failed at the collection or after a test
pub record RanAll (shown : Bool) (tests : List Test) (old new : LocalScene) (moments : List RoundSeen) : Type 0 where
  pub results : List TestResult
  pub so_far : SoFar results tests old.run new.run
  pub timed : AreTimed results old.clock new.clock
  pub lines : LinesCame (shown ≡ true) old.run.journal.settings tests results (round_at old) moments
  pub all : shown ≡ true → HasEnded old.run.journal.settings.maxfail tests results
  pub shows : ShowsSteps shown new.run.journal old.sunk new.sunk
  pub told : shown ≡ true → FollowsJournal new.run

-- the same with the tail: the journal without its end, and the whole report
pub record RanPrinted (shown : Bool) (tests : List Test) (old new : LocalScene) (moments : List RoundSeen) : Type 0 where
  pub results : List TestResult
  pub so_far : SoFar results tests old.run new.run
  pub timed : AreTimed results old.clock new.clock
  pub lines : LinesCame (shown ≡ true) old.run.journal.settings tests results (round_at old) moments
  pub all : shown ≡ true → HasEnded old.run.journal.settings.maxfail tests results
  pub shows : ShowsReport shown (HasEnded old.run.journal.settings.maxfail tests results) new.run.journal old.sunk new.sunk
  pub told : shown ≡ true → FollowsJournal new.run

-- the journal of the run with its end
pub record ClosedJournal (shown : Bool) (r : Running) (j : Journal) : Type 0 where
  pub settings : j.settings ≡ r.journal.settings
  pub entries : (s : State) → Follows r.reporter s → j.entries.items ≡ r.journal.entries.items ++ Over (stop_after shown s.books.stop) ∷ []
  pub broken : shown ≡ false → j.entries.items ≡ r.journal.entries.items ++ Over OutFault ∷ []

-- the exit status, by the state that the reporter followed; where the output failed it is 3, whatever was followed
pub record HasStatus (shown : Bool) (r : Running) (status : ℕ) : Type 0 where
  pub told : (s : State) → Follows r.reporter s → status ≡ status_in s (stop_after shown s.books.stop)
  pub broken : shown ≡ false → status ≡ 3
