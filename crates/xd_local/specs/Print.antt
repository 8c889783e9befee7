-- What was printed of a run.
use Rattle.std.specs.Prelude.{ℕ, ◌≡◌, ◌⊎◌, true, List, [], ◌∷◌, ◌++◌, filter, length, Option}
use Rattle.xd_edge.specs.Sink.{Sunk, PrintedPart}
use Rattle.xd_journal.specs.declared.entry.Entry.{Entry}
use Rattle.xd_journal.specs.declared.entry.Entry.TheVariants.{Collected, Over}
use Rattle.xd_journal.specs.declared.entry.Ids.TheVariants.{List as Listed}
use Rattle.xd_journal.specs.declared.entry.RunStop.{RunStop}
use Rattle.xd_journal.specs.declared.entry.RunStop.TheVariants.{OutFault}
use Rattle.xd_journal.specs.declared.journal.Journal.{Journal}
use Rattle.xd_journal.specs.declared.settings.Settings.{Settings}
use Rattle.xd_journal.specs.Local.{TestResult, round}
use Rattle.xd_journal.specs.Stop.{reaches}
use Rattle.xd_run.specs.Reports.{Report, collected_ids, reports_in}
use Rattle.xd_report.specs.Breaking.{BrokeAtEnd, BrokeAtLines}
use Rattle.xd_report.specs.EachReport.{is_failure}
use Rattle.xd_report.specs.Printing.{ShowsEnd}
use Rattle.xd_report.specs.Text.{text_of}

-- A step of a run: the collection, or a test that was run and came to its result.
abbrev pub IsStep : List Entry → Type 0
IsStep es = ((ids : List (List ℕ)) × (es ≡ Collected 0 (Listed ids) ∷ [])) ⊎ ((test : ℕ) × (result : TestResult) × (es ≡ round test result))

-- At the lines of the last step.
pub record AtStep (settings : Settings) (es : List Entry) (old new : Option Sunk) : Type 0 where
  pub before : List Entry
  pub step : List Entry
  pub entries : es ≡ before ++ step
  pub is_step : IsStep step
  pub shows : BrokeAtLines settings before step old new

-- At the end of a run that did all that it had to do.
pub record AtEndOfTests (did_all : Type 0) (settings : Settings) (es : List Entry) (old new : Option Sunk) : Type 0 where
  pub all : did_all
  pub shows : BrokeAtEnd settings es es old new

-- Where the output failed.
abbrev pub OutputFailedAt : Type 0 → Settings → List Entry → Option Sunk → Option Sunk → Type 0
OutputFailedAt did_all settings es old new = AtStep settings es old new ⊎ AtEndOfTests did_all settings es old new

-- how many of these reports are failures
abbrev pub failures_in : List Report → ℕ
failures_in rs = length (filter is_failure rs)

-- All tests were reported, or the failures reached their limit.
abbrev pub DidAll : Journal → Type 0
DidAll j = (length (reports_in j) ≡ length (collected_ids j)) ⊎ (reaches j.settings.maxfail (failures_in (reports_in j)) ≡ true)

-- The output failed at the last step of the run, or at the end of a run that did all that it had to do; of the report a
-- first part was taken. The entries are those before the journal's end.
-- Example: the line of the second test of three cannot be written: the lines before it stand, and the third is not started.
pub record BreaksReport (j : Journal) (old new : Option Sunk) : Type 0 where
  pub es : List Entry
  pub entries : j.entries.items ≡ es ++ Over OutFault ∷ []
  pub failed : OutputFailedAt (DidAll j) j.settings es old new
  pub shows : PrintedPart (text_of j) old new

-- The report of a run that ended so was printed and the output closed, or it broke off where the output failed.
abbrev pub PrintsReport : RunStop → Journal → Option Sunk → Option Sunk → Type 0
PrintsReport OutFault j old new = BreaksReport j old new
PrintsReport _ j old new = ShowsEnd true (text_of j) old new
