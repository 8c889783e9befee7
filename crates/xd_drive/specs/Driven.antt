-- How a session was driven to its end.
use Rattle.std.specs.Prelude.{◌≡◌, ℕ, Bool, true, false, List, ◌++◌, take, drop}
use Rattle.xd_edge.specs.Sink.{PrintedPart}
use Rattle.xd_journal.specs.declared.settings.Settings.{Settings}
use Rattle.xd_journal.specs.declared.journal.Journal.{Journal}
use Rattle.xd_journal.specs.declared.news.News.{News}
use Rattle.xd_run.specs.Ending.{ending, may_close, stop_of}
use Rattle.xd_run.specs.Legal.{IsLegal}
use Rattle.xd_run_laws.specs.Whole.{NamesEach}
use Rattle.xd_report.specs.Printing.{ShowsEnd}
use Rattle.xd_report.specs.Text.{text_of}
use Rattle.xd_session.specs.Bounded.{IsBounded}
use Rattle.xd_session.specs.Ends.{is_out_fault, last_stop}
use Rattle.xd_drive.specs.Failing.{FailedAt}
use Rattle.xd_drive.specs.ItemIds.{NamesItems}
use Rattle.xd_drive.specs.Moments.{LinesFirst, LinesFirstOf}
use Rattle.xd_drive.specs.Performing.{kills_of_started}
use Rattle.xd_drive.specs.Seen.{HubScene, HubTells, TurnScene}
use Rattle.xd_drive.specs.Taken.{AreInTime, run_given, taken_of}

-- The journal of the news that were given, with its end: where the output failed that is the stop, else the first stop of
-- the run, or that all was done. None of these news was asked for where the run was over.
pub record Ended (failed : Bool) (given : List News) (j : Journal) : Type 0 where
  pub entries : j.entries.items ≡ (run_given j.settings given).entries ++ ending failed (run_given j.settings given).state.books
  pub may_end : may_close failed (run_given j.settings given).state.books ≡ true
  pub stop : stop_of j ≡ last_stop failed (run_given j.settings given).state.books
  pub in_time : AreInTime j.settings given

-- The run is over: what the journal asks for was performed, after its lines, and its whole report was printed.
pub record Whole (given : List News) (j : Journal) (old new : HubScene) (moments : List TurnScene) : Type 0 where
  pub ended : Ended false given j
  pub tells : HubTells j.entries.items given old.seen new.seen
  pub lines_first : LinesFirst j.settings given old moments
  pub shows : ShowsEnd true (text_of j) old.sunk new.sunk

-- The output failed: `count` entries were performed, each after its lines, and of the others the kills of the workers
-- that these had started; of the report a first part was taken.
-- Example: the flush after a death's lines fails: its Start is not called for, and so no Kill of that worker.
pub record Broken (count : ℕ) (given : List News) (j : Journal) (old new : HubScene) (moments : List TurnScene) : Type 0 where
  pub ended : Ended true given j
  pub tells : HubTells (take count j.entries.items ++ kills_of_started (take count j.entries.items) (drop count j.entries.items)) given old.seen new.seen
  pub lines_first : LinesFirstOf (take count j.entries.items) j.settings given old moments
  pub failed : FailedAt j.settings (taken_of j.settings given) count j.entries.items old.sunk new.sunk
  pub shows : PrintedPart (text_of j) old.sunk new.sunk

-- The journal of a run with these settings: it is legal and keeps no more output than it may, its reports name each test that
-- was collected at most once and nothing else, and each once where the run was completed, and the line of each report and the
-- block of each failed one give the id of its test.
pub record IsJournalOf (run : Settings) (j : Journal) : Type 0 where
  pub settings : j.settings ≡ run
  pub legal : IsLegal j
  pub kept : IsBounded j.entries.items
  pub each : NamesEach j
  pub ids : NamesItems j

-- What a session came to that was driven to its end, by what was seen of the hub and the output before and after it, and at
-- the moments between: its journal, by whether the output failed.
pub record Drove (run : Settings) (j : Journal) (old new : HubScene) (moments : List TurnScene) : Type 0 where
  pub journal : IsJournalOf run j
  pub whole : is_out_fault (stop_of j) ≡ false → (given : List News) × Whole given j old new moments
  pub broken : is_out_fault (stop_of j) ≡ true → (count : ℕ) × (given : List News) × Broken count given j old new moments
