-- How far a session was driven.
use Rattle.std.specs.Prelude.{◌≡◌, ◌≤◌, ℕ, ◌||◌, Bool, true, false, List, [], ◌∷◌, ◌++◌, take, drop, length, Option, Some, None, if◌then◌else◌}
use Rattle.xd_edge.specs.Sink.{Sunk, TookPart}
use Rattle.xd_journal.specs.declared.settings.Settings.{Settings}
use Rattle.xd_journal.specs.declared.entry.Entry.{Entry}
use Rattle.xd_journal.specs.declared.journal.Journal.{Journal}
use Rattle.xd_journal.specs.declared.news.News.{News}
use Rattle.xd_run.specs.Ending.{ending}
use Rattle.xd_run.specs.Histories.{is_over}
use Rattle.xd_run.specs.Outputs.{outputs}
use Rattle.xd_run.specs.Sharing.{State}
use Rattle.xd_run.specs.State.{after_entries, no_one}
use Rattle.xd_run.specs.Workers.{is_active}
use Rattle.xd_report.specs.Lines.{lines_from, run_lines}
use Rattle.xd_report.specs.Text.{run_text, tail_text}
use Rattle.xd_session.specs.History.{input_of, run_of}
use Rattle.xd_session.specs.Stands.{SessionSeen, StandsForNews, state_of}
use Rattle.xd_drive.specs.declared.written.Written.{Written}
use Rattle.xd_drive.specs.declared.written.Written.TheVariants.{Whole, Broken}
use Rattle.xd_drive.specs.Agrees.{Agrees}
use Rattle.xd_drive.specs.Failing.{FailedAt}
use Rattle.xd_drive.specs.Marks.{Marks, no_marks}
use Rattle.xd_drive.specs.Moments.{LinesFirst, LinesFirstOf, NotesTurn}
use Rattle.xd_drive.specs.Performing.{marks_after, all_possible, kills_of_started, was_started}
use Rattle.xd_drive.specs.Seen.{GaveNews, HubScene, Performs, HubTells, TurnScene}
use Rattle.xd_edge.specs.Printing.{ShowsSome}
use Rattle.xd_report.specs.Printing.{ShowsEnd, ShowsLines}
use Rattle.xd_drive.specs.Taken.{AreInTime, taken_of, taken_with}

-- All that the news told was printed and performed.
-- Example: the line of a result is printed and flushed, and the Run after it is told to its worker.
pub record Going (given : List News) (s : SessionSeen) (old new : HubScene) (moments : List TurnScene) : Type 0 where
  pub stands : StandsForNews (taken_of s.settings given) s
  pub tells : HubTells s.entries given old.seen new.seen
  pub agrees : Agrees (state_of s).books new.marks
  pub started : (w : ℕ) → (new.marks w).started ≡ was_started w s.entries
  pub in_time : AreInTime s.settings given
  pub lines_first : LinesFirst s.settings given old moments
  pub shows : ShowsSome (run_lines s.settings s.entries) old.sunk new.sunk

-- The output failed: `count` entries were performed, and of what is left, and of the end, the kills of the workers that
-- were started can be asked for.
pub record Stopped (given : List News) (count : ℕ) (s : SessionSeen) (old new : HubScene) (moments : List TurnScene) : Type 0 where
  pub stands : StandsForNews (taken_of s.settings given) s
  pub tells : HubTells (take count s.entries) given old.seen new.seen
  pub lines_first : LinesFirstOf (take count s.entries) s.settings given old moments
  pub started : (w : ℕ) → (new.marks w).started ≡ was_started w (take count s.entries)
  pub within : count ≤ length s.entries
  pub in_time : AreInTime s.settings given
  pub kills : (slots : ℕ) → all_possible slots new.marks (kills_of_started (take count s.entries) (drop count s.entries ++ ending true (state_of s).books)) ≡ true
  pub failed : FailedAt s.settings (taken_of s.settings given) count s.entries old.sunk new.sunk

-- what the input adds to the journal
abbrev pub entries_added : State → Option Entry → List Entry
entries_added s None = []
entries_added s (Some e) = e ∷ outputs s e

-- what a piece of news adds to the journal of the run after these
abbrev pub added_by : Settings → List News → News → List Entry
added_by settings taken n = entries_added (run_of settings taken).state (input_of (run_of settings taken) n)

-- The lines of these entries were printed, a moment noted, and they performed; or of the lines a first part was taken, and
-- nothing performed.
pub record TellsEntries (shown : Bool) (es : List Entry) (lines : List ℕ) (old new : HubScene) (before after : List TurnScene) : Type 0 where
  pub performed : Performs (if shown then es else []) old.seen new.seen
  pub marks : (w : ℕ) → new.marks w ≡ marks_after (if shown then es else []) old.marks w
  pub notes : NotesTurn shown old new before after
  pub shows : ShowsLines shown lines old.sunk new.sunk

-- What one piece of news adds: it was printed, a moment noted, and it was performed.
pub record PerformsNews (n : News) (more : List Entry) (s_old s_new : SessionSeen) (old new : HubScene) (before after : List TurnScene) : Type 0 where
  pub entries : s_new.entries ≡ s_old.entries ++ more
  pub tells : HubTells more (n ∷ []) old.seen new.seen
  pub agrees : Agrees (state_of s_new).books new.marks
  pub started : (w : ℕ) → (new.marks w).started ≡ ((old.marks w).started || was_started w more)
  pub between : TurnScene
  pub notes : after ≡ before ++ between ∷ []
  pub gave : GaveNews n old.seen between.seen
  pub printed : between.sunk ≡ new.sunk
  pub shows : ShowsSome (lines_from (after_entries (no_one s_old.settings) s_old.entries) more) old.sunk new.sunk

-- Of the lines of what one piece of news adds a first part was taken, and nothing of it was performed.
pub record Untold (n : News) (count : ℕ) (more : List Entry) (s_old s_new : SessionSeen) (old new : HubScene) (before after : List TurnScene) : Type 0 where
  pub entries : s_new.entries ≡ s_old.entries ++ more
  pub count_is : count ≡ length s_old.entries
  pub active : is_active n.worker (state_of s_old).books ≡ true
  pub gave : GaveNews n old.seen new.seen
  pub started : (w : ℕ) → (new.marks w).started ≡ (old.marks w).started
  pub kills : (done : List Entry) → ((w : ℕ) → was_started w done ≡ true → (new.marks w).started ≡ true)
      → (slots : ℕ) → all_possible slots new.marks (kills_of_started done (more ++ ending true (state_of s_new).books)) ≡ true
  pub notes : after ≡ before
  pub shows : TookPart (lines_from (after_entries (no_one s_old.settings) s_old.entries) more) old.sunk new.sunk

-- What one piece of news adds was printed and performed, or the output failed at its lines.
abbrev pub TellsNews : News → Written → SessionSeen → SessionSeen → HubScene → HubScene → List TurnScene → List TurnScene → Type 0
TellsNews n Whole s_old s_new old new before after = (more : List Entry) × PerformsNews n more s_old s_new old new before after
TellsNews n (Broken count) s_old s_new old new before after = (more : List Entry) × Untold n count more s_old s_new old new before after

-- One piece of news was given; where its worker is active it was taken.
pub record TakesNews (n : News) (written : Written) (s_old s_new : SessionSeen) (old new : HubScene) (before after : List TurnScene) : Type 0 where
  pub settings : s_new.settings ≡ s_old.settings
  pub stands : (taken : List News) → StandsForNews taken s_old → StandsForNews (taken_with s_old.settings taken n) s_new
  pub told : TellsNews n written s_old s_new old new before after

-- The run is over, and its whole report was printed.
pub record Finished (given : List News) (s : SessionSeen) (old new : HubScene) (moments : List TurnScene) : Type 0 where
  pub stands : StandsForNews (taken_of s.settings given) s
  pub tells : HubTells s.entries given old.seen new.seen
  pub lines_first : LinesFirst s.settings given old moments
  pub over : is_over (state_of s).books ≡ true
  pub in_time : AreInTime s.settings given
  pub shows : ShowsEnd true (run_text s.settings s.entries) old.sunk new.sunk

-- How the run came to its end: it is over, or the output failed with `count` entries performed.
abbrev pub EndsRun : Written → SessionSeen → HubScene → HubScene → List TurnScene → Type 0
EndsRun Whole s old new moments = (given : List News) × Finished given s old new moments
EndsRun (Broken count) s old new moments = (given : List News) × Stopped given count s old new moments

-- The tail of the journal was printed and the output closed; or, where it failed, all entries had been performed.
abbrev pub EndsTail : Written → Journal → Option Sunk → Option Sunk → Type 0
EndsTail Whole j old new = ShowsEnd true (tail_text j) old new
EndsTail (Broken count) j old new = (count ≡ length j.entries.items) × ShowsEnd false (tail_text j) old new

-- No worker has a mark.
abbrev pub HasNoMarks : (ℕ → Marks) → Type 0
HasNoMarks marks = (w : ℕ) → marks w ≡ no_marks
