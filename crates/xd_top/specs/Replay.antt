-- What the command replay does: it prints the report of a journal file again. A choice of this project.
use Rattle.std.specs.Prelude.{ℕ, ◌≡◌, ◌≢◌, ◌≤◌, Bool, true, false, List, [], ◌∷◌, ◌++◌, length, Option, Some, IsSomeAnd, codes, if◌then◌else◌}
use Rattle.std.specs.Fmt.{decimal}
use Rattle.xd_edge.specs.Faults.{Counted, Rose, StoodStill}
use Rattle.xd_edge.specs.Files.{Held, HasFile, HasLarger}
use Rattle.xd_edge.specs.Sink.{Sunk, PrintedPart}
use Rattle.xd_journal.specs.declared.journal.Journal.{Journal}
use Rattle.xd_report.specs.Printing.{ShowsEnd}
use Rattle.xd_report.specs.Text.{text_of}
use Rattle.xd_journal_file.specs.FileOf.{IsBadAt, IsFileOf}
use Rattle.xd_replay.specs.Checked.{IsChecked}
use Rattle.xd_replay.specs.Verdict.{IsVerdict}
use Rattle.xd_replay.specs.declared.checking.Verdict.TheVariants.{BadAt}
use Rattle.xd_top.specs.declared.refusal.Refusal.{Refusal}
use Rattle.xd_top.specs.declared.refusal.Refusal.TheVariants.{FileUnread, FileTooLarge}
use Rattle.xd_top.specs.declared.replay.NoJournal.{NoJournal}
use Rattle.xd_top.specs.declared.replay.NoJournal.TheVariants.{Message, Entry}
use Rattle.xd_top.specs.Outside.{Streams}
use Rattle.xd_top.specs.Refusal.{Refuses}
use Rattle.xd_top.specs.Said.{SaysLine}

-- a journal is read from a file of at most that many bytes
abbrev pub most_journal_bytes : ℕ
most_journal_bytes = 268435456

-- The bytes are the file of this journal, which a run can have left.
pub record HasJournal (bytes : List ℕ) (j : Journal) : Type 0 where
  pub file : IsFileOf j bytes
  pub checked : IsChecked j

-- ---- the report

-- The report was printed whole and the output was closed; or a first part of it was printed, where the output failed.
abbrev pub ShowsAgain : Bool → List ℕ → Option Sunk → Option Sunk → Type 0
ShowsAgain true text old new = ShowsEnd true text old new
ShowsAgain false text old new = PrintedPart text old new

-- the exit status, by whether all was printed
abbrev pub replay_status : Bool → ℕ
replay_status shown = if shown then 0 else 3

-- The file of this name has a journal that a run can have left, and the report of that run was printed.
-- Example: the journal of a run that stopped with status 2: its report is printed, and the status is 0.
pub record ReplaysFile (path : List ℕ) (status : ℕ) (old new : Streams) : Type 0 where
  pub bytes : List ℕ
  pub file : HasFile old.files.held path bytes
  pub small : length bytes ≤ most_journal_bytes
  pub journal : Journal
  pub has : HasJournal bytes journal
  pub shown : Bool
  pub shows : ShowsAgain shown (text_of journal) old.out.sunk new.out.sunk
  pub counted : Counted shown old.out.faults new.out.faults
  pub status_is : status ≡ replay_status shown
  pub quiet : new.err ≡ old.err

-- ---- a file without a journal that a run can have left

-- that these bytes have none, and why
abbrev pub IsNoJournal : NoJournal → List ℕ → Type 0
IsNoJournal (Message number) bytes = IsBadAt number bytes
IsNoJournal (Entry place) bytes = (j : Journal) × IsFileOf j bytes × IsVerdict (BadAt place) j

-- the line of bytes that are no file of a journal
unfoldable pub message_line : ℕ → List ℕ
message_line number = codes "xdrun: not a journal, message " ++ (decimal number ++ 10 ∷ [])

-- the line of a journal that no run can have left
unfoldable pub entry_line : ℕ → List ℕ
entry_line place = codes "xdrun: not a legal journal, entry " ++ (decimal place ++ 10 ∷ [])

-- the line that says so
-- Example: of an empty file it is `xdrun: not a journal, message 0`.
abbrev pub no_journal_line : NoJournal → List ℕ
no_journal_line (Message number) = message_line number
no_journal_line (Entry place) = entry_line place

-- The file of this name has none: the line says where it stops being one, and nothing is printed.
pub record TellsNone (path : List ℕ) (old new : Streams) : Type 0 where
  pub bytes : List ℕ
  pub file : HasFile old.files.held path bytes
  pub small : length bytes ≤ most_journal_bytes
  pub why : NoJournal
  pub is : IsNoJournal why bytes
  pub says : SaysLine (no_journal_line why) old.err new.err
  pub no_output : new.out ≡ old.out

-- ---- a file that is not read

-- why the file of a journal is not read; `rose` says that the count of faults of the files rose
abbrev pub WhyJournalUnread : List ℕ → Option Held → Type 0 → Refusal → Type 0
WhyJournalUnread path held rose FileUnread = rose
WhyJournalUnread path held rose FileTooLarge = HasLarger held path most_journal_bytes
WhyJournalUnread path held rose _ = ⊥

-- The file of this name was not read.
pub record RefusesJournal (path : List ℕ) (status : ℕ) (old new : Streams) : Type 0 where
  pub why : Refusal
  pub cause : WhyJournalUnread path old.files.held (Rose old.files.faults new.files.faults) why
  pub refused : Refuses why status old new

-- ---- all of it

-- The files tell bytes of the file of this name that are few enough to be read and have this journal.
pub record TellsJournal (held : Option Held) (path : List ℕ) (j : Journal) : Type 0 where
  pub bytes : List ℕ
  pub told : IsSomeAnd held (λ file. file path ≡ Some bytes)
  pub small : length bytes ≤ most_journal_bytes
  pub has : HasJournal bytes j

-- The report of this journal was printed, and all is well.
pub record PrintsAgain (j : Journal) (status : ℕ) (old new : Option Sunk) : Type 0 where
  pub status_is : status ≡ 0
  pub shows : ShowsEnd true (text_of j) old new

-- What replay came to: the report of the file's journal, a line that says that it has none, which has status 1, or a refusal,
-- which has status 4. The file of a journal that a run can have left is printed to its end where no count of faults rises.
pub record DidReplay (path : List ℕ) (status : ℕ) (old new : Streams) : Type 0 where
  pub printed : status ≢ 1 → status ≢ 4 → ReplaysFile path status old new
  pub none : status ≡ 1 → TellsNone path old new
  pub refused : status ≡ 4 → RefusesJournal path status old new
  pub files_still : status ≢ 4 → new.files.faults ≡ old.files.faults
  pub files_kept : new.files.held ≡ old.files.held
  pub complete : (j : Journal) → TellsJournal old.files.held path j
      → StoodStill old.files.faults new.files.faults → StoodStill old.out.faults new.out.faults
      → PrintsAgain j status old.out.sunk new.out.sunk
