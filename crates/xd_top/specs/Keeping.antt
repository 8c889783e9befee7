-- What is kept of a run, after its report was printed. A choice of this project.
use Rattle.std.specs.Prelude.{ℕ, ◌≡◌, ◌≢◌, List, [], ◌∷◌, ◌++◌, Option, Some, None, is_some, codes}
use Rattle.xd_edge.specs.Faults.{Rose}
use Rattle.xd_edge.specs.Files.{HasFile, SameFile}
use Rattle.xd_journal.specs.declared.journal.Journal.{Journal}
use Rattle.xd_journal_file.specs.FileOf.{IsFileOf, IsTooLongAt}
use Rattle.xd_words.specs.declared.keeps.Keeps.{Keeps}
use Rattle.xd_top.specs.declared.keeping.Kept.{Kept}
use Rattle.xd_top.specs.declared.keeping.Kept.TheVariants.{Written, TooLong, NotWritten}
use Rattle.xd_top.specs.Outside.{Files, Streams}
use Rattle.xd_top.specs.Said.{SaysLine}

-- the line on standard error that says how the keeping of a journal went; of one that was written there is none
abbrev pub kept_line : Kept → List ℕ
kept_line Written = []
kept_line TooLong = codes "xdrun: journal is too large" ++ 10 ∷ []
kept_line NotWritten = codes "xdrun: journal cannot be written" ++ 10 ∷ []

-- the exit status, by that of the run: 3 where its journal was not written
-- Example: a run whose tests pass has status 3 where the disk is full.
abbrev pub kept_status : Kept → ℕ → ℕ
kept_status Written own = own
kept_status TooLong own = 3
kept_status NotWritten own = 3

-- The file of this name was replaced by the file of this journal.
pub record WritesJournal (path : List ℕ) (j : Journal) (old new : Files) : Type 0 where
  pub bytes : List ℕ
  pub is : IsFileOf j bytes
  pub wrote : HasFile new.held path bytes
  pub still : new.faults ≡ old.faults

-- An entry of the journal is too long for a file, and no file was touched.
pub record LeavesFiles (j : Journal) (old new : Files) : Type 0 where
  pub place : ℕ
  pub long : IsTooLongAt place j.entries.items
  pub same : new ≡ old

-- what became of the files, by how it went
abbrev pub FilesKept : Kept → List ℕ → Journal → Files → Files → Type 0
FilesKept Written path j old new = WritesJournal path j old new
FilesKept TooLong path j old new = LeavesFiles j old new
FilesKept NotWritten path j old new = Rose old.faults new.faults

-- The journal of a run with this status was kept in the file of this name, or it was not, and the line says why. The report
-- stands as it was printed, and no other file changed.
pub record KeepsJournal (path : List ℕ) (j : Journal) (own status : ℕ) (old new : Streams) : Type 0 where
  pub how : Kept
  pub files : FilesKept how path j old.files new.files
  pub others : (name : List ℕ) → name ≢ path → SameFile name old.files.held new.files.held
  pub tells : is_some new.files.held ≡ is_some old.files.held
  pub status_is : status ≡ kept_status how own
  pub no_output : new.out ≡ old.out
  pub quiet : how ≡ Written → new.err ≡ old.err
  pub says : how ≢ Written → SaysLine (kept_line how) old.err new.err

-- Nothing was kept.
pub record KeepsNone (own status : ℕ) (old new : Streams) : Type 0 where
  pub status_is : status ≡ own
  pub same : new ≡ old

-- What became of the journal that a run has, by the file that is named for it. A suite that is refused has no journal, and the
-- file stays as it was.
abbrev pub KeepsIn : Option (List ℕ) → Option Journal → ℕ → ℕ → Streams → Streams → Type 0
KeepsIn (Some path) (Some j) own status old new = KeepsJournal path j own status old new
KeepsIn (Some path) None own status old new = KeepsNone own status old new
KeepsIn None j own status old new = KeepsNone own status old new

-- A run, and what was kept of it: `ran` says what the run came to, by its own status and the streams after it.
-- Example: nothing is to be kept: the streams and the status are those after the run.
pub record KeepsAround (keeps : Keeps) (ran : ℕ → Streams → Type 0) (journal : Option Journal) (status : ℕ) (new : Streams) : Type 0 where
  pub own : ℕ
  pub after : Streams
  pub run : ran own after
  pub kept : KeepsIn keeps.journal journal own status after new
