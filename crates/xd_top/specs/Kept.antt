-- What becomes of a run whose journal was kept in a file, and is printed again.
use Rattle.std.specs.Prelude.{ℕ, ◌≡◌, ◌≤◌, List, length, Option, Some, None, IsSomeAnd}
use Rattle.xd_edge.specs.Faults.{StoodStill}
use Rattle.xd_edge.specs.Files.{Held}
use Rattle.xd_journal.specs.declared.journal.Journal.{Journal}
use Rattle.xd_journal_file.specs.FileOf.{IsTooLongAt}
use Rattle.xd_top.specs.Outside.{Outside}
use Rattle.xd_top.specs.Replay.{most_journal_bytes}
use Rattle.xd_top.specs.Top.{Did, End}
use Rattle.xd_words.specs.declared.plan.Plan.{Plan}
use Rattle.xd_words.specs.declared.plan.Plan.TheVariants.{Linked, Local, Replay}
use Rattle.xd_words.specs.Words.{Fits}

-- the file that the journal of a run is to be kept in
abbrev pub journal_file : Plan → Option (List ℕ)
journal_file (Local suite maxfail keeps) = keeps.journal
journal_file (Linked suite settings places keeps) = keeps.journal
journal_file _ = None

-- A run with this journal came to its end, which was to be kept in the file of this name: no entry is too long for it, and
-- the count of faults of the files did not rise.
pub record KeepsRun (path : List ℕ) (j : Journal) (plan : Plan) (end : End) (old new : Outside) : Type 0 where
  pub fits : Fits plan
  pub did : Did plan end old new
  pub named : journal_file plan ≡ Some path
  pub journal : end.journal ≡ Some j
  pub short : (place : ℕ) → IsTooLongAt place j.entries.items → ⊥
  pub calm : StoodStill old.streams.files.faults new.streams.files.faults

-- Of the file of this name the same bytes are told now as then, and they are few enough to be read.
pub record GivesBack (path : List ℕ) (then now : Option Held) : Type 0 where
  pub bytes : List ℕ
  pub told_then : IsSomeAnd then (λ file. file path ≡ Some bytes)
  pub told_now : IsSomeAnd now (λ file. file path ≡ Some bytes)
  pub small : length bytes ≤ most_journal_bytes

-- The file of this name was printed again, and no count of faults of the files and of the output rose.
pub record ReplaysCalmly (path : List ℕ) (end : End) (old new : Outside) : Type 0 where
  pub did : Did (Replay path) end old new
  pub files : StoodStill old.streams.files.faults new.streams.files.faults
  pub out : StoodStill old.streams.out.faults new.streams.out.faults
