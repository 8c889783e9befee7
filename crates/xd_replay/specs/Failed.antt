-- Which tests of a journal failed, by its report: those of the lines FAILED and CRASHED. pytest's --lf runs these again.
use Rattle.std.specs.Prelude.{ℕ, ◌≡◌, not, List, [], ◌∷◌, filter, Option, Some, None, if◌then◌else◌}
use Rattle.std.specs.Str.{bytes_eq}
use Rattle.xd_edge.specs.declared.mode.ModeKind.{ModeKind}
use Rattle.xd_journal.specs.declared.entry.Entry.{Entry}
use Rattle.xd_journal.specs.declared.journal.Journal.{Journal}
use Rattle.xd_journal.specs.declared.settings.Settings.{Settings}
use Rattle.xd_run.specs.Reports.{Report, reports_in}
use Rattle.xd_run.specs.Sharing.{State}
use Rattle.xd_run.specs.State.{after_entry, no_one, reached}
use Rattle.xd_report.specs.Blocks.{failed_id}
use Rattle.xd_report.specs.EachReport.{HasLineEach, Line, NodeDown, Of, Replaces, Retried, Tests, is_failure}
use Rattle.xd_report.specs.Lines.{run_lines}

-- the id before others, where there is one
abbrev pub with_id : Option (List ℕ) → List (List ℕ) → List (List ℕ)
with_id None ids = ids
with_id (Some id) ids = id ∷ ids

-- the ids of the failed reports among these entries after a state, in order
abbrev pub failed_from : State → List Entry → List (List ℕ)
failed_from s [] = []
failed_from s (e ∷ es) = with_id (failed_id (reached s e) e) (failed_from (after_entry s e) es)

-- each of these texts once, where it stands first
-- Example: of b, a, b these are b, a.
abbrev pub each_once : List (List ℕ) → List (List ℕ)
each_once [] = []
each_once (x ∷ xs) = x ∷ filter (λ y. not (bytes_eq x y)) (each_once xs)

-- the ids of the failed reports of a run, each once, in the order of these reports
-- Example: in mode each a test that failed in two slots stands once; one that crashed and passed when it was tried again
-- does not stand there.
abbrev pub failed_in : Settings → List Entry → List (List ℕ)
failed_in settings entries = each_once (failed_from (no_one settings) entries)

-- the ids of the tests of a journal that failed, or at whose worker's death they were not tried again
abbrev pub failed_ids : Journal → List (List ℕ)
failed_ids j = failed_in j.settings j.entries.items

-- the ids in those of these lines that are of failed reports
abbrev pub failed_told : List Line → List (List ℕ)
failed_told [] = []
failed_told (Of report id ∷ ls) = if is_failure report then (id ∷ failed_told ls) else failed_told ls
failed_told (Tests tests workers ∷ ls) = failed_told ls
failed_told (NodeDown worker why ∷ ls) = failed_told ls
failed_told (Retried worker item id ∷ ls) = failed_told ls
failed_told (Replaces old ∷ ls) = failed_told ls

-- The text has a line for each of these reports, and those of failed ones give these ids, in order.
-- Example: `[gw0] RETRY a` and `[gw2] FAILED a` give a once.
pub record GivesFailed (mode : ModeKind) (text : List ℕ) (rs : List Report) (ids : List (List ℕ)) : Type 0 where
  pub lines : HasLineEach mode text rs
  pub ids_are : failed_told lines.lines ≡ ids

-- These ids are those that the lines of failed reports give in the report of a journal, each once.
pub record AreFailedLines (j : Journal) (ids : List (List ℕ)) : Type 0 where
  pub all : List (List ℕ)
  pub given : GivesFailed j.settings.mode (run_lines j.settings j.entries.items) (reports_in j) all
  pub once : ids ≡ each_once all
