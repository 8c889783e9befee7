-- How the printed text speaks of the reports of a run: each has one line, with the id of its test, each failed one has a
-- block, and each is counted once.
use Rattle.std.specs.Prelude.{ℕ, ◌≡◌, ◌+◌, Bool, true, false, List, [], ◌∷◌, ◌++◌, length, map, filter, slice_index_or, Option, Some, None, codes}
use Rattle.xd_edge.specs.declared.mode.ModeKind.{ModeKind}
use Rattle.xd_journal.specs.declared.entry.Cause.{Cause}
use Rattle.xd_journal.specs.declared.entry.Entry.{Entry}
use Rattle.xd_journal.specs.declared.entry.Entry.TheVariants.{Done, Down}
use Rattle.xd_journal.specs.declared.entry.Outcome.TheVariants.{Passed, Skipped, Failed}
use Rattle.xd_journal.specs.declared.settings.Settings.{Settings}
use Rattle.xd_journal.specs.declared.journal.Journal.{Journal}
use Rattle.xd_run.specs.Reports.{Report, Result, Crash, collected_ids, item_of, reports_in}
use Rattle.xd_run.specs.Retry.{is_retry}
use Rattle.xd_run.specs.Sharing.{State}
use Rattle.xd_run.specs.State.{after_entry, no_one, reached}
use Rattle.xd_run.specs.Table.{crash_item, held, retried_item}
use Rattle.xd_report.specs.declared.counts.Counts.{Counts}
use Rattle.xd_report.specs.Blocks.{block, blocks_from, crash_reason, reason_of}
use Rattle.xd_report.specs.Lines.{tests_line, result_line, lost_line, down_line, replacing, run_lines}
use Rattle.xd_report_phrases.specs.Names.{cause_text}

-- what a line tells: how many tests there are on how many workers, how a test went, that a worker went down and of which
-- cause (none where it was not started), which test it went down at that is tried again, or whom a new worker replaces
pub data Line : Type 0 where
  Tests : (tests : ℕ) → (workers : ℕ) → Line
  Of : (report : Report) → (id : List ℕ) → Line
  NodeDown : (worker : ℕ) → (why : Option Cause) → Line
  Retried : (worker : ℕ) → (item : ℕ) → (id : List ℕ) → Line
  Replaces : (old : ℕ) → Line

-- the words for why a worker went down
abbrev pub why_text : Option Cause → List ℕ
why_text (Some cause) = cause_text cause
why_text None = codes "not started"

-- the text of a line in the report, with its newline
abbrev pub text_of_line : ModeKind → Line → List ℕ
text_of_line mode (Tests tests workers) = tests_line mode tests workers
text_of_line mode (Of (Result worker item outcome) id) = result_line mode worker outcome id
text_of_line mode (Of (Crash worker item) id) = lost_line false mode worker id
text_of_line mode (NodeDown worker why) = down_line mode worker (why_text why)
text_of_line mode (Retried worker item id) = lost_line true mode worker id
text_of_line mode (Replaces old) = replacing mode (Some old)

-- the text of these lines, one after another
abbrev pub text_of_lines : ModeKind → List Line → List ℕ
text_of_lines mode [] = []
text_of_lines mode (l ∷ ls) = text_of_line mode l ++ text_of_lines mode ls

-- the reports that these lines are of; a test that is tried again has none by that
abbrev pub reports_told : List Line → List Report
reports_told [] = []
reports_told (Of report id ∷ ls) = report ∷ reports_told ls
reports_told (Tests tests workers ∷ ls) = reports_told ls
reports_told (NodeDown worker why ∷ ls) = reports_told ls
reports_told (Retried worker item id ∷ ls) = reports_told ls
reports_told (Replaces old ∷ ls) = reports_told ls

-- The text is a list of lines, and each of these reports has one of them, in order.
-- Example: of the lines `[gw0] node down: ..` and `[gw0] CRASHED a` the second is the crash's; `[gw0] RETRY a` is nobody's.
pub record HasLineEach (mode : ModeKind) (text : List ℕ) (rs : List Report) : Type 0 where
  pub lines : List Line
  pub text_is : text ≡ text_of_lines mode lines
  pub each_once : reports_told lines ≡ rs

-- the items that are tried again by one entry after a state
abbrev pub retried_of : State → Entry → List ℕ
retried_of s (Down worker cause output) = retried_item (is_retry worker s.books) (held worker s.books.table)
retried_of s _ = []

-- the items that are tried again by these entries after a state, in order
abbrev pub retried_from : State → List Entry → List ℕ
retried_from s [] = []
retried_from s (e ∷ es) = retried_of (reached s e) e ++ retried_from (after_entry s e) es

-- the items that are tried again by the entries of a run, in order
abbrev pub retried : Settings → List Entry → List ℕ
retried settings entries = retried_from (no_one settings) entries

-- each line that is of a report gives the id that its test has by these names, and that of a test which is tried again the
-- id that a crash of it would have
abbrev pub Names : (Report → List ℕ) → List Line → Type 0
Names name [] = Unit
Names name (Of report id ∷ ls) = (id ≡ name report) × Names name ls
Names name (Tests tests workers ∷ ls) = Names name ls
Names name (NodeDown worker why ∷ ls) = Names name ls
Names name (Retried worker item id ∷ ls) = (id ≡ name (Crash worker item)) × Names name ls
Names name (Replaces old ∷ ls) = Names name ls

-- The same, and the line of each report, and of each test that is tried again, gives the id of its test.
-- Example: a crash of item 1 among the ids `a` and `b` has the line `[gw0] CRASHED b`.
pub record HasNamedLineEach (name : Report → List ℕ) (mode : ModeKind) (text : List ℕ) (rs : List Report) : Type 0 where
  pub each : HasLineEach mode text rs
  pub names : Names name each.lines

-- the id that the test of a report has in a collection
abbrev pub id_in : List (List ℕ) → Report → List ℕ
id_in ids report = slice_index_or ids (item_of report) []

-- a test that passed
abbrev pub is_passed : Report → Bool
is_passed (Result worker item Passed) = true
is_passed (Result worker item Skipped) = false
is_passed (Result worker item (Failed code)) = false
is_passed (Crash worker item) = false

-- a test that was skipped
abbrev pub is_skipped : Report → Bool
is_skipped (Result worker item Passed) = false
is_skipped (Result worker item Skipped) = true
is_skipped (Result worker item (Failed code)) = false
is_skipped (Crash worker item) = false

-- a test that failed, or that was at the head of a worker that went down
abbrev pub is_failure : Report → Bool
is_failure (Result worker item Passed) = false
is_failure (Result worker item Skipped) = false
is_failure (Result worker item (Failed code)) = true
is_failure (Crash worker item) = true

-- the block of a failed report, and what was kept of its output
pub record Block : Type 0 where
  pub report : Report
  pub id : List ℕ
  pub output : List ℕ

-- the block of a failed report, with the id of its test and what was kept of its output; nothing of another report
abbrev pub text_of_report : ModeKind → Report → List ℕ → List ℕ → List ℕ
text_of_report mode (Result worker item (Failed code)) id output = block mode worker id (reason_of code) output
text_of_report mode (Crash worker item) id output = block mode worker id (crash_reason mode worker id) output
text_of_report mode (Result worker item Passed) id output = []
text_of_report mode (Result worker item Skipped) id output = []

-- the text of these blocks, one after another
abbrev pub text_of_blocks : ModeKind → List Block → List ℕ
text_of_blocks mode [] = []
text_of_blocks mode (b ∷ bs) = text_of_report mode b.report b.id b.output ++ text_of_blocks mode bs

-- what an entry that is a failed report keeps of its test's output
abbrev pub outputs_of : State → Entry → List (List ℕ)
outputs_of s (Done worker index (Failed code) ms output) = output ∷ []
outputs_of s (Down worker cause output) = map (λ _. output) (crash_item (is_retry worker s.books) (held worker s.books.table))
outputs_of s _ = []

-- what the failed reports of these entries after a state keep of their outputs, in order
abbrev pub outputs_from : State → List Entry → List (List ℕ)
outputs_from s [] = []
outputs_from s (e ∷ es) = outputs_of (reached s e) e ++ outputs_from (after_entry s e) es

-- the outputs that the failed reports of a run keep, in order
abbrev pub kept_outputs : Settings → List Entry → List (List ℕ)
kept_outputs settings entries = outputs_from (no_one settings) entries

-- The text is a list of blocks, one for each failed report among these, in order, each with its output.
-- Example: of a passed test and a crash the crash has a block.
pub record HasBlockEach (mode : ModeKind) (text : List ℕ) (rs : List Report) (outputs : List (List ℕ)) : Type 0 where
  pub blocks : List Block
  pub text_is : text ≡ text_of_blocks mode blocks
  pub each_once : map (λ b. b.report) blocks ≡ filter is_failure rs
  pub outputs_are : map (λ b. b.output) blocks ≡ outputs

-- each block gives the id that its test has by these names
abbrev pub NamesBlocks : (Report → List ℕ) → List Block → Type 0
NamesBlocks name [] = Unit
NamesBlocks name (b ∷ bs) = (b.id ≡ name b.report) × NamesBlocks name bs

-- The same, and each block gives the id of its test.
pub record HasNamedBlockEach (name : Report → List ℕ) (mode : ModeKind) (text : List ℕ) (rs : List Report) (outputs : List (List ℕ)) : Type 0 where
  pub each : HasBlockEach mode text rs outputs
  pub names : NamesBlocks name each.blocks

-- In the text of this journal the line of each report and of each test that is tried again, and the block of each failed
-- report, gives the id of its test among those that were collected.
pub record NamesTests (j : Journal) : Type 0 where
  pub lines : HasNamedLineEach (id_in (collected_ids j)) j.settings.mode (run_lines j.settings j.entries.items) (reports_in j)
  pub blocks : HasNamedBlockEach (id_in (collected_ids j)) j.settings.mode (blocks_from (no_one j.settings) j.entries.items) (reports_in j) (kept_outputs j.settings j.entries.items)

-- The counts are how many of these reports are of each kind, and each report is of one.
-- Example: of a crash and two passed tests they are 1 failed and 2 passed.
pub record CountsReports (n : Counts) (rs : List Report) : Type 0 where
  pub failed : n.failed ≡ length (filter is_failure rs)
  pub passed : n.passed ≡ length (filter is_passed rs)
  pub skipped : n.skipped ≡ length (filter is_skipped rs)
  pub all : n.failed + n.passed + n.skipped ≡ length rs
