-- The last line: how many reports there are of each kind. The words are pytest's.
use Rattle.std.specs.Prelude.{ℕ, ◌+◌, ◌==◌, List, [], ◌∷◌, ◌++◌, length, codes, if◌then◌else◌}
use Rattle.std.specs.Fmt.{decimal}
use Rattle.xd_journal.specs.declared.settings.Settings.{Settings}
use Rattle.xd_journal.specs.declared.entry.Entry.{Entry}
use Rattle.xd_journal.specs.declared.entry.Entry.TheVariants.{Done}
use Rattle.xd_journal.specs.declared.entry.Outcome.TheVariants.{Passed, Skipped}
use Rattle.xd_run.specs.Sharing.{State}
use Rattle.xd_run.specs.State.{reached, after_entry, no_one}
use Rattle.xd_report.specs.declared.counts.Counts.{Counts}
use Rattle.xd_report.specs.Blocks.{is_failed_report}

-- the counts with one entry more; a crash is a failure
abbrev pub counted : State → Entry → Counts → Counts
counted s (Done worker index Passed ms output) n = record n { passed = n.passed + 1 }
counted s (Done worker index Skipped ms output) n = record n { skipped = n.skipped + 1 }
counted s e n = record n { failed = n.failed + (if is_failed_report s e then 1 else 0) }

-- the counts with these entries more, which come after a state
abbrev pub counted_from : State → List Entry → Counts → Counts
counted_from s [] n = n
counted_from s (e ∷ es) n = counted_from (after_entry s e) es (counted (reached s e) e n)

-- the counts of a journal
abbrev pub counts : Settings → List Entry → Counts
counts settings entries = counted_from (no_one settings) entries (record { failed = 0; passed = 0; skipped = 0 })

-- a count and its word after the earlier ones, where it is not 0
abbrev pub with_count : List ℕ → ℕ → List ℕ → List ℕ
with_count text n word = if n == 0 then text else ((if length text == 0 then [] else text ++ codes ", ") ++ decimal n ++ word)

-- the counts that are not 0, each with its word
abbrev pub counts_text : Counts → List ℕ
counts_text n = with_count (with_count (with_count [] n.failed (codes " failed")) n.passed (codes " passed")) n.skipped (codes " skipped")

-- the words of the last line: the counts, or that no test ran
-- Example: a failed test, a crash and three passed ones are `2 failed, 3 passed`.
abbrev pub summary_text : Counts → List ℕ
summary_text n = if length (counts_text n) == 0 then codes "no tests ran" else counts_text n
