-- All that is printed of a run.
use Rattle.std.specs.Prelude.{ℕ, List, [], ◌∷◌, ◌++◌}
use Rattle.xd_journal.specs.declared.entry.Entry.{Entry}
use Rattle.xd_journal.specs.declared.journal.Journal.{Journal}
use Rattle.xd_journal.specs.declared.settings.Settings.{Settings}
use Rattle.xd_run.specs.State.{no_one, state_at}
use Rattle.xd_report.specs.Blocks.{blocks_from}
use Rattle.xd_report.specs.Lines.{run_lines}
use Rattle.xd_report_phrases.specs.StopLine.{line_of_stop}
use Rattle.xd_report.specs.Summary.{counts, summary_text}

-- the blocks of the failed reports in journal order, the line of the stop that the entries decide, which a failing
-- output does not change, and the summary
abbrev pub run_tail : Settings → List Entry → List ℕ
run_tail settings es =
    blocks_from (no_one settings) es ++ (line_of_stop settings.mode es (state_at settings es).books.stop ++ (summary_text (counts settings es) ++ 10 ∷ []))

-- the lines of the entries, and the tail
abbrev pub run_text : Settings → List Entry → List ℕ
run_text settings es = run_lines settings es ++ run_tail settings es

-- what is printed of a journal after the lines of its entries
abbrev pub tail_text : Journal → List ℕ
tail_text j = run_tail j.settings j.entries.items

-- all that is printed of a journal
-- Example: of a run without a test `0 tests` and `no tests ran`.
abbrev pub text_of : Journal → List ℕ
text_of j = run_text j.settings j.entries.items
