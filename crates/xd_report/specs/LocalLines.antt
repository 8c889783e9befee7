-- The lines of a run without workers, test by test.
use Rattle.std.specs.Prelude.{ℕ, List, [], ◌∷◌, ◌++◌}
use Rattle.xd_edge.specs.declared.mode.ModeKind.TheVariants.{Local}
use Rattle.xd_journal.specs.Local.{TestResult}
use Rattle.xd_report.specs.Lines.{result_line}

-- a line for each result, with the id that has the same place among these
-- Example: of the ids `a`, `b` and a first result that passed it is `[main] PASSED a`.
abbrev pub test_lines : List (List ℕ) → List TestResult → List ℕ
test_lines [] rs = []
test_lines (id ∷ ids) [] = []
test_lines (id ∷ ids) (r ∷ rs) = result_line Local 0 r.outcome id ++ test_lines ids rs
