use Rattle.xd_run.specs.State.{no_one}
use Rattle.xd_report.proofs.EachReport.{all_lines}
use Rattle.xd_report.proofs.laws.line_law.Goals as goal

pub returns : goal.returns
returns c = λ settings entries. all_lines (no_one settings) entries
