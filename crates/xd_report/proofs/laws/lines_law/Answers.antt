use Rattle.xd_run.specs.State.{no_one}
use Rattle.xd_report.proofs.Texts.{lines-more}
use Rattle.xd_report.proofs.laws.lines_law.Goals as goal

pub returns : goal.returns
returns c = λ settings entries more. lines-more (no_one settings) entries more
