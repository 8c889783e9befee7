use Rattle.xd_run.specs.State.{no_one}
use Rattle.xd_report.proofs.EachReport.{all_blocks}
use Rattle.xd_report.proofs.laws.block_law.Goals as goal

pub returns : goal.returns
returns c = λ settings entries. all_blocks (no_one settings) entries
