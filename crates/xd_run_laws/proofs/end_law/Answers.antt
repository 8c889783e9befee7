use Rattle.xd_run_laws.proofs.Whole.{ends-whole}
use Rattle.xd_run_laws.proofs.end_law.Goals as goal

pub returns : goal.returns
returns c = ends-whole
