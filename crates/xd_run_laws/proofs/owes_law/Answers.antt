use Rattle.xd_run_laws.proofs.OwingRuns.{owed}
use Rattle.xd_run_laws.proofs.owes_law.Goals as goal

pub returns : goal.returns
returns c = owed
