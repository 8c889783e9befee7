use Rattle.xd_run_laws.proofs.Laws.{no_early}
use Rattle.xd_run_laws.proofs.early_law.Goals as goal

pub returns : goal.returns
returns c = no_early
