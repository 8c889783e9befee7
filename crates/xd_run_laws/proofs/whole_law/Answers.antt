use Rattle.xd_run_laws.proofs.Whole.{names-whole}
use Rattle.xd_run_laws.proofs.whole_law.Goals as goal

pub returns : goal.returns
returns c = names-whole
