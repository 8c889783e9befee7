use Rattle.xd_run_laws.proofs.Laws.{was_shared}
use Rattle.xd_run_laws.proofs.shared_law.Goals as goal

pub returns : goal.returns
returns c = was_shared
