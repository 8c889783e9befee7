use Rattle.xd_run_laws.proofs.Laws.{orderly}
use Rattle.xd_run_laws.proofs.order_law.Goals as goal

pub returns : goal.returns
returns c = orderly
