use Rattle.xd_run_laws.proofs.Laws.{last_decides}
use Rattle.xd_run_laws.proofs.place_law.Goals as goal

pub returns : goal.returns
returns c = last_decides
