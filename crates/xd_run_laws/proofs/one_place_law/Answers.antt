use Rattle.xd_run_laws.proofs.Laws.{in_one_place}
use Rattle.xd_run_laws.proofs.one_place_law.Goals as goal

pub returns : goal.returns
returns c = in_one_place
