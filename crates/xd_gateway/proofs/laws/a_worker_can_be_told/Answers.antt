use Rattle.xd_gateway.proofs.Telling.{can_be_told}
use Rattle.xd_gateway.proofs.laws.a_worker_can_be_told.Goals as goal

pub returns : goal.returns
returns g c = can_be_told
