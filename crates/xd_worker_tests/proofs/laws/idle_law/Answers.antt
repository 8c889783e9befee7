use Rattle.xd_worker_tests.proofs.Idle.{waits_after}
use Rattle.xd_worker_tests.proofs.laws.idle_law.Goals as goal

pub returns : goal.returns
returns c = waits_after
