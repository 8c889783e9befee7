use Rattle.xd_worker_tests.proofs.Logs.{one_log}
use Rattle.xd_worker_tests.proofs.laws.one_log_is_open.Goals as goal

pub returns : goal.returns
returns c = one_log
