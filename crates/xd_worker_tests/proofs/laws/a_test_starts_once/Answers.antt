use Rattle.xd_worker_tests.proofs.Starts.{starts_once}
use Rattle.xd_worker_tests.proofs.laws.a_test_starts_once.Goals as goal

pub returns : goal.returns
returns c = starts_once
