use Rattle.xd_worker_tests.proofs.Within.{all_known}
use Rattle.xd_worker_tests.proofs.laws.a_test_is_of_the_suite.Goals as goal

pub returns : goal.returns
returns c = all_known
