use Rattle.xd_worker.proofs.Known.{all_known_tests}
use Rattle.xd_worker.proofs.laws.a_test_is_of_the_suite.Goals as goal

pub returns : goal.returns
returns c = all_known_tests
