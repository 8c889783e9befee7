use Rattle.std.proofs.Common.{Some, ap}
use Rattle.std.specs.Str.{chars}
use Rattle.xd_worker_tests.proofs.run_tests.RunTests.too_many.Goals as goal

pub returns : goal.returns
unfolding chars
returns c = ap Some c.in_ok-of.ensures
