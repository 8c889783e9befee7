use Rattle.std.proofs.Common.{Some, ap}
use Rattle.std.specs.Str.{chars}
use Rattle.xd_worker_tests.proofs.run_tests.RunTests.ending.Goals as goal

pub returns-in_ok-of-in-BadCommand : goal.returns-in_ok-of-in-BadCommand
unfolding chars
returns-in_ok-of-in-BadCommand c = rw c.in-BadCommand.is (ap Some c.in_ok-of-in-BadCommand.ensures)
