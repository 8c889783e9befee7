use Rattle.std.proofs.Common.{refl}
use Rattle.xd_worker_tests.proofs.laws.two_steals.Goals as goal

pub returns : goal.returns
returns c = record { asks = refl; runs = refl }
