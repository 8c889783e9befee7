use Rattle.std.proofs.Common.{refl}
use Rattle.xd_tests_ends.proofs.both_ends.begin.Goals as goal

pub new-requires-2-clause-fresh : goal.new-requires-2-clause-fresh
new-requires-2-clause-fresh c = c.new.ensures _ refl refl
