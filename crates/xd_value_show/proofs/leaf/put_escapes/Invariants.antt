use Rattle.std.proofs.Common.{◌≡◌, ◌++◌}
use Rattle.xd_value_show.specs.Show.{escapes}
use Rattle.xd_value_show.proofs.leaf.put_escapes.Given as goal

abbrev pub invariant-loop-c : goal.invariant-loop-c
invariant-loop-c l = l.out ≡ l.fn.out ++ escapes l.yielded
