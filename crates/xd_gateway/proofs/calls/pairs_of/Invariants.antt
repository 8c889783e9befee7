use Rattle.std.proofs.Common.{◌≡◌}
use Rattle.xd_value.specs.View.{pair_views}
use Rattle.xd_gateway.specs.Calls.{kwargs_of}
use Rattle.xd_gateway.proofs.calls.pairs_of.Given as goal

abbrev pub invariant-loop-item : goal.invariant-loop-item
invariant-loop-item l = pair_views l.pairs.items ≡ kwargs_of l.yielded
