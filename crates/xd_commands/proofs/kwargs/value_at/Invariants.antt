use Rattle.std.proofs.Common.{◌≡◌, drop}
use Rattle.xd_value.specs.View.{pair_views}
use Rattle.xd_commands.specs.Kwargs.{value_at}
use Rattle.xd_commands.proofs.kwargs.value_at.Given as goal

abbrev pub invariant-loop-item : goal.invariant-loop-item
invariant-loop-item l = value_at l.key (pair_views l.kwargs) ≡ value_at l.key (pair_views (drop l.item-index l.kwargs))
