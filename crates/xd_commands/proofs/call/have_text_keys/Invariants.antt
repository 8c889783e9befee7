use Rattle.std.proofs.Common.{◌≡◌, drop}
use Rattle.xd_value.specs.View.{pair_views}
use Rattle.xd_commands.specs.Calls.{has_text_keys}
use Rattle.xd_commands.proofs.call.have_text_keys.Given as goal

abbrev pub invariant-loop-item : goal.invariant-loop-item
invariant-loop-item l = has_text_keys (pair_views l.kwargs) ≡ has_text_keys (pair_views (drop l.item-index l.kwargs))
