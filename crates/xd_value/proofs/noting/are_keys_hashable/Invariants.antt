use Rattle.std.proofs.Common.{◌≡◌, drop}
use Rattle.xd_value.specs.Canonical.{keys_hashable}
use Rattle.xd_value.specs.View.{pair_views}
use Rattle.xd_value.proofs.noting.are_keys_hashable.Given as goal

abbrev pub invariant-loop-pair : goal.invariant-loop-pair
invariant-loop-pair l = keys_hashable (pair_views l.pairs) ≡ keys_hashable (pair_views (drop l.pair-index l.pairs))
