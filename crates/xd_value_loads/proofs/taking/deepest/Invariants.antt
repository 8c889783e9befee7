use Rattle.std.proofs.Common.{◌≡◌, drop, max}
use Rattle.xd_value_loads.specs.inner.Seats.{deepest}
use Rattle.xd_value_loads.proofs.taking.deepest.Given as goal

abbrev pub invariant-loop-mark : goal.invariant-loop-mark
invariant-loop-mark l = deepest l.marks ≡ max l.deepest (deepest (drop l.mark-index l.marks))
