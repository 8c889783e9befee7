use Rattle.std.proofs.Common.{◌≡◌, drop}
use Rattle.std.specs.List.{list_any}
use Rattle.xd_value_loads.specs.inner.Seats.{is_mark_short}
use Rattle.xd_value_loads.proofs.taking.is_any_short.Given as goal

abbrev pub invariant-loop-mark : goal.invariant-loop-mark
invariant-loop-mark l = list_any is_mark_short l.marks ≡ list_any is_mark_short (drop l.mark-index l.marks)
