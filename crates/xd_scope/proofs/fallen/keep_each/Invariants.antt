use Rattle.std.proofs.Common.{◌≡◌, ◌++◌, List, ℕ, drop}
use Rattle.xd_scope.specs.Stands.{IsSetOf, left_of_each}
use Rattle.xd_scope.proofs.fallen.keep_each.Given as goal

abbrev pub invariant-loop-unit : goal.invariant-loop-unit
invariant-loop-unit l = (rest : List ℕ) → IsSetOf rest l.items → l.queue.items ++ left_of_each rest (drop l.unit-index l.units) ≡ l.fn.queue.items ++ left_of_each rest l.units
