use Rattle.std.proofs.Common.{◌≡◌, take, map}
use Rattle.std.specs.Prelude.{pos}
use Rattle.xd_value.specs.Tree.{int}
use Rattle.xd_value.specs.View.{view}
use Rattle.xd_commands.proofs.kwargs.numbers_value.Given as goal

abbrev pub invariant-loop-number : goal.invariant-loop-number
invariant-loop-number l = map view l.items.items ≡ map (λ n. int (pos n)) (take l.number-index l.numbers)
