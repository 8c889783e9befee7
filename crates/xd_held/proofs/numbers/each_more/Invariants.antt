use Rattle.std.proofs.Common.{◌≡◌, ◌+◌, map, take}
use Rattle.xd_held.proofs.numbers.each_more.Given as goal

abbrev pub invariant-loop-number : goal.invariant-loop-number
invariant-loop-number l = l.more.items ≡ map (λ n. l.base + n) (take l.number-index l.numbers)
