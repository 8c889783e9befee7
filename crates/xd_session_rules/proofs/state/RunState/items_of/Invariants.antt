use Rattle.std.proofs.Common.{◌≡◌, ◌+◌, map, take}
use Rattle.xd_session_rules.proofs.state.RunState.items_of.Given as goal

abbrev pub invariant-loop-i : goal.invariant-loop-i
invariant-loop-i g l = l.items.items ≡ map (λ i. l.first + i) (take l.i l.indices)
