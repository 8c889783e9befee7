use Rattle.std.proofs.Common.{◌≡◌}
use Rattle.xd_run.specs.Sharing.{sizes_from}
use Rattle.xd_session_rules.proofs.collecting.sizes_of_slots.Given as goal

abbrev pub invariant-loop-slot : goal.invariant-loop-slot
invariant-loop-slot l = l.items.items ≡ sizes_from l.lists 0 l.slot
