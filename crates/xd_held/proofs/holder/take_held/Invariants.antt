use Rattle.std.proofs.Common.{◌≡◌, ◌++◌, map, take, drop}
use Rattle.xd_run.specs.Numbers.{without}
use Rattle.xd_run.specs.Table.{at_seat}
use Rattle.xd_held.specs.Holders.{seat_of_holder}
use Rattle.xd_held.proofs.holder.take_held.Given as goal

abbrev pub invariant-loop-holder : goal.invariant-loop-holder
invariant-loop-holder l = map seat_of_holder l.rota ≡ at_seat l.worker (λ s. record s { held = without l.items s.held }) (take l.holder-index (map seat_of_holder l.initial.rota)) ++ drop l.holder-index (map seat_of_holder l.initial.rota)
