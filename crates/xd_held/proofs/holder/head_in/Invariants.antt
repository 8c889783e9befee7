use Rattle.std.proofs.Common.{◌≡◌, drop, map}
use Rattle.xd_run.specs.Table.{held_in}
use Rattle.xd_held.specs.Holders.{seat_of_holder}
use Rattle.xd_held.proofs.holder.head_in.Given as goal

abbrev pub invariant-loop-holder : goal.invariant-loop-holder
invariant-loop-holder l = held_in l.worker (map seat_of_holder l.rota) ≡ held_in l.worker (map seat_of_holder (drop l.holder-index l.rota))
