use Rattle.std.proofs.Common.{◌≡◌, take, drop}
use Rattle.std.specs.Prelude.{filter}
use Rattle.xd_run.specs.Numbers.{among, first_of}
use Rattle.xd_load.specs.Slots.{items_in}
use Rattle.xd_load.proofs.slots.remainder.Given as goal

abbrev pub invariant-loop-place : goal.invariant-loop-place
invariant-loop-place l = record {
  next : l.next ≡ first_of (drop l.place l.ledger.pool);
  kept : l.items.items ≡ filter (λ i. among i (items_in l.slot l.sizes)) (take l.place l.ledger.pool);
}
