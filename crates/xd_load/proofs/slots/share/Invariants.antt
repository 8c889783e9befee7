use Rattle.std.proofs.Common.{◌≡◌, drop}
use Rattle.xd_run.specs.Table.{workers_of}
use Rattle.xd_run.specs.Plan.{Plan}
use Rattle.xd_run.specs.Each.{give_slots, each_share}
use Rattle.xd_ledger.specs.Calls.{turn}
use Rattle.xd_load.specs.Slots.{AreWaiting, InSlots}
use Rattle.xd_load.proofs.slots.share.Given as goal

abbrev pub invariant-loop-place : goal.invariant-loop-place
invariant-loop-place l = record {
  rota : workers_of l.ledger ≡ workers_of l.fn.ledger;
  waiting : AreWaiting (drop l.place l.slots) l.sizes l.ledger.pool;
  turned : (p : Plan) → InSlots l.sizes p →
      give_slots (drop l.place (workers_of l.fn.ledger)) (drop l.place l.slots) (turn l.ledger p l.acts.items) ≡ each_share l.slots (turn l.fn.ledger p l.fn.acts.items);
}
