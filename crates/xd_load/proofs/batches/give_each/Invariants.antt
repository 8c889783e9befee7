use Rattle.std.proofs.Common.{◌≡◌, take}
use Rattle.xd_run.specs.Table.{workers_of}
use Rattle.xd_run.specs.Plan.{Plan}
use Rattle.xd_run.specs.Turn.{in_turn}
use Rattle.xd_run.specs.Load.{give_unless_shut}
use Rattle.xd_ledger.specs.Calls.{turn}
use Rattle.xd_load.proofs.batches.give_each.Given as goal

abbrev pub invariant-loop-place : goal.invariant-loop-place
invariant-loop-place l = record {
  rota : workers_of l.ledger ≡ workers_of l.fn.ledger;
  turned : (p : Plan) →
      turn l.ledger p l.acts.items ≡ in_turn (give_unless_shut l.fn.count) (take l.place (workers_of l.fn.ledger)) (turn l.fn.ledger p l.fn.acts.items);
}
