use Rattle.std.proofs.Common.{◌≡◌, take, drop}
use Rattle.std.specs.Prelude.{reverse}
use Rattle.xd_ledger.specs.Calls.{turn}
use Rattle.xd_run.specs.Plan.{Plan}
use Rattle.xd_run.specs.Table.{workers_of}
use Rattle.xd_run.specs.Turn.{in_turn, shut}
use Rattle.xd_scope.proofs.share.shut_surplus.Given as goal

abbrev pub invariant-loop-done : goal.invariant-loop-done
invariant-loop-done l = record {
  rota : workers_of l.ledger ≡ workers_of l.fn.ledger;
  turned : (p : Plan) → turn l.ledger p l.acts.items ≡ in_turn shut (take l.done (reverse (drop l.count (workers_of l.fn.ledger)))) (turn l.fn.ledger p l.fn.acts.items);
}
