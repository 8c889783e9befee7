use Rattle.std.proofs.Common.{◌≡◌, take}
use Rattle.xd_ledger.specs.Calls.{turn}
use Rattle.xd_run.specs.Plan.{Plan}
use Rattle.xd_run.specs.Suits.{AreInPool}
use Rattle.xd_run.specs.Table.{workers_of}
use Rattle.xd_run.specs.Turn.{in_turn}
use Rattle.xd_scope.specs.Stands.{IsAt, Keeps, dealt_to}
use Rattle.xd_scope.proofs.refill.deal_each.Given as goal

abbrev pub invariant-loop-place : goal.invariant-loop-place
invariant-loop-place l = record {
  rota : workers_of l.ledger ≡ workers_of l.fn.ledger;
  fits : AreInPool l.units.queue.items l.ledger.pool;
  turned : (p : Plan) → Keeps l.fn.units p → IsAt (in_turn (dealt_to l.fn.deal) (take l.place (workers_of l.fn.ledger)) (turn l.fn.ledger p l.fn.acts.items)) l.ledger l.acts.items l.units;
}
