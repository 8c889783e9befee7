use Rattle.std.specs.Prelude.{◌≡◌, drop}
use Rattle.xd_ledger.specs.Calls.{turn}
use Rattle.xd_run.specs.Plan.{Plan}
use Rattle.xd_run.specs.Table.{workers_of}
use Rattle.xd_run.specs.Worksteal.{dealt}
use Rattle.xd_steal.proofs.rule.deal.Given as goal

abbrev pub invariant-loop-i : goal.invariant-loop-i
invariant-loop-i l = record {
  rota : workers_of l.ledger ≡ workers_of l.fn.ledger;
  dealt : (p : Plan) → dealt (drop l.i l.workers) (turn l.ledger p l.acts.items) ≡ dealt l.workers (turn l.fn.ledger p l.fn.acts.items);
}
