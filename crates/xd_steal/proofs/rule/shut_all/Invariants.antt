use Rattle.std.specs.Prelude.{◌≡◌, drop}
use Rattle.xd_ledger.specs.Calls.{turn}
use Rattle.xd_run.specs.Plan.{Plan}
use Rattle.xd_run.specs.Table.{workers_of}
use Rattle.xd_run.specs.Turn.{shut_each}
use Rattle.xd_steal.proofs.rule.shut_all.Given as goal

abbrev pub invariant-loop-i : goal.invariant-loop-i
invariant-loop-i l = record {
  rota : workers_of l.ledger ≡ workers_of l.fn.ledger;
  told : (p : Plan) → shut_each (drop l.i l.workers) (turn l.ledger p l.acts.items) ≡ shut_each l.workers (turn l.fn.ledger p l.fn.acts.items);
}
