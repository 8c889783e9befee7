use Rattle.xd_run.specs.Modes.ModeCall.{TestDone}
use Rattle.xd_scope.proofs.ModeTurns.{turned-at}
use Rattle.xd_scope.proofs.scope.ScopeMode.done.Goals as goal

pub returns : goal.returns
returns c = λ p k.
    turned-at (TestDone c.args.worker c.args._ms) p c.args.ledger.now c.args.acts.now.items c.refill_one.new.ledger c.refill_one.new.acts.items c.args.self.now.units c.refill_one.new.units k (c.in_ok-refill_one.ensures.turned p k)
