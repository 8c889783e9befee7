use Rattle.xd_run.specs.Modes.ModeCall.{Joined}
use Rattle.xd_scope.proofs.ModeTurns.{turned-at}
use Rattle.xd_scope.proofs.scope.ScopeMode.joined.Goals as goal

pub returns : goal.returns
returns c = λ p k.
    turned-at (Joined c.args._worker c.args._slot) p c.args.ledger.now c.args.acts.now.items c.refill_all.new.ledger c.refill_all.new.acts.items c.args.self.now.units c.refill_all.new.units k (c.in_ok-refill_all.ensures p k)
