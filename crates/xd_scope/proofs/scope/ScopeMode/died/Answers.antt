use Rattle.std.proofs.Common.{refl}
use Rattle.xd_ledger.specs.Calls.{death_plan}
use Rattle.xd_run.specs.Modes.ModeCall.{Died}
use Rattle.xd_scope.specs.declared.units.Units.{Units}
use Rattle.xd_scope.proofs.ModeTurns.{fits-of, keeps-death, turned-at}
use Rattle.xd_scope.proofs.scope.ScopeMode.died.Goals as goal

pub refill_all-requires : goal.refill_all-requires
refill_all-requires c =
    let v : Units = record (c.args.self.now.units) { queue = c.keep_retried.new.queue } in
    let p = c.requires.suits.plan in
    let pool = c.args.ledger.now.pool in
    let kept = keeps-death c.args.worker c.args.retried c.args.rest pool c.args.self.now.units v p c.keep_rest.new.queue.items c.requires.suits.stands_for refl refl refl
    c.in_ok-keep_rest.ensures c.in_ok-keep_retried.ensures in
    fits-of v (death_plan c.args.worker c.args.retried c.args.rest pool p) pool kept c.requires.suits.finds.queue

pub returns : goal.returns
returns c = λ p k.
    (let v : Units = record (c.args.self.now.units) { queue = c.keep_retried.new.queue } in
    let pool = c.args.ledger.now.pool in
    let q = death_plan c.args.worker c.args.retried c.args.rest pool p in
    let kept = keeps-death c.args.worker c.args.retried c.args.rest pool c.args.self.now.units v p c.keep_rest.new.queue.items k refl refl refl
    c.in_ok-keep_rest.ensures c.in_ok-keep_retried.ensures in
    turned-at Died q c.args.ledger.now c.args.acts.now.items c.refill_all.new.ledger c.refill_all.new.acts.items v c.refill_all.new.units kept (c.in_ok-refill_all.ensures q kept))
