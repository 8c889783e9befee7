use Rattle.std.proofs.Common.{refl}
use Rattle.xd_run.specs.Modes.ModeCall.{Share}
use Rattle.xd_run.specs.Sharing.{shared_plan}
use Rattle.xd_scope.specs.declared.units.Units.{Units}
use Rattle.xd_scope.proofs.ModeTurns.{few-ids, fits-of, keeps-shared, turned-at}
use Rattle.xd_scope.proofs.scope.ScopeMode.share.Goals as goal

pub units_of-requires-clause-few : goal.units_of-requires-clause-few
units_of-requires-clause-few c =
    few-ids c.args.self.now.units c.requires.suits.plan c.args._sizes.now c.args.ledger.now.pool c.args.ids.now c.pool_len-tests.result c.requires.suits.stands_for
    c.requires.suits.finds.call.pool c.pool_len-tests.ensures c.requires.suits.finds.queue

pub share_all-requires : goal.share_all-requires
share_all-requires c =
    let u = c.args.self.now.units in
    let v : Units = record u { queue = c.in_ok-queue.queue } in
    let p = c.requires.suits.plan in
    let kept = keeps-shared c.args._sizes.now c.args.ids.now u v p c.requires.suits.stands_for refl refl refl c.in_ok-queue.ensures in
    record { fits = fits-of v (shared_plan c.args._sizes.now c.args.ids.now p) c.args.ledger.now.pool kept c.requires.suits.finds.queue }

pub returns : goal.returns
returns c = λ p k h.
    (let u = c.args.self.now.units in
    let v : Units = record u { queue = c.in_ok-queue.queue } in
    let q = shared_plan c.args._sizes.now c.args.ids.now p in
    let kept = keeps-shared c.args._sizes.now c.args.ids.now u v p k refl refl refl c.in_ok-queue.ensures in
    turned-at (Share c.args._slots.now) q c.args.ledger.now c.args.acts.now.items c.share_all.new.ledger c.share_all.new.acts.items v c.share_all.new.units kept (c.in_ok-share_all.ensures q kept))
