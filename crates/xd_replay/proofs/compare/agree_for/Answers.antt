use Rattle.std.proofs.Common.{arith, sym, ◌∙◌}
use Rattle.xd_run_laws.proofs.Logic.{differ}
use Rattle.xd_replay.proofs.Agreeing.{agree-all, agree-more, agree-until}
use Rattle.xd_replay.proofs.compare.agree_for.Goals as goal

pub returns-then-not-is_same : goal.returns-then-not-is_same
returns-then-not-is_same c =
    agree-until c.args.told.now c.args.found.now c.loop-i.i c.min-shorter.result _ _ c.min-shorter.ensures c.loop-i-test.true c.loop-i.invariant c.index-told-i.is c.index-found-i.is
    (λ e. differ (sym c.if-not-is_same.true ∙ c.is_same.ensures.other e))

pub loop-i-preserved : goal.loop-i-preserved
loop-i-preserved c =
    let n = c.loop-i-test.true in
    agree-more c.args.told.now c.args.found.now c.loop-i.i _ _ (let m = c.min-shorter.ensures in omega arith) (let m = c.min-shorter.ensures in omega arith) c.loop-i.invariant c.index-told-i.is c.index-found-i.is (c.is_same.ensures.same c.if-not-is_same.false)

pub returns : goal.returns
returns c = agree-all c.args.told.now c.args.found.now c.loop-i.i c.min-shorter.result c.min-shorter.ensures (let a = c.loop-i-test.false in let b = c.loop-i.auto.i-end in omega arith) c.loop-i.invariant
