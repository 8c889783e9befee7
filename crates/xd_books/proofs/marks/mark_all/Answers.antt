use Rattle.std.proofs.Common.{arith, length, ◌<◌}
use Rattle.xd_run.specs.Workers.{made}
use Rattle.xd_run.proofs.Changed.{next_changed}
use Rattle.xd_books.proofs.marks.mark_all.Goals as goal

pub loop-i-preserved : goal.loop-i-preserved
loop-i-preserved c =
    let l : c.loop-i.i < length c.loop-i.members.items = grind (arith, c.loop-i-test.true) in
    next_changed (made c.args.mark c.args.worker) c.args.members.now.items c.loop-i.members.items c.loop-i.i _ _ _ l c.loop-i.invariant c.index-m.ensures c.with_mark.ensures
