use Rattle.xd_run.proofs.Counts.{range_next}
use Rattle.xd_ledger.proofs.chains.add_range.Goals as goal

pub loop-i-preserved : goal.loop-i-preserved
loop-i-preserved c = range_next c.args.list.now.items c.loop-i.list.items c.push.new.self.items c.args.start c.loop-i.i c.loop-i.invariant c.in_ok-push.ensures.items
