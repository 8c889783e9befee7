use Rattle.xd_session_books.proofs.Loops.{waiting-step}
use Rattle.xd_session_books.proofs.marks.waiting_of.Goals as goal

pub loop-i-preserved : goal.loop-i-preserved
loop-i-preserved c = waiting-step c.args.members.now c.loop-i.i _ c.loop-i.workers _ c.waits.result c.loop-i-test.true c.loop-i.invariant c.waits.ensures c.in_ok-add_where.ensures
