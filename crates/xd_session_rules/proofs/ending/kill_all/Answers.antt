use Rattle.xd_session_books.proofs.Loops.{kill-step}
use Rattle.xd_session_rules.proofs.ending.kill_all.Goals as goal

pub loop-i-preserved : goal.loop-i-preserved
loop-i-preserved c = kill-step c.args.members.now c.loop-i.i _ c.args.entries.now.items _ _ c.loop-i-test.true c.loop-i.invariant c.in_ok-kill_where_active.ensures
