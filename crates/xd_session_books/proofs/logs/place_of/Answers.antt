use Rattle.std.proofs.Common.{arith}
use Rattle.xd_session_books.proofs.Places.{place-more, place-here}
use Rattle.xd_session_books.proofs.logs.place_of.Goals as goal

pub loop-i-preserved : goal.loop-i-preserved
loop-i-preserved c =
    let i = c.loop-i.invariant in
    let m = place-more c.args.worker c.args.logs.now c.loop-i.i c.index-logs-i.result c.loop-i-test.true c.if-logs-i.false in
    omega arith

pub returns-then-logs-i : goal.returns-then-logs-i
returns-then-logs-i c =
    let i = c.loop-i.invariant in
    let m = place-here c.args.worker c.args.logs.now c.loop-i.i c.index-logs-i.result c.loop-i-test.true c.if-logs-i.true in
    omega arith
