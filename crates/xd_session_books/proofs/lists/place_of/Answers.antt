use Rattle.std.proofs.Common.{arith}
use Rattle.xd_session_books.proofs.Compares.{place-more, place-here}
use Rattle.xd_session_books.proofs.lists.place_of.Goals as goal

pub loop-i-preserved : goal.loop-i-preserved
loop-i-preserved c =
    let i = c.loop-i.invariant in
    let m = place-more c.args.slot c.args.lists.now c.loop-i.i c.index-lists-i.result c.loop-i-test.true c.if-lists-i.false in
    omega arith

pub returns-then-lists-i : goal.returns-then-lists-i
returns-then-lists-i c =
    let i = c.loop-i.invariant in
    let m = place-here c.args.slot c.args.lists.now c.loop-i.i c.index-lists-i.result c.loop-i-test.true c.if-lists-i.true in
    omega arith
