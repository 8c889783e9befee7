use Rattle.std.proofs.Common.{rules}
use Rattle.xd_run.proofs.Counts.{range_more}
use Rattle.xd_held.proofs.numbers.numbers_from.Goals as goal

pub loop-i-preserved : goal.loop-i-preserved
loop-i-preserved c =
    let more = range_more c.args.first c.loop-i.i in
    grind (rules, more)
