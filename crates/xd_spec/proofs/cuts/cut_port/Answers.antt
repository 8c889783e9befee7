use Rattle.std.proofs.Common.{arith}
use Rattle.xd_spec.proofs.Splits.{last_cut_is}
use Rattle.xd_spec.proofs.cuts.cut_port.Goals as goal

pub returns : goal.returns
returns c = last_cut_is 58 c.args.address.now c.rsplit_once.result c.rsplit_once.ensures.cases (omega arith)
