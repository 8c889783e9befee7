use Rattle.std.proofs.Math.Facts.{Fits-lt-pow}
use Rattle.xd_commands.proofs.ReadBack.{indices_below}
use Rattle.xd_commands.proofs.kwargs.indices_fit.Goals as goal

pub returns : goal.returns
returns c = indices_below c.args.numbers.now (λ k. Fits-lt-pow (c.type_inv.numbers k))
