use Rattle.xd_system.proofs.Shipped.{shipped_honest}
use Rattle.xd_system.proofs.shipped_law.Goals as goal

pub returns : goal.returns
returns c = shipped_honest
