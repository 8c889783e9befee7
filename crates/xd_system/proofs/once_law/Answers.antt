use Rattle.xd_system.proofs.Items.{runs_once}
use Rattle.xd_system.proofs.once_law.Goals as goal

pub returns : goal.returns
returns c = runs_once
