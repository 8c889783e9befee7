use Rattle.xd_value.proofs.Dumped.{dumped_once}
use Rattle.xd_value.proofs.laws.dumped_law.Goals as goal

pub returns : goal.returns
returns c = dumped_once
