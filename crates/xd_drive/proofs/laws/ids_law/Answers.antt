use Rattle.xd_drive.proofs.Ids.{ids-collected}
use Rattle.xd_drive.proofs.laws.ids_law.Goals as goal

pub returns : goal.returns
returns c = ids-collected
