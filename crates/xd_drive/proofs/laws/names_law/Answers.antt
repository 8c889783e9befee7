use Rattle.xd_drive.proofs.Named.{names-items}
use Rattle.xd_drive.proofs.laws.names_law.Goals as goal

pub returns : goal.returns
returns c = names-items
