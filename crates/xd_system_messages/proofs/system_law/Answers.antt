use Rattle.xd_system_messages.proofs.SystemLaw.{holds}
use Rattle.xd_system_messages.proofs.system_law.Goals as goal

pub returns : goal.returns
returns c = holds
