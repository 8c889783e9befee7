use Rattle.xd_system_messages.proofs.Reached.{reached}
use Rattle.xd_system_messages.proofs.steps_reach_moments.Goals as goal

pub returns : goal.returns
returns c = reached
