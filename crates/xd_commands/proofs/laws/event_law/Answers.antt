use Rattle.xd_commands.proofs.ReadBack.{event_read}
use Rattle.xd_commands.proofs.laws.event_law.Goals as goal

pub returns : goal.returns
returns c = event_read
