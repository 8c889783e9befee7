use Rattle.xd_commands.proofs.EventFitting.{event_payload}
use Rattle.xd_commands.proofs.laws.event_payload_law.Goals as goal

pub returns : goal.returns
returns c = event_payload
