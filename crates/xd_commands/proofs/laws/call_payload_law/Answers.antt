use Rattle.xd_commands.proofs.Fitting.{call_dumped}
use Rattle.xd_commands.proofs.laws.call_payload_law.Goals as goal

pub returns : goal.returns
returns c = call_dumped
