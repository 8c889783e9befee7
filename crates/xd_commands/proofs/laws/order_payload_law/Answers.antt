use Rattle.xd_commands.proofs.Fitting.{order_dumped}
use Rattle.xd_commands.proofs.laws.order_payload_law.Goals as goal

pub returns : goal.returns
returns c = order_dumped
