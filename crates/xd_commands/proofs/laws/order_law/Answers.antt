use Rattle.xd_commands.proofs.ReadBack.{order_read}
use Rattle.xd_commands.proofs.laws.order_law.Goals as goal

pub returns : goal.returns
returns c = order_read
