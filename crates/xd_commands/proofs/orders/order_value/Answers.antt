use Rattle.xd_commands.proofs.ReadBack.{order_back}
use Rattle.xd_commands.proofs.orders.order_value.Goals as goal

pub returns-clause-back : goal.returns-clause-back
returns-clause-back c = order_back _ _ c.order_fits.ensures c.in_ok-value.ensures
