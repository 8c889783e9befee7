use Rattle.xd_factory.specs.Slot.{hooked_slot}
use Rattle.xd_factory.proofs.SideTables.{same_table}
use Rattle.xd_gateway.proofs.side.hook.Goals as goal

pub returns : goal.returns
returns c = same_table c.args.side.now c.set_callback-waiting.new.self c.args.number hooked_slot c.set_callback-waiting.ensures.slots c.set_callback-waiting.ensures.rest
