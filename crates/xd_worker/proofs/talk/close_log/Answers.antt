use Rattle.std.proofs.Common.{ap, ◌∙◌}
use Rattle.xd_factory.specs.Slot.{function_ended_slot}
use Rattle.xd_factory.specs.SideTable.{channel_table, changed_at}
use Rattle.xd_worker.proofs.Tables.{talks, closed_dropped}
use Rattle.xd_worker.proofs.talk.close_log.Goals as goal

pub returns : goal.returns
returns c =
    talks _ _ _ _ (c.in_ok-drop_channel.ensures ∙ ap (changed_at c.args.log function_ended_slot) c.in_ok-close.ensures.table ∙ closed_dropped c.args.log (channel_table c.args.side.now))
    c.in_ok-close.ensures.says
