use Rattle.xd_factory.specs.declared.faults.CloseFault.TheVariants.{Unknown}
use Rattle.xd_factory.specs.Slot.{function_ended_slot}
use Rattle.xd_factory.specs.View.{slot_of_number}
use Rattle.std.proofs.Common.{false}
use Rattle.xd_worker.proofs.Tables.{refusal_is, kept_table, unknown_ended}
use Rattle.xd_worker.proofs.talk.drop_channel.Goals as goal

pub returns-in-Unknown : goal.returns-in-Unknown
returns-in-Unknown c =
    kept_table c.args.side.now c.end_function.new.self c.args.number function_ended_slot
    (unknown_ended (slot_of_number c.args.side.now c.args.number) false (refusal_is _ _ Unknown c.in-Unknown.is c.in-Err.ensures.refused)) c.in-Err.ensures.err c.in-Err.ensures.rest
