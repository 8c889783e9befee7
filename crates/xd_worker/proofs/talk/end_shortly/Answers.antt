use Rattle.xd_factory.specs.Slot.{function_ended_slot}
use Rattle.xd_factory.specs.View.{slot_of_number}
use Rattle.xd_factory.specs.Table.{is_long}
use Rattle.xd_factory.specs.declared.faults.CloseFault.TheVariants.{Unknown}
use Rattle.xd_worker.proofs.Tables.{refusal_is, kept_table, unknown_ended}
use Rattle.xd_worker.proofs.talk.end_shortly.Goals as goal

pub returns-in-Err-Unknown-clause-table : goal.returns-in-Err-Unknown-clause-table
returns-in-Err-Unknown-clause-table c =
    kept_table c.args.side.now c.end_function.new.self c.args.number function_ended_slot
    (unknown_ended (slot_of_number c.args.side.now c.args.number) (is_long c.args.text) (refusal_is _ _ Unknown c.in-Err-Unknown.field-0-is c.in-Err-Unknown.ensures.refused)) c.in-Err-Unknown.ensures.err c.in-Err-Unknown.ensures.rest
