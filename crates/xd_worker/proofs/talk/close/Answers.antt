use Rattle.xd_factory.specs.Slot.{closed_slot}
use Rattle.xd_factory.specs.View.{slot_of_number}
use Rattle.xd_factory.specs.declared.faults.CloseFault.TheVariants.{Unknown}
use Rattle.std.proofs.Common.{false}
use Rattle.xd_worker.proofs.Tables.{refusal_is, kept_table, unknown_closed}
use Rattle.xd_worker.proofs.talk.close.Goals as goal

pub returns-in-Err-Unknown-clause-table : goal.returns-in-Err-Unknown-clause-table
returns-in-Err-Unknown-clause-table c =
    kept_table c.args.side.now c.close.new.self c.args.number closed_slot (unknown_closed (slot_of_number c.args.side.now c.args.number) false (refusal_is _ _ Unknown c.in-Err-Unknown.field-0-is c.in-Err-Unknown.ensures.refused)) c.in-Err-Unknown.ensures.err c.in-Err-Unknown.ensures.rest
