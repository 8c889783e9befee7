use Rattle.std.proofs.Common.{ap, refl, ◌∙◌}
use Rattle.xd_factory.specs.Slot.{function_ended_slot, is_seen}
use Rattle.xd_factory.specs.Table.{is_long}
use Rattle.xd_factory.specs.View.{slot_of_number}
use Rattle.xd_factory.specs.SideTable.{channel_table, changed_at}
use Rattle.xd_factory.specs.declared.faults.CloseFault.TheVariants.{Unknown, TooLong}
use Rattle.xd_factory.proofs.SideTables.{same_table, kept_all}
use Rattle.xd_worker.proofs.Tables.{refusal_is, talks, kept_table, unknown_ended, ended_ok, ended_unknown, ended_long}
use Rattle.xd_worker.proofs.talk.end_function.Goals as goal

pub returns-in_ok-put-in-Ok : goal.returns-in_ok-put-in-Ok
returns-in_ok-put-in-Ok c =
    let s = c.args.side.now in
    let n = c.args.number in
    talks _ _ _ _ (same_table s c.end_function.new.self n function_ended_slot c.in-Ok.ensures.slots c.in-Ok.ensures.rest)
    (c.in_ok-put-in-Ok.ensures ∙ ended_ok n c.args.text c.args.other (is_seen (slot_of_number s n)) (is_long c.args.text) c.args.say.now c.in-Ok.message c.in-Ok.ensures.answer c.in-Ok.ensures.accepted)

pub returns-in-Err-Unknown : goal.returns-in-Err-Unknown
returns-in-Err-Unknown c =
    let s = c.args.side.now in
    let n = c.args.number in
    talks _ _ _ _
    (kept_table s c.end_function.new.self n function_ended_slot (unknown_ended (slot_of_number s n) (is_long c.args.text) (refusal_is _ _ Unknown c.in-Err-Unknown.field-0-is c.in-Err-Unknown.ensures.refused)) c.in-Err-Unknown.ensures.err c.in-Err-Unknown.ensures.rest)
    (ended_unknown n c.args.text c.args.other (is_seen (slot_of_number s n)) (is_long c.args.text) c.args.say.now (refusal_is _ _ Unknown c.in-Err-Unknown.field-0-is c.in-Err-Unknown.ensures.refused))

pub returns-in_ok-end_shortly-in-Err-TooLong : goal.returns-in_ok-end_shortly-in-Err-TooLong
returns-in_ok-end_shortly-in-Err-TooLong c =
    let s = c.args.side.now in
    let n = c.args.number in
    let same = kept_all s c.end_function.new.self c.in-Err-TooLong.ensures.err c.in-Err-TooLong.ensures.rest in
    talks _ _ _ _ (c.in_ok-end_shortly-in-Err-TooLong.ensures.table ∙ ap (changed_at n function_ended_slot) same)
    (ended_long n c.args.text c.args.other (is_seen (slot_of_number s n)) (is_long c.args.text) (channel_table s) (channel_table c.end_function.new.self) c.args.say.now c.end_shortly.new.say same refl (refusal_is _ _ TooLong c.in-Err-TooLong.field-0-is c.in-Err-TooLong.ensures.refused) c.in_ok-end_shortly-in-Err-TooLong.ensures.says)
