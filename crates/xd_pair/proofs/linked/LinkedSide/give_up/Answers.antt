use Rattle.std.proofs.Common.{refl}
use Rattle.std.specs.Option.{option_to_list}
use Rattle.xd_factory.specs.Slot.{is_seen}
use Rattle.xd_factory.specs.View.{slot_of_number}
use Rattle.xd_pair.proofs.Moves.{give_up_moves, following, not_unseen, unknown_stays}
use Rattle.xd_pair.proofs.linked.LinkedSide.give_up.Goals as goal

pub returns-in-Ok-clause-step : goal.returns-in-Ok-clause-step
returns-in-Ok-clause-step c =
    let s = c.args.self.now in
    let e = c.in-Ok.ensures in
    give_up_moves s (record s { side = c.give_up.new.self; said = c.say_any.new.said }) c.args.number c.in-Ok.message e.answer (record { slots = e.slots; rest = e.rest })
    (following s.said.items c.reserve.new.self.items c.say_any.new.said.items (option_to_list c.in-Ok.message) c.reserve.ensures.items c.say_any.ensures)

pub returns-in-Ok-clause-accepted : goal.returns-in-Ok-clause-accepted
returns-in-Ok-clause-accepted c = not_unseen (is_seen (slot_of_number c.args.self.now.side c.args.number)) c.in-Ok.ensures.unknown.1

pub returns-in-Err-clause-err : goal.returns-in-Err-clause-err
returns-in-Err-clause-err c =
    let s = c.args.self.now in
    let e = c.in-Err.ensures in
    unknown_stays s (record s { side = c.give_up.new.self; said = c.reserve.new.self }) c.args.number (e.unknown.0 refl) (record { slots = e.slots; rest = e.rest }) c.reserve.ensures.items
