use Rattle.std.specs.Option.{option_to_list}
use Rattle.xd_pair.proofs.Moves.{close_moves, following}
use Rattle.xd_pair.proofs.linked.LinkedSide.close.Goals as goal

pub returns-in-Ok-clause-step : goal.returns-in-Ok-clause-step
returns-in-Ok-clause-step c =
    let s = c.args.self.now in
    let e = c.in-Ok.ensures in
    close_moves s (record s { side = c.close.new.self; said = c.say_any.new.said }) c.args.number c.args.error c.in-Ok.message e.payload e.answer e.accepted (record { slots = e.slots; rest = e.rest })
    (following s.said.items c.reserve.new.self.items c.say_any.new.said.items (option_to_list c.in-Ok.message) c.reserve.ensures.items c.say_any.ensures)
