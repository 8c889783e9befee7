use Rattle.std.proofs.Common.{[], ◌∷◌}
use Rattle.xd_pair.proofs.Moves.{end_moves, following}
use Rattle.xd_pair.proofs.linked.LinkedSide.end_function.Goals as goal

pub returns-in-Ok-clause-step : goal.returns-in-Ok-clause-step
returns-in-Ok-clause-step c =
    let s = c.args.self.now in
    let e = c.in-Ok.ensures in
    end_moves s (record s { side = c.end_function.new.self; said = c.say.new.said }) c.args.number c.args.error c.in-Ok.message e.payload e.answer e.accepted (record { slots = e.slots; rest = e.rest })
    (following s.said.items c.reserve.new.self.items c.say.new.said.items (c.in-Ok.message ∷ []) c.reserve.ensures.items c.say.ensures.items)
