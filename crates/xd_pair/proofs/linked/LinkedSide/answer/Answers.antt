use Rattle.std.proofs.Common.{[], ◌∷◌, ◌++◌, refl}
use Rattle.xd_value.specs.View.{view}
use Rattle.xd_pair.proofs.Sending.{dumped_is}
use Rattle.xd_pair.proofs.Moves.{answer_moves, following}
use Rattle.xd_pair.proofs.linked.LinkedSide.answer.Goals as goal

pub of-requires-clause-payload : goal.of-requires-clause-payload
of-requires-clause-payload c = (dumped_is (view c.args.value.now) c.in_ok-payload.payload c.in_ok-payload.ensures.dumped).1

pub returns-clause-step : goal.returns-clause-step
returns-clause-step c =
    let s = c.args.self.now in
    answer_moves s (record s { said = c.say-2.new.said }) c.args.number (view c.args.value.now) c.in_ok-payload.payload c.empty.result c.of.result c.of-2.result
    c.in_ok-payload.ensures.payload c.in_ok-payload.ensures.dumped c.empty.ensures c.of.ensures c.of-2.ensures refl
    (following (s.said.items ++ c.of.result ∷ []) c.say.new.said.items c.say-2.new.said.items (c.of-2.result ∷ [])
    (following s.said.items c.reserve.new.self.items c.say.new.said.items (c.of.result ∷ []) c.reserve.ensures.items c.say.ensures.items) c.say-2.ensures.items)
