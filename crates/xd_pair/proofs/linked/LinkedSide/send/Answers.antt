use Rattle.std.proofs.Common.{[], ◌∷◌, subst}
use Rattle.xd_value.specs.Payload.{IsPayload}
use Rattle.xd_frame.specs.Message.{MessageView}
use Rattle.xd_value.specs.View.{view}
use Rattle.xd_value.specs.Canonical.{dumped}
use Rattle.xd_factory.specs.Table.{send_refusal}
use Rattle.xd_factory.specs.View.{slot_of_number}
use Rattle.xd_pair.proofs.Sending.{gives_parts}
use Rattle.xd_pair.proofs.Moves.{send_moves, following}
use Rattle.xd_pair.proofs.linked.LinkedSide.send.Goals as goal

pub returns-in-Ok-clause-step : goal.returns-in-Ok-clause-step
returns-in-Ok-clause-step c =
    let s = c.args.self.now in
    let e = c.in-Ok.ensures.answer in
    send_moves s (record s { side = c.send.new.self; said = c.say.new.said }) c.args.number (view c.args.value.now) e.0 c.in-Ok.message (subst (λ (m : MessageView). IsPayload (view c.args.value.now) m.payload) e.2 c.in-Ok.ensures.payload) e.1 e.2 c.in-Ok.ensures.same
    (following s.said.items c.reserve.new.self.items c.say.new.said.items (c.in-Ok.message ∷ []) c.reserve.ensures.items c.say.ensures.items)

pub returns-in-Ok-clause-accepted : goal.returns-in-Ok-clause-accepted
returns-in-Ok-clause-accepted c =
    let e = c.in-Ok.ensures.answer in
    (gives_parts (send_refusal (slot_of_number c.args.self.now.side c.args.number)) (dumped (view c.args.value.now)) e.0 e.1).0
