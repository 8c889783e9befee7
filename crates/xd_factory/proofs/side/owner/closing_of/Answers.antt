use Rattle.std.proofs.Common.{List, ℕ, Err, sym, ap, subst, ◌∙◌}
use Rattle.xd_value.specs.Tree.{Tree, text}
use Rattle.xd_value.specs.Canonical.{dumped, IsDump}
use Rattle.xd_value.specs.Payload.{IsPayload}
use Rattle.xd_frame.specs.Message.{MessageView}
use Rattle.xd_frame.specs.declared.kind.Kind.TheVariants.{CloseError}
use Rattle.xd_factory.proofs.Dumps.{dumped_short, text_dump, text_refused}
use Rattle.xd_factory.proofs.side.owner.closing_of.Goals as goal

pub of-requires-in-Ok-clause-payload : goal.of-requires-in-Ok-clause-payload
of-requires-in-Ok-clause-payload c = dumped_short _ c.in-Ok.payload c.in-Ok.ensures.dumped

pub returns-in-Ok-clause-message : goal.returns-in-Ok-clause-message
returns-in-Ok-clause-message c =
    rw c.in-Some.is (c.of-in-Ok.ensures ∙ ap (λ (b : List ℕ). let m : MessageView = record { kind = CloseError; channel = c.args.number; payload = b } in m) (text_dump c.in-Some.text c.in-Ok.payload (sym (ap dumped c.value_of.ensures) ∙ c.in-Ok.ensures.dumped)).1)

pub returns-in-Ok-clause-short : goal.returns-in-Ok-clause-short
returns-in-Ok-clause-short c = rw c.in-Some.is (text_dump c.in-Some.text c.in-Ok.payload (sym (ap dumped c.value_of.ensures) ∙ c.in-Ok.ensures.dumped)).0

pub returns-in-Ok-clause-payload : goal.returns-in-Ok-clause-payload
returns-in-Ok-clause-payload c =
    rw c.in-Some.is
    (subst (λ (b : List ℕ). IsPayload (text c.in-Some.text) b) (text_dump c.in-Some.text c.in-Ok.payload (sym (ap dumped c.value_of.ensures) ∙ c.in-Ok.ensures.dumped)).1
    (subst (λ (t : Tree). IsPayload t c.in-Ok.payload) c.value_of.ensures c.in-Ok.ensures.payload))

-- what is refused of a text
pub returns-clause-refused : goal.returns-clause-refused
returns-clause-refused c =
    rw (c.in-Some.is, c.close_fault.ensures)
    (text_refused c.in-Some.text c.in-Err.fault (subst (λ (t : Tree). IsDump (Err c.in-Err.fault) (dumped t)) c.value_of.ensures c.in-Err.ensures.dumped))
