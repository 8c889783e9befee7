use Rattle.std.proofs.Common.{◌≡◌, ◌+◌, ◌-◌, Ok, Option, take, drop, ap, sym, ◌∙◌, subst, arith}
use Rattle.std.proofs.lemmas.List.{take_rest}
use Rattle.xd_frame.specs.declared.header.Header.{Header}
use Rattle.xd_frame.specs.Stream.{FrontSays}
use Rattle.xd_journal_file.proofs.Items.{an_item, no_message, other_message}
use Rattle.xd_journal_file.proofs.item.first_item.Goals as goal

pub returns-in-Ok-None : goal.returns-in-Ok-None
returns-in-Ok-None c =
    let e = c.in-Ok-None.ensures in
    no_message c.args.bytes.now (subst (λ (o : Option Header). FrontSays c.args.bytes.now (Ok o)) c.in-Ok-None.field-0-is e.says).0

pub returns-in-Err : goal.returns-in-Err
returns-in-Err c = (let e = c.in-Err.ensures in no_message c.args.bytes.now e.says.0)

pub returns-in_default : goal.returns-in_default
returns-in_default c =
    let e = c.in-Ok-Some.ensures in
    other_message c.args.bytes.now c.in-Ok-Some.header _ (subst (λ (o : Option Header). FrontSays c.args.bytes.now (Ok o)) c.in-Ok-Some.field-0-is e.says).0 (λ kind channel. c.in_default.not-Item kind)

pub returns-then-header-ne-CHANNEL : goal.returns-then-header-ne-CHANNEL
returns-then-header-ne-CHANNEL c =
    let e = c.in-Ok-Some.ensures in
    other_message c.args.bytes.now c.in-Ok-Some.header _ (subst (λ (o : Option Header). FrontSays c.args.bytes.now (Ok o)) c.in-Ok-Some.field-0-is e.says).0 (λ kind channel. c.if-header-ne-CHANNEL.true channel)

pub returns : goal.returns
returns c =
    let h = c.in-Ok-Some.header in
    let size : (9 + h.length) - 9 ≡ h.length = omega arith in
    an_item c.args.bytes.now h _ _ (λ i. omega (arith, c.type_inv.bytes i)) (sym c.first_header.ensures.exact ∙ (c.in-Ok-Some.is ∙ ap (λ o. Ok o) c.in-Ok-Some.field-0-is)) c.in-Item.is c.if-header-ne-CHANNEL.false
    (ap (λ n. take n (drop 9 c.args.bytes.now)) size) (take_rest c.args.bytes.now (9 + h.length))
