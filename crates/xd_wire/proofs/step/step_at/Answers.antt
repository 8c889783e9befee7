use Rattle.std.proofs.Common.{◌≡◌, ◌+◌, ◌-◌, ◌≤◌, Ok, Option, length, take, drop, ap, subst, arith}
use Rattle.std.specs.Option.{IfSome}
use Rattle.std.proofs.lemmas.List.{take_rest}
use Rattle.xd_frame.specs.declared.header.Header.{Header}
use Rattle.xd_frame.specs.Stream.{FrontSays}
use Rattle.xd_wire.specs.WireText.{message_with}
use Rattle.xd_wire.specs.inner.Lines.{IsLineOf}
use Rattle.xd_wire.proofs.LineLemmas.{line_leads, fault_leads}
use Rattle.xd_wire.proofs.step.step_at.Goals as goal

pub returns-in-Made-clause-step : goal.returns-in-Made-clause-step
returns-in-Made-clause-step c =
    let h = c.in-Ok-Some.header in
    let size : (c.args.at + 9 + h.length) - (c.args.at + 9) ≡ h.length = omega arith in
    line_leads c.a_payload_reads_one.ensures c.args.bytes.now c.args.at h _ _ _ (take_rest c.args.bytes.now c.args.at) (ap (λ n. take n (drop (c.args.at + 9) c.args.bytes.now)) size)
    (subst (λ (o : Option Header). IfSome o (λ g. 9 + g.length ≤ length (take (length c.args.bytes.now - c.args.at) (drop c.args.at c.args.bytes.now)))) c.in-Ok-Some.field-0-is c.in-Ok-Some.ensures.whole)
    (subst (λ (o : Option Header). FrontSays (take (length c.args.bytes.now - c.args.at) (drop c.args.at c.args.bytes.now)) (Ok o)) c.in-Ok-Some.field-0-is c.in-Ok-Some.ensures.says)
    (subst (IsLineOf (message_with h _) _) c.in-Made.is c.in_ok-line_of.ensures)

pub returns-in-Fault-clause-step : goal.returns-in-Fault-clause-step
returns-in-Fault-clause-step c =
    let h = c.in-Ok-Some.header in
    let size : (c.args.at + 9 + h.length) - (c.args.at + 9) ≡ h.length = omega arith in
    fault_leads c.a_payload_reads_one.ensures c.fault_step-in-Fault.result c.args.bytes.now c.args.at h _ _ _ c.name_of_what.result.now c.in-Fault.place c.in-Fault.what (take_rest c.args.bytes.now c.args.at) (ap (λ n. take n (drop (c.args.at + 9) c.args.bytes.now)) size)
    (subst (λ (o : Option Header). FrontSays (take (length c.args.bytes.now - c.args.at) (drop c.args.at c.args.bytes.now)) (Ok o)) c.in-Ok-Some.field-0-is c.in-Ok-Some.ensures.says)
    (subst (IsLineOf (message_with h _) _) c.in-Fault.is c.in_ok-line_of.ensures) c.name_of_what.ensures c.fault_step-in-Fault.ensures.line c.fault_step-in-Fault.ensures.then
