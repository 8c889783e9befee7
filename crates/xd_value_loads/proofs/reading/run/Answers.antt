use Rattle.std.proofs.Common.{◌-◌, Some, length, arith, rules, sym, ◌∙◌, ap}
use Rattle.xd_value_loads.specs.inner.Seats.{cells_of}
use Rattle.xd_value.proofs.Steps.{Here, no_stop, unknown, placed_refusal, go_on, stops_refused, stops_read}
use Rattle.xd_value_loads.proofs.reading.run.Goals as goal

pub returns-in_default-clause-refused : goal.returns-in_default-clause-refused
returns-in_default-clause-refused c =
    let l = c.opcodes in
    let h : Here c.args.bytes.now (cells_of l.stack) l.rest.now (length c.args.bytes.now - length l.rest.now) = record { fits = λ i. omega (arith, c.type_inv.bytes i); reached = l.invariant.reached; place = omega arith } in
    no_stop _ _ _ _ h c.in_default.ensures.cases

pub returns-in_default-opcode_of-clause-refused : goal.returns-in_default-opcode_of-clause-refused
returns-in_default-opcode_of-clause-refused c =
    let l = c.opcodes in
    let h : Here c.args.bytes.now (cells_of l.stack) l.rest.now (length c.args.bytes.now - length l.rest.now) = record { fits = λ i. omega (arith, c.type_inv.bytes i); reached = l.invariant.reached; place = omega arith } in
    unknown _ _ _ _ c.in-Some.byte.now c.in-Some.after.now h (search rules) (sym c.opcode_of.ensures ∙ c.in_default-opcode_of.is)

pub returns-in-Stop-clause-read : goal.returns-in-Stop-clause-read
returns-in-Stop-clause-read c =
    let l = c.opcodes in
    let h : Here c.args.bytes.now (cells_of l.stack) l.rest.now (length c.args.bytes.now - length l.rest.now) = record { fits = λ i. omega (arith, c.type_inv.bytes i); reached = l.invariant.reached; place = omega arith } in
    stops_read _ _ _ _ c.in-Some.byte.now c.in-Some.after.now c.last.result h (search rules) ((sym c.opcode_of.ensures ∙ c.in-Some-opcode_of.is) ∙ ap (λ o. Some o) c.in-Stop.is) c.last.ensures

pub returns-in-Stop-clause-refused : goal.returns-in-Stop-clause-refused
returns-in-Stop-clause-refused c =
    let l = c.opcodes in
    let h : Here c.args.bytes.now (cells_of l.stack) l.rest.now (length c.args.bytes.now - length l.rest.now) = record { fits = λ i. omega (arith, c.type_inv.bytes i); reached = l.invariant.reached; place = omega arith } in
    stops_refused _ _ _ _ c.in-Some.byte.now c.in-Some.after.now c.last.result h (search rules) ((sym c.opcode_of.ensures ∙ c.in-Some-opcode_of.is) ∙ ap (λ o. Some o) c.in-Stop.is) c.last.ensures

pub returns-in-Err-clause-refused : goal.returns-in-Err-clause-refused
returns-in-Err-clause-refused c =
    let l = c.opcodes in
    let h : Here c.args.bytes.now (cells_of l.stack) l.rest.now (length c.args.bytes.now - length l.rest.now) = record { fits = λ i. omega (arith, c.type_inv.bytes i); reached = l.invariant.reached; place = omega arith } in
    placed_refusal _ _ _ _ c.in-Some.byte.now c.in-Some.after.now c.in-Some-opcode_of.op c.in-Err.fault c.placed.result h (search rules) (sym c.opcode_of.ensures ∙ c.in-Some-opcode_of.is) (c.in_default-op.not-Stop) c.in-Err.ensures.gives c.placed.ensures

pub opcodes-smaller : goal.opcodes-smaller
opcodes-smaller c =
    let l = c.opcodes in
    let h : Here c.args.bytes.now (cells_of l.stack) l.rest.now (length c.args.bytes.now - length l.rest.now) = record { fits = λ i. omega (arith, c.type_inv.bytes i); reached = l.invariant.reached; place = omega arith } in
    (go_on _ _ _ _ c.in-Some.byte.now c.in-Some.after.now c.in-Some-opcode_of.op (cells_of c.step.new.stack) c.in-Ok.left.now h (search rules) (sym c.opcode_of.ensures ∙ c.in-Some-opcode_of.is) c.in-Ok.ensures.gives).1

pub opcodes-preserved : goal.opcodes-preserved
opcodes-preserved c =
    let l = c.opcodes in
    let h : Here c.args.bytes.now (cells_of l.stack) l.rest.now (length c.args.bytes.now - length l.rest.now) = record { fits = λ i. omega (arith, c.type_inv.bytes i); reached = l.invariant.reached; place = omega arith } in
    let n = go_on _ _ _ _ c.in-Some.byte.now c.in-Some.after.now c.in-Some-opcode_of.op (cells_of c.step.new.stack) c.in-Ok.left.now h (search rules) (sym c.opcode_of.ensures ∙ c.in-Some-opcode_of.is) c.in-Ok.ensures.gives in
    record { reached = n.0; inside = omega (arith, n.1); stands = c.in-Ok.ensures.stack }
