use Rattle.std.proofs.Common.{◌≡◌, List, drop, ap, sym, ◌∙◌, ◌-◌, arith}
use Rattle.std.specs.List.{list_any}
use Rattle.xd_value_loads.specs.inner.Seats.{is_mark_short, deepest}
use Rattle.xd_value.specs.Tree.{trees_depth}
use Rattle.xd_value.specs.View.{views}
use Rattle.xd_value.specs.declared.value.Value.{Value}
use Rattle.xd_value_loads.specs.declared.stack.Mark.{Mark}
use Rattle.xd_value_loads.proofs.Seats.{too_few_parts, take_refused, taken_values, taken_depth, left_seats}
use Rattle.xd_value_loads.proofs.taking.take.Goals as goal

pub returns-then-len-n-clause-gives : goal.returns-then-len-n-clause-gives
returns-then-len-n-clause-gives c = too_few_parts c.args.n c.args.stack.now.values.items c.args.stack.now.marks.items c.requires.stack (omega (arith, c.if-len-n.true))

pub returns-then-is_any_short-clause-gives : goal.returns-then-is_any_short-clause-gives
returns-then-is_any_short-clause-gives c =
    let at = c.len-2.result - c.args.n in
    let tail : c.split_at.result.1.now ≡ drop at c.args.stack.now.marks.items = c.split_at.ensures.back ∙ ap (λ (ms : List Mark). drop at ms) c.deref.ensures.value in
    take_refused c.args.n at c.args.stack.now.values.items c.args.stack.now.marks.items c.requires.stack (omega arith)
    (sym (ap (λ (ms : List Mark). list_any is_mark_short ms) tail) ∙ sym c.is_any_short.ensures ∙ c.if-is_any_short.true)

pub invariant_of-result : goal.invariant_of-result
invariant_of-result c =
    let at = c.len-2.result - c.args.n in
    let tail : c.split_at.result.1.now ≡ drop at c.args.stack.now.marks.items = c.split_at.ensures.back ∙ ap (λ (ms : List Mark). drop at ms) c.deref.ensures.value in
    record { measured = c.deepest-depth.ensures ∙ ap deepest tail ∙ taken_depth at c.args.stack.now.values.items c.args.stack.now.marks.items c.requires.stack ∙ sym (ap (λ (vs : List Value). trees_depth (views vs)) c.in_ok-items.ensures.tail) }

pub returns-clause-gives : goal.returns-clause-gives
returns-clause-gives c =
    let at = c.len-2.result - c.args.n in
    let tail : c.split_at.result.1.now ≡ drop at c.args.stack.now.marks.items = c.split_at.ensures.back ∙ ap (λ (ms : List Mark). drop at ms) c.deref.ensures.value in
    rw (c.in_ok-items.ensures.tail, c.in_ok-items.ensures.items, c.truncate.ensures.items)
    (taken_values c.args.n at c.args.stack.now.values.items c.args.stack.now.marks.items c.requires.stack (omega arith)
    (sym (ap (λ (ms : List Mark). list_any is_mark_short ms) tail) ∙ sym c.is_any_short.ensures ∙ c.if-is_any_short.false))

pub returns-clause-stack : goal.returns-clause-stack
returns-clause-stack c =
    rw (c.in_ok-items.ensures.items, c.truncate.ensures.items) (left_seats (c.len-2.result - c.args.n) c.args.stack.now.values.items c.args.stack.now.marks.items c.requires.stack)
