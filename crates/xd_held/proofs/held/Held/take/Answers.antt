use Rattle.std.proofs.Common.{rules, sym, ap, ◌∙◌}
use Rattle.xd_run.specs.Numbers.{without}
use Rattle.xd_held.proofs.Rising.{rises-following, without-first, without-those}
use Rattle.xd_held.proofs.held.Held.take.Goals as goal

pub returns-then-is_first : goal.returns-then-is_first
returns-then-is_first c =
    let first = c.is_first.ensures.0 c.if-is_first.true in
    c.pop_front.ensures.rest ∙ sym (without-first c.args.items.now _ (c.self.invariant.0 c.if-self.true) first.0 first.1) ∙ ap (without c.args.items.now) c.self.view_is

pub invariant_of-self : goal.invariant_of-self
invariant_of-self c = (λ _. rw c.pop_front.ensures.rest (rises-following _ (c.self.invariant.0 c.if-self.true)), λ _. c.if-self.true)

pub returns-then-is_end : goal.returns-then-is_end
returns-then-is_end c =
    c.truncate.ensures.items
    ∙ without-those c.args.items.now c.self.inside.items.items c.len.result (search rules) (c.self.invariant.0 c.if-self-2.true) (c.is_end.ensures.0 c.if-is_end.true)
    ∙ ap (without c.args.items.now) c.self.view_is
