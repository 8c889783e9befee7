use Rattle.std.proofs.Common.{ℕ, Option, ap, ◌∙◌}
use Rattle.std.specs.Option.{unwrap_or}
use Rattle.std.specs.Ordering.{nat_cmp}
use Rattle.std.specs.BTreeMap.{get}
use Rattle.xd_factory.proofs.Joining.{new_forward, new_apart, joined_has}
use Rattle.xd_factory.proofs.runs.Runs.insert.Goals as goal

pub invariant_of-self : goal.invariant_of-self
invariant_of-self c =
    let last = (c.unwrap_or-last.ensures ∙ ap (λ (o : Option ℕ). unwrap_or o c.args.number) (c.copied.ensures ∙ c.get.ensures.value)) in
    record { forward = new_forward (get nat_cmp c.args.self.now.lasts) (get nat_cmp c.insert.new.self) (get nat_cmp c.remove.new.self) c.args.number c.in-Some.first c.unwrap_or-last.result c.args.self.now.forward c.args.self.now.apart c.in-Some.ensures.below c.in-Some.ensures.starts c.in-Some.ensures.free c.in-Some.ensures.ends last c.in-Ok.ensures.updates.0 c.remove.ensures.updates.0; apart = new_apart (get nat_cmp c.args.self.now.lasts) (get nat_cmp c.insert.new.self) (get nat_cmp c.remove.new.self) c.args.number c.in-Some.first c.unwrap_or-last.result c.args.self.now.forward c.args.self.now.apart c.in-Some.ensures.below c.in-Some.ensures.starts c.in-Some.ensures.free c.in-Some.ensures.ends last c.in-Ok.ensures.updates.0 c.remove.ensures.updates.0 }

pub returns-in-Ok-clause-ok : goal.returns-in-Ok-clause-ok
returns-in-Ok-clause-ok c = λ q. joined_has c.args.self.now.lasts c.insert.new.self c.remove.new.self c.args.number c.in-Some.first c.unwrap_or-last.result c.insert.ensures.was_ordered c.remove.ensures.ordered c.args.self.now.forward c.args.self.now.apart c.in-Some.ensures.below c.in-Some.ensures.starts c.in-Some.ensures.free c.in-Some.ensures.ends
    (c.unwrap_or-last.ensures ∙ ap (λ (o : Option ℕ). unwrap_or o c.args.number) (c.copied.ensures ∙ c.get.ensures.value)) c.in-Ok.ensures.updates.0 c.remove.ensures.updates.0 q
