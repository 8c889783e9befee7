use Rattle.std.proofs.Common.{◌≡◌, ◌∙◌, List, ℕ, true, subst, sym}
use Rattle.std.specs.Prelude.{slice_index}
use Rattle.xd_run.specs.Numbers.{all_distinct}
use Rattle.xd_ledger.proofs.Lists.{distinct-range}
use Rattle.xd_load.specs.Slots.{first_in}
use Rattle.xd_load.proofs.slots.tell_all.Goals as goal

pub assign-requires-clause-distinct : goal.assign-requires-clause-distinct
assign-requires-clause-distinct c =
    let counts = c.args.sizes.now in
    subst (λ (xs : List ℕ). all_distinct xs ≡ true) (sym (c.deref.ensures.value ∙ c.items-2.view_is ∙ c.in_ok-items.ensures)) (distinct-range (first_in c.args.slot counts) (slice_index counts c.args.slot))
