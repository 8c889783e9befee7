use Rattle.std.proofs.Common.{◌≡◌, ◌∙◌, length, sym, ap, subst, true, List, ℕ}
use Rattle.std.specs.Prelude.{sum}
use Rattle.std.proofs.lemmas.List.FromFn.{length-range_with_len}
use Rattle.xd_run.specs.Numbers.{among}
use Rattle.xd_load.specs.Slots.{items_in}
use Rattle.xd_load.proofs.SlotItems.{waiting-all}
use Rattle.xd_load.proofs.each.EachMode.share.Goals as goal

pub of-requires : goal.of-requires
of-requires c = sym (c.pool_len.ensures ∙ ap length c.requires.suits.finds.call.pool ∙ length-range_with_len 0 (sum c.args.sizes.now))

pub share-requires-clause-waiting : goal.share-requires-clause-waiting
share-requires-clause-waiting c = λ slot x h i.
    waiting-all c.args.slots.now c.args.sizes.now c.args.ledger.now.pool c.requires.suits.finds.call.pool slot x h
    (subst (λ (counts : List ℕ). among x (items_in slot counts) ≡ true) c.in_ok-self.ensures i)
