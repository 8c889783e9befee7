use Rattle.std.proofs.Common.{◌≡◌, ◌<◌, ◌∙◌, ◌++◌, ◌∷◌, [], ℕ, length, sym, ap, subst, arith}
use Rattle.std.specs.Prelude.{filter}
use Rattle.std.specs.List.{range_with_len}
use Rattle.std.proofs.lemmas.List.{take_all}
use Rattle.xd_run.specs.Numbers.{among}
use Rattle.xd_run.specs.Table.{held_by_all}
use Rattle.xd_ledger.proofs.Lists.{among-at}
use Rattle.xd_load.specs.Slots.{first_in, items_in}
use Rattle.xd_load.proofs.SlotItems.{filter-one_more, item-at, next-at, stands-in_pool}
use Rattle.xd_load.proofs.slots.remainder.Goals as goal

pub next_item-next-requires : goal.next_item-next-requires
next_item-next-requires c =
    let pool = c.args.ledger.now.pool in
    let lt : c.loop-place.place < length pool = omega (arith, c.pool_len-place-end.ensures) in
    let at = item-at pool c.loop-place.place c.unwrap-item.result lt (sym c.unwrap-item.ensures ∙ c.loop-place.invariant.next) in
    record { stands = stands-in_pool pool (held_by_all c.args.ledger.now.rota) c.loop-place.place c.unwrap-item.result lt at }

pub loop-place-preserved : goal.loop-place-preserved
loop-place-preserved c =
    let pool = c.args.ledger.now.pool in
    let lt : c.loop-place.place < length pool = omega (arith, c.pool_len-place-end.ensures) in
    let at = item-at pool c.loop-place.place c.unwrap-item.result lt (sym c.unwrap-item.ensures ∙ c.loop-place.invariant.next) in
    let test = λ (i : ℕ). among i (items_in c.args.slot c.args.sizes.now) in
    let one = subst (λ (a : ℕ). c.add_within.new.items.items ≡ c.loop-place.items.items ++ filter (λ i. among i (range_with_len a c.at-size.result)) (c.unwrap-item.result ∷ [])) c.first-first.ensures.first c.in_ok-add_within.ensures in
    let two = subst (λ (n : ℕ). c.add_within.new.items.items ≡ c.loop-place.items.items ++ filter (λ i. among i (range_with_len (first_in c.args.slot c.args.sizes.now) n)) (c.unwrap-item.result ∷ [])) c.at-size.ensures one in
    record {
      next = next-at pool c.loop-place.place c.unwrap-item.result c.next_item-next.result lt c.requires at (c.next_item-next.ensures.pool (ap (λ (x : ℕ). among x pool) at ∙ among-at pool c.loop-place.place lt));
      kept = filter-one_more test pool c.loop-place.place c.unwrap-item.result c.loop-place.items.items c.add_within.new.items.items lt at c.loop-place.invariant.kept two;
    }

pub returns : goal.returns
returns c = c.loop-place.invariant.kept ∙ ap (filter (λ i. among i (items_in c.args.slot c.args.sizes.now))) (take_all c.loop-place.place c.args.ledger.now.pool (omega (arith, c.pool_len-place-end.ensures)))
