use Rattle.std.proofs.Common.{◌≡◌, ◌<◌, ◌+◌, ◌-◌, ◌∙◌, ℕ, Option, take, drop, length, sym, ap, subst, arith, rules}
use Rattle.std.specs.Option.{IsSome}
use Rattle.xd_ledger.specs.Chains.{final_of}
use Rattle.xd_run.specs.Numbers.{among}
use Rattle.xd_run.specs.Table.{held_by_all}
use Rattle.xd_ledger.proofs.Lists.{among-at, final-take}
use Rattle.xd_scope.specs.Stands.{IsSetOf}
use Rattle.xd_scope.proofs.Remains.{in-pool, last-at, previous-at, set-more}
use Rattle.xd_scope.proofs.fallen.last_items.Goals as goal

pub unwrap-item-requires : goal.unwrap-item-requires
unwrap-item-requires c =
    let pool = c.args.ledger.now.pool in
    let k = length pool - (c.loop-done.done + 1) in
    let lt : k < length pool = omega (arith, c.requires.within) in
    let n : length pool - c.loop-done.done ≡ k + 1 = omega (arith, c.requires.within) in
    let e = c.loop-done.invariant.next ∙ ap (λ (m : ℕ). final_of (take m pool)) n ∙ final-take pool k lt in
    subst (λ (o : Option ℕ). IsSome o) (sym e) (search rules)

pub previous_item-next-requires : goal.previous_item-next-requires
previous_item-next-requires c =
    let pool = c.args.ledger.now.pool in
    let k = length pool - (c.loop-done.done + 1) in
    let lt : k < length pool = omega (arith, c.requires.within) in
    let n : length pool - c.loop-done.done ≡ k + 1 = omega (arith, c.requires.within) in
    let at = last-at pool k c.unwrap-item.result lt (sym c.unwrap-item.ensures ∙ c.loop-done.invariant.next ∙ ap (λ (m : ℕ). final_of (take m pool)) n) in
    record { stands = in-pool pool (held_by_all c.args.ledger.now.rota) k c.unwrap-item.result lt at }

pub loop-done-preserved : goal.loop-done-preserved
loop-done-preserved c =
    let pool = c.args.ledger.now.pool in
    let k = length pool - (c.loop-done.done + 1) in
    let lt : k < length pool = omega (arith, c.requires.within) in
    let n : length pool - c.loop-done.done ≡ k + 1 = omega (arith, c.requires.within) in
    let at = last-at pool k c.unwrap-item.result lt (sym c.unwrap-item.ensures ∙ c.loop-done.invariant.next ∙ ap (λ (m : ℕ). final_of (take m pool)) n) in
    record {
      next = previous-at pool k c.unwrap-item.result c.previous_item-next.result lt c.requires.distinct at (c.previous_item-next.ensures.pool (ap (λ (x : ℕ). among x pool) at ∙ among-at pool k lt));
      set = set-more pool k c.unwrap-item.result c.loop-done.items c.insert.new.self lt at (subst (λ (m : ℕ). IsSetOf (drop m pool) c.loop-done.items) n c.loop-done.invariant.set) (c.in_ok-insert.ensures.updates.0);
    }
