use Rattle.std.proofs.Common.{◌≡◌, ◌+◌, ◌-◌, ◌<◌, ◌∙◌, ◌∷◌, [], List, ℕ, ap, sym, arith, take, drop, length, get_or}
use Rattle.std.specs.Prelude.{reverse}
use Rattle.std.proofs.lemmas.Grind.{common_steps}
use Rattle.std.proofs.lemmas.List.{reverse-append}
use Rattle.xd_ledger.specs.Chains.{chain_at, number_count}
use Rattle.xd_ledger.proofs.Links.{last_or}
use Rattle.xd_ledger.proofs.Walks.{walks_back, walk_ends, no_drop, whole_take}
use Rattle.xd_ledger.proofs.chains.Chains.copy_last.Goals as goal

pub loop-i-init : goal.loop-i-init
loop-i-init c =
    let xs : List ℕ = chain_at c.args.self.now c.args.chain in
    let e = ap number_count c.self.view_is in
    let n : c.len.result + c.args.chain ≡ length c.self.inside.owner.items + c.args.chain = grind (arith, common_steps) in
    let r = c.index-place.ensures ∙ ap (λ i. get_or c.self.inside.previous.items i c.index-place.result.now) n in
    let k = walk_ends c.self.inside.next.items c.self.inside.previous.items c.self.inside.owner.items c.self.inside.counts.items c.args.self.now c.args.chain c.index-place.result.now c.self.view_is c.self.invariant c.requires.known r in
    let none = c.in_ok-items.ensures.items in
    record {
      items = ap reverse none ∙ sym (no_drop xs);
      place = k ∙ ap (λ m. last_or (m + c.args.chain) xs) e ∙ ap (last_or (number_count c.args.self.now + c.args.chain)) (sym (whole_take xs));
    }

pub index-place-requires-in-loop-i : goal.index-place-requires-in-loop-i
index-place-requires-in-loop-i c =
    let e = ap number_count c.self.view_is in
    let xs : List ℕ = chain_at c.args.self.now c.args.chain in
    let low : c.loop-i.i < length xs = omega arith in
    let k = walks_back c.self.inside.next.items c.self.inside.previous.items c.self.inside.owner.items c.self.inside.counts.items c.args.self.now c.args.chain c.loop-i.i c.loop-i.place c.self.view_is c.self.invariant c.requires.known low (c.loop-i.invariant.place ∙ ap (λ n. last_or (n + c.args.chain) (take (length xs - c.loop-i.i) xs)) (sym e)) in
    let f = k.fits in grind (arith, common_steps)

pub loop-i-preserved : goal.loop-i-preserved
loop-i-preserved c =
    let e = ap number_count c.self.view_is in
    let xs : List ℕ = chain_at c.args.self.now c.args.chain in
    let low : c.loop-i.i < length xs = omega arith in
    let k = walks_back c.self.inside.next.items c.self.inside.previous.items c.self.inside.owner.items c.self.inside.counts.items c.args.self.now c.args.chain c.loop-i.i c.loop-i.place c.self.view_is c.self.invariant c.requires.known low (c.loop-i.invariant.place ∙ ap (λ n. last_or (n + c.args.chain) (take (length xs - c.loop-i.i) xs)) (sym e)) in
    record {
      items = ap reverse c.in_ok-push.ensures.items ∙ reverse-append c.loop-i.items.items (c.loop-i.place ∷ []) ∙ ap (λ (ys : List ℕ). c.loop-i.place ∷ ys) c.loop-i.invariant.items ∙ k.taken;
      place = k.onward c.index-place-in-loop-i.result.now c.index-place-in-loop-i.ensures ∙ ap (λ n. last_or (n + c.args.chain) (take (length xs - (c.loop-i.i + 1)) xs)) e;
    }

pub returns : goal.returns
returns c =
    let xs : List ℕ = chain_at c.args.self.now c.args.chain in
    let n : c.loop-i.i ≡ c.args.count = omega arith in
    c.reverse.ensures.items ∙ c.loop-i.invariant.items ∙ ap (λ i. drop (length xs - i) xs) n
