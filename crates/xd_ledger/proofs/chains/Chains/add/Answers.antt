use Rattle.std.proofs.Common.{◌≡◌, ap, ◌∙◌, arith, List, ℕ, [], ◌∷◌, ◌++◌, length, ◌<◌}
use Rattle.std.proofs.lemmas.Grind.{common_steps}
use Rattle.xd_ledger.specs.Chains.{chain_at, chains_of}
use Rattle.xd_ledger.proofs.NewChains.{added}
use Rattle.xd_ledger.proofs.chains.Chains.add.Goals as goal

pub invariant_of-self-2 : goal.invariant_of-self-2
invariant_of-self-2 c =
    let few : length c.self.inside.counts.items < 4000000000 = (let e = ap chains_of c.self.view_is in omega arith) in
    let end : c.len-end.result ≡ length c.self.inside.next.items = grind (arith, common_steps) in
    (added c.self.inside.next.items c.self.inside.previous.items c.self.inside.owner.items c.self.inside.counts.items _ _ _ c.len-end.result c.self.invariant few end
    (c.push_reserved.ensures.items ∙ ap (λ (xs : List ℕ). xs ++ c.len-end.result ∷ []) c.reserve.ensures.items)
    (c.push_reserved-2.ensures.items ∙ ap (λ (xs : List ℕ). xs ++ c.len-end.result ∷ []) c.reserve-2.ensures.items)
    (c.push_reserved-3.ensures.items ∙ ap (λ (xs : List ℕ). xs ++ 0 ∷ []) c.reserve-3.ensures.items)).stand

pub returns-clause-lists : goal.returns-clause-lists
returns-clause-lists c =
    let few : length c.self.inside.counts.items < 4000000000 = (let e = ap chains_of c.self.view_is in omega arith) in
    let end : c.len-end.result ≡ length c.self.inside.next.items = grind (arith, common_steps) in
    λ j. (added c.self.inside.next.items c.self.inside.previous.items c.self.inside.owner.items c.self.inside.counts.items _ _ _ c.len-end.result c.self.invariant few end
    (c.push_reserved.ensures.items ∙ ap (λ (xs : List ℕ). xs ++ c.len-end.result ∷ []) c.reserve.ensures.items)
    (c.push_reserved-2.ensures.items ∙ ap (λ (xs : List ℕ). xs ++ c.len-end.result ∷ []) c.reserve-2.ensures.items)
    (c.push_reserved-3.ensures.items ∙ ap (λ (xs : List ℕ). xs ++ 0 ∷ []) c.reserve-3.ensures.items)).are j ∙ ap (λ l. chain_at l j) c.self.view_is
