use Rattle.std.proofs.Common.{ap, ◌∙◌, List, ℕ, [], ◌∷◌, ◌++◌}
use Rattle.std.specs.List.{range_with_len}
use Rattle.xd_ledger.proofs.NewChains.{new_gives}
use Rattle.xd_ledger.proofs.chains.Chains.one.Goals as goal

pub invariant_of-result : goal.invariant_of-result
invariant_of-result c = (new_gives c.push.new.self.items c.add_range-2.new.list.items c.in_ok-owner.owner.items c.in_ok-counts.counts.items c.args.items c.requires
    (c.in_ok-push.ensures.items ∙ ap (λ (xs : List ℕ). xs ++ 0 ∷ []) (c.in_ok-add_range.ensures ∙ ap (λ (xs : List ℕ). xs ++ range_with_len 1 c.args.items) c.in_ok-next.ensures.items))
    (c.in_ok-add_range-2.ensures ∙ ap (λ (xs : List ℕ). xs ++ range_with_len 0 c.args.items) (c.in_ok-push-2.ensures.items ∙ ap (λ (xs : List ℕ). xs ++ c.args.items ∷ []) c.in_ok-previous.ensures.items))
    c.in_ok-owner.ensures c.in_ok-counts.ensures.items).stand

pub returns-clause-first : goal.returns-clause-first
returns-clause-first c = (new_gives c.push.new.self.items c.add_range-2.new.list.items c.in_ok-owner.owner.items c.in_ok-counts.counts.items c.args.items c.requires
    (c.in_ok-push.ensures.items ∙ ap (λ (xs : List ℕ). xs ++ 0 ∷ []) (c.in_ok-add_range.ensures ∙ ap (λ (xs : List ℕ). xs ++ range_with_len 1 c.args.items) c.in_ok-next.ensures.items))
    (c.in_ok-add_range-2.ensures ∙ ap (λ (xs : List ℕ). xs ++ range_with_len 0 c.args.items) (c.in_ok-push-2.ensures.items ∙ ap (λ (xs : List ℕ). xs ++ c.args.items ∷ []) c.in_ok-previous.ensures.items))
    c.in_ok-owner.ensures c.in_ok-counts.ensures.items).first
