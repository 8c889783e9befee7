use Rattle.std.proofs.Common.{◌+◌, ◌<◌, ◌∙◌, ◌++◌, ◌∷◌, [], List, ℕ, ap, sym, arith, drop, length}
use Rattle.std.proofs.lemmas.Grind.{common_steps}
use Rattle.xd_ledger.specs.Chains.{chain_at, number_count}
use Rattle.xd_ledger.proofs.Links.{first_or}
use Rattle.xd_ledger.proofs.Walks.{walks_on}
use Rattle.xd_ledger.proofs.chains.Chains.copy_first.Goals as goal

pub index-place-requires-in-loop-i : goal.index-place-requires-in-loop-i
index-place-requires-in-loop-i c =
    let e = ap number_count c.self.view_is in
    let low : c.loop-i.i < length (chain_at c.args.self.now c.args.chain) = omega arith in
    let k = walks_on c.self.inside.next.items c.self.inside.previous.items c.self.inside.owner.items c.self.inside.counts.items c.args.self.now c.args.chain c.loop-i.i c.loop-i.place c.self.view_is c.self.invariant c.requires.known low (c.loop-i.invariant.place ∙ ap (λ n. first_or (n + c.args.chain) (drop c.loop-i.i (chain_at c.args.self.now c.args.chain))) (sym e)) in
    let f = k.fits in grind (arith, common_steps)

pub loop-i-preserved : goal.loop-i-preserved
loop-i-preserved c =
    let e = ap number_count c.self.view_is in
    let low : c.loop-i.i < length (chain_at c.args.self.now c.args.chain) = omega arith in
    let k = walks_on c.self.inside.next.items c.self.inside.previous.items c.self.inside.owner.items c.self.inside.counts.items c.args.self.now c.args.chain c.loop-i.i c.loop-i.place c.self.view_is c.self.invariant c.requires.known low (c.loop-i.invariant.place ∙ ap (λ n. first_or (n + c.args.chain) (drop c.loop-i.i (chain_at c.args.self.now c.args.chain))) (sym e)) in
    record { items = c.in_ok-push.ensures.items ∙ ap (λ (xs : List ℕ). xs ++ c.loop-i.place ∷ []) c.loop-i.invariant.items ∙ k.taken; place = k.onward c.index-place-in-loop-i.result.now c.index-place-in-loop-i.ensures ∙ ap (λ n. first_or (n + c.args.chain) (drop (c.loop-i.i + 1) (chain_at c.args.self.now c.args.chain))) e }
