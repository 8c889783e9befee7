use Rattle.std.proofs.Common.{◌≡◌, ◌+◌, ◌∙◌, ap, arith, get_or, length}
use Rattle.std.proofs.lemmas.Grind.{common_steps}
use Rattle.xd_ledger.proofs.ChainCalls.{last_at}
use Rattle.xd_ledger.proofs.chains.Chains.last.Goals as goal

pub returns : goal.returns
returns c =
    let e : c.len.result + c.args.chain ≡ length c.self.inside.owner.items + c.args.chain = grind (arith, common_steps) in
    let r = c.index.ensures ∙ ap (λ i. get_or c.self.inside.previous.items i c.index.result.now) e in
    c.item_at.ensures ∙ last_at c.self.inside.next.items c.self.inside.previous.items c.self.inside.owner.items c.self.inside.counts.items c.args.self.now c.args.chain c.index.result.now c.self.view_is c.self.invariant c.requires r
