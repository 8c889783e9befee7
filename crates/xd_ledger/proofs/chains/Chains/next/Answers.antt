use Rattle.std.proofs.Common.{◌∙◌, ◌<◌, ◌≤◌, ap, arith, length}
use Rattle.std.proofs.lemmas.Grind.{common_steps}
use Rattle.xd_ledger.specs.Chains.{number_count}
use Rattle.xd_ledger.proofs.ChainCalls.{next_is_at, not_owned}
use Rattle.xd_ledger.proofs.chains.Chains.next.Goals as goal

pub returns-then-item-len : goal.returns-then-item-len
returns-then-item-len c =
    let e = ap number_count c.self.view_is in
    let b : c.args.item < number_count c.args.self.now = grind (arith, common_steps) in
    λ k h a. c.item_at.ensures ∙ next_is_at c.self.inside.next.items c.self.inside.previous.items c.self.inside.owner.items c.self.inside.counts.items c.args.self.now c.args.item c.index.result.now k c.self.view_is c.self.invariant b c.index.ensures h a

pub returns-else-item-len : goal.returns-else-item-len
returns-else-item-len c =
    let far : length c.self.inside.owner.items ≤ c.args.item = grind (arith, common_steps) in
    λ k h a. absurd (let n = not_owned c.self.inside.next.items c.self.inside.previous.items c.self.inside.owner.items c.self.inside.counts.items c.args.self.now k c.args.item c.self.view_is c.self.invariant h far in cc)
