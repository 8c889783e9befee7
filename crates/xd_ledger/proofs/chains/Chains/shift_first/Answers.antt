use Rattle.std.proofs.Common.{◌≡◌, ◌+◌, ◌∙◌, ap, arith, get_or, length}
use Rattle.std.proofs.lemmas.Grind.{common_steps}
use Rattle.xd_ledger.specs.Chains.{chain_at}
use Rattle.xd_ledger.proofs.ChainCalls.{first_is_at, first_shifted}
use Rattle.xd_ledger.proofs.chains.Chains.shift_first.Goals as goal

pub shift-requires-clause-within : goal.shift-requires-clause-within
shift-requires-clause-within c =
    let e : c.len.result + c.args.from ≡ length c.self.inside.owner.items + c.args.from = grind (arith, common_steps) in
    let r = c.index-item.ensures ∙ ap (λ i. get_or c.self.inside.next.items i c.index-item.result.now) e in
    (first_is_at c.self.inside.next.items c.self.inside.previous.items c.self.inside.owner.items c.self.inside.counts.items c.args.self.now c.args.from c.index-item.result.now c.self.view_is c.self.invariant c.requires.known.0 c.requires.some r).there

pub returns-clause-lists : goal.returns-clause-lists
returns-clause-lists c =
    let e : c.len.result + c.args.from ≡ length c.self.inside.owner.items + c.args.from = grind (arith, common_steps) in
    let r = c.index-item.ensures ∙ ap (λ i. get_or c.self.inside.next.items i c.index-item.result.now) e in
    first_shifted c.self.inside.next.items c.self.inside.previous.items c.self.inside.owner.items c.self.inside.counts.items c.args.self.now (chain_at c.shift.new.self) c.args.from c.args.to c.index-item.result.now c.self.view_is c.self.invariant c.requires.known.0 c.requires.some r c.shift.ensures.lists
