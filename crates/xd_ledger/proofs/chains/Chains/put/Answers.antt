use Rattle.std.proofs.Common.{◌≡◌, ◌+◌, ◌∙◌, ap, arith, length, get_or}
use Rattle.std.proofs.lemmas.Grind.{common_steps}
use Rattle.xd_ledger.proofs.ChainCalls.{put_room_at, put_done}
use Rattle.xd_ledger.proofs.chains.Chains.put.Goals as goal

pub index_mut-requires : goal.index_mut-requires
index_mut-requires c =
    let r = put_room_at c.self.inside.next.items c.self.inside.previous.items c.self.inside.owner.items c.self.inside.counts.items c.args.self.now c.args.chain c.args.item c.self.view_is c.self.invariant c.requires.known c.requires.below in
    let e : c.len.result + c.args.chain ≡ length c.self.inside.owner.items + c.args.chain = grind (arith, common_steps) in
    let f = r.to_last c.index-last.result.now (c.index-last.ensures ∙ ap (λ i. get_or c.self.inside.previous.items i c.index-last.result.now) e) in
    grind (arith, common_steps)

pub overflow_add-index_mut : goal.overflow_add-index_mut
overflow_add-index_mut c =
    let r = put_room_at c.self.inside.next.items c.self.inside.previous.items c.self.inside.owner.items c.self.inside.counts.items c.args.self.now c.args.chain c.args.item c.self.view_is c.self.invariant c.requires.known c.requires.below in
    let f = r.few c.index_mut-6.result.now c.index_mut-6.ensures.value in
    omega arith

pub invariant_of-self : goal.invariant_of-self
invariant_of-self c = (put_done c.self.inside.next.items c.self.inside.previous.items c.self.inside.owner.items c.self.inside.counts.items c.args.self.now c.args.chain c.args.item (c.len.result + c.args.chain) c.index-last.result.now c.index_mut-6.result.now c.self.view_is c.self.invariant c.requires.known c.requires.below c.requires.free (grind (arith, common_steps)) c.index-last.ensures c.index_mut-6.ensures.value).stand

pub returns-clause-lists : goal.returns-clause-lists
returns-clause-lists c = (put_done c.self.inside.next.items c.self.inside.previous.items c.self.inside.owner.items c.self.inside.counts.items c.args.self.now c.args.chain c.args.item (c.len.result + c.args.chain) c.index-last.result.now c.index_mut-6.result.now c.self.view_is c.self.invariant c.requires.known c.requires.below c.requires.free (grind (arith, common_steps)) c.index-last.ensures c.index_mut-6.ensures.value).are
