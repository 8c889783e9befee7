use Rattle.std.proofs.Common.{arith, ap}
use Rattle.std.proofs.lemmas.Grind.{common_steps}
use Rattle.xd_ledger.specs.Chains.{number_count}
use Rattle.xd_ledger.proofs.ChainCalls.{take_room_at, take_done}
use Rattle.xd_ledger.proofs.chains.Chains.take.Goals as goal

pub index-next-requires : goal.index-next-requires
index-next-requires c = let r = (take_room_at c.self.inside.next.items c.self.inside.previous.items c.self.inside.owner.items c.self.inside.counts.items c.args.self.now c.args.chain c.args.item c.self.view_is c.self.invariant c.requires.known c.requires.within).next_fits in grind (arith, common_steps)

pub index-previous-requires : goal.index-previous-requires
index-previous-requires c = let r = (take_room_at c.self.inside.next.items c.self.inside.previous.items c.self.inside.owner.items c.self.inside.counts.items c.args.self.now c.args.chain c.args.item c.self.view_is c.self.invariant c.requires.known c.requires.within).back_fits in grind (arith, common_steps)

pub index_mut-requires : goal.index_mut-requires
index_mut-requires c = let r = (take_room_at c.self.inside.next.items c.self.inside.previous.items c.self.inside.owner.items c.self.inside.counts.items c.args.self.now c.args.chain c.args.item c.self.view_is c.self.invariant c.requires.known c.requires.within).to_back c.index-previous.result.now c.index-previous.ensures in grind (arith, common_steps)

pub index_mut-requires-2 : goal.index_mut-requires-2
index_mut-requires-2 c = let r = (take_room_at c.self.inside.next.items c.self.inside.previous.items c.self.inside.owner.items c.self.inside.counts.items c.args.self.now c.args.chain c.args.item c.self.view_is c.self.invariant c.requires.known c.requires.within).to_next c.index-next.result.now c.index-next.ensures in grind (arith, common_steps)

pub index_mut-requires-3 : goal.index_mut-requires-3
index_mut-requires-3 c = let r = (take_room_at c.self.inside.next.items c.self.inside.previous.items c.self.inside.owner.items c.self.inside.counts.items c.args.self.now c.args.chain c.args.item c.self.view_is c.self.invariant c.requires.known c.requires.within).owner_fits in grind (arith, common_steps)

pub invariant_of-self : goal.invariant_of-self
invariant_of-self c = (take_done c.self.inside.next.items c.self.inside.previous.items c.self.inside.owner.items c.self.inside.counts.items c.args.self.now c.args.chain c.args.item c.index-next.result.now c.index-previous.result.now c.index_mut-4.result.now c.self.view_is c.self.invariant c.requires.known c.requires.within c.index-next.ensures c.index-previous.ensures c.index_mut-4.ensures.value).stand

pub returns-clause-lists : goal.returns-clause-lists
returns-clause-lists c = (take_done c.self.inside.next.items c.self.inside.previous.items c.self.inside.owner.items c.self.inside.counts.items c.args.self.now c.args.chain c.args.item c.index-next.result.now c.index-previous.result.now c.index_mut-4.result.now c.self.view_is c.self.invariant c.requires.known c.requires.within c.index-next.ensures c.index-previous.ensures c.index_mut-4.ensures.value).are

pub returns-clause-below : goal.returns-clause-below
returns-clause-below c = let h = (take_room_at c.self.inside.next.items c.self.inside.previous.items c.self.inside.owner.items c.self.inside.counts.items c.args.self.now c.args.chain c.args.item c.self.view_is c.self.invariant c.requires.known c.requires.within).owner_fits in let e = ap number_count c.self.view_is in omega arith
