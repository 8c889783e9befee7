use Rattle.xd_ledger.proofs.ChainCalls.{count_tells}
use Rattle.xd_ledger.proofs.chains.Chains.len.Goals as goal

pub returns : goal.returns
returns c = count_tells c.self.inside.next.items c.self.inside.previous.items c.self.inside.owner.items c.self.inside.counts.items c.args.self.now c.args.chain c.index.result.now c.self.view_is c.self.invariant c.requires c.index.ensures
