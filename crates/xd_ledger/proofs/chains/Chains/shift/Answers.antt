use Rattle.xd_ledger.specs.Chains.{chain_at}
use Rattle.xd_ledger.proofs.ChainCalls.{shift_two}
use Rattle.xd_ledger.proofs.chains.Chains.shift.Goals as goal

pub returns-clause-lists : goal.returns-clause-lists
returns-clause-lists c = shift_two c.args.from c.args.to c.args.item (chain_at c.args.self.now) (chain_at c.take.new.self) (chain_at c.put.new.self) c.requires.apart c.take.ensures.lists c.put.ensures.lists
