use Rattle.std.proofs.Common.{◌∙◌}
use Rattle.xd_ledger.specs.Chains.{chain_at}
use Rattle.xd_ledger.proofs.ChainCalls.{pour_more}
use Rattle.xd_ledger.proofs.chains.Chains.pour.Goals as goal

pub loop-i-preserved : goal.loop-i-preserved
loop-i-preserved c = record {
  lists = pour_more c.loop-i.i c.args.from c.args.to (chain_at c.args.self.now) (chain_at c.loop-i.self) (chain_at c.shift_first.new.self) c.requires.apart c.loop-i.invariant.lists c.shift_first.ensures.lists;
  items = c.shift_first.ensures.items ∙ c.loop-i.invariant.items;
  chains = c.shift_first.ensures.chains ∙ c.loop-i.invariant.chains;
}
