use Rattle.std.proofs.Common.{◌∙◌, ap, refl, arith, take, List, ℕ}
use Rattle.xd_ledger.specs.Chains.{chain_at, shifted}
use Rattle.xd_ledger.proofs.ChainCalls.{shift_none, shift_more, still_there, take-next, take-whole}
use Rattle.xd_ledger.proofs.chains.Chains.shift_all.Goals as goal

pub loop-i-init : goal.loop-i-init
loop-i-init c = record { lists = shift_none c.args.from c.args.to (chain_at c.args.self.now); items = refl; chains = refl }

pub shift-requires-clause-within : goal.shift-requires-clause-within
shift-requires-clause-within c = still_there c.args.from c.args.to c.args.items.now (chain_at c.args.self.now) (chain_at c.loop-i.self) c.loop-i.i _ 0 c.requires.apart c.requires.distinct c.requires.within c.loop-i-test.true refl c.loop-i.invariant.lists

pub loop-i-preserved : goal.loop-i-preserved
loop-i-preserved c = record {
  lists = λ j. shift_more c.args.from c.args.to _ (take c.loop-i.i c.args.items.now) (chain_at c.args.self.now) (chain_at c.loop-i.self) (chain_at c.shift.new.self) c.requires.apart c.loop-i.invariant.lists c.shift.ensures.lists j
      ∙ ap (λ (ys : List ℕ). shifted c.args.from c.args.to ys (chain_at c.args.self.now) j) (take-next c.args.items.now c.loop-i.i _ 0 c.loop-i-test.true refl);
  items = c.shift.ensures.items ∙ c.loop-i.invariant.items;
  chains = c.shift.ensures.chains ∙ c.loop-i.invariant.chains;
}

pub returns-clause-lists : goal.returns-clause-lists
returns-clause-lists c = λ j. c.loop-i.invariant.lists j ∙ ap (λ (ys : List ℕ). shifted c.args.from c.args.to ys (chain_at c.args.self.now) j) (take-whole c.args.items.now c.loop-i.i (omega arith))
