use Rattle.std.proofs.Common.{◌∙◌, sym}
use Rattle.xd_ledger.specs.Chains.{chain_at}
use Rattle.xd_ledger.proofs.Fills.{released_again, released_once}
use Rattle.xd_ledger.proofs.ledger.release_first.Goals as goal

pub returns-then-retry-clause-lists : goal.returns-then-retry-clause-lists
returns-then-retry-clause-lists c =
    released_again c.args.retry c.args.chain c.in_ok-item.item (chain_at c.args.chains.now) (chain_at c.take.new.self) (chain_at c.put_first.new.self) c.if-retry.true c.requires.apart
    (sym c.first.ensures ∙ c.in_ok-item.was) (c.requires.once c.in_ok-item.item) c.take.ensures.lists c.put_first.ensures.lists

pub returns-clause-lists : goal.returns-clause-lists
returns-clause-lists c =
    released_once c.args.retry c.args.chain c.in_ok-item.item (chain_at c.args.chains.now) (chain_at c.take.new.self) c.if-retry.false c.requires.apart
    (sym c.first.ensures ∙ c.in_ok-item.was) (c.requires.once c.in_ok-item.item) c.take.ensures.lists
