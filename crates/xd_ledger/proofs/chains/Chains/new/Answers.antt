use Rattle.std.specs.List.{range_with_len}
use Rattle.xd_ledger.specs.Chains.{chain_at}
use Rattle.xd_ledger.proofs.NewChains.{one_list}
use Rattle.xd_ledger.proofs.chains.Chains.new.Goals as goal

pub loop-i-init : goal.loop-i-init
loop-i-init c = record { lists = one_list (range_with_len 0 c.args.items) (chain_at c.in_ok-made.made) c.in_ok-made.ensures.first c.in_ok-made.ensures.others; chains = c.in_ok-made.ensures.chains }
