use Rattle.std.proofs.Common.{◌≡◌, ◌+◌, drop}
use Rattle.xd_ledger.specs.Chains.{chain_at, number_count}
use Rattle.xd_ledger.proofs.Links.{first_or}
use Rattle.xd_ledger.proofs.chains.Chains.at.Given as goal

abbrev pub invariant-loop-i : goal.invariant-loop-i
invariant-loop-i l = l.item ≡ first_or (number_count l.fn.self + l.chain) (drop l.i (chain_at l.fn.self l.chain))
