use Rattle.std.proofs.Common.{◌≡◌, ◌+◌, take, drop}
use Rattle.xd_ledger.specs.Chains.{chain_at, number_count}
use Rattle.xd_ledger.proofs.Links.{first_or}
use Rattle.xd_ledger.proofs.chains.Chains.copy_first.Given as goal

abbrev pub invariant-loop-i : goal.invariant-loop-i
invariant-loop-i l = record {
  items : l.items.items ≡ take l.i (chain_at l.fn.self l.chain);
  place : l.place ≡ first_or (number_count l.fn.self + l.chain) (drop l.i (chain_at l.fn.self l.chain));
}
