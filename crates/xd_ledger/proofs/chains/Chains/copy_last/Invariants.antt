use Rattle.std.proofs.Common.{◌≡◌, ◌+◌, ◌-◌, take, drop, length}
use Rattle.std.specs.Prelude.{reverse}
use Rattle.xd_ledger.specs.Chains.{chain_at, number_count}
use Rattle.xd_ledger.proofs.Links.{last_or}
use Rattle.xd_ledger.proofs.chains.Chains.copy_last.Given as goal

abbrev pub invariant-loop-i : goal.invariant-loop-i
invariant-loop-i l = record {
  items : reverse l.items.items ≡ drop (length (chain_at l.fn.self l.chain) - l.i) (chain_at l.fn.self l.chain);
  place : l.place ≡ last_or (number_count l.fn.self + l.chain) (take (length (chain_at l.fn.self l.chain) - l.i) (chain_at l.fn.self l.chain));
}
