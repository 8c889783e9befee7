use Rattle.std.proofs.Common.{◌≡◌, ℕ}
use Rattle.xd_ledger.specs.Chains.{chain_at, number_count, chains_of, poured}
use Rattle.xd_ledger.proofs.chains.Chains.pour.Given as goal

-- n numbers have gone
abbrev pub invariant-loop-i : goal.invariant-loop-i
invariant-loop-i l = record {
  lists : (j : ℕ) → chain_at l.self j ≡ poured l.i l.from l.to (chain_at l.fn.self) j;
  items : number_count l.self ≡ number_count l.fn.self;
  chains : chains_of l.self ≡ chains_of l.fn.self;
}
