use Rattle.std.proofs.Common.{◌≡◌, ℕ, take}
use Rattle.xd_ledger.specs.Chains.{chain_at, number_count, chains_of, shifted}
use Rattle.xd_ledger.proofs.chains.Chains.shift_all.Given as goal

-- the numbers so far have gone
abbrev pub invariant-loop-i : goal.invariant-loop-i
invariant-loop-i l = record {
  lists : (j : ℕ) → chain_at l.self j ≡ shifted l.from l.to (take l.i l.items) (chain_at l.fn.self) j;
  items : number_count l.self ≡ number_count l.fn.self;
  chains : chains_of l.self ≡ chains_of l.fn.self;
}
