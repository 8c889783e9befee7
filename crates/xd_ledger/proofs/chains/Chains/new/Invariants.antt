use Rattle.std.proofs.Common.{◌≡◌, ℕ, []}
use Rattle.std.specs.List.{range_with_len}
use Rattle.xd_ledger.specs.Chains.{chain_at, chains_of, changed}
use Rattle.xd_ledger.proofs.chains.Chains.new.Given as goal

abbrev pub invariant-loop-i : goal.invariant-loop-i
invariant-loop-i l = record {
  lists : (j : ℕ) → chain_at l.made j ≡ changed 0 (range_with_len 0 l.items) (λ _. []) j;
  chains : chains_of l.made ≡ l.i;
}
