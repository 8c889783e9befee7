use Rattle.std.proofs.Common.{◌≡◌, drop, length}
use Rattle.std.specs.Prelude.{nat_lt}
use Rattle.std.specs.List.{list_all}
use Rattle.xd_ledger.specs.Chains.{chain_at}
use Rattle.xd_ledger.proofs.queries.all_below.Given as goal

abbrev pub invariant-loop-i : goal.invariant-loop-i
invariant-loop-i l = list_all (λ q. nat_lt (length (chain_at l.chains q.chain)) l.count) (drop l.i l.rota) ≡ list_all (λ q. nat_lt (length (chain_at l.chains q.chain)) l.count) l.rota
