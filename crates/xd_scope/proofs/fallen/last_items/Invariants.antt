use Rattle.std.proofs.Common.{◌≡◌, ◌-◌, take, drop, length}
use Rattle.xd_ledger.specs.Chains.{final_of}
use Rattle.xd_scope.specs.Stands.{IsSetOf}
use Rattle.xd_scope.proofs.fallen.last_items.Given as goal

abbrev pub invariant-loop-done : goal.invariant-loop-done
invariant-loop-done l = record {
  next : l.next ≡ final_of (take (length l.ledger.pool - l.done) l.ledger.pool);
  set : IsSetOf (drop (length l.ledger.pool - l.done) l.ledger.pool) l.items;
}
