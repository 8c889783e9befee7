use Rattle.std.proofs.Common.{◌≡◌, drop}
use Rattle.xd_ledger.specs.Posts.{chain_in}
use Rattle.xd_ledger.proofs.ledger.chain_of.Given as goal

abbrev pub invariant-loop-i : goal.invariant-loop-i
invariant-loop-i l = chain_in l.worker (drop l.i l.rota) ≡ chain_in l.worker l.rota
