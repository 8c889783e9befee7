use Rattle.std.specs.Prelude.{◌≡◌, max, drop}
use Rattle.xd_run.specs.Worksteal.{most, open_seats}
use Rattle.xd_steal.proofs.Rota.{open_in}
use Rattle.xd_steal.proofs.workers.most.Given as goal

abbrev pub invariant-loop-place : goal.invariant-loop-place
invariant-loop-place l = max l.most (most (open_in (drop l.place l.fn.ledger.rota))) ≡ most (open_seats l.fn.ledger)
