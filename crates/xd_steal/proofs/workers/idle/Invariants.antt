use Rattle.std.specs.Prelude.{◌≡◌, ◌++◌, drop}
use Rattle.xd_run.specs.Worksteal.{idle}
use Rattle.xd_steal.proofs.Rota.{idle_in}
use Rattle.xd_steal.proofs.workers.idle.Given as goal

abbrev pub invariant-loop-place : goal.invariant-loop-place
invariant-loop-place l = l.items.items ++ idle_in (drop l.place l.fn.ledger.rota) ≡ idle l.fn.ledger
