use Rattle.std.specs.Prelude.{◌≡◌, drop, option_map}
use Rattle.xd_run.specs.Worksteal.{victim}
use Rattle.xd_steal.proofs.Rota.{first_in}
use Rattle.xd_steal.proofs.workers.victim.Given as goal

abbrev pub invariant-loop-place : goal.invariant-loop-place
invariant-loop-place l = first_in l.count (drop l.place l.fn.ledger.rota) ≡ option_map (λ s. s.worker) (victim l.fn.ledger)
