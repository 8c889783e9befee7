use Rattle.std.proofs.Common.{List, ℕ, Option, sym, ap, ◌∙◌}
use Rattle.std.specs.Prelude.{unwrap_or, codes}
use Rattle.xd_worker.proofs.worker.WorkerCore.text_or_fail.Goals as goal

pub returns-in_ok-text-in-None : goal.returns-in_ok-text-in-None
returns-in_ok-text-in-None c = c.in_ok-text-in-None.ensures ∙ ap (λ (o : Option (List ℕ)). unwrap_or o (codes "fail")) (sym c.in-None.is)
