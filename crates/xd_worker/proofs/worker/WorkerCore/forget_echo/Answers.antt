use Rattle.std.proofs.Common.{ℕ, rules}
use Rattle.std.specs.Prelude.{◌==◌, not}
use Rattle.std.proofs.lemmas.Fn.{filter_same}
use Rattle.xd_worker.proofs.worker.WorkerCore.forget_echo.Goals as goal

pub returns-clause-echoes : goal.returns-clause-echoes
returns-clause-echoes c = filter_same _ (λ (m : ℕ). not (m == c.args.number)) _ (λ x b f' k. search rules) _ _ c.retain.ensures.filtered
