use Rattle.std.proofs.Common.{◌∷◌, sym, ◌∙◌}
use Rattle.xd_worker.specs.History.{worker_after}
use Rattle.xd_worker.proofs.Known.{all_known_tests}
use Rattle.xd_worker.proofs.Opens.{log_law}
use Rattle.xd_worker.proofs.worker.WorkerCore.step.Goals as goal

pub returns-in-Ok-clause-stood : goal.returns-in-Ok-clause-stood
returns-in-Ok-clause-stood c = λ s.
    let r = c.in-Ok.ensures.answers (worker_after s.0) s.1 (log_law.opens s.0) in
    (r.heard ∷ s.0, r.worker)

pub returns-in-Ok-clause-command : goal.returns-in-Ok-clause-command
returns-in-Ok-clause-command c = λ s test e.
    let r = c.in-Ok.ensures.answers (worker_after s.0) s.1 (log_law.opens s.0) in
    (r.heard ∷ s.0, r.worker, all_known_tests.starts s.0 r.heard test (sym r.run ∙ e))

pub returns-in-Ok-clause-answers : goal.returns-in-Ok-clause-answers
returns-in-Ok-clause-answers c = λ h s. c.in-Ok.ensures.answers (worker_after h) s (log_law.opens h)
