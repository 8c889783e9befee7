use Rattle.xd_worker_runner.proofs.Over.{runs_over}
use Rattle.xd_worker_runner.proofs.runner.RunnerJob.run.Goals as goal

pub returns-clause-over : goal.returns-clause-over
returns-clause-over g c = runs_over _ _ _ _ _ _ c.carry_out.ensures.runs
