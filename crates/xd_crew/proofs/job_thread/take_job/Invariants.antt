use Rattle.std.proofs.Common.{◌≡◌}
use Rattle.rtrb.specs.Ring.{received, SameConsumer}
use Rattle.xd_crew.proofs.job_thread.take_job.Given as goal

abbrev pub invariant-loop : goal.invariant-loop
invariant-loop g l = (received l.from ≡ received l.initial.from) × SameConsumer l.initial.from l.from
