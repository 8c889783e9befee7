use Rattle.xd_worker_serve.specs.Speaking.{greeting}
use Rattle.xd_frame.proofs.Written.{one_print}
use Rattle.xd_worker_serve.proofs.speaker.Speaker.begin.Goals as goal

pub returns-clause-writes : goal.returns-clause-writes
returns-clause-writes g c = one_print c.print.result c.is_err-is_broken.result greeting _ _ c.is_err-is_broken.ensures.value c.print.ensures.ok c.print.ensures.part
