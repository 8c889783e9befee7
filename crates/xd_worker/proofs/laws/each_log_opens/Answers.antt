use Rattle.xd_worker.proofs.Opens.{log_law}
use Rattle.xd_worker.proofs.laws.each_log_opens.Goals as goal

pub returns : goal.returns
returns c = log_law
