use Rattle.xd_worker_serve.proofs.Beginning.{closes_by}
use Rattle.xd_worker_serve.proofs.server.Server.close.Goals as goal

pub returns-clause-closes : goal.returns-clause-closes
returns-clause-closes g c = closes_by c.close.result c.is_ok.result _ _ _ _ c.is_ok.ensures.value c.close.ensures.closed c.close.ensures.kept c.close.ensures.counted
