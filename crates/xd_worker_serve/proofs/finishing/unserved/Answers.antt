use Rattle.std.proofs.Common.{refl}
use Rattle.std.specs.Prelude.{is_ok}
use Rattle.xd_worker_serve.proofs.Beginning.{closes_by}
use Rattle.xd_worker_serve.proofs.finishing.unserved.Goals as goal

pub returns-clause-closes : goal.returns-clause-closes
returns-clause-closes g c = (is_ok c.close-closed.result, closes_by c.close-closed.result (is_ok c.close-closed.result) _ _ _ _ refl c.close-closed.ensures.closed c.close-closed.ensures.kept c.close-closed.ensures.counted)
