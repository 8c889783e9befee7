use Rattle.xd_session.proofs.Bounds.{bounded-run}
use Rattle.xd_session.proofs.laws.kept_law.Goals as goal

pub returns : goal.returns
returns c = bounded-run
