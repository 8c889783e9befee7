use Rattle.xd_session.proofs.Steps.{sound-run}
use Rattle.xd_session.proofs.laws.session_law.Goals as goal

pub returns : goal.returns
returns c = sound-run
