use Rattle.xd_session.proofs.Part.{part-of}
use Rattle.xd_session.proofs.laws.part_law.Goals as goal

pub returns : goal.returns
returns c = part-of
