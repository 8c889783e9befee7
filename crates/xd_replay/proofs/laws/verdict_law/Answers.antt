use Rattle.xd_replay.proofs.Once.{one_finding}
use Rattle.xd_replay.proofs.laws.verdict_law.Goals as goal

pub returns : goal.returns
returns c = λ v w j a b. one_finding v w j.settings j.entries.items a b
