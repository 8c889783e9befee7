use Rattle.xd_top.proofs.KeptRuns.{checked-run, replayed}
use Rattle.xd_top.proofs.laws.replay_law.Goals as goal

pub returns-clause-checked : goal.returns-clause-checked
returns-clause-checked c = checked-run

pub returns-clause-replayed : goal.returns-clause-replayed
returns-clause-replayed c = replayed
