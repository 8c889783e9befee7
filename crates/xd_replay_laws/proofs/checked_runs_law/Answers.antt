use Rattle.xd_replay_laws.proofs.Runs.{drove-checked, linked-checked, local-checked}
use Rattle.xd_replay_laws.proofs.checked_runs_law.Goals as goal

pub returns-clause-driven : goal.returns-clause-driven
returns-clause-driven c = λ settings j old new moments can few d. drove-checked settings j old new moments can few d

pub returns-clause-linked : goal.returns-clause-linked
returns-clause-linked c = λ setup j code links old new moments can few run. linked-checked setup j code links old new moments can few run

pub returns-clause-alone : goal.returns-clause-alone
returns-clause-alone c = λ tests maxfail j old new moments run. local-checked tests maxfail j old new moments run
