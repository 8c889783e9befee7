use Rattle.xd_session.proofs.Begin.{begun-proper}
use Rattle.xd_replay.proofs.Lone.{left-legal}
use Rattle.xd_replay.proofs.Tells.{left-by-run}
use Rattle.xd_replay.proofs.laws.checked_law.Goals as goal

pub returns-clause-workers : goal.returns-clause-workers
returns-clause-workers c = λ settings taken out_failed can few may. left-by-run settings taken out_failed (begun-proper settings can) few may

pub returns-clause-alone : goal.returns-clause-alone
returns-clause-alone c = λ j ids results alone legal is kept. left-legal j ids results alone legal is kept
