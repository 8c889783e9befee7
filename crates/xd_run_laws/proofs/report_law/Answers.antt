use Rattle.xd_run_laws.proofs.Laws.{reported_once}
use Rattle.xd_run_laws.proofs.report_law.Goals as goal

pub returns : goal.returns
returns c = reported_once
