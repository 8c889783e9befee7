use Rattle.xd_system.proofs.Deaths.{crashes-alone, honest-reports}
use Rattle.xd_system.proofs.deaths_law.Goals as goal

pub returns : goal.returns
returns c = record { reports_what_ran = honest-reports; crashes_alone = crashes-alone }
