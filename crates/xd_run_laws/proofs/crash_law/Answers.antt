use Rattle.xd_run_laws.proofs.Crashes.{death-of}
use Rattle.xd_run_laws.proofs.crash_law.Goals as goal

pub returns : goal.returns
returns c = death-of
