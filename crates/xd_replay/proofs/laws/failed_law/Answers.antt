use Rattle.std.proofs.Common.{refl}
use Rattle.xd_run.specs.State.{no_one}
use Rattle.xd_replay.specs.Failed.{failed_from}
use Rattle.xd_replay.proofs.FailedLines.{gives-failed}
use Rattle.xd_replay.proofs.laws.failed_law.Goals as goal

pub returns : goal.returns
returns c = λ j. record {
  all = failed_from (no_one j.settings) j.entries.items;
  given = gives-failed (no_one j.settings) j.entries.items;
  once = refl;
}
