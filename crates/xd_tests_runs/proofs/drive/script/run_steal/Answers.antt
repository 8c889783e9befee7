use Rattle.std.proofs.Common.{refl}
use Rattle.xd_run.specs.State.{no_one}
use Rattle.xd_tests_runs.proofs.drive.script.run_steal.Goals as goal

pub run_in-requires-clause-fresh : goal.run_in-requires-clause-fresh
run_in-requires-clause-fresh g c = c.new.ensures _ c.requires.steal refl

pub run_in-requires-in-Some-clause-fresh : goal.run_in-requires-in-Some-clause-fresh
run_in-requires-in-Some-clause-fresh g c = c.new-mode.ensures (no_one c.args.settings).plan (c.new-in-Some.ensures _ c.requires.steal refl)
