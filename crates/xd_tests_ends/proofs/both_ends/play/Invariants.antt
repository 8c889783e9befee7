use Rattle.std.proofs.Common.{◌≡◌, true}
use Rattle.xd_tests_ends.proofs.both_ends.play.Given as goal

abbrev pub invariant-loop-step : goal.invariant-loop-step
invariant-loop-step l = l.session.whole ≡ true
