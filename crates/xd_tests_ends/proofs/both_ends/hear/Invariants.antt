use Rattle.std.proofs.Common.{◌≡◌, true}
use Rattle.xd_tests_ends.proofs.both_ends.hear.Given as goal

abbrev pub invariant-loop-what : goal.invariant-loop-what
invariant-loop-what l = l.session.whole ≡ true
