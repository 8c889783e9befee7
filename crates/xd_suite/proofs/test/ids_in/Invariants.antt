use Rattle.std.proofs.Common.{◌≡◌, take}
use Rattle.xd_suite.specs.Tests.{ids_by_mode}
use Rattle.xd_suite.proofs.test.ids_in.Given as goal

abbrev pub invariant-loop-test : goal.invariant-loop-test
invariant-loop-test l = l.items.items ≡ ids_by_mode l.mode (take l.test-index l.tests)
