use Rattle.std.proofs.Common.{◌≡◌, take, true}
use Rattle.xd_worker_tests.specs.inner.Stands.{Appends}
use Rattle.xd_worker_tests.proofs.run_tests.RunTests.append_all.Given as goal

abbrev pub invariant-loop-test : goal.invariant-loop-test
invariant-loop-test l = record {
  others : l.self ≡ record (l.fn.self) { queue = l.self.queue; stands = l.self.stands };
  appends : Appends l.fn.self.stands.items l.fn.self.queue.items l.self.stands.items l.self.queue.items (take l.test-index l.tests) true;
}
