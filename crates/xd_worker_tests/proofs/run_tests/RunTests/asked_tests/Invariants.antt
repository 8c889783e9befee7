use Rattle.std.proofs.Common.{◌≡◌, length, take, true, []}
use Rattle.xd_worker_tests.specs.Line.{can_ask}
use Rattle.xd_worker_tests.specs.inner.Stands.{AreMarked, all_queued_at}
use Rattle.xd_worker_tests.proofs.run_tests.RunTests.asked_tests.Given as goal

abbrev pub invariant-loop-test : goal.invariant-loop-test
invariant-loop-test l = record {
  size : length l.marks.items ≡ length l.self.stands.items;
  can : can_ask (length l.self.stands.items) [] (take l.test-index l.tests) ≡ true;
  all : l.all ≡ all_queued_at l.self.stands.items (take l.test-index l.tests);
  marked : AreMarked l.marks.items (take l.test-index l.tests);
}
