use Rattle.std.proofs.Common.{◌≡◌, List, ℕ, deque_len}
use Rattle.xd_worker_tests.specs.inner.Stands.{AreMarked, TakenOut}
use Rattle.xd_worker_tests.proofs.run_tests.RunTests.take_out.Given as goal

abbrev pub invariant-loop-entry : goal.invariant-loop-entry
invariant-loop-entry l = record {
  others : l.self ≡ record (l.fn.self) { queue = l.self.queue; stands = l.self.stands };
  out : (ns : List ℕ) → AreMarked l.marks ns → TakenOut ns l.fn.self.stands.items l.fn.self.queue.items l.self.stands.items l.self.queue.items l.back.items l.left.items;
}

abbrev pub decreases-loop-entry : goal.decreases-loop-entry
decreases-loop-entry l = deque_len l.self.queue
