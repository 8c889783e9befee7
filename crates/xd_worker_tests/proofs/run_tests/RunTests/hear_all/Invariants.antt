use Rattle.std.proofs.Common.{◌≡◌, deque_len}
use Rattle.xd_worker_tests.specs.Turns.{CallTurn, all_heard}
use Rattle.xd_worker_tests.specs.inner.Stands.{IsCallTurn}
use Rattle.xd_worker_tests.proofs.run_tests.RunTests.hear_all.Given as goal

abbrev pub invariant-loop-item : goal.invariant-loop-item
invariant-loop-item l = (t : CallTurn) → IsCallTurn l.fn.self l.fn.acts t → (u : CallTurn) × (IsCallTurn l.self l.acts u) × (all_heard l.room l.fn.waiting.items t ≡ all_heard l.room l.waiting.items u)

abbrev pub decreases-loop-item : goal.decreases-loop-item
decreases-loop-item l = deque_len l.waiting
