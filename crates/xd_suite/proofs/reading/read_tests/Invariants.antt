use Rattle.std.proofs.Common.{◌≡◌, ◌<◌, length, All}
use Rattle.xd_suite.proofs.Items.{SoFar}
use Rattle.xd_suite.proofs.reading.read_tests.Given as goal

abbrev pub invariant-loop-number : goal.invariant-loop-number
invariant-loop-number l = record {
  so_far : SoFar l.array.items l.number l.tests.items;
  runs : All (λ t. 0 < length t.run) l.tests.items;
  many : length l.tests.items ≡ l.number;
}
