use Rattle.std.proofs.Common.{◌≡◌}
use Rattle.xd_replay.specs.inner.Lone.{Played}
use Rattle.xd_replay.proofs.alone.check_alone.Given as goal

abbrev pub invariant-loop-count : goal.invariant-loop-count
invariant-loop-count l = record {
  played : Played l.fn.settings l.entries l.tests l.count l.run.spent l.run.reporter;
  tests : l.run.tests ≡ l.tests;
}
