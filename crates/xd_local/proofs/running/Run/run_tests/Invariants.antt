use Rattle.std.proofs.Common.{◌≡◌}
use Rattle.xd_local.specs.Local.{rounds_seen}
use Rattle.xd_local.specs.inner.Running.{Progress}
use Rattle.xd_local.proofs.running.Run.run_tests.Given as goal

abbrev pub invariant-loop-test : goal.invariant-loop-test
invariant-loop-test g l = record {
  progress : Progress l.test l.suite (record { run = l.fn.self; sunk = g.O.Sink.sunk l.fn.out; clock = record { moment = g.T.Clock.moment l.fn.clock; coming = g.T.Clock.coming l.fn.clock } }) (record { run = l.self; sunk = g.O.Sink.sunk l.out; clock = record { moment = g.T.Clock.moment l.clock; coming = g.T.Clock.coming l.clock } }) (rounds_seen g.K.Children.runs g.O.Sink.sunk l.moments);
  still : g.O.Sink.faults l.out ≡ g.O.Sink.faults l.fn.out;
}
