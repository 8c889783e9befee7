use Rattle.std.proofs.Common.{◌≡◌}
use Rattle.xd_worker.specs.Stands.{Stood}
use Rattle.xd_worker_serve.specs.inner.Seen.{seen}
use Rattle.xd_worker_serve.specs.inner.Serves.{ServesSoFar, Setting, nothing, beside}
use Rattle.xd_edge.specs.Clock.{ticking}
use Rattle.xd_worker_serve.proofs.server.Server.listen.Given as goal

abbrev pub invariant-loop : goal.invariant-loop
invariant-loop g l = record {
  stood : Stood l.self.speaker.core;
  goes : (a : Setting) → g.F.Files.held l.fn.files ≡ a.held → ServesSoFar a (beside (g.F.Files.faults l.fn.files) (ticking (g.T.Clock.moment l.fn.clock) (g.T.Clock.coming l.fn.clock))) nothing (seen g.N.Sink.sunk g.N.Sink.faults l.fn.self) → ServesSoFar a (beside (g.F.Files.faults l.files) (ticking (g.T.Clock.moment l.clock) (g.T.Clock.coming l.clock))) nothing (seen g.N.Sink.sunk g.N.Sink.faults l.self);
  kept : g.F.Files.held l.files ≡ g.F.Files.held l.fn.files;
}
