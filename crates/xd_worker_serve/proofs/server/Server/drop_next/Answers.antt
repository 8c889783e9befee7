use Rattle.xd_worker_serve.specs.inner.Halts.{at_sink}
use Rattle.xd_worker_serve.specs.inner.Seen.{seen}
use Rattle.xd_worker_serve.proofs.Dropping.{dropped_as}
use Rattle.xd_worker_serve.proofs.server.Server.drop_next.Goals as goal

pub returns-clause-goes : goal.returns-clause-goes
returns-clause-goes g c = λ a now halt sunk faults s.
    dropped_as a now (at_sink sunk faults (seen g.N.Sink.sunk g.N.Sink.faults c.args.self.now)) _ _ halt _ _ _ _ c.noted_end-self.ensures c.still_started-self.ensures c.is_short_by-self.ensures c.wait-inbox.ensures.takes s
