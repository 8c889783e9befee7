use Rattle.std.proofs.Common.{subst}
use Rattle.xd_worker_serve.specs.inner.Seen.{seen}
use Rattle.xd_worker_serve.specs.inner.Serves.{Owed, ServesSoFar, beside}
use Rattle.xd_edge.specs.Clock.{ticking}
use Rattle.xd_worker_serve.proofs.Items.{of_other}
use Rattle.xd_worker_serve.proofs.server.Server.take.Goals as goal

pub returns-in_ok-halt-2-clause-goes : goal.returns-in_ok-halt-2-clause-goes
returns-in_ok-halt-2-clause-goes g c = λ a e s.
    c.in_ok-halt-2.ensures.goes a (g.F.Files.faults c.args.files.now)
    (subst (λ (o : Owed). ServesSoFar a (beside (g.F.Files.faults c.args.files.now) (ticking (g.T.Clock.moment c.args.clock.now) (g.T.Clock.coming c.args.clock.now))) o (seen g.N.Sink.sunk g.N.Sink.faults c.args.self.now)) (of_other c.args.inbox c.args.news c.if-inbox-eq0.false) s)
