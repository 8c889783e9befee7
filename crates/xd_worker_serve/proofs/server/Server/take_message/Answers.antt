use Rattle.std.proofs.Common.{sym, ◌∙◌, subst}
use Rattle.xd_reader.specs.declared.news.LinkNews.TheVariants as news
use Rattle.xd_worker.specs.declared.input.WorkerFault.{WorkerFault}
use Rattle.xd_worker_serve.specs.inner.Halts.{CeasesBy}
use Rattle.xd_worker_serve.specs.inner.Seen.{seen}
use Rattle.xd_worker_serve.specs.inner.Serves.{beside}
use Rattle.xd_edge.specs.Clock.{ticking}
use Rattle.xd_worker_serve.proofs.Settling.{dropped}
use Rattle.xd_worker_serve.proofs.server.Server.take_message.Goals as goal

pub returns-then-is_shut-clause-goes : goal.returns-then-is_shut-clause-goes
returns-then-is_shut-clause-goes g c = λ a e s.
    dropped a _ (seen g.N.Sink.sunk g.N.Sink.faults c.args.self.now) (news.Message c.args.message) (sym c.is_shut.ensures ∙ c.if-is_shut.true) s

pub returns-in-Err-Link-clause-goes : goal.returns-in-Err-Link-clause-goes
returns-in-Err-Link-clause-goes g c = λ a e s.
    let now = beside (g.F.Files.faults c.args.files.now) (ticking (g.T.Clock.moment c.args.clock.now) (g.T.Clock.coming c.args.clock.now)) in
    subst (λ (f : WorkerFault). CeasesBy f a now (seen g.N.Sink.sunk g.N.Sink.faults c.hear_message.new.self)) c.in-Err-Link.field-0-is
    (c.in-Err-Link.ensures.refused a now s)
