use Rattle.std.proofs.Common.{sym, subst}
use Rattle.std.specs.Prelude.{Option}
use Rattle.xd_reader.specs.declared.news.LinkNews.{LinkNews}
use Rattle.xd_worker_serve.specs.declared.server.Halt.{Halt}
use Rattle.xd_worker_serve.specs.inner.Halts.{Goes, IsStrange}
use Rattle.xd_worker_serve.specs.inner.Seen.{seen}
use Rattle.xd_worker_serve.specs.inner.Serves.{beside}
use Rattle.xd_edge.specs.Clock.{ticking}
use Rattle.xd_worker_serve.proofs.Items.{strange_unless}
use Rattle.xd_worker_serve.proofs.server.Server.take_of_link.Goals as goal

pub returns-in-Output-clause-goes : goal.returns-in-Output-clause-goes
returns-in-Output-clause-goes g c = λ a e s.
    let now = beside (g.F.Files.faults c.args.files.now) (ticking (g.T.Clock.moment c.args.clock.now) (g.T.Clock.coming c.args.clock.now)) in
    subst (λ (h : Option Halt). Goes h a now (seen g.N.Sink.sunk g.N.Sink.faults c.args.self.now)) (sym c.unless_shut.ensures)
    (strange_unless a now (seen g.N.Sink.sunk g.N.Sink.faults c.args.self.now) c.args.news (subst (λ (n : LinkNews). IsStrange n) (sym c.in-Output.is) tt) s)

pub returns-clause-goes : goal.returns-clause-goes
returns-clause-goes g c = λ a e s.
    let now = beside (g.F.Files.faults c.args.files.now) (ticking (g.T.Clock.moment c.args.clock.now) (g.T.Clock.coming c.args.clock.now)) in
    subst (λ (h : Option Halt). Goes h a now (seen g.N.Sink.sunk g.N.Sink.faults c.args.self.now)) (sym c.unless_shut-in-ChildDone.ensures)
    (strange_unless a now (seen g.N.Sink.sunk g.N.Sink.faults c.args.self.now) c.args.news (subst (λ (n : LinkNews). IsStrange n) (sym c.in-ChildDone.is) tt) s)
