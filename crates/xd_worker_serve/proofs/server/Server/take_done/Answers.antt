use Rattle.xd_reader.specs.declared.news.LinkNews.TheVariants as news
use Rattle.xd_worker_serve.specs.inner.Seen.{seen}
use Rattle.xd_worker_serve.proofs.Settling.{uncalled}
use Rattle.xd_edge.specs.Clock.{ticking}
use Rattle.xd_worker_serve.specs.Timing.{durations_in}
use Rattle.xd_worker_serve.proofs.Items.{none_started}
use Rattle.xd_worker_serve.proofs.Timings.{lasted}
use Rattle.xd_worker_serve.proofs.server.Server.take_done.Goals as goal

pub returns-in_default-clause-goes : goal.returns-in_default-clause-goes
returns-in_default-clause-goes g c = λ a files s. uncalled a _ (seen g.N.Sink.sunk g.N.Sink.faults c.args.self.now) (news.ChildDone c.args.outcome) (none_started c.args.self.now.started c.in_default.not-Some) s

pub returns-clause-goes : goal.returns-clause-goes
returns-clause-goes g c = λ a files s.
    let before = ticking (g.T.Clock.moment c.args.clock.now) (g.T.Clock.coming c.args.clock.now) in
    let following = ticking (g.T.Clock.moment c.now.new.self) (g.T.Clock.coming c.now.new.self) in
    c.in_ok-halt.ensures.goes a files
    (c.in_ok-hear_done.ensures.heard a files before following
    (lasted c.args.self.now.started c.in-Some.start c.now.result c.saturating_sub-ms.result (durations_in s.heard.inputs) a.clock before following c.in-Some.is s.ordered.timed
    (record { later = c.now.ensures.later; last = c.now.ensures.last; told = c.now.ensures.told; next = c.now.ensures.next }) c.saturating_sub-ms.ensures) s)
