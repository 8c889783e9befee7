use Rattle.std.proofs.Common.{Some, sym, subst}
use Rattle.std.specs.Prelude.{Option}
use Rattle.xd_reader.specs.declared.news.LinkNews.TheVariants as news
use Rattle.xd_reader.specs.declared.news.LinkStop.{LinkStop}
use Rattle.xd_reader.specs.declared.news.LinkStop.TheVariants as link
use Rattle.xd_worker_serve.specs.declared.server.Halt.{Halt}
use Rattle.xd_worker_serve.specs.inner.Halts.{Goes}
use Rattle.xd_worker_serve.specs.inner.Seen.{seen}
use Rattle.xd_worker_serve.specs.inner.Serves.{ServesSoFar, owed_of_link, beside}
use Rattle.xd_edge.specs.Clock.{ticking}
use Rattle.xd_worker_serve.proofs.Dropping.{noted_now}
use Rattle.xd_worker_serve.proofs.Items.{cut_unless, header_unless, strange_unless, unread_unless}
use Rattle.xd_worker_serve.proofs.server.Server.take_end.Goals as goal

pub returns-in_ok-halt-in-Ended-clause-goes : goal.returns-in_ok-halt-in-Ended-clause-goes
returns-in_ok-halt-in-Ended-clause-goes g c = λ a files s.
    let now = beside files (ticking (g.T.Clock.moment c.args.clock.now) (g.T.Clock.coming c.args.clock.now)) in
    let before = seen g.N.Sink.sunk g.N.Sink.faults c.args.self.now in
    c.in_ok-halt-in-Ended.ensures.goes a files (subst (λ (l : LinkStop). ServesSoFar a now (owed_of_link (news.End l)) (record before { link_stop = Some c.args.stop })) c.in-Ended.is (noted_now a now before c.args.stop s))

pub returns-in-Cut-clause-goes : goal.returns-in-Cut-clause-goes
returns-in-Cut-clause-goes g c = λ a files s.
    let now = beside files (ticking (g.T.Clock.moment c.args.clock.now) (g.T.Clock.coming c.args.clock.now)) in
    let before = seen g.N.Sink.sunk g.N.Sink.faults c.args.self.now in
    let noted = record before { link_stop = Some c.args.stop } in
    subst (λ (h : Option Halt). Goes h a now (record before { link_stop = Some c.args.stop })) (sym c.unless_shut.ensures)
    (cut_unless a now noted (subst (λ (l : LinkStop). ServesSoFar a now (owed_of_link (news.End l)) (record before { link_stop = Some c.args.stop })) c.in-Cut.is (noted_now a now before c.args.stop s)))

pub returns-in-Garbled-clause-goes : goal.returns-in-Garbled-clause-goes
returns-in-Garbled-clause-goes g c = λ a files s.
    let now = beside files (ticking (g.T.Clock.moment c.args.clock.now) (g.T.Clock.coming c.args.clock.now)) in
    let before = seen g.N.Sink.sunk g.N.Sink.faults c.args.self.now in
    let noted = record before { link_stop = Some c.args.stop } in
    subst (λ (h : Option Halt). Goes h a now (record before { link_stop = Some c.args.stop })) (sym c.unless_shut-in-Garbled.ensures)
    (header_unless a now noted c.in-Garbled.fault (subst (λ (l : LinkStop). ServesSoFar a now (owed_of_link (news.End l)) (record before { link_stop = Some c.args.stop })) c.in-Garbled.is (noted_now a now before c.args.stop s)))

pub returns-in-BadGreeting-clause-goes : goal.returns-in-BadGreeting-clause-goes
returns-in-BadGreeting-clause-goes g c = λ a files s.
    let now = beside files (ticking (g.T.Clock.moment c.args.clock.now) (g.T.Clock.coming c.args.clock.now)) in
    let before = seen g.N.Sink.sunk g.N.Sink.faults c.args.self.now in
    let noted = record before { link_stop = Some c.args.stop } in
    subst (λ (h : Option Halt). Goes h a now (record before { link_stop = Some c.args.stop })) (sym c.unless_shut-in-BadGreeting.ensures)
    (strange_unless a now noted (news.End (link.BadGreeting c.in-BadGreeting.field-0)) tt
    (subst (λ (l : LinkStop). ServesSoFar a now (owed_of_link (news.End l)) (record before { link_stop = Some c.args.stop })) c.in-BadGreeting.is (noted_now a now before c.args.stop s)))

pub returns-in-ReadFault-clause-goes : goal.returns-in-ReadFault-clause-goes
returns-in-ReadFault-clause-goes g c = λ a files s.
    let now = beside files (ticking (g.T.Clock.moment c.args.clock.now) (g.T.Clock.coming c.args.clock.now)) in
    let before = seen g.N.Sink.sunk g.N.Sink.faults c.args.self.now in
    let noted = record before { link_stop = Some c.args.stop } in
    subst (λ (h : Option Halt). Goes h a now (record before { link_stop = Some c.args.stop })) (sym c.unless_shut-in-ReadFault.ensures)
    (unread_unless a now noted (subst (λ (l : LinkStop). ServesSoFar a now (owed_of_link (news.End l)) (record before { link_stop = Some c.args.stop })) c.in-ReadFault.is (noted_now a now before c.args.stop s)))
