use Rattle.std.proofs.Common.{◌≡◌, [], ◌∷◌, ◌++◌, Some, false, refl, ap, sym, ◌∙◌, subst, inl, inr}
use Rattle.xd_link.specs.Spring.{spring}
use Rattle.xd_post.specs.Mails.{mails}
use Rattle.xd_post.specs.Post.{Ring, put, ring_of_sender}
use Rattle.xd_worker_runner.specs.Orders.{Order, programs_seen as programs}
use Rattle.xd_worker_serve.specs.Ends.{Served, scene}
use Rattle.xd_worker_serve.specs.inner.Halts.{Goes, at_sink}
use Rattle.xd_worker_serve.specs.inner.Seen.{Seen, seen}
use Rattle.xd_worker_serve.specs.inner.Serves.{Beside, Setting, beside, setting}
use Rattle.xd_edge.specs.Clock.{ticking}
use Rattle.xd_worker_serve.specs.inner.Joined.{Joined, Sources, back}
use Rattle.xd_worker_serve.proofs.Beginning.{unserved}
use Rattle.xd_worker_serve.proofs.Completing.{to_end}
use Rattle.xd_worker_serve.proofs.Finals.{reads_of, ring_is, runs_of, served_at, still_closes, still_goes}
use Rattle.xd_worker_serve.proofs.serving.serve.Given.{Over}
use Rattle.xd_worker_serve.proofs.serving.serve.Goals.{After-drop-server-in-Err-5, After-drop-server-in-Err-start-2, Else-server-2}
use Rattle.xd_worker_serve.proofs.serving.serve.Goals as goal

-- ---- nothing was served

pub returns-then-server-clause-served : goal.returns-then-server-clause-served
returns-then-server-clause-served g c =
    let clock = ticking (g.T.Clock.moment c.args.clock.now) (g.T.Clock.coming c.args.clock.now) in
    let held = g.F.Files.held c.args.files.now in
    let s0 = spring (g.S.Source.supply c.args.link.source) (g.S.Source.is_ended c.args.link.source) (g.S.Source.faults c.args.link.source) in
    let s1 = spring (g.S.Source.supply c.unserved.result.source) (g.S.Source.is_ended c.unserved.result.source) (g.S.Source.faults c.unserved.result.source) in
    let old = scene (g.N.Sink.sunk c.args.link.sink) (g.N.Sink.faults c.args.link.sink) (g.K.Children.runs c.args.children) (g.K.Children.faults c.args.children) (g.F.Files.faults c.args.files.now) (g.C.Crew.faults c.args.crew.now) (g.D.Crew.faults c.args.runner.now) clock in
    let new = scene (g.N.Sink.sunk c.unserved.result.sink) (g.N.Sink.faults c.unserved.result.sink) (g.K.Children.runs c.unserved.result.children) (g.K.Children.faults c.unserved.result.children) (g.F.Files.faults c.args.files.now) (g.C.Crew.faults c.args.crew.now) (g.D.Crew.faults c.args.runner.now) clock in
    let v : Served c.unserved.result.status held s0 s1 old new =
    unserved held s0 old new c.in_ok-opened.opened.server.speaker.is_broken c.unserved.ensures.closes.0 (g.N.Sink.sunk c.in_ok-opened.opened.server.speaker.sink) (g.N.Sink.faults c.in_ok-opened.opened.server.speaker.sink)
    (c.in_ok-opened.ensures.spoke held (g.F.Files.faults c.args.files.now)) c.unserved.ensures.closes.1 (ap g.K.Children.runs c.unserved.ensures.children) (ap g.K.Children.faults c.unserved.ensures.children) refl refl
    (λ z. let q = sym c.if-server.true ∙ z in cc) c.unserved.result.status s1 c.unserved.ensures.status
    (ap (λ (x : g.row.S.Denot). spring (g.S.Source.supply x) (g.S.Source.is_ended x) (g.S.Source.faults x)) c.unserved.ensures.source) in
    to_end held s0 s1 old new c.unserved.result.status v

-- the runner's crew refused
no_runner : (g : Over) (c : After-drop-server-in-Err-5 g) → Served c.unserved-in-Err.result.status (g.F.Files.held c.args.files.now)
    (spring (g.S.Source.supply c.args.link.source) (g.S.Source.is_ended c.args.link.source) (g.S.Source.faults c.args.link.source))
    (spring (g.S.Source.supply c.unserved-in-Err.result.source) (g.S.Source.is_ended c.unserved-in-Err.result.source) (g.S.Source.faults c.unserved-in-Err.result.source))
    (scene (g.N.Sink.sunk c.args.link.sink) (g.N.Sink.faults c.args.link.sink) (g.K.Children.runs c.args.children) (g.K.Children.faults c.args.children) (g.F.Files.faults c.args.files.now) (g.C.Crew.faults c.args.crew.now) (g.D.Crew.faults c.args.runner.now) (ticking (g.T.Clock.moment c.args.clock.now) (g.T.Clock.coming c.args.clock.now)))
    (scene (g.N.Sink.sunk c.unserved-in-Err.result.sink) (g.N.Sink.faults c.unserved-in-Err.result.sink) (g.K.Children.runs c.unserved-in-Err.result.children) (g.K.Children.faults c.unserved-in-Err.result.children) (g.F.Files.faults c.args.files.now) (g.C.Crew.faults c.args.crew.now) (g.D.Crew.faults c.start.new.self) (ticking (g.T.Clock.moment c.args.clock.now) (g.T.Clock.coming c.args.clock.now)))
no_runner g c =
    let k : c.unserved-in-Err.result.children ≡ c.args.children = cc (c.unserved-in-Err.ensures.children, c.into_end-end.ensures.children, c.in-Err.ensures.back, c.new.ensures.children) in
    unserved _ _ _ _ c.in_ok-opened.opened.server.speaker.is_broken c.unserved-in-Err.ensures.closes.0 (g.N.Sink.sunk c.in_ok-opened.opened.server.speaker.sink) (g.N.Sink.faults c.in_ok-opened.opened.server.speaker.sink)
    (c.in_ok-opened.ensures.spoke (g.F.Files.held c.args.files.now) (g.F.Files.faults c.args.files.now)) c.unserved-in-Err.ensures.closes.1 (ap g.K.Children.runs k) (ap g.K.Children.faults k) refl refl
    (λ z. inr (c.in-Err.ensures.counted.rose refl)) c.unserved-in-Err.result.status _ c.unserved-in-Err.ensures.status
    (ap (λ (x : g.row.S.Denot). spring (g.S.Source.supply x) (g.S.Source.is_ended x) (g.S.Source.faults x)) c.unserved-in-Err.ensures.source)

pub returns-in-Err-clause-served : goal.returns-in-Err-clause-served
returns-in-Err-clause-served g c = to_end _ _ _ _ _ _ (no_runner g (goal.at.returns-in-Err-clause-served g c).After-drop-server-in-Err-5)

-- the reader's crew refused
no_reader : (g : Over) (c : After-drop-server-in-Err-start-2 g) → Served c.unserved-in-Err-start.result.status (g.F.Files.held c.args.files.now)
    (spring (g.S.Source.supply c.args.link.source) (g.S.Source.is_ended c.args.link.source) (g.S.Source.faults c.args.link.source))
    (spring (g.S.Source.supply c.unserved-in-Err-start.result.source) (g.S.Source.is_ended c.unserved-in-Err-start.result.source) (g.S.Source.faults c.unserved-in-Err-start.result.source))
    (scene (g.N.Sink.sunk c.args.link.sink) (g.N.Sink.faults c.args.link.sink) (g.K.Children.runs c.args.children) (g.K.Children.faults c.args.children) (g.F.Files.faults c.args.files.now) (g.C.Crew.faults c.args.crew.now) (g.D.Crew.faults c.args.runner.now) (ticking (g.T.Clock.moment c.args.clock.now) (g.T.Clock.coming c.args.clock.now)))
    (scene (g.N.Sink.sunk c.unserved-in-Err-start.result.sink) (g.N.Sink.faults c.unserved-in-Err-start.result.sink) (g.K.Children.runs c.unserved-in-Err-start.result.children) (g.K.Children.faults c.unserved-in-Err-start.result.children) (g.F.Files.faults c.args.files.now) (g.C.Crew.faults c.start-2.new.self) (g.D.Crew.faults c.end_idle-children.new.runner) (ticking (g.T.Clock.moment c.args.clock.now) (g.T.Clock.coming c.args.clock.now)))
no_reader g c =
    let e : c.unserved-in-Err-start.result.source ≡ c.args.link.source = cc (c.unserved-in-Err-start.ensures.source, c.into_end-end-in-Err-start.ensures.source, c.in-Err-start.ensures.back, c.new-2.ensures.source) in
    let k : (g.D.Crew.job_of c.in-Ok.running).children ≡ c.args.children = cc (c.in-Ok.ensures.started, c.new.ensures.children) in
    unserved _ _ _ _ c.in_ok-opened.opened.server.speaker.is_broken c.unserved-in-Err-start.ensures.closes.0 (g.N.Sink.sunk c.in_ok-opened.opened.server.speaker.sink) (g.N.Sink.faults c.in_ok-opened.opened.server.speaker.sink)
    (c.in_ok-opened.ensures.spoke (g.F.Files.held c.args.files.now) (g.F.Files.faults c.args.files.now)) c.unserved-in-Err-start.ensures.closes.1
    (ap g.K.Children.runs c.unserved-in-Err-start.ensures.children ∙ (c.end_idle-children.ensures.runs ∙ ap g.K.Children.runs k))
    (ap g.K.Children.faults c.unserved-in-Err-start.ensures.children ∙ (c.end_idle-children.ensures.faults ∙ ap g.K.Children.faults k)) refl refl
    (λ z. inl (c.in-Err-start.ensures.counted.rose refl)) c.unserved-in-Err-start.result.status _ c.unserved-in-Err-start.ensures.status
    (ap (λ (x : g.row.S.Denot). spring (g.S.Source.supply x) (g.S.Source.is_ended x) (g.S.Source.faults x)) e)

pub returns-in-Err-start-clause-served : goal.returns-in-Err-start-clause-served
returns-in-Err-start-clause-served g c = to_end _ _ _ _ _ _ (no_reader g (goal.at.returns-in-Err-start-clause-served g c).After-drop-server-in-Err-start-2)

-- ---- the link was served

-- what stays, what came before and came of it, and what the server was at the end, with the sink as it was before its close
abbrev stays : (g : Over) → Else-server-2 g → Setting
stays g c = setting (g.F.Files.held c.args.files.now) (g.N.Sink.sunk c.args.link.sink) (g.N.Sink.faults c.args.link.sink) (g.F.Files.faults c.args.files.now) (ticking (g.T.Clock.moment c.args.clock.now) (g.T.Clock.coming c.args.clock.now))
    (ring_of_sender c.in_ok-opened.opened.from_link) (ring_of_sender c.in_ok-opened.opened.from_programs) (ring_of_sender c.in_ok-opened.opened.server.orders)

abbrev before : (g : Over) → Else-server-2 g → Sources
before g c = record {
  source = spring (g.S.Source.supply c.args.link.source) (g.S.Source.is_ended c.args.link.source) (g.S.Source.faults c.args.link.source);
  programs = programs (g.K.Children.runs c.args.children) (g.K.Children.faults c.args.children);
}

abbrev following : (g : Over) → Else-server-2 g → Beside
following g c = beside (g.F.Files.faults c.listen-heard.new.files) (ticking (g.T.Clock.moment c.listen-heard.new.clock) (g.T.Clock.coming c.listen-heard.new.clock))

abbrev last : (g : Over) → Else-server-2 g → Seen
last g c = at_sink (g.N.Sink.sunk c.listen-heard.new.self.speaker.sink) (g.N.Sink.faults c.listen-heard.new.self.speaker.sink) (seen g.N.Sink.sunk g.N.Sink.faults c.drain-stop.new.self)

goes : (g : Over) (c : Else-server-2 g) → Goes (Some c.in_ok-halt.halt) (stays g c) (following g c) (last g c)
goes g c =
    c.drain-stop.ensures.goes (stays g c) (following g c) c.in_ok-halt.halt (g.N.Sink.sunk c.listen-heard.new.self.speaker.sink) (g.N.Sink.faults c.listen-heard.new.self.speaker.sink)
    (still_goes g.N.Sink.sunk g.N.Sink.faults (stays g c) (following g c) c.in_ok-halt.halt c.listen-heard.new.self c.close-is_closed.new.self c.close-is_closed.ensures.rest
    (c.in_ok-halt.ensures.goes (stays g c) refl (c.in_ok-opened.ensures.serves (g.F.Files.held c.args.files.now) (g.F.Files.faults c.args.files.now) _ c.if-server.false)))

joined : (g : Over) (c : Else-server-2 g) → Joined (stays g c) (before g c) (last g c) c.drain-stop.result (ring_of_sender c.put.new.self) (put c.put.new.self)
    (back (spring (g.S.Source.supply c.join-read.result.source) (g.S.Source.is_ended c.join-read.result.source) (g.S.Source.faults c.join-read.result.source)) (programs (g.K.Children.runs c.join-ran.result.children) (g.K.Children.faults c.join-ran.result.children))
    (ring_of_sender c.join-read.result.sender) (put c.join-read.result.sender) (ring_of_sender c.join-ran.result.sender) (put c.join-ran.result.sender) (mails c.join-ran.result.orders))
joined g c =
    let ring = c.put.ensures.ring ∙ ring_is (stays g c) (following g c) (last g c) c.in_ok-halt.halt (goes g c) in
    let fresh = c.in_ok-opened.ensures.fresh in
    let source : (g.C.Crew.job_of c.in-Ok-start.reading).source ≡ c.args.link.source = cc (c.in-Ok-start.ensures.started, c.new-2.ensures.source) in
    let from_link : (g.C.Crew.job_of c.in-Ok-start.reading).sender ≡ c.in_ok-opened.opened.from_link = cc (c.in-Ok-start.ensures.started, c.new-2.ensures.sender) in
    let greeted : (g.C.Crew.job_of c.in-Ok-start.reading).greeted ≡ false = cc (c.in-Ok-start.ensures.started, c.new-2.ensures.greeted) in
    let children : (g.D.Crew.job_of c.in-Ok.running).children ≡ c.args.children = cc (c.in-Ok.ensures.started, c.new.ensures.children) in
    let from_programs : (g.D.Crew.job_of c.in-Ok.running).sender ≡ c.in_ok-opened.opened.from_programs = cc (c.in-Ok.ensures.started, c.new.ensures.sender) in
    let orders : (g.D.Crew.job_of c.in-Ok.running).orders ≡ c.in_ok-opened.opened.orders = cc (c.in-Ok.ensures.started, c.new.ensures.orders) in
    record {
      noted = c.drain-stop.ensures.ended;
      idle = c.drain-stop.ensures.idle;
      memory = c.if-server-2.false;
      reads = reads_of _ _ _ _ _ _ c.join-read.ensures.gives.0 greeted (ap (λ (x : g.row.S.Denot). spring (g.S.Source.supply x) (g.S.Source.is_ended x) (g.S.Source.faults x)) source) (ap put from_link ∙ fresh.0);
      reader_is = c.join-read.ensures.gives.1 ∙ ap ring_of_sender from_link;
      runner_is = c.join-ran.ensures.gives.1 ∙ ap ring_of_sender from_programs;
      mails = mails c.in_ok-opened.opened.orders;
      no_orders = subst (λ (r : Ring). mails c.in_ok-opened.opened.orders ≡ Some (r, []) ∷ []) (sym ring) fresh.3;
      runs = runs_of _ _ _ _ _ _ _ _ c.join-ran.ensures.gives.0 (ap mails orders) (ap (λ (k : g.row.K.Denot). programs (g.K.Children.runs k) (g.K.Children.faults k)) children) (ap put from_programs ∙ fresh.1);
      ordered_are = c.put.ensures.put ∙ ap (λ (o : Order). put c.drain-stop.new.self.orders ++ o ∷ []) c.no_order.ensures;
    }

pub finish-requires : goal.finish-requires
finish-requires g c =
    let e = (goal.at.finish-requires g c).Else-server-2 in
    (stays g e, following g e, before g e, last g e, goes g e, refl, joined g e)

pub returns-clause-served : goal.returns-clause-served
returns-clause-served g c =
    let e = (goal.at.returns-clause-served g c).Else-server-2 in
    let clock = ticking (g.T.Clock.moment c.args.clock.now) (g.T.Clock.coming c.args.clock.now) in
    let later = ticking (g.T.Clock.moment c.listen-heard.new.clock) (g.T.Clock.coming c.listen-heard.new.clock) in
    let held = g.F.Files.held c.args.files.now in
    let s0 = spring (g.S.Source.supply c.args.link.source) (g.S.Source.is_ended c.args.link.source) (g.S.Source.faults c.args.link.source) in
    let s1 = spring (g.S.Source.supply c.finish.result.source) (g.S.Source.is_ended c.finish.result.source) (g.S.Source.faults c.finish.result.source) in
    let old = scene (g.N.Sink.sunk c.args.link.sink) (g.N.Sink.faults c.args.link.sink) (g.K.Children.runs c.args.children) (g.K.Children.faults c.args.children) (g.F.Files.faults c.args.files.now) (g.C.Crew.faults c.args.crew.now) (g.D.Crew.faults c.args.runner.now) clock in
    let same = scene (g.N.Sink.sunk c.finish.result.sink) (g.N.Sink.faults c.finish.result.sink) (g.K.Children.runs c.finish.result.children) (g.K.Children.faults c.finish.result.children) (g.F.Files.faults c.listen-heard.new.files) (g.C.Crew.faults c.args.crew.now) (g.D.Crew.faults c.args.runner.now) later in
    let new = scene (g.N.Sink.sunk c.finish.result.sink) (g.N.Sink.faults c.finish.result.sink) (g.K.Children.runs c.finish.result.children) (g.K.Children.faults c.finish.result.children) (g.F.Files.faults c.listen-heard.new.files) (g.C.Crew.faults c.join-read.new.self) (g.D.Crew.faults c.join-ran.new.self) later in
    let v : Served c.finish.result.status held s0 s1 old new =
    served_at c.finish.result.status held s0 s1 old same (g.C.Crew.faults c.join-read.new.self) (g.D.Crew.faults c.join-ran.new.self)
    (c.join-read.ensures.still ∙ c.in-Ok-start.ensures.counted.still refl) (c.join-ran.ensures.still ∙ c.in-Ok.ensures.counted.still refl)
    (c.finish.ensures.served (stays g e) (following g e) (before g e) (last g e) (g.C.Crew.faults c.args.crew.now) (g.D.Crew.faults c.args.runner.now) (goes g e) refl (joined g e)
    (still_closes g.N.Sink.sunk g.N.Sink.faults c.close-is_closed.result (g.N.Sink.sunk c.listen-heard.new.self.speaker.sink) (g.N.Sink.faults c.listen-heard.new.self.speaker.sink) c.close-is_closed.new.self.speaker c.drain-stop.new.self.speaker c.drain-stop.ensures.speaker c.close-is_closed.ensures.closes)) in
    to_end held s0 s1 old new c.finish.result.status v
