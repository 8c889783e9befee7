-- What the closed mailboxes tell of a link that was served.
use Rattle.std.proofs.Common.{◌≡◌, ℕ, ◌+◌, ◌≤◌, List, [], ◌∷◌, ◌++◌, length, Bool, false, Option, Some, None, refl, ap, sym, ◌∙◌, subst, arith, append_assoc, inl, inr}
use Rattle.std.specs.Prelude.{◌⊎◌, map, option_map, slice_set}
use Rattle.std.proofs.lemmas.List.{append-nil}
use Rattle.xd_edge.specs.Children.{ChildRun}
use Rattle.xd_edge.specs.Sink.{Sunk}
use Rattle.xd_link.specs.Spring.{Spring}
use Rattle.xd_post.specs.Mails.{HasMail}
use Rattle.xd_post.specs.Post.{Empties, Ring}
use Rattle.xd_reader.specs.declared.news.LinkNews.{LinkNews}
use Rattle.xd_reader.specs.declared.news.LinkNews.TheVariants as news
use Rattle.xd_reader.specs.declared.news.LinkStop.{LinkStop}
use Rattle.xd_reader.specs.Reads.{PutsAll}
use Rattle.xd_worker_runner.specs.Orders.{EndsCut, EndsWell, Mails, Order, RunsOrders, ProgramsSeen as Programs, ToldOfProgram, ran_of}
use Rattle.xd_worker_runner.specs.Programs.{AreRun, faults_of}
use Rattle.xd_worker_serve.specs.declared.server.Halt.{Halt}
use Rattle.xd_worker_serve.specs.declared.server.Halt.TheVariants as halt
use Rattle.xd_worker_serve.specs.declared.stop.Stop.{Stop}
use Rattle.xd_worker_serve.specs.Ends.{Closes, Scene, Served, last_link_stop, scene}
use Rattle.xd_edge.specs.Files.{Held}
use Rattle.xd_worker_serve.specs.declared.server.Server.{Server}
use Rattle.xd_worker_serve.specs.declared.speaker.Speaker.{Speaker}
use Rattle.xd_worker_serve.specs.inner.Halts.{Ceased, Goes, Strayed, at_sink, worker_status_of}
use Rattle.xd_worker_serve.specs.inner.Joined.{Back, Joined, Sources}
use Rattle.xd_worker_serve.specs.inner.News.{dones}
use Rattle.xd_worker_serve.specs.inner.Seen.{Seen, seen}
use Rattle.xd_worker_serve.specs.inner.Serves.{Beside, IsEndTaken, NoneEmpty, Setting, two}
use Rattle.xd_worker_serve.specs.Timing.{one_if}
use Rattle.xd_worker_serve.proofs.Endings.{AllRan, all_ran, ended, not_strayed}
use Rattle.xd_worker_serve.proofs.Puts.{end_among, put_more}

pub astray_if : (h : Halt) → ((why : Stop) → h ≡ halt.At why → ⊥) → h ≡ halt.Astray
astray_if (halt.At why) n = absurd (n why refl)
astray_if halt.Astray n = refl

-- what was taken of both inboxes
pub taken_of : (a : Setting) (now : Beside) (s : Seen) (h : Halt) → Goes (Some h) a now s → (r : List LinkNews) × (q : List LinkNews) × (s.mails ≡ two a r q)
taken_of a now s (halt.At why) c = (c.of_reader, c.of_runner, c.taken.mails_are)
taken_of a now s halt.Astray x = (x.of_reader, x.of_runner, x.taken.mails_are)

-- the orders that a runner took
pub orders_of : (mails0 mails1 : Mails) (ring : Ring) (s0 s1 : Programs) (put : List LinkNews) → mails0 ≡ Some (ring, []) ∷ [] → RunsOrders mails0 mails1 s0 s1 [] put → (got : List Order) × (mails1 ≡ Some (ring, got) ∷ [])
orders_of mails0 mails1 ring s0 s1 put none r = by r.ends
  where
    by : EndsWell r.orders mails0 mails1 r.mid s1 r.sent put ⊎ EndsCut r.orders mails0 mails1 r.mid s1 r.sent put → (got : List Order) × (mails1 ≡ Some (ring, got) ∷ [])
    by (inl e) = (r.orders ++ [] ∷ [], e.took ring [] none)
    by (inr e) = (r.orders ++ e.order ∷ [], e.took ring [] none)

-- a runner that was ordered nothing ran nothing
pub ran_nothing : (ring : Ring) (mails0 mails1 : Mails) (s0 s1 : Programs) (put : List LinkNews) (rest : Option Order) (ordered : List Order) → mails0 ≡ Some (ring, []) ∷ [] → ordered ≡ [] ∷ [] → RunsOrders mails0 mails1 s0 s1 [] put
    → ((got : List Order) → HasMail mails1 0 ring got → Empties rest got ordered) → (s1.runs ≡ s0.runs) × (s1.faults ≡ s0.faults)
ran_nothing ring mails0 mails1 s0 s1 put rest ordered none are r closed =
    let a : AllRan [] put s0.runs s1.runs s0.faults s1.faults = all_ran [] tt ring mails0 mails1 s0 s1 put none more [] put refl (omega arith) r in
    (no_runs a.ran s0.runs s1.runs a.run, a.still (ap faults_of (no_told a.ran s0.runs s1.runs a.run)))
  where
    more : (got : List Order) → mails1 ≡ Some (ring, got) ∷ [] → (more : List Order) × ([] ∷ [] ≡ got ++ more)
    more got e = let p = put_more rest got ordered (closed got (subst (λ (m : Mails). HasMail m 0 ring got) (sym e) refl)) in (p.0, sym are ∙ p.1)

    no_children : (l : List ChildRun) → map (λ c. c.args) l ≡ [] → l ≡ []
    no_children [] e = refl
    no_children (c ∷ l) e = cc

    no_told : (l : List ToldOfProgram) (old new : Option (List ChildRun)) → AreRun [] (map ran_of l) old new → map ran_of l ≡ []
    no_told [] old new r = refl
    no_told (t ∷ l) old new r = let e = sym r.outputs_are ∙ ap (map (λ c. c.output)) (no_children r.children r.commands_are) in cc

    same : (l : Option (List ChildRun)) → option_map (λ x. x ++ []) l ≡ l
    same None = refl
    same (Some x) = ap Some (append-nil x)

    no_runs : (l : List ToldOfProgram) (old new : Option (List ChildRun)) → AreRun [] (map ran_of l) old new → new ≡ old
    no_runs l old new r = r.added ∙ (ap (λ (c : List ChildRun). option_map (λ x. x ++ c) old) (no_children r.children r.commands_are) ∙ same old)

module _ (a : Setting) (now : Beside) (before : Sources) (s : Seen) (stop : LinkStop) (ring : Ring) (ordered : List (List (List ℕ))) (b : Back) (mails : List (Option (Ring × List LinkNews))) (same : mails ≡ s.mails) (j : Joined a before s stop ring ordered b) where
  mail0 : (r q : List LinkNews) → s.mails ≡ two a r q → HasMail mails 0 b.reader_ring r
  mail0 r q e = subst (λ (m : List (Option (Ring × List LinkNews))). HasMail m 0 b.reader_ring r) (sym (same ∙ e)) (subst (λ (k : Ring). HasMail (two a r q) 0 k r) (sym j.reader_is) refl)

  mail1 : (r q : List LinkNews) → s.mails ≡ two a r q → HasMail (slice_set mails 0 None) 1 b.runner_ring q
  mail1 r q e = subst (λ (m : List (Option (Ring × List LinkNews))). HasMail (slice_set m 0 None) 1 b.runner_ring q) (sym (same ∙ e)) (subst (λ (k : Ring). HasMail (slice_set (two a r q) 0 None) 1 k q) (sym j.runner_is) refl)

  pub reader_mail : (h : Halt) → Goes (Some h) a now s → (got : List LinkNews) × HasMail mails 0 b.reader_ring got
  reader_mail h g = let t = taken_of a now s h g in (t.0, mail0 t.0 t.1 t.2)

  pub runner_mail : (h : Halt) → Goes (Some h) a now s → (got : List LinkNews) × HasMail (slice_set mails 0 None) 1 b.runner_ring got
  runner_mail h g = let t = taken_of a now s h g in (t.1, mail1 t.0 t.1 t.2)

  pub order_mail : (got : List Order) × HasMail b.mails 0 ring got
  order_mail = let o = orders_of j.mails b.mails ring before.programs b.programs b.runner_put j.no_orders j.runs in (o.0, subst (λ (m : Mails). HasMail m 0 ring o.0) (sym o.1) refl)

  module _ (rest0 rest1 : Option LinkNews) (rest2 : Option Order) (e0 : (got : List LinkNews) → HasMail mails 0 b.reader_ring got → Empties rest0 got b.reader_put)
      (e1 : (got : List LinkNews) → HasMail (slice_set mails 0 None) 1 b.runner_ring got → Empties rest1 got b.runner_put)
      (e2 : (got : List Order) → HasMail b.mails 0 ring got → Empties rest2 got ordered) where
    ordered_more : (got : List Order) → b.mails ≡ Some (ring, got) ∷ [] → (more : List Order) × (s.orders ++ [] ∷ [] ≡ got ++ more)
    ordered_more got e = let p = put_more rest2 got ordered (e2 got (subst (λ (m : Mails). HasMail m 0 ring got) (sym e) refl)) in (p.0, sym j.ordered_are ∙ p.1)

    few_of : (q : List LinkNews) → length s.orders ≤ dones q + one_if s.started → length s.orders ≤ dones q
    few_of q l = (let m = subst (λ (o : Option ℕ). length s.orders ≤ dones q + one_if o) j.idle l in omega (arith, m))

    all_ran_of : (q : List LinkNews) (more : List LinkNews) → NoneEmpty s.orders → b.runner_put ≡ q ++ more → length s.orders ≤ dones q → AllRan s.orders b.runner_put before.programs.runs b.programs.runs before.programs.faults b.programs.faults
    all_ran_of q more some taken few = all_ran s.orders some ring j.mails b.mails before.programs b.programs b.runner_put j.no_orders ordered_more q more taken few j.runs

    pub finished : (why : Stop) (closed : Bool) (sunk : Option Sunk) (faults readers runners : ℕ) → Ceased a now why s → Closes closed s.sunk sunk s.sink_faults faults
        → Served (worker_status_of (last_link_stop closed why stop)) a.held before.source b.source
        (scene a.first.sunk a.first.sink_faults before.programs.runs before.programs.faults a.first.file_faults readers runners a.clock)
        (scene sunk faults b.programs.runs b.programs.faults now.file_faults readers runners now.clock)
    finished why closed sunk faults readers runners c closes =
        let p0 = put_more rest0 c.of_reader b.reader_put (e0 c.of_reader (mail0 c.of_reader c.of_runner c.taken.mails_are)) in
        let p1 = put_more rest1 c.of_runner b.runner_put (e1 c.of_runner (mail1 c.of_reader c.of_runner c.taken.mails_are)) in
        let old = scene a.first.sunk a.first.sink_faults before.programs.runs before.programs.faults a.first.file_faults readers runners a.clock in
        let new = scene sunk faults b.programs.runs b.programs.faults now.file_faults readers runners now.clock in
        let ran = all_ran_of c.of_runner p1.0 c.heard.some p1.1 (few_of c.of_runner (c.taken.drained j.memory)) in
        let stopped : stop ≡ j.reads.stop = stop_is (subst (λ (o : Option LinkStop). IsEndTaken o c.of_reader) j.noted c.taken.noted) p0.0 p0.1 in (
          last_link_stop closed why stop,
          refl,
          ended a now s before old new why c before.source b.source b.reader_put p0.0 p1.0 b.runner_put j.reads p0.1 (j.noted ∙ ap Some stopped) p1.1 ran closed closes refl refl refl refl refl refl stop stopped,
        )
      where
        stop_is : IsEndTaken (Some stop) c.of_reader → (more : List LinkNews) → b.reader_put ≡ c.of_reader ++ more → stop ≡ j.reads.stop
        stop_is n more e = end_among j.reads.put n.0 (n.1 ++ more) stop j.reads.stop (sym j.reads.comes ∙ (e ∙ (ap (λ (l : List LinkNews). l ++ more) n.2 ∙ append_assoc n.0 (news.End stop ∷ n.1) more)))

    pub none_strayed : Strayed a s → ⊥
    none_strayed x =
        let p0 = put_more rest0 x.of_reader b.reader_put (e0 x.of_reader (mail0 x.of_reader x.of_runner x.taken.mails_are)) in
        let p1 = put_more rest1 x.of_runner b.runner_put (e1 x.of_runner (mail1 x.of_reader x.of_runner x.taken.mails_are)) in
        let ran = all_ran_of x.of_runner p1.0 x.stray.some p1.1 (few_of x.of_runner (x.taken.drained j.memory)) in
        not_strayed a s x before.source b.source b.reader_put p0.0 p1.0 b.runner_put before.programs.runs b.programs.runs before.programs.faults b.programs.faults j.reads p0.1 p1.1 ran

-- what a reader put, by the job that was started
pub reads_of : (greeted : Bool) (s0 t0 s1 : Spring) (p0 p1 : List LinkNews) → PutsAll greeted s0 s1 p0 p1 → greeted ≡ false → s0 ≡ t0 → p0 ≡ [] → PutsAll false t0 s1 [] p1
reads_of greeted s0 t0 s1 p0 p1 r g e n = subst (λ (p : List LinkNews). PutsAll false t0 s1 p p1) n (subst (λ (t : Spring). PutsAll false t s1 p0 p1) e (subst (λ (b : Bool). PutsAll b s0 s1 p0 p1) g r))

-- what a runner put
pub runs_of : (m0 n0 m1 : Mails) (s0 t0 s1 : Programs) (p0 p1 : List LinkNews) → RunsOrders m0 m1 s0 s1 p0 p1 → m0 ≡ n0 → s0 ≡ t0 → p0 ≡ [] → RunsOrders n0 m1 t0 s1 [] p1
runs_of m0 n0 m1 s0 t0 s1 p0 p1 r m e n = subst (λ (p : List LinkNews). RunsOrders n0 m1 t0 s1 p p1) n (subst (λ (t : Programs). RunsOrders n0 m1 t s1 p0 p1) e (subst (λ (x : Mails). RunsOrders x m1 s0 s1 p0 p1) m r))

-- a runner that was ordered nothing
pub idle_mail : (mails0 mails1 : Mails) (ring ring1 : Ring) (s0 s1 : Programs) (p0 p1 : List LinkNews) → mails0 ≡ Some (ring, []) ∷ [] → ring1 ≡ ring → p0 ≡ [] → RunsOrders mails0 mails1 s0 s1 p0 p1 → (got : List Order) × HasMail mails1 0 ring1 got
idle_mail mails0 mails1 ring ring1 s0 s1 p0 p1 none same fresh r =
    let o = orders_of mails0 mails1 ring s0 s1 p1 none (runs_of mails0 mails0 mails1 s0 s0 s1 p0 p1 r refl refl fresh) in
    (o.0, subst (λ (k : Ring). HasMail mails1 0 k o.0) (sym same) (subst (λ (m : Mails). HasMail m 0 ring o.0) (sym o.1) refl))

pub idle_ran : (mails0 mails1 : Mails) (ring ring1 : Ring) (s0 s1 : Programs) (p0 p1 : List LinkNews) (rest : Option Order) (ordered : List Order) → mails0 ≡ Some (ring, []) ∷ [] → ring1 ≡ ring → p0 ≡ [] → ordered ≡ [] ∷ []
    → RunsOrders mails0 mails1 s0 s1 p0 p1 → ((got : List Order) → HasMail mails1 0 ring1 got → Empties rest got ordered) → (s1.runs ≡ s0.runs) × (s1.faults ≡ s0.faults)
idle_ran mails0 mails1 ring ring1 s0 s1 p0 p1 rest ordered none same fresh are r closed =
    ran_nothing ring mails0 mails1 s0 s1 p1 rest ordered none are (runs_of mails0 mails0 mails1 s0 s0 s1 p0 p1 r refl refl fresh) (λ got h. closed got (subst (λ (k : Ring). HasMail mails1 0 k got) (sym same) h))

-- the orders went through one ring
pub ring_is : (a : Setting) (now : Beside) (s : Seen) (h : Halt) → Goes (Some h) a now s → s.ring ≡ a.orders
ring_is a now s (halt.At why) c = c.heard.ring
ring_is a now s halt.Astray x = x.stray.ring

-- a sink that is closed does not change why the worker listens no more
pub still_goes : {N : Type 0} (sunk : N → Option Sunk) (faults : N → ℕ) (a : Setting) (now : Beside) (h : Halt) (x y : Server N) → y ≡ record x { speaker = record (x.speaker) { sink = y.speaker.sink } }
    → Goes (Some h) a now (seen sunk faults x) → Goes (Some h) a now (at_sink (sunk x.speaker.sink) (faults x.speaker.sink) (seen sunk faults y))
still_goes {N} sunk faults a now h x y e g = subst (λ (z : Server N). Goes (Some h) a now (at_sink (sunk x.speaker.sink) (faults x.speaker.sink) (seen sunk faults z))) (sym e) g

pub still_closes : {N : Type 0} (sunk : N → Option Sunk) (faults : N → ℕ) (closed : Bool) (old : Option Sunk) (before : ℕ) (p q : Speaker N) → q ≡ p → Closes closed old (sunk p.sink) before (faults p.sink) → Closes closed old (sunk q.sink) before (faults q.sink)
still_closes {N} sunk faults closed old before p q e c = subst (λ (x : Speaker N). Closes closed old (sunk x.sink) before (faults x.sink)) (sym e) c

-- neither crew refused its job
pub served_at : (status : ℕ) (held : Option Held) (s0 s1 : Spring) (old new : Scene) (readers runners : ℕ) → readers ≡ new.reader_refusals → runners ≡ new.runner_refusals → Served status held s0 s1 old new
    → Served status held s0 s1 old (record new { reader_refusals = readers; runner_refusals = runners })
served_at status held s0 s1 old new readers runners e f v =
    subst (λ (n : ℕ). Served status held s0 s1 old (record new { reader_refusals = n; runner_refusals = runners })) (sym e) (subst (λ (n : ℕ). Served status held s0 s1 old (record new { runner_refusals = n })) (sym f) v)
