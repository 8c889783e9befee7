-- How a link was served, by what came back of both jobs.
use Rattle.std.proofs.Common.{◌≡◌, ℕ, suc, ◌≤◌, List, [], ◌∷◌, ◌++◌, length, map, Bool, true, false, ◌&&◌, Option, Some, refl, ap, sym, ◌∙◌, subst, arith, append_assoc, inl, inr}
use Rattle.std.specs.Prelude.{◌⊎◌, All}
use Rattle.std.proofs.lemmas.List.{length-append, length-map}
use Rattle.xd_edge.specs.Children.{ChildRun}
use Rattle.xd_edge.specs.Faults.{Rose, RoseBy}
use Rattle.xd_frame.specs.declared.fault.FrameFault.{FrameFault}
use Rattle.xd_frame.specs.Framer.{IsFirstOf}
use Rattle.xd_frame.specs.Message.{MessageView}
use Rattle.xd_frame.specs.Stream.{messages, rest, Rest, Clean, Unfinished, Refused}
use Rattle.xd_frame.specs.Writing.{CountAfter}
use Rattle.xd_journal.specs.declared.entry.Outcome.{Outcome}
use Rattle.xd_link.specs.Spring.{Spring}
use Rattle.xd_post.specs.Post.{Ring}
use Rattle.xd_reader.specs.declared.news.LinkNews.{LinkNews}
use Rattle.xd_reader.specs.declared.news.LinkNews.TheVariants as news
use Rattle.xd_reader.specs.declared.news.LinkStop.{LinkStop}
use Rattle.xd_reader.specs.declared.news.LinkStop.TheVariants as link
use Rattle.xd_reader.specs.Judged.{link_stop_of}
use Rattle.xd_reader.specs.Reads.{PutsAll, StopsAt}
use Rattle.xd_worker_runner.specs.Orders.{ArePieces, EndsCut, EndsWell, IsCommand, IsPiece, Mails, Order, Runs as Ran1, RunsOrders, ProgramsSeen as Programs1, ToldOfProgram, news_of_programs, ran_of, told_news}
use Rattle.xd_worker_runner.specs.Programs.{AreRun, Ran, faults_of}
use Rattle.xd_worker.specs.History.{is_worker_over, worker_after}
use Rattle.xd_worker.specs.Inputs.{has_link_end, has_terminate, messages_in}
use Rattle.xd_worker_serve.specs.Programs.{output_in, ran_in}
use Rattle.xd_worker_serve.specs.Took.{TookAll, TookToLast}
use Rattle.xd_worker_serve.specs.declared.stop.Stop.{Stop}
use Rattle.xd_worker_serve.specs.declared.stop.Stop.TheVariants as stop
use Rattle.xd_worker_serve.specs.Ends.{Closes, Ends, IsCause, IsStill, RunsPrograms, Scene, last_link_stop, terminated_by, voice_of}
use Rattle.xd_worker_serve.specs.inner.Halts.{Ceased, Ceases, Strayed, Strays, IsStrange, IsUncalled, is_sink_whole, worker_status_of}
use Rattle.xd_worker_serve.specs.inner.Joined.{Sources}
use Rattle.xd_worker_serve.specs.inner.News.{dones, news_in}
use Rattle.xd_worker_serve.specs.inner.Seen.{Seen}
use Rattle.xd_worker_serve.specs.inner.Serves.{Beside, NoneEmpty, Setting}
use Rattle.xd_edge.specs.Clock.{Ticking}
use Rattle.xd_worker_serve.specs.Timing.{Times}
use Rattle.xd_worker_serve.specs.Spoke.{Spoke, Voice, voice}
use Rattle.xd_worker_serve.proofs.Counting.{dones-append}
use Rattle.xd_worker_serve.proofs.Puts.{Fronts, end_is_there, fronts, message_is_there}
use Rattle.xd_worker_serve.proofs.Tellings.{rose_earlier, rose_later}
use Rattle.xd_worker_serve.proofs.Rans.{count_rans, last_done, rans, rans-append, rans_in, rans_of, unheard_is}

-- ---- the orders

-- The orders that a runner took up to the empty one are those that were put, of which none is empty.
pub orders_same : (put got : List (List (List ℕ))) (more : List (List (List ℕ))) → NoneEmpty put → put ++ [] ∷ [] ≡ (got ++ [] ∷ []) ++ more → got ≡ put
orders_same [] [] more n e = refl
orders_same [] (x ∷ []) more n e = cc
orders_same [] (x ∷ (y ∷ got)) more n e = cc
orders_same (c ∷ put) [] more n e = absurd (n.0 (first c [] (put ++ [] ∷ []) more e))
  where
    first : (a b : List (List ℕ)) (xs ys : List (List (List ℕ))) → a ∷ xs ≡ b ∷ ys → a ≡ b
    first a b xs ys e = cc
orders_same (c ∷ put) (d ∷ got) more n e =
    let f = both c d (put ++ [] ∷ []) ((got ++ [] ∷ []) ++ more) e in
    ap (λ (x : List (List ℕ)). x ∷ got) (sym f.0) ∙ ap (λ (l : List (List (List ℕ))). c ∷ l) (orders_same put got more n.1 f.1)
  where
    both : (a b : List (List ℕ)) (xs ys : List (List (List ℕ))) → a ∷ xs ≡ b ∷ ys → (a ≡ b) × (xs ≡ ys)
    both a b xs ys e = (first a b xs ys e, last a b xs ys e)
      where
        first : (a b : List (List ℕ)) (xs ys : List (List (List ℕ))) → a ∷ xs ≡ b ∷ ys → a ≡ b
        first a b xs ys e = cc

        last : (a b : List (List ℕ)) (xs ys : List (List (List ℕ))) → a ∷ xs ≡ b ∷ ys → xs ≡ ys
        last a b xs ys e = cc

-- what a runner took without the empty one is no more than what was put
few_orders : (put got : List (List (List ℕ))) (more : List (List (List ℕ))) → NoneEmpty got → put ++ [] ∷ [] ≡ got ++ more → length got ≤ length put
few_orders put [] more n e = omega arith
few_orders [] (x ∷ got) more n e = absurd (n.0 (first [] x [] (got ++ more) e))
  where
    first : (a b : List (List ℕ)) (xs ys : List (List (List ℕ))) → a ∷ xs ≡ b ∷ ys → b ≡ a
    first a b xs ys e = cc
few_orders (c ∷ put) (x ∷ got) more n e = let f = few_orders put got more n.1 (last c x (put ++ [] ∷ []) (got ++ more) e) in omega (arith, f)
  where
    last : (a b : List (List ℕ)) (xs ys : List (List (List ℕ))) → a ∷ xs ≡ b ∷ ys → xs ≡ ys
    last a b xs ys e = cc

-- ---- how many programs ended

done_pieces : (pieces : List (List ℕ)) (ns : List LinkNews) → dones (map news.Output pieces ++ ns) ≡ dones ns
done_pieces [] ns = refl
done_pieces (p ∷ pieces) ns = done_pieces pieces ns

pub done_of : (ps : List ToldOfProgram) → dones (news_of_programs ps) ≡ length ps
done_of [] = refl
done_of (p ∷ ps) =
    let a = done_pieces p.pieces (news.ChildDone p.outcome ∷ []) in
    let b = done_of ps in
    let c = dones-append (told_news p) (news_of_programs ps) in
    omega (arith, a, b, c)

-- as many programs came to an end as were ordered
ran_as_many : (orders : List (List (List ℕ))) (rs : List Ran) (old new : Option (List ChildRun)) → AreRun orders rs old new → length rs ≡ length orders
ran_as_many orders rs old new r =
    let a = length-map r.children (λ (c : ChildRun). c.args) in
    let b = ap (λ (l : List (List (List ℕ))). length l) r.commands_are in
    let c = ap (λ (l : List (List ℕ)). length l) r.outputs_are in
    let d = length-map r.children (λ (x : ChildRun). x.output) in
    let e = length-map rs (λ (x : Ran). x.output) in
    omega (arith, a, b, c, d, e)

-- What a runner put, where all that it was ordered was taken.
pub record AllRan (orders : List (List (List ℕ))) (put : List LinkNews) (runs0 runs1 : Option (List ChildRun)) (faults0 faults1 : ℕ) : Type 0 where
  pub ran : List ToldOfProgram
  pub put_is : put ≡ news_of_programs ran
  pub sizes : All ArePieces ran
  pub run : AreRun orders (map ran_of ran) runs0 runs1
  pub faults : RoseBy (faults_of (map ran_of ran)) faults0 faults1
  pub still : faults_of (map ran_of ran) ≡ 0 → faults1 ≡ faults0
  pub later : faults0 ≤ faults1

-- ---- no command is empty

all_head : {X : Type 0} (P : X → Type 0) (x : X) (xs : List X) → All P (x ∷ xs) → P x
all_head P x xs a = a 0 x (omega arith)

all_tail : {X : Type 0} (P : X → Type 0) (x : X) (xs : List X) → All P (x ∷ xs) → All P xs
all_tail P x xs a = λ k d l. a (suc k) d (omega (arith, l))

none_empty : (os : List Order) (o : Order) → All IsCommand os → IsCommand o → NoneEmpty (os ++ o ∷ [])
none_empty [] o a c = (no_empty o c, tt)
  where
    no_empty : (o : Order) → IsCommand o → o ≡ [] → ⊥
    no_empty o c e = (let n = ap (λ (l : List (List ℕ)). length l) e in absurd (omega (arith, c, n)))
none_empty (x ∷ os) o a c = (no_empty x (all_head IsCommand x os a), none_empty os o (all_tail IsCommand x os a) c)
  where
    no_empty : (o : Order) → IsCommand o → o ≡ [] → ⊥
    no_empty o c e = (let n = ap (λ (l : List (List ℕ)). length l) e in absurd (omega (arith, c, n)))

module _ (orders : List (List (List ℕ))) (some : NoneEmpty orders) (ring : Ring) (mails0 mails1 : Mails) (s0 s1 : Programs1)
    (put : List LinkNews) (none : mails0 ≡ Some (ring, []) ∷ []) (ordered : (got : List (List (List ℕ))) → mails1 ≡ Some (ring, got) ∷ [] → (more : List (List (List ℕ))) × (orders ++ [] ∷ [] ≡ got ++ more))
    (of_runner more : List LinkNews) (taken : put ≡ of_runner ++ more) (drained : length orders ≤ dones of_runner) where
  -- memory did not run out
  not_short : (got : List Order) (told : List ToldOfProgram) (mid : Programs1) (sent : List LinkNews) → Ran1 got told s0 mid [] sent → EndsCut got mails0 mails1 mid s1 sent put → ⊥
  not_short got told mid sent r e =
      let o = ordered (got ++ e.order ∷ []) (e.took ring [] none) in
      let a = few_orders orders (got ++ e.order ∷ []) o.0 (none_empty got e.order r.commands e.command) o.1 in
      let a1 = length-append got (e.order ∷ []) in
      let b = done_of told in
      let c = dones-append of_runner more in
      let d = dones-append (news_of_programs told) (map news.Output e.pieces ++ news.End link.OutOfMemory ∷ []) in
      let x = done_pieces e.pieces (news.End link.OutOfMemory ∷ []) in
      let f = ap dones (sym taken ∙ (e.puts ∙ ap (λ (l : List LinkNews). l ++ (map news.Output e.pieces ++ news.End link.OutOfMemory ∷ [])) r.puts)) in
      let g = ran_as_many got (map ran_of told) s0.runs mid.runs r.run in
      let h = length-map told ran_of in
      absurd (omega (arith, a, a1, b, c, d, x, f, g, h, drained))

  pub all_ran : RunsOrders mails0 mails1 s0 s1 [] put → AllRan orders put s0.runs s1.runs s0.faults s1.faults
  all_ran r = by r.ends
    where
      by : EndsWell r.orders mails0 mails1 r.mid s1 r.sent put ⊎ EndsCut r.orders mails0 mails1 r.mid s1 r.sent put → AllRan orders put s0.runs s1.runs s0.faults s1.faults
      by (inr e) = absurd (not_short r.orders r.told r.mid r.sent r.runs e)
      by (inl e) =
          let o = ordered (r.orders ++ [] ∷ []) (e.took ring [] none) in
          record {
            ran = r.told;
            put_is = e.puts ∙ r.runs.puts;
            sizes = r.runs.pieces;
            run = subst (λ (l : List (List (List ℕ))). AreRun l (map ran_of r.told) s0.runs s1.runs) (orders_same orders r.orders o.0 some o.1)
                (subst (λ (m : Programs1). AreRun r.orders (map ran_of r.told) s0.runs m.runs) (sym e.same) r.runs.run);
            faults = subst (λ (m : Programs1). RoseBy (faults_of (map ran_of r.told)) s0.faults m.faults) (sym e.same) r.runs.rose;
            still = subst (λ (m : Programs1). faults_of (map ran_of r.told) ≡ 0 → m.faults ≡ s0.faults) (sym e.same) r.runs.still;
            later = subst (λ (m : Programs1). s0.faults ≤ m.faults) (sym e.same) r.runs.later;
          }

-- nothing more comes of a runner than what was taken of it when as many ended as were ordered
pub no_more : (orders : List (List (List ℕ))) (put : List LinkNews) (runs0 runs1 : Option (List ChildRun)) (faults0 faults1 : ℕ) (heard : List LinkNews) (x : LinkNews) (more : List LinkNews)
    → AllRan orders put runs0 runs1 faults0 faults1 → put ≡ heard ++ x ∷ more → length orders ≡ dones heard → ⊥
no_more orders put runs0 runs1 faults0 faults1 heard x more r e count =
    let a = last_done r.ran heard x more (sym r.put_is ∙ e) in
    let b = done_of r.ran in
    let c = dones-append heard (x ∷ more) in
    let d = ap dones (sym e ∙ r.put_is) in
    let f = ran_as_many orders (map ran_of r.ran) runs0 runs1 r.run in
    let g = length-map r.ran ran_of in
    absurd (omega (arith, a, b, c, d, f, g, count))

-- ---- what the programs did

pub programs_ended : (a : Setting) (now : Beside) (why : Stop) (s : Seen) (c : Ceased a now why s) (more : List LinkNews) (put : List LinkNews) (old new : Scene)
    → put ≡ c.of_runner ++ more → AllRan s.orders put old.runs new.runs old.child_faults new.child_faults
    → (unheard : List Ran) × (p : RunsPrograms c.heard.inputs c.heard.history c.heard.left unheard old new) × (worker_status_of why ≡ 0 → unheard ≡ []) × (p.started ≡ s.orders)
programs_ended a now why s c more put old new e r =
    let later = c.unheard ++ more in
    let in_put : put ≡ news_in c.heard.inputs ++ later = e ∙ (ap (λ (l : List LinkNews). l ++ more) c.from_programs ∙ append_assoc (news_in c.heard.inputs) c.unheard more) in
    let heard = rans_in c.heard.inputs in
    let unheard = rans (output_in c.heard.inputs) later in
    let all : map ran_of r.ran ≡ ran_in c.heard.inputs ++ unheard =
    sym (rans_of r.ran) ∙ (ap (rans []) (sym r.put_is ∙ in_put) ∙ (rans-append [] (news_in c.heard.inputs) later ∙ two_parts (rans [] (news_in c.heard.inputs)) (ran_in c.heard.inputs) _ (output_in c.heard.inputs) later heard.0 heard.1)) in
    let few : length unheard ≡ c.heard.running = (
    let x = ran_as_many s.orders (map ran_of r.ran) old.runs new.runs r.run in
    let y = ap (λ (l : List Ran). length l) all in
    let z = length-append (ran_in c.heard.inputs) unheard in
    let v = ap (λ (l : List Ran). length l) heard.0 in
    let w = count_rans [] (news_in c.heard.inputs) in
    let u = c.heard.count in
    omega (arith, x, y, z, v, w, u)) in (
      unheard,
      record {
        started = s.orders;
        commands = c.heard.commands;
        run = subst (λ (l : List Ran). AreRun s.orders l old.runs new.runs) all r.run;
        heard = unheard_is (output_in c.heard.inputs) later (let o = c.heard.one in omega (arith, few, o));
        faults = subst (λ (l : List Ran). RoseBy (faults_of l) old.child_faults new.child_faults) all r.faults;
        still = subst (λ (l : List Ran). faults_of l ≡ 0 → new.child_faults ≡ old.child_faults) all r.still;
        later = r.later;
      },
      λ z. none unheard (let i = c.heard.idle z in omega (arith, few, i)),
      refl,
    )
  where
    two_parts : (x y : List Ran) (o p : List ℕ) (later : List LinkNews) → x ≡ y → o ≡ p → x ++ rans o later ≡ y ++ rans p later
    two_parts x y o p later e f = ap (λ (l : List Ran). l ++ rans o later) e ∙ ap (λ (l : List ℕ). y ++ rans l later) f

    none : (l : List Ran) → length l ≡ 0 → l ≡ []
    none [] e = refl
    none (r ∷ l) e = absurd (omega (arith, e))

-- ---- the link

clean_by : (r : Rest) → link_stop_of r ≡ link.Ended → r ≡ Clean
clean_by Clean e = refl
clean_by Unfinished e = cc
clean_by (Refused f) e = cc

cut_by : (r : Rest) → link_stop_of r ≡ link.Cut → r ≡ Unfinished
cut_by Clean e = cc
cut_by Unfinished e = refl
cut_by (Refused f) e = cc

refused_by : (r : Rest) (f : FrameFault) → link_stop_of r ≡ link.Garbled f → r ≡ Refused f
refused_by Clean f e = cc
refused_by Unfinished f e = cc
refused_by (Refused g) f e = ap Refused (garbled g f e)
  where
    garbled : (g f : FrameFault) → link.Garbled g ≡ link.Garbled f → g ≡ f
    garbled g f e = cc

module _ (a : Setting) (now : Beside) (s : Seen) (before : Sources) (old new : Scene) (why : Stop) (c : Ceased a now why s)
    (s0 s1 : Spring) (put more0 more1 runner_put : List LinkNews) (reads : PutsAll false s0 s1 [] put) (taken : put ≡ c.of_reader ++ more0) (noted : s.link_stop ≡ Some reads.stop)
    (taken1 : runner_put ≡ c.of_runner ++ more1) (ran : AllRan s.orders runner_put old.runs new.runs old.child_faults new.child_faults)
    (closed : Bool) (closes : Closes closed s.sunk new.sunk s.sink_faults new.sink_faults) (first_is : a.first ≡ voice_of old) (files_is : new.file_faults ≡ now.file_faults) (clock_is : old.clock ≡ a.clock) (clock_now : new.clock ≡ now.clock)
    (readers_are : new.reader_refusals ≡ old.reader_refusals) (runners_are : new.runner_refusals ≡ old.runner_refusals) where
  abbrev bytes : List ℕ
  bytes = reads.reads.bytes

  abbrev ms : List MessageView
  ms = messages_in c.heard.inputs

  all : map news.Message reads.put ++ news.End reads.stop ∷ [] ≡ map news.Message ms ++ (c.heard.preceding ++ (c.later ++ more0))
  all = sym reads.comes ∙ (taken ∙ (ap (λ (l : List LinkNews). l ++ more0) c.from_link ∙ (append_assoc (map news.Message ms) (c.heard.preceding ++ c.later) more0 ∙ ap (λ (l : List LinkNews). map news.Message ms ++ l) (append_assoc c.heard.preceding c.later more0))))

  put_is : reads.put ≡ messages bytes
  put_is = reads.reads.all

  begins : IsFirstOf ms (messages bytes)
  begins = let f = fronts ms reads.put (c.heard.preceding ++ (c.later ++ more0)) reads.stop all in (f.rest, sym put_is ∙ f.all_is)

  following : (preceding : List LinkNews) → c.heard.preceding ≡ preceding → map news.Message reads.put ++ news.End reads.stop ∷ [] ≡ map news.Message ms ++ (preceding ++ (c.later ++ more0))
  following preceding e = all ∙ ap (λ (l : List LinkNews). map news.Message ms ++ (l ++ (c.later ++ more0))) e

  at_end : (l : LinkStop) → c.heard.preceding ≡ news.End l ∷ [] → has_terminate ms ≡ false → TookAll (messages bytes) ms × (l ≡ reads.stop)
  at_end l e none = let b = end_is_there ms reads.put (c.later ++ more0) l reads.stop (following (news.End l ∷ []) e) in (record { all_are = sym b.0 ∙ put_is; none_is = none }, b.1)

  stops : (l : LinkStop) → l ≡ reads.stop → StopsAt l false bytes s0 s1
  stops l e = subst (λ (x : LinkStop). StopsAt x false bytes s0 s1) (sym e) reads.reads.cause

  -- the source's count is the one before, or rose
  source_or : (w : LinkStop) → StopsAt w false bytes s0 s1 → (s1.faults ≡ s0.faults) ⊎ Rose s0.faults s1.faults
  source_or link.Ended r = inl r.2
  source_or link.Cut r = inl r.2
  source_or (link.Garbled f) r = inl r.1
  source_or (link.BadGreeting b) r = inl r.1
  source_or link.ReadFault r = inr r
  source_or link.OutOfMemory r = inl r

  sink_was : Spoke a.held c.heard.inputs c.heard.history (is_sink_whole why) (voice_of old) (voice s.sunk s.sink_faults new.file_faults)
  sink_was = subst (λ (n : ℕ). Spoke a.held c.heard.inputs c.heard.history (is_sink_whole why) (voice_of old) (voice s.sunk s.sink_faults n)) (sym files_is) (subst (λ (v : Voice). Spoke a.held c.heard.inputs c.heard.history (is_sink_whole why) v (voice s.sunk s.sink_faults now.file_faults)) first_is c.heard.spoke)

  abbrev did : (unheard : List Ran) × (p : RunsPrograms c.heard.inputs c.heard.history c.heard.left unheard old new) × (worker_status_of why ≡ 0 → unheard ≡ []) × (p.started ≡ s.orders)
  did = programs_ended a now why s c more1 runner_put old new taken1 ran

  times_are : Times c.heard.inputs did.1.started old.clock new.clock
  times_are = subst (λ (l : List (List (List ℕ))). Times c.heard.inputs l old.clock new.clock) (sym did.3)
      (subst (λ (k : Ticking). Times c.heard.inputs s.orders k new.clock) (sym clock_is) (subst (λ (k : Ticking). Times c.heard.inputs s.orders a.clock k) (sym clock_now) c.heard.times))

  -- it ends so, where the sink was closed or not
  ends_so : (w : Stop) → (is_sink_whole why && closed) ≡ is_sink_whole w → (worker_status_of w ≡ 0 → worker_status_of why ≡ 0) → IsStill w s0.faults s1.faults → IsCause w bytes c.heard.inputs c.heard.history s0 s1 old new → Ends w a.held s0 s1 old new
  ends_so w whole none still cause = record {
    bytes = bytes;
    inputs = c.heard.inputs;
    history = c.heard.history;
    left = c.heard.left;
    unheard = did.0;
    wrote = is_sink_whole why;
    closed = closed;
    sunk = s.sunk;
    sink_faults = s.sink_faults;
    gave = reads.reads.gave;
    first = begins;
    spoke = sink_was;
    closes = closes;
    whole = whole;
    answered = c.heard.path_is;
    programs = did.1;
    times = times_are;
    left_is = c.heard.left_is;
    heard = λ z. did.2 (none z);
    source_count = still;
    crews = λ z. (readers_are, runners_are);
    cause = cause;
  }

  three : (w : Stop) → worker_status_of w ≡ 3 → IsStill w s0.faults s1.faults
  three w e = record { still_or_rose = source_or reads.stop reads.reads.cause; still = λ z. let q = sym e ∙ z in cc }

  zero_still : (w : Stop) → s1.faults ≡ s0.faults → IsStill w s0.faults s1.faults
  zero_still w e = record { still_or_rose = inl e; still = λ z. e }

  zero_by : (w : Stop) → w ≡ why → worker_status_of w ≡ 0 → worker_status_of why ≡ 0
  zero_by w e z = ap worker_status_of (sym e) ∙ z

  -- the sink was whole, and was closed
  whole_by : (w : Stop) → w ≡ why → is_sink_whole w ≡ true → closed ≡ true → (is_sink_whole why && closed) ≡ true
  whole_by w e f z = both (is_sink_whole why) closed (sym (ap is_sink_whole e) ∙ f) z
    where
      both : (x y : Bool) → x ≡ true → y ≡ true → (x && y) ≡ true
      both true y p q = q
      both false y p q = cc

  -- the sink's count rose
  sink_rose : (w : Bool) → CountAfter w old.sink_faults s.sink_faults → (closed ≡ false) ⊎ (w ≡ false) → Rose old.sink_faults new.sink_faults
  sink_rose w count (inl z) = rose_earlier old.sink_faults s.sink_faults new.sink_faults sink_was.sink_later (closes.rose z)
  sink_rose false count (inr z) = rose_later old.sink_faults s.sink_faults new.sink_faults count closes.later
  sink_rose true count (inr z) = cc

  -- GATEWAY_TERMINATE was taken
  terminated : stop.Terminated ≡ why → closed ≡ true → TookToLast ms × (has_link_end c.heard.inputs ≡ false) × (is_worker_over (worker_after c.heard.history) ≡ true) → (l : LinkStop) → l ≡ reads.stop → Ends (terminated_by l) a.held s0 s1 old new
  terminated e z t l f = by l (stops l f)
    where
      well : s1.faults ≡ s0.faults → Ends stop.Terminated a.held s0 s1 old new
      well still = ends_so stop.Terminated (whole_by stop.Terminated e refl z) (zero_by stop.Terminated e) (zero_still stop.Terminated still) t

      by : (l : LinkStop) → StopsAt l false bytes s0 s1 → Ends (terminated_by l) a.held s0 s1 old new
      by link.Ended r = well r.2
      by link.Cut r = well r.2
      by (link.Garbled g) r = well r.1
      by (link.BadGreeting b) r = well r.1
      by link.ReadFault r = ends_so stop.ReadFault (whole_by stop.Terminated e refl z) (λ q. cc) (three stop.ReadFault refl) (inr t.0, r)
      by link.OutOfMemory r = well r

  ended_by : (w : Stop) → w ≡ why → closed ≡ true → Ceases w c.heard.inputs c.heard.history c.heard.preceding → Ends (last_link_stop true w reads.stop) a.held s0 s1 old new
  ended_by stop.NotRun e z x = absurd x
  ended_by stop.Terminated e z x = terminated e z x reads.stop refl
  ended_by stop.Ended e z x =
      let t = at_end link.Ended x.0 x.1 in
      let r = stops link.Ended t.1 in
      ends_so stop.Ended (whole_by stop.Ended e refl z) (zero_by stop.Ended e) (zero_still stop.Ended r.2) (t.0, x.2, x.3, r.1, clean_by (rest bytes) r.0)
  ended_by stop.Cut e z x =
      let t = at_end link.Cut x.0 x.1 in
      let r = stops link.Cut t.1 in
      ends_so stop.Cut (whole_by stop.Cut e refl z) (λ q. cc) (three stop.Cut refl) (t.0, r.1, cut_by (rest bytes) r.0)
  ended_by (stop.Header f) e z x =
      let t = at_end (link.Garbled f) x.0 x.1 in
      let r = stops (link.Garbled f) t.1 in
      ends_so (stop.Header f) (whole_by (stop.Header f) e refl z) (λ q. cc) (three (stop.Header f) refl) (t.0, refused_by (rest bytes) f r.0)
  ended_by (stop.Message f) e z x =
      let b = message_is_there ms reads.put x.0 (c.later ++ more0) reads.stop (following (news.Message x.0 ∷ []) x.1) in
      ends_so (stop.Message f) (whole_by (stop.Message f) e refl z) (λ q. cc) (three (stop.Message f) refl)
      (record { refused = x.0; later = b.0; all_are = sym put_is ∙ b.1; none_is = x.2; why = x.4 }, x.3)
  ended_by stop.ReadFault e z x =
      let t = at_end link.ReadFault x.0 x.1 in
      ends_so stop.ReadFault (whole_by stop.ReadFault e refl z) (λ q. cc) (three stop.ReadFault refl) (inl t.0, stops link.ReadFault t.1)
  ended_by stop.WriteFault e z x = ends_so stop.WriteFault (broken_by closed) (λ q. cc) (three stop.WriteFault refl) (sink_rose (is_sink_whole why) sink_was.sink_count (inr (sym (ap is_sink_whole e))))
    where
      broken_by : (y : Bool) → (is_sink_whole why && y) ≡ false
      broken_by y = ap (λ (x : Bool). x && y) (sym (ap is_sink_whole e))

  pub ended : (l : LinkStop) → l ≡ reads.stop → Ends (last_link_stop closed why l) a.held s0 s1 old new
  ended l f = by closed refl
    where
      by : (b : Bool) → closed ≡ b → Ends (last_link_stop b why l) a.held s0 s1 old new
      by true z = subst (λ (x : LinkStop). Ends (last_link_stop true why x) a.held s0 s1 old new) (sym f) (ended_by why refl z c.heard.cause)
      by false z = ends_so stop.WriteFault (ap (λ (y : Bool). is_sink_whole why && y) z ∙ none (is_sink_whole why)) (λ q. cc) (three stop.WriteFault refl) (sink_rose (is_sink_whole why) sink_was.sink_count (inl z))
        where
          none : (x : Bool) → (x && false) ≡ false
          none true = refl
          none false = refl

-- ---- what could not come

abbrev Fits : LinkNews → Type 0
Fits (news.Message m) = ⊥
Fits (news.End why) = ⊥
Fits (news.Output b) = length b ≤ 4096
Fits (news.ChildDone outcome) = Unit {0}

abbrev AllFit : List LinkNews → Type 0
AllFit [] = Unit {0}
AllFit (x ∷ xs) = Fits x × AllFit xs

pieces_fit : (pieces : List (List ℕ)) (o : Outcome) (ns : List LinkNews) → All IsPiece pieces → AllFit ns → AllFit ((map news.Output pieces ++ news.ChildDone o ∷ []) ++ ns)
pieces_fit [] o ns a f = (tt, f)
pieces_fit (p ∷ pieces) o ns a f = ((all_head IsPiece p pieces a).1, pieces_fit pieces o ns (all_tail IsPiece p pieces a) f)

all_fit : (ps : List ToldOfProgram) → All ArePieces ps → AllFit (news_of_programs ps)
all_fit [] s = tt
all_fit (p ∷ ps) s = pieces_fit p.pieces p.outcome (news_of_programs ps) (all_head ArePieces p ps s) (all_fit ps (all_tail ArePieces p ps s))

fits_at : (ns : List LinkNews) (x : LinkNews) (more : List LinkNews) → AllFit (ns ++ x ∷ more) → Fits x
fits_at [] x more f = f.0
fits_at (n ∷ ns) x more f = fits_at ns x more f.1

never_bad : (r : Rest) (b : ℕ) → link_stop_of r ≡ link.BadGreeting b → ⊥
never_bad Clean b e = cc
never_bad Unfinished b e = cc
never_bad (Refused f) b e = cc

-- an item that no job puts was not taken
pub not_strayed : (a : Setting) (s : Seen) (x : Strayed a s) (s0 s1 : Spring) (put more0 more1 runner_put : List LinkNews) (runs0 runs1 : Option (List ChildRun)) (faults0 faults1 : ℕ) → PutsAll false s0 s1 [] put → put ≡ x.of_reader ++ more0
    → runner_put ≡ x.of_runner ++ more1 → AllRan s.orders runner_put runs0 runs1 faults0 faults1 → ⊥
not_strayed a s x s0 s1 put more0 more1 runner_put runs0 runs1 faults0 faults1 reads taken taken1 ran = by x.strays
  where
    strange : (item : LinkNews) (later : List LinkNews) → IsStrange item → x.of_reader ≡ map news.Message x.stray.messages ++ item ∷ later → ⊥
    strange item later odd e = go f.rest f.following_is
      where
        all : map news.Message reads.put ++ news.End reads.stop ∷ [] ≡ map news.Message x.stray.messages ++ (item ∷ (later ++ more0))
        all = sym reads.comes ∙ (taken ∙ (ap (λ (l : List LinkNews). l ++ more0) e ∙ append_assoc (map news.Message x.stray.messages) (item ∷ later) more0))

        f : Fronts x.stray.messages reads.put (item ∷ (later ++ more0)) reads.stop
        f = fronts x.stray.messages reads.put (item ∷ (later ++ more0)) reads.stop all

        at_stop : (l : LinkStop) → IsStrange (news.End l) → StopsAt l false reads.reads.bytes s0 s1 → ⊥
        at_stop link.Ended o r = o
        at_stop link.Cut o r = o
        at_stop (link.Garbled g) o r = o
        at_stop (link.BadGreeting b) o r = never_bad (rest reads.reads.bytes) b r.0
        at_stop link.ReadFault o r = o
        at_stop link.OutOfMemory o r = o

        head_is : (y : LinkNews) (ys zs : List LinkNews) → item ∷ ys ≡ y ∷ zs → item ≡ y
        head_is y ys zs e = cc

        go : (rest : List MessageView) → item ∷ (later ++ more0) ≡ map news.Message rest ++ news.End reads.stop ∷ [] → ⊥
        go [] q = at_stop reads.stop (subst IsStrange (head_is (news.End reads.stop) (later ++ more0) [] q) odd) reads.reads.cause
        go (m ∷ rest) q = subst IsStrange (head_is (news.Message m) (later ++ more0) (map news.Message rest ++ news.End reads.stop ∷ []) q) odd

    uncalled : (item : LinkNews) (later : List LinkNews) → IsUncalled x.stray.running item → x.of_runner ≡ x.stray.preceding ++ item ∷ later → ⊥
    uncalled item later odd e = go item odd (fits_at x.stray.preceding item (later ++ more1) (subst AllFit (sym ran.put_is ∙ there) (all_fit ran.ran ran.sizes))) idle
      where
        there : runner_put ≡ x.stray.preceding ++ item ∷ (later ++ more1)
        there = taken1 ∙ (ap (λ (l : List LinkNews). l ++ more1) e ∙ append_assoc x.stray.preceding (item ∷ later) more1)

        idle : x.stray.running ≡ 0 → ⊥
        idle z = no_more s.orders runner_put runs0 runs1 faults0 faults1 x.stray.preceding item (later ++ more1) ran there (let q = x.stray.count in omega (arith, q, z))

        go : (n : LinkNews) → IsUncalled x.stray.running n → Fits n → (x.stray.running ≡ 0 → ⊥) → ⊥
        go (news.Message m) o f i = f
        go (news.End why) o f i = f
        go (news.Output b) (inl z) f i = i z
        go (news.Output b) (inr l) f i = absurd (omega (arith, l, f))
        go (news.ChildDone outcome) o f i = i o

    by : Strays x.stray.item x.stray.messages x.stray.preceding x.stray.running x.of_reader x.of_runner → ⊥
    by (inl e) = strange x.stray.item e.0 e.2 e.1
    by (inr e) = uncalled x.stray.item e.0 e.2 e.1
