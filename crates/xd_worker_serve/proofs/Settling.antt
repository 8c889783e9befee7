-- What a worker that listens does after an input, and why it ceases.
use Rattle.std.proofs.Common.{◌≡◌, ℕ, ◌+◌, ◌<◌, List, [], ◌∷◌, ◌++◌, length, map, Bool, true, false, not, ◌&&◌, Option, Some, None, refl, ap, sym, ◌∙◌, subst, arith, append_assoc, inl, inr}
use Rattle.std.specs.Prelude.{is_none, is_some, IsSome}
use Rattle.std.proofs.lemmas.List.{append-nil, length-append}
use Rattle.xd_edge.specs.Sink.{Sunk}
use Rattle.xd_frame.specs.Message.{MessageView}
use Rattle.xd_reader.specs.declared.news.LinkNews.{LinkNews}
use Rattle.xd_reader.specs.declared.news.LinkNews.TheVariants as news
use Rattle.xd_reader.specs.declared.news.LinkStop.{LinkStop}
use Rattle.xd_reader.specs.declared.news.LinkStop.TheVariants as link
use Rattle.xd_worker_tests.specs.Line.{running_test}
use Rattle.xd_suite.specs.Tests.{run_at}
use Rattle.xd_worker.specs.declared.input.WorkerInput.{WorkerInput}
use Rattle.xd_worker.specs.declared.input.WorkerInput.TheVariants.{Message}
use Rattle.xd_worker.specs.declared.input.WorkerFault.{WorkerFault}
use Rattle.xd_worker.specs.declared.input.WorkerFault.TheVariants as fault
use Rattle.xd_worker.specs.declared.worker.WorkerCore.{WorkerCore}
use Rattle.xd_worker.specs.Worker.{Worker, running_in}
use Rattle.xd_worker.specs.History.{HeardInput, is_worker_over, worker_after}
use Rattle.xd_worker.specs.Stands.{FaultHasReason, StandsForInputs}
use Rattle.xd_worker_serve.specs.inner.Running.{call_of_service}
use Rattle.xd_worker.specs.Inputs.{has_terminate, messages_in}
use Rattle.xd_worker_serve.specs.Programs.{AreLeft, last_commands}
use Rattle.xd_worker_serve.proofs.Facts.{listens, none_is, none_runs}
use Rattle.xd_worker_serve.proofs.Steps.{running_is}
use Rattle.xd_worker_serve.specs.declared.server.Door.{Door}
use Rattle.xd_worker_serve.specs.declared.server.Door.TheVariants as door
use Rattle.xd_worker_serve.specs.declared.stop.Stop.{Stop}
use Rattle.xd_worker_serve.specs.declared.stop.Stop.TheVariants as stop
use Rattle.xd_worker_serve.specs.inner.Halts.{Ceased, Ceases, CeasesBy, Goes, IsStrange, IsUncalled, Strayed, is_sink_whole, over_by, worker_status_of}
use Rattle.xd_worker_serve.specs.inner.News.{news_in}
use Rattle.xd_worker_serve.specs.inner.Seen.{Seen, is_door_shut}
use Rattle.xd_worker_serve.specs.inner.Serves.{Beside, beside, FromLink, HeardEnd, HeardLast, IsBusy, NoneEmpty, Owed, RunsTest, RunsSo, ServesSoFar, Setting, left_commands, nothing, owed_of_link, of_program, to_start, with_item}
use Rattle.xd_edge.specs.Clock.{Ticking, Ticks}
use Rattle.xd_worker_serve.specs.Timing.{durations_in, one_if}
use Rattle.xd_worker_serve.specs.Spoke.{Spoke, voice}
use Rattle.xd_worker_serve.proofs.Counting.{dones-append}
use Rattle.xd_worker_serve.proofs.Timings.{at_most, begun_at, count_of, times_of}

pub not_none : (o : Option ℕ) (b : Bool) → is_some o ≡ not b → b ≡ false → IsSome o
not_none o b e f = e ∙ ap not f

-- ---- a test is ordered

none_empty_more : (orders : List (List (List ℕ))) (command : List (List ℕ)) → NoneEmpty orders → 0 < length command → NoneEmpty (orders ++ command ∷ [])
none_empty_more [] [] n l = absurd (omega (arith, l))
none_empty_more [] (x ∷ c) n l = ((λ e. cc), tt)
none_empty_more (o ∷ orders) c n l = (n.0, none_empty_more orders c n.1 l)

some_by : (x : Option ℕ) (a b : ℕ) → x ≡ Some a → x ≡ Some b → a ≡ b
some_by x a b e f = let z = sym e ∙ f in cc

-- the command that is to be started is that of the running test
left_is : (left : List (List (List ℕ))) (w : Worker) (test : ℕ) → running_in w.duties.service ≡ Some test → RunsSo None left w → (left ≡ run_at w.duties.tests test ∷ []) × IsBusy w
left_is [] w test e r = let z = sym (running_is w.duties.service ∙ none_runs (call_of_service w.duties.service) r) ∙ e in cc
left_is (command ∷ more) w test e r =
    let b : IsBusy w = r.0 in
    let same : b.test ≡ test = some_by (running_test (call_of_service w.duties.service)) b.test test b.runs (sym (running_is w.duties.service) ∙ e) in
    (ap (λ (l : List (List (List ℕ))). command ∷ l) r.2 ∙ ap (λ (c : List (List ℕ)). c ∷ []) (r.1 ∙ ap (run_at w.duties.tests) same), b)

module _ (a : Setting) (now : Beside) (s : Seen) where
  pub ordered : (test moment : ℕ) (command : List (List ℕ)) (clock : Ticking) → Ticks moment now.clock clock → s.started ≡ None → RunsTest test s.core → ((h : List HeardInput) → StandsForInputs s.core h → command ≡ run_at (worker_after h).duties.tests test) → 0 < length command → s.broken ≡ false
      → ServesSoFar a now (to_start None) s → ServesSoFar a (beside now.file_faults clock) nothing (record s { started = Some moment; orders = s.orders ++ command ∷ [] })
  ordered test moment command clock ticks none runs is some whole g =
      let h = g.heard.history in
      let w = worker_after h in
      let l = left_is (last_commands h) w test (runs h g.heard.stands) (subst (λ (o : Option ℕ). RunsSo o (last_commands h) w) none g.left.runs) in
      record {
        heard = g.heard;
        ordered = record {
          each = one_more (subst (λ (o : Option ℕ). length s.orders ≡ length (durations_in g.heard.inputs) + one_if o) none g.ordered.each);
          timed = begun_at s.started (durations_in g.heard.inputs) moment a.clock now.clock clock none g.ordered.timed ticks;
          some = none_empty_more s.orders command g.ordered.some some;
          ring = g.ordered.ring;
        };
        left = record {
          commands = g.left.commands ∙ (ap (λ (x : List (List (List ℕ))). s.orders ++ x) (l.0 ∙ ap (λ (c : List (List ℕ)). c ∷ []) (sym (is h g.heard.stands))) ∙ sym (append-nil (s.orders ++ command ∷ [])));
          whole = λ z. whole;
          runs = l.1;
          reads = tt;
        };
        taken = g.taken;
      }
    where
      one_more : length s.orders ≡ length (durations_in g.heard.inputs) + 0 → length (s.orders ++ command ∷ []) ≡ length (durations_in g.heard.inputs) + 1
      one_more e = let n = length-append s.orders (command ∷ []) in omega (arith, e, n)

  -- nothing is to be done
  settled_as : s.broken ≡ false → (g : ServesSoFar a now (to_start None) s) → last_commands g.heard.history ≡ [] → ServesSoFar a now nothing s
  settled_as whole g none = record {
    heard = g.heard;
    ordered = g.ordered;
    left = record {
      commands = g.left.commands ∙ ap (λ (x : List (List (List ℕ))). s.orders ++ x) none;
      whole = λ z. whole;
      runs = subst (λ (x : List (List (List ℕ))). RunsSo s.started x (worker_after g.heard.history)) none g.left.runs;
      reads = tt;
    };
    taken = g.taken;
  }

  -- a test runs that was started before
  pub runs_on : s.broken ≡ false → IsSome s.started → ServesSoFar a now (to_start None) s → ServesSoFar a now nothing s
  runs_on whole some g = settled_as whole g (none_left s.started (last_commands g.heard.history) some g.left.runs)
    where
      none_left : (started : Option ℕ) (left : List (List (List ℕ))) → IsSome started → RunsSo started left (worker_after g.heard.history) → left ≡ []
      none_left None left e r = cc
      none_left (Some m) [] e r = refl
      none_left (Some m) (c ∷ left) e r = absurd r

  idle_left : (started : Option ℕ) (left : List (List (List ℕ))) (w : Worker) → running_in w.duties.service ≡ None → RunsSo started left w → (left ≡ []) × (started ≡ None)
  idle_left None [] w e r = (refl, refl)
  idle_left None (c ∷ left) w e r = let b : IsBusy w = r.0 in let z = sym (running_is w.duties.service ∙ b.runs) ∙ e in cc
  idle_left (Some m) [] w e r = let z = sym (running_is w.duties.service ∙ r.runs) ∙ e in cc
  idle_left (Some m) (c ∷ left) w e r = absurd r

  over_if : (w : Worker) → w.duties.stopped ≡ true → running_in w.duties.service ≡ None → is_worker_over w ≡ true
  over_if w e f = both w.duties.stopped (is_none (running_in w.duties.service)) e (none_is (running_in w.duties.service) f)
    where
      both : (a b : Bool) → a ≡ true → b ≡ true → (a && b) ≡ true
      both true b x y = y
      both false b x y = x

  -- a suite is owed, if any, and an item of the reader, if any
  abbrev owes : Option (List ℕ) → Option LinkNews → Bool → Owed
  owes path item starts = record { path = path; link = item; program = None; starts = starts }

  -- the worker listens no more: what it heard so far is what it heard in all
  ceases : (path : Option (List ℕ)) (item : Option LinkNews) (starts : Bool) (g : ServesSoFar a now (owes path item starts) s) (why : Stop) (preceding later : List LinkNews) → not s.broken ≡ is_sink_whole why → (is_sink_whole why ≡ true → path ≡ None)
      → (worker_status_of why ≡ 0 → one_if s.started ≡ 0) → AreLeft (is_sink_whole why) (left_commands starts g.heard.history) g.heard.history → with_item item g.heard.of_reader ≡ map news.Message (messages_in g.heard.inputs) ++ (preceding ++ later)
      → Ceases why g.heard.inputs g.heard.history preceding → Ceased a now why s
  ceases path item starts g why preceding later whole asks idle left link cause =
      let count = count_of a now (owes path item starts) s g in
      record {
        heard = record {
          inputs = g.heard.inputs;
          history = g.heard.history;
          left = left_commands starts g.heard.history;
          preceding = preceding;
          running = one_if s.started;
          spoke = subst (λ (b : Bool). Spoke a.held g.heard.inputs g.heard.history b a.first (voice s.sunk s.sink_faults now.file_faults)) whole g.heard.spoke;
          path_is = λ z. g.heard.path_is ∙ asks z;
          cause = cause;
          commands = g.left.commands;
          left_is = left;
          count = count;
          one = at_most s.started;
          times = times_of a now (owes path item starts) s g;
          idle = idle;
          some = g.ordered.some;
          ring = g.ordered.ring;
        };
        of_reader = with_item item g.heard.of_reader;
        of_runner = news_in g.heard.inputs;
        later = later;
        unheard = [];
        taken = record { mails_are = g.taken.mails_are; noted = g.taken.noted; drained = λ z. omega (arith, count) };
        from_link = link;
        from_programs = sym (append-nil (news_in g.heard.inputs));
      }

  -- nothing runs
  pub idle_goes : s.broken ≡ false → ((h : List HeardInput) → StandsForInputs s.core h → running_in (worker_after h).duties.service ≡ None) → ServesSoFar a now (to_start None) s → Goes (over_by s.door) a now s
  idle_goes whole none g = by s.door refl
    where
      l : (last_commands g.heard.history ≡ []) × (s.started ≡ None)
      l = idle_left s.started (last_commands g.heard.history) (worker_after g.heard.history) (none g.heard.history g.heard.stands) g.left.runs

      over : is_door_shut s.door ≡ true → is_worker_over (worker_after g.heard.history) ≡ true
      over e = over_if (worker_after g.heard.history) (g.heard.stopped ∙ e) (none g.heard.history g.heard.stands)

      ceased : (why : Stop) (preceding later : List LinkNews) → is_sink_whole why ≡ true → g.heard.of_reader ≡ map news.Message (messages_in g.heard.inputs) ++ (preceding ++ later) → Ceases why g.heard.inputs g.heard.history preceding → Ceased a now why s
      ceased why preceding later w link cause =
          ceases None None true g why preceding later (ap not whole ∙ sym w) (λ z. refl) (λ z. ap one_if l.1) (subst (λ (b : Bool). AreLeft b (last_commands g.heard.history) g.heard.history) (sym w) l.0) link cause

      by : (d : Door) → s.door ≡ d → Goes (over_by d) a now s
      by door.Open e = settled_as whole g l.0
      by door.Terminated e =
          let x : HeardLast g.heard.inputs g.heard.of_reader = subst (λ (d : Door). FromLink d g.heard.inputs g.heard.of_reader) e g.heard.from_link in
          ceased stop.Terminated [] x.later refl x.got_is (x.last, x.no_end, over (ap is_door_shut e))
      by door.Ended e =
          let x : HeardEnd g.heard.inputs g.heard.of_reader = subst (λ (d : Door). FromLink d g.heard.inputs g.heard.of_reader) e g.heard.from_link in
          ceased stop.Ended (news.End link.Ended ∷ []) x.later refl x.got_is (refl, x.none_last, x.end, over (ap is_door_shut e))

  -- the sink failed
  pub broken_ceases : (path : Option (List ℕ)) → s.broken ≡ true → ServesSoFar a now (to_start path) s → Ceased a now stop.WriteFault s
  broken_ceases path broken g =
      let l = from_door s.door g.heard.from_link in
      ceases path None true g stop.WriteFault [] l.0 (ap not broken) (λ z. cc) (λ z. cc) refl l.1 tt
    where
      from_door : (d : Door) → FromLink d g.heard.inputs g.heard.of_reader → (later : List LinkNews) × (g.heard.of_reader ≡ map news.Message (messages_in g.heard.inputs) ++ later)
      from_door door.Open x = ([], x.got_is ∙ sym (append-nil (map news.Message (messages_in g.heard.inputs))))
      from_door door.Terminated x = (x.later, x.got_is)
      from_door door.Ended x = (news.End link.Ended ∷ x.later, x.got_is)

  -- a message is refused, or the link cannot be read on
  ceased_before : (why : Stop) (item : LinkNews) → is_sink_whole why ≡ true → worker_status_of why ≡ 3 → s.door ≡ door.Open → (g : ServesSoFar a now (owed_of_link item) s) → Ceases why g.heard.inputs g.heard.history (item ∷ []) → Ceased a now why s
  ceased_before why item w three o g cause =
      let x = listens s.door g.heard.inputs g.heard.of_reader o g.heard.from_link in
      ceases None (Some item) false g why (item ∷ []) [] (ap not (g.left.whole refl) ∙ sym w) (λ z. refl) (λ z. let q = sym three ∙ z in cc) (subst (λ (b : Bool). AreLeft b [] g.heard.history) (sym w) refl)
      (ap (λ (l : List LinkNews). l ++ item ∷ []) x.got_is) cause

  pub end_ceases : (why : Stop) (stop : LinkStop) → is_sink_whole why ≡ true → worker_status_of why ≡ 3 → s.door ≡ door.Open → ((inputs : List WorkerInput) (h : List HeardInput) → has_terminate (messages_in inputs) ≡ false → Ceases why inputs h (news.End stop ∷ [])) → ServesSoFar a now (owed_of_link (news.End stop)) s → Ceased a now why s
  end_ceases why stop w three o cause g =
      let x = listens s.door g.heard.inputs g.heard.of_reader o g.heard.from_link in
      ceased_before why (news.End stop) w three o g (cause g.heard.inputs g.heard.history x.none_last)

  pub message_ceases : (m : MessageView) (f : WorkerFault) → s.door ≡ door.Open → ((h : List HeardInput) → StandsForInputs s.core h → FaultHasReason (worker_after h) (Message m) f) → ServesSoFar a now (owed_of_link (news.Message m)) s → CeasesBy f a now s
  message_ceases m (fault.Link f) o refused g =
      let x = listens s.door g.heard.inputs g.heard.of_reader o g.heard.from_link in
      ceased_before (stop.Message f) (news.Message m) refl refl o g (m, refl, x.none_last, x.no_end, refused g.heard.history g.heard.stands)
  message_ceases m fault.OutOfMemory o refused g = tt

  -- the core is at fault, and the rest as it was
  pub still_ceases : (core : WorkerCore) (broken : Bool) (sunk : Option Sunk) (faults : ℕ) (f : WorkerFault) → broken ≡ s.broken → sunk ≡ s.sunk → faults ≡ s.sink_faults → CeasesBy f a now s
      → CeasesBy f a now (record s { core = core; broken = broken; sunk = sunk; sink_faults = faults })
  still_ceases core broken sunk faults fault.OutOfMemory b k n g = tt
  still_ceases core broken sunk faults (fault.Link f) b k n g =
      subst (λ (o : Option Sunk). Ceased a now (stop.Message f) (record s { sunk = o; sink_faults = faults })) (sym k)
      (subst (λ (m : ℕ). Ceased a now (stop.Message f) (record s { sink_faults = m })) (sym n) g)

  -- ---- items

  pub dropped : (item : LinkNews) → is_door_shut s.door ≡ true → ServesSoFar a now (owed_of_link item) s → ServesSoFar a now nothing s
  dropped item shut g = record {
    heard = record (g.heard) { of_reader = g.heard.of_reader ++ item ∷ []; from_link = by s.door shut g.heard.from_link };
    ordered = g.ordered;
    left = g.left;
    taken = g.taken;
  }
    where
      by : (d : Door) → is_door_shut d ≡ true → FromLink d g.heard.inputs g.heard.of_reader → FromLink d g.heard.inputs (g.heard.of_reader ++ item ∷ [])
      by door.Open e x = cc
      by door.Terminated e x = record { later = x.later ++ item ∷ []; got_is = ap (λ (l : List LinkNews). l ++ item ∷ []) x.got_is ∙ append_assoc (map news.Message (messages_in g.heard.inputs)) x.later (item ∷ []); last = x.last; no_end = x.no_end }
      by door.Ended e x = record { later = x.later ++ item ∷ []; got_is = ap (λ (l : List LinkNews). l ++ item ∷ []) x.got_is ∙ append_assoc (map news.Message (messages_in g.heard.inputs)) (news.End link.Ended ∷ x.later) (item ∷ []); none_last = x.none_last; end = x.end }

  pub strange : (item : LinkNews) → IsStrange item → s.door ≡ door.Open → ServesSoFar a now (owed_of_link item) s → Strayed a s
  strange item odd o g =
      let x = listens s.door g.heard.inputs g.heard.of_reader o g.heard.from_link in
      let count = count_of a now (owed_of_link item) s g in
      record {
        stray = record { item = item; messages = messages_in g.heard.inputs; preceding = news_in g.heard.inputs; running = one_if s.started; count = count; some = g.ordered.some; ring = g.ordered.ring };
        of_reader = g.heard.of_reader ++ item ∷ [];
        of_runner = news_in g.heard.inputs;
        taken = record { mails_are = g.taken.mails_are; noted = g.taken.noted; drained = λ z. omega (arith, count) };
        strays = inl ([], ap (λ (l : List LinkNews). l ++ item ∷ []) x.got_is, odd);
      }

  pub uncalled : (item : LinkNews) → IsUncalled (one_if s.started) item → ServesSoFar a now (of_program item) s → Strayed a s
  uncalled item odd g =
      let count = count_of a now (of_program item) s g in
      let more = dones-append (news_in g.heard.inputs) (item ∷ []) in
      record {
        stray = record { item = item; messages = messages_in g.heard.inputs; preceding = news_in g.heard.inputs; running = one_if s.started; count = count; some = g.ordered.some; ring = g.ordered.ring };
        of_reader = g.heard.of_reader;
        of_runner = news_in g.heard.inputs ++ item ∷ [];
        taken = record { mails_are = g.taken.mails_are; noted = g.taken.noted; drained = λ z. omega (arith, count, more) };
        strays = inr ([], refl, odd);
      }
