-- A worker that serves its call, and its controller, between two inputs.
use Rattle.std.proofs.Common.{◌≡◌, ℕ, ◌≤◌, List, [], ◌∷◌, ◌++◌, length, Bool, true, false, Option, Some, None, refl, ap, sym, subst, ◌∙◌, append_assoc, append-nil, arith}
use Rattle.std.specs.Prelude.{◌-◌, nat_lt, option_to_list}
use Rattle.std.specs.List.{list_all}
use Rattle.std.proofs.lemmas.Bool.{lt-ltb}
use Rattle.xd_factory.specs.SideTable.{Counts}
use Rattle.xd_frame.specs.Message.{MessageView}
use Rattle.xd_journal.specs.declared.news.What.{What}
use Rattle.xd_journal.specs.declared.news.What.TheVariants as what
use Rattle.xd_commands.specs.declared.order.Order.{Order}
use Rattle.xd_gateway.proofs.Counted.{one_count}
use Rattle.xd_worker_tests.specs.declared.ask.Ask.{Ask}
use Rattle.xd_worker_tests.specs.declared.ask.Ask.TheVariants.{Tell, Piece, CloseLog, End}
use Rattle.xd_worker_tests.specs.declared.input.Input.{Input}
use Rattle.xd_worker_tests.specs.declared.phase.Phase.{Phase}
use Rattle.xd_worker_tests.specs.declared.phase.Phase.TheVariants.{Stopped}
use Rattle.xd_worker_tests.specs.History.{Given, all_asks, call_after, started_tests, turn_after}
use Rattle.xd_worker_tests.specs.Line.{number_of_log}
use Rattle.xd_worker_tests.specs.Logs.{begun_tests, logs_of}
use Rattle.xd_worker_tests.specs.Turns.{CallTurn}
use Rattle.xd_worker_tests.proofs.Logs.{one_log}
use Rattle.xd_worker_tests.proofs.Once.{and_both}
use Rattle.xd_worker.specs.History.{HeardInput, all_said, turn_by, worker_after}
use Rattle.xd_worker.specs.Talk.{Talk}
use Rattle.xd_worker.specs.Turns.{all_asked, asked, ended_call, fed, fed_to, given_in, others}
use Rattle.xd_worker.specs.Worker.{Service, WorkerTurn, running_in}
use Rattle.xd_system.specs.Moment.{IsFirstPart}
use Rattle.xd_system.specs.Tells.{comes_in_run, is_of_run, news_of_ask, news_of_asks, order_in, orders_of, tells}
use Rattle.xd_system_messages.specs.Bridge.{started_by}
use Rattle.xd_system_messages.proofs.Asks.{IsGivenInput, IsOfRun, Lined, is_over}
use Rattle.xd_system_messages.proofs.Spoken.{over_turn, turn_speaks}
use Rattle.xd_system_messages.proofs.Ears.{Ears}
use Rattle.xd_system_messages.proofs.Linked.{Linked, LinkedThen, all_linked, rest_of}
use Rattle.xd_system_messages.proofs.Tables.{Channels, counts, few, numbers_of}

-- what the messages of these orders made of the worker: its call took them, or the first of them where it is over
pub record Took (over : Bool) (given_ taken : List Order) : Type 0 where
  pub all : over ≡ false → given_ ≡ taken
  pub begins : IsFirstPart given_ taken

-- Both ends between two inputs, after these orders came.
pub record Served (taken : List Order) (h : List HeardInput) : Type 0 where
  pub service : Service
  pub is : (worker_after h).duties.service ≡ Some service
  pub channel_is : service.channel ≡ 1
  pub goes : (worker_after h).duties.stopped ≡ false
  pub lined : Lined (call_after service.given)
  pub comes : list_all is_of_run service.given ≡ true
  pub took : Took (is_over (call_after service.given).phase) (orders_of service.given) taken
  pub started : started_by h ≡ started_tests service.given
  pub linked : LinkedThen (is_over (call_after service.given).phase) (begun_tests (call_after service.given)) (call_after service.given).running (all_said h) (record { table = (worker_after h).table; says = [] }) (tells service.given)

-- ---- what asks leave of the worker

record Kept (t u : WorkerTurn) (s : Service) : Type 0 where
  left : Service
  is : u.duties.service ≡ Some left
  channel_is : left.channel ≡ s.channel
  given_is : left.given ≡ s.given
  goes : u.duties.stopped ≡ t.duties.stopped
  run_is : u.run ≡ t.run

one_kept : (a : Ask) (t : WorkerTurn) (s : Service) → t.duties.service ≡ Some s → Kept t (asked 1 a t) s
one_kept (Tell e) t s is = record { left = s; is = is; channel_is = refl; given_is = refl; goes = refl; run_is = refl }
one_kept (Piece log b) t s is = record { left = s; is = is; channel_is = refl; given_is = refl; goes = refl; run_is = refl }
one_kept (CloseLog log) t s is = record { left = s; is = is; channel_is = refl; given_is = refl; goes = refl; run_is = refl }
one_kept (End reason) t s is = record { left = record s { ended = true }; is = ap ended_call is; channel_is = refl; given_is = refl; goes = refl; run_is = refl }

all_kept : (asks : List Ask) (t : WorkerTurn) (s : Service) → t.duties.service ≡ Some s → Kept t (all_asked 1 asks t) s
all_kept [] t s is = record { left = s; is = is; channel_is = refl; given_is = refl; goes = refl; run_is = refl }
all_kept (a ∷ asks) t s is =
    let one = one_kept a t s is in
    let rest = all_kept asks (asked 1 a t) one.left one.is in
    record { left = rest.left; is = rest.is; channel_is = rest.channel_is ∙ one.channel_is; given_is = rest.given_is ∙ one.given_is; goes = rest.goes ∙ one.goes; run_is = rest.run_is ∙ one.run_is }

-- ---- something comes to the call

news_more : (asks more : List Ask) → news_of_asks (asks ++ more) ≡ news_of_asks asks ++ news_of_asks more
news_more [] more = refl
news_more (a ∷ asks) more = ap (λ (n : List What). news_of_ask a ++ n) (news_more asks more) ∙ sym (append_assoc (news_of_ask a) (news_of_asks asks) (news_of_asks more))

tells_more : (gs : List Given) (g : Given) → tells (g ∷ gs) ≡ tells gs ++ news_of_asks (turn_after gs g).asks
tells_more gs g = ap (λ (n : List What). what.Ready ∷ n) (news_more (all_asks gs) (turn_after gs g).asks)

room_is : (o : Option ℕ) (n : ℕ) → n ≤ 2 → nat_lt (others o n) 4096 ≡ true
room_is None n h = lt-ltb n 4096 (omega (arith, h))
room_is (Some k) n h = lt-ltb (n - 1) 4096 (omega (arith, h))

not_stopped : (p : Phase) → IsOfRun p → p ≡ Stopped → ⊥
not_stopped p h e = subst IsOfRun e h

-- the state before a turn, as the inputs leave it
pub record Before (taken : List Order) (h : List HeardInput) (k : Served taken h) (t : WorkerTurn) (n : ℕ) : Type 0 where
  pub is : t.duties.service ≡ Some k.service
  pub goes : t.duties.stopped ≡ false
  pub idle : t.run ≡ None
  pub silent : t.talk.says ≡ []
  pub worker : Channels false (is_over (call_after k.service.given).phase) (begun_tests (call_after k.service.given)) (call_after k.service.given).running t.talk.table.slot
  pub next_is : t.talk.table.next ≡ number_of_log (begun_tests (call_after k.service.given))
  pub count : Counts t.talk.table.slot n

module _ (taken : List Order) (h : List HeardInput) (k : Served taken h) (t : WorkerTurn) (i : Input) (n : ℕ) (b : Before taken h k t n) (ok : IsGivenInput i) where
  abbrev gs : List Given
  gs = k.service.given

  abbrev g : Given
  g = given_in k.service i n

  abbrev begun_by : CallTurn → WorkerTurn
  begun_by x = record t { duties = record (t.duties) { service = Some (record (k.service) { given = g ∷ gs }) }; run = x.run }

  abbrev begun_turn : WorkerTurn
  begun_turn = begun_by (turn_after gs g)

  fed_is : fed i n t ≡ all_asked 1 (turn_after gs g).asks begun_turn
  fed_is = ap (λ (o : Option Service). fed_to o i n t) b.is ∙ ap (λ (c : ℕ). all_asked c (turn_after gs g).asks begun_turn) k.channel_is

  roomy : g.room ≡ true
  roomy =
      let c = call_after gs in
      let same = one_count t.talk.table.slot n (length (numbers_of (is_over c.phase) (begun_tests c) c.running)) b.count (counts false (is_over c.phase) (begun_tests c) c.running t.talk.table.slot b.worker) in
      room_is (running_in (Some k.service)) n (omega (arith, same, few (is_over c.phase) (begun_tests c) c.running))

  -- both ends before the asks
  abbrev linked_before : LinkedThen (is_over (call_after gs).phase) (begun_tests (call_after gs)) (call_after gs).running (all_said h) t.talk (tells gs)
  linked_before = record {
    finished = k.linked.finished;
    goes_on = k.linked.goes_on;
    shut = k.linked.shut;
    linked = record {
      worker = b.worker;
      next_is = b.next_is;
      ears = subst (λ (l : List MessageView). Ears (is_over (call_after gs).phase) k.linked.finished (begun_tests (call_after gs)) (call_after gs).running (all_said h ++ l) (tells gs)) (sym b.silent) k.linked.linked.ears;
    };
  }

  -- both ends after a turn of the call
  record Turned (x : CallTurn) : Type 0 where
    lined : Lined x.call
    linked : LinkedThen (is_over x.call.phase) (begun_tests x.call) x.call.running (all_said h) (all_asked 1 x.asks (begun_by x)).talk (tells gs ++ news_of_asks x.asks)
    stays : is_over (call_after gs).phase ≡ true → is_over x.call.phase ≡ true

  turned : (v : Bool) → is_over (call_after gs).phase ≡ v → Turned (turn_after gs g)
  turned false e =
      let spoken = turn_speaks gs g k.lined e ok in
      let finished_not : k.linked.finished ≡ false = k.linked.goes_on e in
      let start : Linked false false (begun_tests (call_after gs)) (call_after gs).running (all_said h) t.talk (tells gs)
      = subst (λ (f : Bool). Linked false f (begun_tests (call_after gs)) (call_after gs).running (all_said h) t.talk (tells gs)) finished_not
      (subst (λ (o : Bool). Linked o k.linked.finished (begun_tests (call_after gs)) (call_after gs).running (all_said h) t.talk (tells gs)) e linked_before.linked) in
      record {
        lined = spoken.lined;
        linked = all_linked (is_over (turn_after gs g).call.phase) g.room (turn_after gs g).asks (logs_of (call_after gs)) (logs_of (turn_after gs g).call) (all_said h) begun_turn (tells gs) spoken.ends spoken.each
            (one_log.steps gs g (not_stopped (call_after gs).phase k.lined.of_run)) start;
        stays = λ q. absurd (let z : true ≡ false = sym q ∙ e in cc);
      }
  turned true e =
      let same = over_turn gs g e (k.linked.shut e) ok in
      subst Turned (sym same) (record {
        lined = k.lined;
        linked = subst (λ (l : List What). LinkedThen (is_over (call_after gs).phase) (begun_tests (call_after gs)) (call_after gs).running (all_said h) t.talk l) (sym (append-nil (tells gs))) linked_before;
        stays = λ q. q;
      })

  pub served : (h2 : HeardInput) (taken2 : List Order) → turn_by (worker_after h) h2 ≡ fed i n t → comes_in_run i ≡ true
      → (is_over (call_after gs).phase ≡ false → taken2 ≡ taken ++ order_in i) → (is_over (call_after gs).phase ≡ true → (taken2 ≡ taken) × (order_in i ≡ [])) → Served taken2 (h2 ∷ h)
  served h2 taken2 turn comes more none = by_turn (turned (is_over (call_after gs).phase) refl)
    where
      kept : Kept begun_turn (all_asked 1 (turn_after gs g).asks begun_turn) (record (k.service) { given = g ∷ gs })
      kept = all_kept (turn_after gs g).asks begun_turn (record (k.service) { given = g ∷ gs }) refl

      all_turn : turn_by (worker_after h) h2 ≡ all_asked 1 (turn_after gs g).asks begun_turn
      all_turn = turn ∙ fed_is

      took_more : (v w : Bool) → is_over (call_after gs).phase ≡ v → (v ≡ true → w ≡ true) → Took w (orders_of gs ++ order_in i) taken2
      took_more false w e stays =
          let all = ap (λ (l : List Order). l ++ order_in i) (k.took.all e) ∙ sym (more e) in
          record { all = λ q. all; begins = ([], sym all ∙ sym (append-nil (orders_of gs ++ order_in i))) }
      took_more true w e stays =
          let q = none e in
          let same : orders_of gs ++ order_in i ≡ orders_of gs = ap (λ (l : List Order). orders_of gs ++ l) q.1 ∙ append-nil (orders_of gs) in
          record {
            all = λ z. absurd (let y : true ≡ false = sym (stays refl) ∙ z in cc);
            begins = (k.took.begins.0, q.0 ∙ (k.took.begins.1 ∙ ap (λ (l : List Order). l ++ k.took.begins.0) (sym same)));
          }

      given_is : kept.left.given ≡ g ∷ gs
      given_is = kept.given_is

      linked_after : Turned (turn_after gs g) → LinkedThen (is_over (turn_after gs g).call.phase) (begun_tests (turn_after gs g).call) (turn_after gs g).call.running (all_said (h2 ∷ h)) (record { table = (worker_after (h2 ∷ h)).table; says = [] }) (tells (g ∷ gs))
      linked_after u =
          let over = is_over (turn_after gs g).call.phase in
          let c = (turn_after gs g).call in
          let talk_is : (turn_by (worker_after h) h2).talk ≡ (all_asked 1 (turn_after gs g).asks begun_turn).talk = ap (λ (x : WorkerTurn). x.talk) all_turn in
          let told = subst (λ (l : List What). LinkedThen over (begun_tests c) c.running (all_said h) (all_asked 1 (turn_after gs g).asks begun_turn).talk l) (sym (tells_more gs g)) u.linked in
          rest_of over (begun_tests c) c.running (all_said h) (turn_by (worker_after h) h2).talk (tells (g ∷ gs)) (subst (λ (d : Talk). LinkedThen over (begun_tests c) c.running (all_said h) d (tells (g ∷ gs))) (sym talk_is) told)

      by_turn : Turned (turn_after gs g) → Served taken2 (h2 ∷ h)
      by_turn u = record {
        service = kept.left;
        is = ap (λ (x : WorkerTurn). x.duties.service) all_turn ∙ kept.is;
        channel_is = kept.channel_is ∙ k.channel_is;
        goes = ap (λ (x : WorkerTurn). x.duties.stopped) all_turn ∙ (kept.goes ∙ b.goes);
        lined = subst (λ (l : List Given). Lined (call_after l)) (sym given_is) u.lined;
        comes = ap (list_all is_of_run) given_is ∙ and_both (is_of_run g) (list_all is_of_run gs) (and_both g.room (comes_in_run i) roomy comes) k.comes;
        took = subst (λ (l : List Given). Took (is_over (call_after l).phase) (orders_of l) taken2) (sym given_is) (took_more (is_over (call_after gs).phase) (is_over (turn_after gs g).call.phase) refl u.stays);
        started = ap (λ (l : List ℕ). l ++ option_to_list (turn_by (worker_after h) h2).run) k.started ∙ (ap (λ (x : WorkerTurn). started_tests gs ++ option_to_list x.run) all_turn ∙ (ap (λ (r : Option ℕ). started_tests gs ++ option_to_list r) kept.run_is ∙ ap started_tests (sym given_is)));
        linked = subst (λ (l : List Given). LinkedThen (is_over (call_after l).phase) (begun_tests (call_after l)) (call_after l).running (all_said (h2 ∷ h)) (record { table = (worker_after (h2 ∷ h)).table; says = [] }) (tells l)) (sym given_is) (linked_after u);
      }
