-- What an honest worker tells may come, whatever it was told so far and whatever further orders are on the way.
use Rattle.std.proofs.Common.{◌≡◌, ℕ, ◌≤◌, List, [], ◌∷◌, ◌++◌, length, map, Bool, true, false, ◌&&◌, refl, ap, sym, ◌∙◌, subst, arith, append_assoc, inl, inr, take}
use Rattle.std.specs.Prelude.{◌⊎◌, if◌then◌else◌, Option, Some, None, nat_le}
use Rattle.std.specs.List.{list_all, list_any, range_with_len}
use Rattle.std.proofs.lemmas.List.{append-nil}
use Rattle.std.proofs.lemmas.List.Elements.{filter_map-append}
use Rattle.std.proofs.lemmas.Bool.Decides.{nat_tests}
use Rattle.xd_edge.specs.Ids.{is_id}
use Rattle.xd_edge.specs.Limits.{most_tests}
use Rattle.xd_run.specs.Proper.{no_text_twice}
use Rattle.xd_journal.specs.declared.news.What.{What}
use Rattle.xd_journal.specs.declared.news.What.TheVariants as what
use Rattle.xd_commands.specs.declared.order.Order.{Order}
use Rattle.xd_commands.specs.declared.order.Order.TheVariants.{RunTests, RunAll, Steal, Shutdown}
use Rattle.xd_worker_tests.specs.declared.ask.Ask.{Ask}
use Rattle.xd_worker_tests.specs.declared.input.Input.{Input}
use Rattle.xd_worker_tests.specs.declared.input.Input.TheVariants as input
use Rattle.xd_worker_tests.specs.declared.line_entry.LineEntry.TheVariants.{Test, Mark}
use Rattle.xd_worker_tests.specs.declared.phase.Ending.TheVariants.{BadCommand}
use Rattle.xd_worker_tests.specs.declared.phase.Phase.{Phase}
use Rattle.xd_worker_tests.specs.declared.phase.Phase.TheVariants.{Awaiting, Serving, Over}
use Rattle.xd_worker_tests.specs.History.{Given, all_asks, call_after, turn_after}
use Rattle.xd_worker_tests.specs.Line.{FunctionCall, can_give, left, new_call, running_test, tests_in_line}
use Rattle.xd_worker_tests.specs.Turns.{CallTurn, all_heard, answered_in, call_turn_of, done_of, ended_early, given, item_heard, item_heard_in, line_settled, output_fed, told}
use Rattle.xd_run_laws.proofs.Logic.{differ, split-and}
use Rattle.xd_system.specs.LineGiven.{line_given, is_shutdown, marks_last, steals_asked}
use Rattle.xd_system.specs.Fits.{is_collected}
use Rattle.xd_system.specs.Moment.{IsFirstPart}
use Rattle.xd_system.specs.Own.{answer_of_news, answers_in, ends_in, collections_in, collection_of_news}
use Rattle.xd_system.specs.Tells.{are_suite_ids, comes_in_run, is_of_run, news_of_asks, order_in, orders_of, tells}
use Rattle.xd_system.proofs.Call.{AllFit, EndedAll, Finishes, FitAll, IsOverTurn, IsServing, IsServingTurn, IsTurn, MayTake, is_last_told}
use Rattle.xd_system.proofs.Ends.{ends, prints}
use Rattle.xd_system.proofs.Lines.{marks-end}
use Rattle.xd_system.proofs.Puts.{can_give-line, put, put-mark}
use Rattle.xd_system.proofs.Settles.{settles}
use Rattle.xd_system.proofs.Steals.{answers_steal}
use Rattle.xd_system.proofs.Told.{begins-less, told-more}
use Rattle.xd_system.proofs.Grows.{Grows, grows-told, grows-heard, grows-all}
use Rattle.xd_system.proofs.Parts.{told_in, tells-more}
use Rattle.xd_system.proofs.FirstNews.{fit-ready, fit-refused, begun, begins-serving}

-- the orders are such that each may take effect where it stands, by these answers
pub record Allows (size : ℕ) (all : List Order) (answers : List (List ℕ)) : Type 0 where
  pub may : (R : List Order) (o : Order) (G : List Order) (backs later : List (List ℕ)) → all ≡ R ++ o ∷ G
      → answers ≡ backs ++ later → length backs ≡ length (steals_asked R)
      → MayTake size (line_given size [] R backs) o
  pub marks : marks_last all ≡ true

unshut-before : (R G : List Order) (o : Order) (all : List Order) → marks_last all ≡ true → all ≡ R ++ o ∷ G
    → list_any is_shutdown R ≡ false
unshut-before R G o all h e = (elim (list_any is_shutdown R) as (λ b. list_any is_shutdown R ≡ b → b ≡ false) [
  | true ↦ λ k. (let none : o ∷ G ≡ [] = marks-end R (o ∷ G) k (sym (ap marks_last e) ∙ h) in absurd cc)
  | false ↦ λ k. refl
]) refl

-- one order

module _ (size : ℕ) (orders : List Order) (before : List What) (t : CallTurn) (k : IsServingTurn size orders before t) (unshut : list_any is_shutdown orders ≡ false) (few : size ≤ most_tests) where
  abbrev row : List ℕ
  row = line_given size [] orders (answers_in (told_in before t))

  gives : (o : Order) (ns : List ℕ)
      → IsServing size (orders ++ o ∷ []) (told_in before t) (record (t.call) { line = t.call.line ++ map Test ns })
      → can_give t.call.size t.call.line ns ≡ true
      → IsTurn size (orders ++ o ∷ []) before (given true ns t)
  gives o ns s can =
      let u : CallTurn = record t { call = record (t.call) { line = t.call.line ++ map Test ns } } in
      let ku : IsServingTurn size (orders ++ o ∷ []) before u = record { serves = s; fit = λ all b m. k.fit all (begins-less orders (o ∷ []) all b) m } in
      subst (λ (b : Bool). IsTurn size (orders ++ o ∷ []) before (if b then line_settled true u else ended_early BadCommand t)) (sym can) (settles size (orders ++ o ∷ []) before few u ku)

  takes : (o : Order) → MayTake size row o → IsTurn size (orders ++ o ∷ []) before (told true (Some o) t)
  takes (RunTests ns) h =
      gives (RunTests ns) ns (put size orders (RunTests ns) ns (told_in before t) t.call refl refl refl k.serves unshut h) (can_give-line size orders (told_in before t) t.call ns k.serves unshut h)
  takes RunAll h =
      let e : t.call.size ≡ size = k.serves.size_is in
      subst (λ (z : ℕ). IsTurn size (orders ++ RunAll ∷ []) before (given true (range_with_len 0 z) t)) (sym e)
      (gives RunAll (range_with_len 0 size) (put size orders RunAll (range_with_len 0 size) (told_in before t) t.call refl refl refl k.serves unshut h) (can_give-line size orders (told_in before t) t.call (range_with_len 0 size) k.serves unshut h))
  takes (Steal ns) h = inl (answers_steal size orders ns before t k unshut h)
  takes Shutdown h =
      let u : CallTurn = record t { call = record (t.call) { line = t.call.line ++ Mark ∷ [] } } in
      settles size (orders ++ Shutdown ∷ []) before few u (record {
        serves = put-mark size orders (told_in before t) t.call k.serves unshut;
        fit = λ all b m. k.fit all (begins-less orders (Shutdown ∷ []) all b) m;
      })

over-more : (size : ℕ) (orders : List Order) (o : Order) (before : List What) (t : CallTurn)
    → list_any is_shutdown orders ≡ false → IsOverTurn size orders before t
    → IsOverTurn size (orders ++ o ∷ []) before t
over-more size orders o before t unshut k =
    record { phase = k.phase; idle = k.idle; said = k.said; left_none = k.left_none; passed_is = k.passed_is; finishes = k.finishes; all_ended = λ c. absurd (differ (sym unshut ∙ (k.all_ended c).shut)); none_ended = k.none_ended; fit = λ all b m. k.fit all (begins-less orders (o ∷ []) all b) m }

-- an order comes to a call that serves, or that is over
hears : (size : ℕ) (orders : List Order) (o : Order) (before : List What) (t : CallTurn) → size ≤ most_tests
    → IsTurn size orders before t → list_any is_shutdown orders ≡ false
    → ((k : IsServingTurn size orders before t) → MayTake size (line_given size [] orders (answers_in (told_in before t))) o)
    → IsTurn size (orders ++ o ∷ []) before (item_heard true (Some o) t)
hears size orders o before t few (inl k) unshut may =
    subst (λ (p : Phase). IsTurn size (orders ++ o ∷ []) before (item_heard_in p true (Some o) t)) (sym k.serves.phase) (takes size orders before t k unshut few o (may k))
hears size orders o before t few (inr k) unshut may =
    subst (λ (p : Phase). IsTurn size (orders ++ o ∷ []) before (item_heard_in p true (Some o) t)) (sym k.phase) (inr (over-more size orders o before t unshut k))

-- the answers so far begin those of a longer turn
answers-begin : (before : List What) (t u : CallTurn) (all : List (List ℕ)) → Grows t u
    → IsFirstPart (answers_in (told_in before u)) all → IsFirstPart (answers_in (told_in before t)) all
answers-begin before t u all g b =
    let e : told_in before u ≡ told_in before t ++ news_of_asks g.0 = ap (λ (l : List Ask). before ++ news_of_asks l) g.1
    ∙ told-more before t.asks g.0 in
    let split : answers_in (told_in before u) ≡ answers_in (told_in before t) ++ answers_in (news_of_asks g.0) = ap answers_in e
    ∙ filter_map-append answer_of_news (told_in before t) (news_of_asks g.0) in
    (answers_in (news_of_asks g.0) ++ b.0, b.1 ∙ ap (λ (l : List (List ℕ)). l ++ b.0) split ∙ append_assoc (answers_in (told_in before t)) (answers_in (news_of_asks g.0)) b.0)

module _ (size : ℕ) (all : List Order) (answers : List (List ℕ)) (w : Allows size all answers) (few : size ≤ most_tests) (before : List What) where
  -- one order more of those
  hears-one : (orders : List Order) (o : Order) (t : CallTurn) → IsTurn size orders before t
      → IsFirstPart (orders ++ o ∷ []) all → IsFirstPart (answers_in (told_in before t)) answers
      → IsTurn size (orders ++ o ∷ []) before (item_heard true (Some o) t)
  hears-one orders o t k b a =
      let e : all ≡ orders ++ o ∷ b.0 = b.1 ∙ append_assoc orders (o ∷ []) b.0 in
      hears size orders o before t few k (unshut-before orders b.0 o all w.marks e) (λ s. w.may orders o b.0 (answers_in (told_in before t)) a.0 e a.1 s.serves.answered)

  -- and several
  hears-all : (os orders : List Order) (t : CallTurn) → IsTurn size orders before t → IsFirstPart (orders ++ os) all
      → IsFirstPart (answers_in (told_in before (all_heard true (map Some os) t))) answers
      → IsTurn size (orders ++ os) before (all_heard true (map Some os) t)
  hears-all [] orders t k b a = subst (λ (l : List Order). IsTurn size l before t) (sym (append-nil orders)) k
  hears-all (o ∷ os) orders t k b a =
      let u = item_heard true (Some o) t in
      let split : orders ++ o ∷ os ≡ (orders ++ o ∷ []) ++ os = sym (append_assoc orders (o ∷ []) os) in
      let b_next : IsFirstPart ((orders ++ o ∷ []) ++ os) all = subst (λ (l : List Order). IsFirstPart l all) split b in
      let a_mid : IsFirstPart (answers_in (told_in before u)) answers = answers-begin before u (all_heard true (map Some os) u) answers (grows-all true (map Some os) u) a in
      let a_now : IsFirstPart (answers_in (told_in before t)) answers = answers-begin before t u answers (grows-heard t.call.phase true (Some o) t) a_mid in
      subst (λ (l : List Order). IsTurn size l before (all_heard true (map Some os) u)) (sym split)
      (hears-all os (orders ++ o ∷ []) u (hears-one orders o t k (begins-less (orders ++ o ∷ []) os all b_next) a_now) b_next a)

  -- an input to a call that serves
  serves-input : (orders : List Order) (t : CallTurn) (i : Input) → IsServingTurn size orders before t
      → comes_in_run i ≡ true → IsFirstPart (orders ++ order_in i) all
      → IsFirstPart (answers_in (told_in before (answered_in Serving (running_test t.call) true i t))) answers
      → IsTurn size (orders ++ order_in i) before (answered_in Serving (running_test t.call) true i t)
  serves-input orders t (input.Command None) k h b a = absurd (differ h)
  serves-input orders t (input.Command (Some o)) k h b a =
      let e : all ≡ orders ++ o ∷ b.0 = b.1 ∙ append_assoc orders (o ∷ []) b.0 in
      let a_now = answers-begin before t (told true (Some o) t) answers (grows-told true (Some o) t) a in
      takes size orders before t k (unshut-before orders b.0 o all w.marks e) few o (w.may orders o b.0 (answers_in (told_in before t)) a_now.0 e a_now.1 k.serves.answered)
  serves-input orders t input.ReceivingEnded k h b a = absurd (differ h)
  serves-input orders t (input.Suite ids) k h b a =
      subst (λ (l : List Order). IsTurn size l before t) (sym (append-nil orders)) (inl k)
  serves-input orders t (input.SuiteRefused text) k h b a =
      subst (λ (l : List Order). IsTurn size l before t) (sym (append-nil orders)) (inl k)
  serves-input orders t (input.Output bytes) k h b a =
      subst (λ (l : List Order). IsTurn size l before (output_fed (running_test t.call) Serving bytes t)) (sym (append-nil orders)) (go (running_test t.call) refl)
    where
      go : (r : Option ℕ) → running_test t.call ≡ r → IsTurn size orders before (output_fed r Serving bytes t)
      go None e = inl k
      go (Some n) e = inl (prints size orders before t k n e bytes)
  serves-input orders t (input.Done outcome ms) k h b a =
      subst (λ (l : List Order). IsTurn size l before (done_of (running_test t.call) Serving true outcome ms t)) (sym (append-nil orders)) (go (running_test t.call) refl)
    where
      go : (r : Option ℕ) → running_test t.call ≡ r → IsTurn size orders before (done_of r Serving true outcome ms t)
      go None e = inl k
      go (Some n) e = ends size orders before t k n e few outcome ms
  serves-input orders t input.Stop k h b a = absurd (differ h)

module _ (size : ℕ) (before : List What) where
  idle-runs : (c : FunctionCall) → c.running ≡ false → running_test c ≡ None
  idle-runs c h = rw h refl

  -- an input to a call that is over
  over-input : (orders : List Order) (t : CallTurn) (i : Input) → IsOverTurn size orders before t
      → comes_in_run i ≡ true → ((o : Order) → i ≡ input.Command (Some o) → list_any is_shutdown orders ≡ false)
      → IsOverTurn size (orders ++ order_in i) before (answered_in Over None true i t)
  over-input orders t (input.Command None) k h u = absurd (differ h)
  over-input orders t (input.Command (Some o)) k h u = over-more size orders o before t (u o refl) k
  over-input orders t input.ReceivingEnded k h u = absurd (differ h)
  over-input orders t (input.Suite ids) k h u =
      subst (λ (l : List Order). IsOverTurn size l before t) (sym (append-nil orders)) k
  over-input orders t (input.SuiteRefused text) k h u =
      subst (λ (l : List Order). IsOverTurn size l before t) (sym (append-nil orders)) k
  over-input orders t (input.Output bytes) k h u =
      subst (λ (l : List Order). IsOverTurn size l before t) (sym (append-nil orders)) k
  over-input orders t (input.Done outcome ms) k h u =
      subst (λ (l : List Order). IsOverTurn size l before t) (sym (append-nil orders)) k
  over-input orders t input.Stop k h u = absurd (differ h)

-- a call that waits for its suite

pub record IsAwaiting (gs : List Given) : Type 0 where
  pub call_is : call_after gs ≡ record new_call { waiting = map Some (orders_of gs) }
  pub none : all_asks gs ≡ []

-- a call after these inputs: it waits for its suite, serves it, or is over
pub record Serves (size : ℕ) (gs : List Given) : Type 0 where
  pub few : size ≤ most_tests
  pub is : IsServing size (orders_of gs) (tells gs) (call_after gs)
  pub fit : FitAll size (orders_of gs) (tells gs)

pub record IsDone (size : ℕ) (gs : List Given) : Type 0 where
  pub phase : (call_after gs).phase ≡ Over
  pub idle : (call_after gs).running ≡ false
  pub said : list_any is_last_told (tells gs) ≡ true
  pub left_none : tests_in_line (left (call_after gs)) ≡ []
  pub passed_is : take (call_after gs).ended (call_after gs).line ≡ map Test (ends_in (tells gs))
  pub all_ended : list_any is_collected (tells gs) ≡ true → EndedAll size (orders_of gs) (tells gs)
  pub finishes : list_any is_collected (tells gs) ≡ true → Finishes (tells gs)
  pub none_ended : list_any is_collected (tells gs) ≡ false → ends_in (tells gs) ≡ []
  pub fit : FitAll size (orders_of gs) (tells gs)

abbrev pub CallIs : ℕ → List Given → Type 0
CallIs size gs = IsAwaiting gs ⊎ (Serves size gs ⊎ IsDone size gs)

-- what the worker collects has that many tests
abbrev pub SizedBy : ℕ → List What → Type 0
SizedBy size all = (ids : List (List ℕ)) (rest : List (List (List ℕ))) → collections_in all ≡ ids ∷ rest
    → length ids ≡ size

tells-now : (gs : List Given) → told_in (tells gs) (call_turn_of (call_after gs)) ≡ tells gs
tells-now gs = append-nil (tells gs)

as-serving : (size : ℕ) (g : Given) (gs : List Given) → size ≤ most_tests
    → IsServingTurn size (orders_of (g ∷ gs)) (tells gs) (turn_after gs g) → CallIs size (g ∷ gs)
as-serving size g gs few k = inr (inl (record {
  few = few;
  is = subst (λ (l : List What). IsServing size (orders_of (g ∷ gs)) l (call_after (g ∷ gs))) (sym (tells-more g gs)) k.serves;
  fit = subst (FitAll size (orders_of (g ∷ gs))) (sym (tells-more g gs)) k.fit;
}))

as-over : (size : ℕ) (g : Given) (gs : List Given) → IsOverTurn size (orders_of (g ∷ gs)) (tells gs) (turn_after gs g)
    → CallIs size (g ∷ gs)
as-over size g gs k = inr (inr (record {
  phase = k.phase;
  idle = k.idle;
  said = ap (list_any is_last_told) (tells-more g gs) ∙ k.said;
  left_none = k.left_none;
  passed_is = k.passed_is ∙ ap (λ (l : List What). map Test (ends_in l)) (sym (tells-more g gs));
  all_ended = λ c. subst (EndedAll size (orders_of (g ∷ gs))) (sym (tells-more g gs)) (k.all_ended (sym (ap (list_any is_collected) (tells-more g gs)) ∙ c));
  finishes = λ c. subst Finishes (sym (tells-more g gs)) (k.finishes (sym (ap (list_any is_collected) (tells-more g gs)) ∙ c));
  none_ended = λ c. ap ends_in (tells-more g gs)
      ∙ k.none_ended (sym (ap (list_any is_collected) (tells-more g gs)) ∙ c);
  fit = subst (FitAll size (orders_of (g ∷ gs))) (sym (tells-more g gs)) k.fit;
}))

as-call : (size : ℕ) (g : Given) (gs : List Given) → size ≤ most_tests
    → IsTurn size (orders_of (g ∷ gs)) (tells gs) (turn_after gs g) → CallIs size (g ∷ gs)
as-call size g gs few (inl k) = as-serving size g gs few k
as-call size g gs few (inr k) = as-over size g gs k

map-last : (R : List Order) (o : Order) → map Some (R ++ o ∷ []) ≡ map Some R ++ Some o ∷ []
map-last [] o = refl
map-last (x ∷ R) o = ap (λ (l : List (Option Order)). Some x ∷ l) (map-last R o)

abbrev pub waits_with : List Order → FunctionCall
waits_with R = record new_call { waiting = map Some R }

-- the turn of an input to a call that waits for its suite
abbrev pub awaiting_turn : List Order → Input → CallTurn
awaiting_turn R i = answered_in Awaiting None true i (call_turn_of (waits_with R))

-- it waits on
record StillWaits (R : List Order) (t : CallTurn) : Type 0 where
  call : t.call ≡ waits_with R
  asks : t.asks ≡ []

module _ (size : ℕ) (all : List Order) (answers : List (List ℕ)) (w : Allows size all answers) where
  waits-same : (R : List Order) (t : CallTurn) → t ≡ call_turn_of (waits_with R) → StillWaits (R ++ []) t
  waits-same R t e =
      record { call = ap (λ (u : CallTurn). u.call) e ∙ ap waits_with (sym (append-nil R)); asks = ap (λ (u : CallTurn). u.asks) e }

  few-ids : (ids : List (List ℕ)) → length ids ≡ size → are_suite_ids ids ≡ true → size ≤ most_tests
  few-ids ids e k =
      let p = split-and (nat_le (length ids) most_tests && list_all is_id ids) (no_text_twice ids) k in
      let q = (split-and (nat_le (length ids) most_tests) (list_all is_id ids) p.0).0 in
      grind (arith, nat_tests, q, e)

  awaits-input : (R : List Order) (i : Input) → comes_in_run i ≡ true
      → ((ids : List (List ℕ)) → i ≡ input.Suite ids → length ids ≡ size) → IsFirstPart (R ++ order_in i) all
      → IsFirstPart (answers_in (told_in (what.Ready ∷ []) (awaiting_turn R i))) answers
      → StillWaits (R ++ order_in i) (awaiting_turn R i) ⊎ (IsOverTurn size (R ++ order_in i) (what.Ready ∷ []) (awaiting_turn R i) ⊎ ((size ≤ most_tests) × IsTurn size (R ++ order_in i) (what.Ready ∷ []) (awaiting_turn R i)))
  awaits-input R (input.Command None) h sized b a = absurd (differ h)
  awaits-input R (input.Command (Some o)) h sized b a =
      inl (record { call = ap (λ (l : List (Option Order)). record new_call { waiting = l }) (sym (map-last R o)); asks = refl })
  awaits-input R input.ReceivingEnded h sized b a = absurd (differ h)
  awaits-input R (input.Suite ids) h sized b a =
      let few : size ≤ most_tests = few-ids ids (sized ids refl) h in
      inr (inr (
        few,
        subst (λ (l : List Order). IsTurn size l (what.Ready ∷ []) (awaiting_turn R (input.Suite ids))) (sym (append-nil R))
            (hears-all size all answers w few (what.Ready ∷ []) R [] (begun (waits_with R) ids) (inl (begins-serving size (waits_with R) ids (sized ids refl) h)) (subst (λ (l : List Order). IsFirstPart l all) (append-nil R) b) a),
      ))
  awaits-input R (input.SuiteRefused text) h sized b a =
      inr (inl (record { phase = refl; idle = refl; said = refl; left_none = refl; passed_is = refl; all_ended = λ c. absurd (differ c); finishes = λ c. absurd (differ c); none_ended = λ c. refl; fit = λ c d m. fit-refused size c text }))
  awaits-input R (input.Output bytes) h sized b a = inl (waits-same R _ refl)
  awaits-input R (input.Done outcome ms) h sized b a = inl (waits-same R _ refl)
  awaits-input R input.Stop h sized b a = absurd (differ h)

  -- what is told with the suite begins with the collection
  ids-told : (R : List Order) (ids : List (List ℕ))
      → (rest : List (List (List ℕ))) × (collections_in (told_in (what.Ready ∷ []) (awaiting_turn R (input.Suite ids))) ≡ ids ∷ rest)
  ids-told R ids =
      let t = begun (waits_with R) ids in
      let g = grows-all true (map Some R) t in
      let e : told_in (what.Ready ∷ []) (all_heard true (map Some R) t) ≡ told_in (what.Ready ∷ []) t ++ news_of_asks g.0 =
      ap (λ (l : List Ask). (what.Ready ∷ []) ++ news_of_asks l) g.1 ∙ told-more (what.Ready ∷ []) t.asks g.0 in
      (collections_in (news_of_asks g.0), ap collections_in e)

  -- one input more

  awaits-more : (g : Given) (gs : List Given) (whole : List What) → is_of_run g ≡ true → IsAwaiting gs
      → SizedBy size whole → IsFirstPart (tells (g ∷ gs)) whole
      → IsFirstPart (orders_of (g ∷ gs)) all → IsFirstPart (answers_in (tells (g ∷ gs))) answers
      → CallIs size (g ∷ gs)
  awaits-more g gs whole h k sized t b a =
      let p = split-and g.room (comes_in_run g.input) h in
      let R = orders_of gs in
      let turn : turn_after gs g ≡ awaiting_turn R g.input =
      ap (λ (r : Bool). answered_in (call_after gs).phase (running_test (call_after gs)) r g.input (call_turn_of (call_after gs))) p.0
      ∙ ap (λ (c : FunctionCall). answered_in c.phase (running_test c) true g.input (call_turn_of c)) k.call_is in
      let first : tells gs ≡ what.Ready ∷ [] = ap (λ (l : List Ask). what.Ready ∷ news_of_asks l) k.none in
      let told : tells (g ∷ gs) ≡ told_in (what.Ready ∷ []) (awaiting_turn R g.input) =
      tells-more g gs ∙ ap (λ (l : List What). told_in l (turn_after gs g)) first
      ∙ ap (told_in (what.Ready ∷ [])) turn in
      let now : (ids : List (List ℕ)) → g.input ≡ input.Suite ids → length ids ≡ size = λ ids e. (
      let i = ids-told R ids in
      let found : collections_in whole ≡ ids ∷ (i.0 ++ collections_in t.0) =
      ap collections_in t.1 ∙ filter_map-append collection_of_news (tells (g ∷ gs)) t.0
      ∙ ap (λ (l : List What). collections_in l ++ collections_in t.0) (told ∙ ap (λ (x : Input). told_in (what.Ready ∷ []) (awaiting_turn R x)) e)
      ∙ ap (λ (l : List (List (List ℕ))). l ++ collections_in t.0) i.1 in
      sized ids (i.0 ++ collections_in t.0) found) in
      elim (awaits-input R g.input p.1 now b (subst (λ (l : List What). IsFirstPart (answers_in l) answers) told a)) [
        | inl s ↦ inl (record {
          call_is = ap (λ (t : CallTurn). t.call) turn ∙ s.call;
          none = ap (λ (l : List Ask). l ++ (turn_after gs g).asks) k.none ∙ ap (λ (t : CallTurn). t.asks) turn
              ∙ s.asks;
        })
        | inr (inl s) ↦ as-over size g gs (subst (λ (l : List What). IsOverTurn size (orders_of (g ∷ gs)) l (turn_after gs g)) (sym first) (subst (IsOverTurn size (orders_of (g ∷ gs)) (what.Ready ∷ [])) (sym turn) s))
        | inr (inr s) ↦ as-call size g gs s.0 (subst (λ (l : List What). IsTurn size (orders_of (g ∷ gs)) l (turn_after gs g)) (sym first) (subst (IsTurn size (orders_of (g ∷ gs)) (what.Ready ∷ [])) (sym turn) s.1))
      ]

  serves-more : (g : Given) (gs : List Given) → is_of_run g ≡ true → Serves size gs
      → IsFirstPart (orders_of (g ∷ gs)) all → IsFirstPart (answers_in (tells (g ∷ gs))) answers
      → CallIs size (g ∷ gs)
  serves-more g gs h k b a =
      let p = split-and g.room (comes_in_run g.input) h in
      let t = call_turn_of (call_after gs) in
      let turn : turn_after gs g ≡ answered_in Serving (running_test t.call) true g.input t =
      ap (λ (r : Bool). answered_in (call_after gs).phase (running_test (call_after gs)) r g.input t) p.0
      ∙ ap (λ (q : Phase). answered_in q (running_test (call_after gs)) true g.input t) k.is.phase in
      let here : IsServingTurn size (orders_of gs) (tells gs) t = record {
        serves = subst (λ (l : List What). IsServing size (orders_of gs) l (call_after gs)) (sym (tells-now gs)) k.is;
        fit = subst (FitAll size (orders_of gs)) (sym (tells-now gs)) k.fit;
      } in
      let told : tells (g ∷ gs) ≡ told_in (tells gs) (answered_in Serving (running_test t.call) true g.input t) = tells-more g gs
      ∙ ap (told_in (tells gs)) turn in
      as-call size g gs k.few (subst (IsTurn size (orders_of (g ∷ gs)) (tells gs)) (sym turn) (serves-input size all answers w k.few (tells gs) (orders_of gs) t g.input here p.1 b (subst (λ (l : List What). IsFirstPart (answers_in l) answers) told a)))

  done-more : (g : Given) (gs : List Given) → is_of_run g ≡ true → IsDone size gs
      → IsFirstPart (orders_of (g ∷ gs)) all → CallIs size (g ∷ gs)
  done-more g gs h k b =
      let p = split-and g.room (comes_in_run g.input) h in
      let t = call_turn_of (call_after gs) in
      let turn : turn_after gs g ≡ answered_in Over None true g.input t =
      ap (λ (r : Bool). answered_in (call_after gs).phase (running_test (call_after gs)) r g.input t) p.0
      ∙ ap (λ (q : Phase). answered_in q (running_test (call_after gs)) true g.input t) k.phase
      ∙ ap (λ (r : Option ℕ). answered_in Over r true g.input t) (idle-runs size (tells gs) (call_after gs) k.idle) in
      let here : IsOverTurn size (orders_of gs) (tells gs) t = record {
        phase = k.phase;
        idle = k.idle;
        said = ap (list_any is_last_told) (tells-now gs) ∙ k.said;
        left_none = k.left_none;
        passed_is = k.passed_is ∙ ap (λ (l : List What). map Test (ends_in l)) (sym (tells-now gs));
        all_ended = λ c. subst (EndedAll size (orders_of gs)) (sym (tells-now gs)) (k.all_ended (sym (ap (list_any is_collected) (tells-now gs)) ∙ c));
        finishes = λ c. subst Finishes (sym (tells-now gs)) (k.finishes (sym (ap (list_any is_collected) (tells-now gs)) ∙ c));
        none_ended = λ c. ap ends_in (tells-now gs)
            ∙ k.none_ended (sym (ap (list_any is_collected) (tells-now gs)) ∙ c);
        fit = subst (FitAll size (orders_of gs)) (sym (tells-now gs)) k.fit;
      } in
      as-over size g gs (subst (IsOverTurn size (orders_of (g ∷ gs)) (tells gs)) (sym turn) (over-input size (tells gs) (orders_of gs) t g.input here p.1 (λ o e. unshut-before (orders_of gs) b.0 o all w.marks (b.1 ∙ ap (λ (i : Input). (orders_of gs ++ order_in i) ++ b.0) e ∙ append_assoc (orders_of gs) (o ∷ []) b.0))))

  answers-fewer : (g : Given) (gs : List Given) → IsFirstPart (answers_in (tells (g ∷ gs))) answers
      → IsFirstPart (answers_in (tells gs)) answers
  answers-fewer g gs a =
      let x = news_of_asks (turn_after gs g).asks in
      let split : answers_in (tells (g ∷ gs)) ≡ answers_in (tells gs) ++ answers_in x = ap answers_in (tells-more g gs)
      ∙ filter_map-append answer_of_news (tells gs) x in
      (answers_in x ++ a.0, a.1 ∙ ap (λ (l : List (List ℕ)). l ++ a.0) split ∙ append_assoc (answers_in (tells gs)) (answers_in x) a.0)

  tells-fewer : (g : Given) (gs : List Given) (whole : List What) → IsFirstPart (tells (g ∷ gs)) whole
      → IsFirstPart (tells gs) whole
  tells-fewer g gs whole t =
      let e : whole ≡ tells gs ++ (news_of_asks (turn_after gs g).asks ++ t.0) =
      t.1 ∙ ap (λ (l : List What). l ++ t.0) (tells-more g gs)
      ∙ append_assoc (tells gs) (news_of_asks (turn_after gs g).asks) t.0 in
      (news_of_asks (turn_after gs g).asks ++ t.0, e)

  -- after whatever inputs of a run, the call is one of the three, and what it told may come
  pub call_is : (gs : List Given) (whole : List What) → list_all is_of_run gs ≡ true → SizedBy size whole
      → IsFirstPart (tells gs) whole → IsFirstPart (orders_of gs) all → IsFirstPart (answers_in (tells gs)) answers
      → CallIs size gs
  call_is [] whole h sized t b a = inl (record { call_is = refl; none = refl })
  call_is (g ∷ gs) whole h sized t b a =
      let p = split-and (is_of_run g) (list_all is_of_run gs) h in
      let rest = call_is gs whole p.1 sized (tells-fewer g gs whole t) (begins-less (orders_of gs) (order_in g.input) all b) (answers-fewer g gs a) in
      elim rest [
        | inl k ↦ awaits-more g gs whole p.0 k sized t b a
        | inr (inl k) ↦ serves-more g gs p.0 k b a
        | inr (inr k) ↦ done-more g gs p.0 k b
      ]

  -- what it told may come, whatever further orders are on the way
  pub tells_fit : (gs : List Given) → CallIs size gs → (more : List Order) → IsFirstPart (orders_of gs) more
      → marks_last more ≡ true → AllFit size more (tells gs)
  tells_fit gs (inl k) more b m =
      subst (AllFit size more) (sym (ap (λ (l : List Ask). what.Ready ∷ news_of_asks l) k.none)) (fit-ready size more)
  tells_fit gs (inr (inl k)) more b m = k.fit more b m
  tells_fit gs (inr (inr k)) more b m = k.fit more b m
