-- Where no test runs, the line moves on.
use Rattle.std.proofs.Common.{◌≡◌, ℕ, ◌≤◌, List, [], ◌∷◌, ◌++◌, take, drop, length, map, Bool, true, false, ◌&&◌, ◌||◌, refl, ap, sym, ◌∙◌, subst, arith, inl, inr}
use Rattle.std.specs.Prelude.{nat_lt, if◌then◌else◌, Some, None}
use Rattle.std.specs.List.{list_all, list_any}
use Rattle.std.proofs.lemmas.Bool.Decides.{nat_tests}
use Rattle.std.proofs.lemmas.List.{append-nil, drop-append-le}
use Rattle.std.proofs.lemmas.List.Folds.{list_any-append}
use Rattle.xd_edge.specs.Limits.{most_tests}
use Rattle.xd_journal.specs.declared.news.What.{What}
use Rattle.xd_journal.specs.declared.news.What.TheVariants as what
use Rattle.xd_commands.specs.declared.order.Order.{Order}
use Rattle.xd_run.specs.Meaning.{any_open, is_of, log_of, number_of}
use Rattle.xd_run.specs.Numbers.{among, all_distinct, first_of}
use Rattle.xd_worker_tests.specs.declared.ask.Ask.TheVariants.{Tell, End}
use Rattle.xd_worker_tests.specs.declared.line_entry.LineEntry.{LineEntry}
use Rattle.xd_worker_tests.specs.declared.line_entry.LineEntry.TheVariants.{Test, Mark}
use Rattle.xd_worker_tests.specs.Line.{FunctionCall, head_test, left, number_of_log, tests_in_line}
use Rattle.xd_worker_tests.specs.Turns.{CallTurn, finished, has_log, line_settled, moved_on, test_started}
use Rattle.xd_run_laws.proofs.Logic.{differ, or-left}
use Rattle.xd_system.specs.LineGiven.{all_given, line_given, is_shutdown, marks_last}
use Rattle.xd_system.specs.Fits.{EndsLine, StartsLog, holds, is_collected}
use Rattle.xd_system.specs.Moment.{IsFirstPart}
use Rattle.xd_system.specs.Own.{answers_in, ends_in}
use Rattle.xd_system.specs.Tells.{news_of_asks}
use Rattle.xd_system.proofs.Call.{AllFit, EndedAll, IsOverTurn, IsServing, IsServingTurn, IsTurn, is_last_told, mark_of}
use Rattle.xd_system.proofs.Lines.{dealt-further, drop-mapped, marks-end, take-mapped}
use Rattle.xd_system.proofs.Lists.{apart-of, count-taken, length-low}
use Rattle.xd_system.proofs.Told.{answers-more, collected-more, ended-more, fit-more, last-more, log-more, told-more}

-- what a worker holds, whatever further orders are on the way
pub holds-further : (size : ℕ) (orders : List Order) (news : List What) (c : FunctionCall) (s : IsServing size orders news c) (all : List Order) (b : IsFirstPart orders all)
    → holds size all news ≡ drop (length (ends_in news)) (line_given size [] orders (answers_in news)) ++ all_given size b.0
holds-further size orders news c s all b =
    let k = length (ends_in news) in
    let row = line_given size [] orders (answers_in news) in
    let within : k ≤ length row = count-taken k row (ap length s.ended_first) in
    let h = s.answered in
    ap (λ (os : List Order). holds size os news) b.1
    ∙ ap (λ (l : List ℕ). drop k l) (dealt-further size orders b.0 (answers_in news) (omega (arith, h)))
    ∙ drop-append-le k row (all_given size b.0) within

-- as many tests as have ended have logs
pub few-logs : (size : ℕ) (orders : List Order) (news : List What) (c : FunctionCall) → size ≤ most_tests
    → IsServing size orders news c → has_log c.ended ≡ true
few-logs size orders news c few s =
    let k = length (ends_in news) in
    let row = line_given size [] orders (answers_in news) in
    let within : k ≤ length row = count-taken k row (ap length s.ended_first) in
    let low : length row ≤ size = length-low size row s.distinct s.within in
    let is : c.ended ≡ k = s.ended_is in
    grind (arith, nat_tests, few, within, low, is)

module _ (size : ℕ) (orders : List Order) (news : List What) (c : FunctionCall) (s : IsServing size orders news c) (n : ℕ) (rest : List ℕ) where
  abbrev row : List ℕ
  row = line_given size [] orders (answers_in news)

  abbrev log : ℕ
  log = number_of_log c.ended

  -- a test starts: its log may start, and the call serves on
  module _ (idle : c.running ≡ false) (next : drop (length (ends_in news)) row ≡ n ∷ rest) where
    not_ended : among n (ends_in news) ≡ true → ⊥
    not_ended h =
        let k = length (ends_in news) in
        let here : among n (drop k row) ≡ true = ap (λ (l : List ℕ). among n l) next ∙ grind (arith, nat_tests) in
        apart-of n k row s.distinct (ap (λ (l : List ℕ). among n l) s.ended_first ∙ h) here

    pub starts : (all : List Order) → IsFirstPart orders all → StartsLog size all news n log
    starts all b = record {
      head = ap first_of (holds-further size orders news c s all b ∙ ap (λ (l : List ℕ). l ++ all_given size b.0) next);
      once = (elim (is_of n (log_of news)) as (λ q. is_of n (log_of news) ≡ q → q ≡ false) [
        | true ↦ λ e. absurd (not_ended (s.log_is.earlier idle n e))
        | false ↦ λ e. refl
      ]) refl;
      even = grind (arith, nat_tests);
      above = (let l = (s.log_is.closed idle).1 in grind (arith, nat_tests, l));
    }

    pub started : (news2 : List What) → news2 ≡ news ++ what.LogStart n log ∷ []
        → IsServing size orders news2 (record c { running = true; sent = 0 })
    started news2 e =
        let k = length (ends_in news) in
        let answers : answers_in news2 ≡ answers_in news = ap answers_in e ∙ answers-more news (what.LogStart n log)
        ∙ append-nil (answers_in news) in
        let ended : ends_in news2 ≡ ends_in news = ap ends_in e ∙ ended-more news (what.LogStart n log)
        ∙ append-nil (ends_in news) in
        let within : k ≤ length row = count-taken k row (ap length s.ended_first) in
        let logged : log_of news2 ≡ Some (record { number = log; index = n; is_open = true; bytes = [] }) = ap log_of e
        ∙ log-more news (what.LogStart n log) in
        let head : head_test (drop c.ended c.line) ≡ Some n =
        ap (λ (l : List LineEntry). head_test (drop c.ended l)) s.line_is
        ∙ ap (λ (j : ℕ). head_test (drop j (map Test row ++ mark_of orders))) s.ended_is
        ∙ ap head_test (drop-mapped k row (mark_of orders) within)
        ∙ ap (λ (l : List ℕ). head_test (map Test l ++ mark_of orders)) next in
        record {
          phase = s.phase;
          size_is = s.size_is;
          line_is = s.line_is ∙ ap (λ (a : List (List ℕ)). map Test (line_given size [] orders a) ++ mark_of orders) (sym answers);
          answered = ap length answers ∙ s.answered;
          ended_is = s.ended_is ∙ ap length (sym ended);
          ended_first = ap (λ (x : List ℕ). take (length x) (line_given size [] orders (answers_in news2))) ended
              ∙ ap (λ (a : List (List ℕ)). take k (line_given size [] orders a)) answers ∙ s.ended_first ∙ sym ended;
          distinct = ap (λ (a : List (List ℕ)). all_distinct (line_given size [] orders a)) answers ∙ s.distinct;
          within = ap (λ (a : List (List ℕ)). list_all (λ x. nat_lt x size) (line_given size [] orders a)) answers
              ∙ s.within;
          log_is = record {
            opened = λ r. (ap any_open logged, (n, head, ap (is_of n) logged ∙ grind (arith, nat_tests)), ap number_of logged);
            closed = λ r. absurd cc;
            earlier = λ r. absurd cc;
          };
          collected = ap (list_any is_collected) e ∙ collected-more news (what.LogStart n log) s.collected;
          unfinished = ap (list_any is_last_told) e ∙ last-more news (what.LogStart n log) refl s.unfinished;
        }

abbrev told_in : List What → CallTurn → List What
told_in before t = before ++ news_of_asks t.asks

module _ (size : ℕ) (orders : List Order) (before : List What) (few : size ≤ most_tests) where
  started-turn : (t : CallTurn) (n : ℕ) (rest : List ℕ) → IsServingTurn size orders before t → t.call.running ≡ false
      → drop (length (ends_in (told_in before t))) (line_given size [] orders (answers_in (told_in before t))) ≡ n ∷ rest
      → IsServingTurn size orders before (test_started n t)
  started-turn t n rest k idle next =
      let news = told_in before t in
      let log = number_of_log t.call.ended in
      let e : told_in before (test_started n t) ≡ news ++ what.LogStart n log ∷ [] = told-more before t.asks (Tell (what.LogStart n log) ∷ []) in
      record {
        serves = started size orders news t.call k.serves n rest idle next (told_in before (test_started n t)) e;
        fit = λ all b m. subst (AllFit size all) (sym e) (fit-more size all news (what.LogStart n log) (k.fit all b m) (starts size orders news t.call k.serves n rest idle next all b));
      }

  starts-one : (t : CallTurn) (n : ℕ) (rest : List ℕ) (u : CallTurn) → IsServingTurn size orders before t
      → t.call.running ≡ false
      → drop (length (ends_in (told_in before t))) (line_given size [] orders (answers_in (told_in before t))) ≡ n ∷ rest
      → IsTurn size orders before (if true && has_log t.call.ended then test_started n t else u)
  starts-one t n rest u k idle next =
      let room = few-logs size orders (told_in before t) t.call few k.serves in
      subst (λ (b : Bool). IsTurn size orders before (if true && b then test_started n t else u)) (sym room) (inl (started-turn t n rest k idle next))

  -- a mark is reached
  ends-run : (t : CallTurn) → IsServingTurn size orders before t → t.call.running ≡ false
      → list_any is_shutdown orders ≡ true
      → drop (length (ends_in (told_in before t))) (line_given size [] orders (answers_in (told_in before t))) ≡ []
      → left t.call ≡ Mark ∷ [] → IsOverTurn size orders before (finished t)
  ends-run t k idle shut next rest =
      let news = told_in before t in
      let e : told_in before (finished t) ≡ news ++ what.Finished ∷ [] =
      told-more before (t.asks ++ Tell what.Finished ∷ []) (End None ∷ [])
      ∙ append-nil (before ++ news_of_asks (t.asks ++ Tell what.Finished ∷ []))
      ∙ told-more before t.asks (Tell what.Finished ∷ []) in
      let last : (all : List Order) → IsFirstPart orders all → marks_last all ≡ true
      → EndsLine size all news = λ all b m.
      (let none : b.0 ≡ [] = marks-end orders b.0 shut (sym (ap marks_last b.1) ∙ m) in
      record {
        told = ap (list_any is_shutdown) b.1 ∙ list_any-append is_shutdown orders b.0
            ∙ or-left (list_any is_shutdown orders) (list_any is_shutdown b.0) shut;
        collected = k.serves.collected;
        none = holds-further size orders news t.call k.serves all b
            ∙ ap (λ (l : List ℕ). l ++ all_given size b.0) next ∙ ap (λ (os : List Order). all_given size os) none;
      }) in
      record {
        phase = refl;
        idle = idle;
        said = ap (list_any is_last_told) e ∙ list_any-append is_last_told news (what.Finished ∷ [])
            ∙ either (list_any is_last_told news);
        left_none = ap tests_in_line rest;
        passed_is = ap (λ (z : List LineEntry). take t.call.ended z) k.serves.line_is
            ∙ ap (λ (i : ℕ). take i (map Test (line_given size [] orders (answers_in news)) ++ mark_of orders)) k.serves.ended_is
            ∙ take-mapped (length (ends_in news)) (line_given size [] orders (answers_in news)) (mark_of orders) (count-taken (length (ends_in news)) (line_given size [] orders (answers_in news)) (ap length k.serves.ended_first))
            ∙ ap (map Test) k.serves.ended_first
            ∙ ap (map Test) (sym (ap ends_in e ∙ ended-more news what.Finished ∙ append-nil (ends_in news)));
        all_ended = λ c. subst (EndedAll size orders) (sym e) (record {
          shut = shut;
          none = ap (λ (z : List ℕ). drop (length z) (line_given size [] orders (answers_in (news ++ what.Finished ∷ [])))) (ended-more news what.Finished ∙ append-nil (ends_in news))
              ∙ ap (λ (z : List (List ℕ)). drop (length (ends_in news)) (line_given size [] orders z)) (answers-more news what.Finished ∙ append-nil (answers_in news))
              ∙ next;
          answered = ap length (answers-more news what.Finished ∙ append-nil (answers_in news)) ∙ k.serves.answered;
          first = ap (λ (z : List ℕ). take (length z) (line_given size [] orders (answers_in (news ++ what.Finished ∷ [])))) (ended-more news what.Finished ∙ append-nil (ends_in news))
              ∙ ap (λ (z : List (List ℕ)). take (length (ends_in news)) (line_given size [] orders z)) (answers-more news what.Finished ∙ append-nil (answers_in news))
              ∙ k.serves.ended_first ∙ sym (ended-more news what.Finished ∙ append-nil (ends_in news));
        });
        finishes = λ c. record { first = news; are = e; unfinished = k.serves.unfinished };
        none_ended = λ c. absurd (differ (sym c ∙ (ap (list_any is_collected) e ∙ collected-more news what.Finished k.serves.collected)));
        fit = λ all b m. subst (AllFit size all) (sym e) (fit-more size all news what.Finished (k.fit all b m) (last all b m));
      }
    where
      either : (b : Bool) → (b || (true || false)) ≡ true
      either true = refl
      either false = refl

  moved : (t : CallTurn) (ps : List ℕ) (shut : Bool) → IsServingTurn size orders before t → t.call.running ≡ false
      → list_any is_shutdown orders ≡ shut → left t.call ≡ map Test ps ++ (if shut then Mark ∷ [] else [])
      → drop (length (ends_in (told_in before t))) (line_given size [] orders (answers_in (told_in before t))) ≡ ps
      → IsTurn size orders before (moved_on true (map Test ps ++ (if shut then Mark ∷ [] else [])) t)
  moved t [] false k idle e is next = inl k
  moved t [] true k idle e is next = inr (ends-run t k idle e next is)
  moved t (n ∷ []) false k idle e is next = inl k
  moved t (n ∷ []) true k idle e is next = starts-one t n [] _ k idle next
  moved t (n ∷ (m ∷ rest)) shut k idle e is next = starts-one t n (m ∷ rest) _ k idle next

  pub settles : (t : CallTurn) → IsServingTurn size orders before t → IsTurn size orders before (line_settled true t)
  settles t k = go t.call.running refl
    where
      go : (v : Bool) → t.call.running ≡ v
          → IsTurn size orders before (if v then t else moved_on true (left t.call) t)
      go true e = inl k
      go false e =
          let s = k.serves in
          let j = length (ends_in (told_in before t)) in
          let line = line_given size [] orders (answers_in (told_in before t)) in
          let within : j ≤ length line = count-taken j line (ap length s.ended_first) in
          let left_is : left t.call ≡ map Test (drop j line) ++ mark_of orders =
          ap (λ (l : List LineEntry). drop t.call.ended l) s.line_is
          ∙ ap (λ (i : ℕ). drop i (map Test line ++ mark_of orders)) s.ended_is
          ∙ drop-mapped j line (mark_of orders) within in
          subst (λ (ps : List LineEntry). IsTurn size orders before (moved_on true ps t)) (sym left_is) (moved t (drop j line) (list_any is_shutdown orders) k e refl left_is refl)
