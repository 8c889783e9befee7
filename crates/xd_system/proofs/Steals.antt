-- A steal is answered.
use Rattle.std.proofs.Common.{◌≡◌, ℕ, zero, suc, ◌+◌, ◌≤◌, ◌<◌, List, [], ◌∷◌, ◌++◌, take, drop, length, map, Bool, true, false, not, ◌||◌, refl, ap, sym, ◌∙◌, subst, arith, append_assoc, length-append}
use Rattle.std.specs.Prelude.{◌==◌, nat_lt, filter, if◌then◌else◌, Option, Some, None}
use Rattle.std.specs.List.{list_all, list_any}
use Rattle.std.specs.Str.{bytes_eq}
use Rattle.std.proofs.lemmas.Bool.Decides.{nat_tests}
use Rattle.std.proofs.lemmas.List.{append-nil, take-append-drop, drop-map, map-append, take-append-le}
use Rattle.std.proofs.lemmas.List.Elements.{filter-append}
use Rattle.std.proofs.lemmas.Slice.Eq.{bytes_eq-Decides}
use Rattle.xd_journal.specs.declared.news.What.{What}
use Rattle.xd_journal.specs.declared.news.What.TheVariants as what
use Rattle.xd_commands.specs.declared.order.Order.{Order}
use Rattle.xd_commands.specs.declared.order.Order.TheVariants.{Steal}
use Rattle.xd_run.specs.Meaning.{Log, any_open, is_of, log_of, number_of, with_news}
use Rattle.xd_run.specs.Numbers.{all_among, all_distinct, among, without}
use Rattle.xd_worker_tests.specs.declared.ask.Ask.TheVariants.{Tell}
use Rattle.xd_worker_tests.specs.declared.line_entry.LineEntry.{LineEntry}
use Rattle.xd_worker_tests.specs.declared.line_entry.LineEntry.TheVariants.{Test, Mark}
use Rattle.xd_worker_tests.specs.Line.{FunctionCall, all_queued, can_ask, front, has_test, head_test, is_among, kept, left, number_of_log, passed, queue, stolen_tests}
use Rattle.xd_worker_tests.specs.Turns.{CallTurn, asking, ended_early, stolen, stolen_if}
use Rattle.xd_worker_tests.specs.declared.phase.Ending.TheVariants.{BadCommand}
use Rattle.xd_run_laws.proofs.Counts.{distinct-filter, among_of-all_among}
use Rattle.xd_run_laws.proofs.Logic.{differ, split-and}
use Rattle.xd_run.specs.Orderly.{is_in_order}
use Rattle.xd_system.specs.LineGiven.{all_given, line_given, is_answer, is_shutdown, steals_asked}
use Rattle.xd_system.specs.Fits.{AnswersSteal, is_collected}
use Rattle.xd_system.specs.Moment.{IsFirstPart}
use Rattle.xd_system.specs.Own.{answers_in, ends_in}
use Rattle.xd_system.specs.Tells.{news_of_asks}
use Rattle.xd_system.proofs.Call.{AllFit, IsServing, IsServingTurn, is_last_told}
use Rattle.xd_system.proofs.Lines.{dealt-append, left-dropped, left_of, steals-append, without-none, dealt-enough}
use Rattle.xd_system.proofs.Lists.{apart-of, count-taken}
use Rattle.xd_system.proofs.Puts.{no-mark, shut-more}
use Rattle.xd_system.proofs.Settles.{holds-further}
use Rattle.xd_system.proofs.Told.{answers-more, begins-less, collected-more, ended-more, fit-more, last-more, log-more, told-more}

-- what is asked can be asked

is_among-same : (n : ℕ) (xs : List ℕ) → is_among n xs ≡ among n xs
is_among-same n [] = refl
is_among-same n (x ∷ xs) = grind (arith, nat_tests, is_among-same n xs)

is_among-last : (n m : ℕ) (xs : List ℕ) → is_among n (xs ++ m ∷ []) ≡ (is_among n xs || (m == n))
is_among-last n m [] = grind (arith, nat_tests)
is_among-last n m (x ∷ xs) = grind (arith, nat_tests, is_among-last n m xs)

can_ask-new : (size : ℕ) (before ns : List ℕ) → all_distinct ns ≡ true → list_all (λ n. nat_lt n size) ns ≡ true
    → ((n : ℕ) → among n ns ≡ true → is_among n before ≡ false) → can_ask size before ns ≡ true
can_ask-new size before [] d low new = refl
can_ask-new size before (n ∷ ns) d low new =
    let p = split-and (not (among n ns)) (all_distinct ns) d in
    let q = split-and (nat_lt n size) (list_all (λ m. nat_lt m size) ns) low in
    let here : is_among n before ≡ false = new n (grind (arith, nat_tests)) in
    let later : (m : ℕ) → among m ns ≡ true → is_among m (before ++ n ∷ []) ≡ false = λ m h.
    (let old : is_among m before ≡ false = new m (grind (arith, nat_tests, h)) in
    let other : (n == m) ≡ false = (elim (n == m) as (λ b. (n == m) ≡ b → b ≡ false) [
      | true ↦ λ e. absurd (let same : m ≡ n = grind (arith, nat_tests, e) in differ (sym (grind (arith, nat_tests, p.0)) ∙ subst (λ (x : ℕ). among x ns ≡ true) same h))
      | false ↦ λ e. refl
    ]) refl in
    is_among-last m n before ∙ rw (old, other) refl) in
    rw (q.0, here, can_ask-new size (before ++ n ∷ []) ns p.1 q.1 later) refl

all-filtered : (test keep : ℕ → Bool) (xs : List ℕ) → list_all test xs ≡ true → list_all test (filter keep xs) ≡ true
all-filtered test keep [] h = refl
all-filtered test keep (x ∷ xs) h =
    let p = split-and (test x) (list_all test xs) h in
    let rest = all-filtered test keep xs p.1 in
    elim (keep x) as (λ b. list_all test (if b then x ∷ filter keep xs else filter keep xs) ≡ true) [ true ↦ rw (p.0, rest) refl | false ↦ rest ]

-- a queue of tests

take-tests : (k : ℕ) (D : List ℕ) → take k (map Test D) ≡ map Test (take k D)
take-tests zero D = refl
take-tests (suc k) [] = refl
take-tests (suc k) (x ∷ D) = ap (λ (l : List LineEntry). Test x ∷ l) (take-tests k D)

has_test-in : (n : ℕ) (Q : List ℕ) → has_test n (map Test Q) ≡ among n Q
has_test-in n [] = refl
has_test-in n (x ∷ Q) = grind (arith, nat_tests, has_test-in n Q)

queued-tests : (Q ns : List ℕ) → all_queued (map Test Q) ns ≡ all_among ns Q
queued-tests Q [] = refl
queued-tests Q (n ∷ ns) = rw (has_test-in n Q, queued-tests Q ns) refl

stolen-by : (b : Bool) (x : ℕ) (xs : List ℕ) (ys : List ℕ) → xs ≡ ys
    → (if b then x ∷ xs else xs) ≡ (if b then x ∷ ys else ys)
stolen-by b x xs ys e = ap (λ (l : List ℕ). if b then x ∷ l else l) e

stolen-is : (ns Q : List ℕ) → stolen_tests ns (map Test Q) ≡ filter (λ n. among n ns) Q
stolen-is ns [] = refl
stolen-is ns (x ∷ Q) =
    ap (λ (b : Bool). if b then x ∷ stolen_tests ns (map Test Q) else stolen_tests ns (map Test Q)) (is_among-same x ns)
    ∙ stolen-by (among x ns) x (stolen_tests ns (map Test Q)) (filter (λ n. among n ns) Q) (stolen-is ns Q)

kept-by : (b : Bool) (x : ℕ) (K : List LineEntry) (ys : List ℕ) → K ≡ map Test ys
    → (if b then K else Test x ∷ K) ≡ map Test (if not b then x ∷ ys else ys)
kept-by true x K ys e = e
kept-by false x K ys e = ap (λ (l : List LineEntry). Test x ∷ l) e

kept-tests : (ns Q : List ℕ) → kept ns (map Test Q) ≡ map Test (without ns Q)
kept-tests ns [] = refl
kept-tests ns (x ∷ Q) =
    ap (λ (b : Bool). if b then kept ns (map Test Q) else Test x ∷ kept ns (map Test Q)) (is_among-same x ns)
    ∙ kept-by (among x ns) x (kept ns (map Test Q)) (without ns Q) (kept-tests ns Q)

-- where all that is asked stands after a place, nothing of it stands before

none-kept : (ns P : List ℕ) → ((x : ℕ) → among x P ≡ true → among x ns ≡ false)
    → (filter (λ n. among n ns) P ≡ []) × (without ns P ≡ P)
none-kept ns [] h = (refl, refl)
none-kept ns (x ∷ P) h =
    let here : among x ns ≡ false = h x (grind (arith, nat_tests)) in
    let rest = none-kept ns P (λ y k. h y (grind (arith, nat_tests, k))) in
    (rw here rest.0, ap (λ (b : Bool). if not b then x ∷ without ns P else without ns P) here ∙ ap (λ (l : List ℕ). x ∷ l) rest.1)

front-free : (ns D : List ℕ) (p : ℕ) → all_distinct D ≡ true → all_among ns (drop p D) ≡ true → (x : ℕ)
    → among x (take p D) ≡ true → among x ns ≡ false
front-free ns D p d h x k = (elim (among x ns) as (λ b. among x ns ≡ b → b ≡ false) [
  | true ↦ λ e. absurd (apart-of x p D d k (among_of-all_among x ns (drop p D) h e))
  | false ↦ λ e. refl
]) refl

stolen-all : (ns D : List ℕ) (p : ℕ) → all_distinct D ≡ true → all_among ns (drop p D) ≡ true
    → filter (λ n. among n ns) (drop p D) ≡ filter (λ n. among n ns) D
stolen-all ns D p d h =
    let none = none-kept ns (take p D) (front-free ns D p d h) in
    ap (λ (l : List ℕ). l ++ filter (λ n. among n ns) (drop p D)) (sym none.0)
    ∙ sym (filter-append (λ n. among n ns) (take p D) (drop p D))
    ∙ ap (filter (λ n. among n ns)) (take-append-drop p D)

kept-all : (ns D : List ℕ) (p : ℕ) → all_distinct D ≡ true → all_among ns (drop p D) ≡ true
    → take p D ++ without ns (drop p D) ≡ without ns D
kept-all ns D p d h =
    let none = none-kept ns (take p D) (front-free ns D p d h) in
    ap (λ (l : List ℕ). l ++ without ns (drop p D)) (sym none.1)
    ∙ sym (filter-append (λ n. not (among n ns)) (take p D) (drop p D)) ∙ ap (without ns) (take-append-drop p D)

-- the line after the answer

drop-length : (n : ℕ) (xs ys : List (List ℕ)) → length xs ≡ n → drop n (xs ++ ys) ≡ ys
drop-length zero [] ys h = refl
drop-length zero (x ∷ xs) ys h = absurd (omega (arith, h))
drop-length (suc n) [] ys h = absurd (omega (arith, h))
drop-length (suc n) (x ∷ xs) ys h = drop-length n xs ys (omega (arith, h))

pub dealt-answered : (size : ℕ) (R : List Order) (ns a : List ℕ) (backs : List (List ℕ))
    → length backs ≡ length (steals_asked R)
    → line_given size [] (R ++ Steal ns ∷ []) (backs ++ a ∷ []) ≡ without a (line_given size [] R backs)
dealt-answered size R ns a backs h =
    dealt-append size [] R (Steal ns ∷ []) (backs ++ a ∷ [])
    ∙ ap (λ (l : List ℕ). line_given size l (Steal ns ∷ []) (left_of R (backs ++ a ∷ []))) (dealt-enough size [] R backs (a ∷ []) h)
    ∙ ap (λ (bs : List (List ℕ)). line_given size (line_given size [] R backs) (Steal ns ∷ []) bs) (left-dropped R (backs ++ a ∷ []) ∙ drop-length (length (steals_asked R)) backs (a ∷ []) h)

take-shorter : (j k : ℕ) (xs : List ℕ) → j ≤ k → take j (take k xs) ≡ take j xs
take-shorter zero k xs h = refl
take-shorter (suc j) zero xs h = absurd (omega (arith, h))
take-shorter (suc j) (suc k) [] h = refl
take-shorter (suc j) (suc k) (x ∷ xs) h = ap (λ (l : List ℕ). x ∷ l) (take-shorter j k xs (omega (arith, h)))

count-both : (j k : ℕ) (xs : List ℕ) → j ≤ k → j ≤ length xs → j ≤ length (take k xs)
count-both zero k xs h l = omega arith
count-both (suc j) zero xs h l = absurd (omega (arith, h))
count-both (suc j) (suc k) [] h l = absurd (omega (arith, l))
count-both (suc j) (suc k) (x ∷ xs) h l =
    (let rest = count-both j k xs (omega (arith, h)) (omega (arith, l)) in omega (arith, rest))

-- the first of the line stay
first-stays : (ns D : List ℕ) (j p : ℕ) → all_distinct D ≡ true → all_among ns (drop p D) ≡ true → j ≤ p
    → j ≤ length D → take j (without ns D) ≡ take j D
first-stays ns D j p d h l within =
    ap (take j) (sym (kept-all ns D p d h))
    ∙ take-append-le j (take p D) (without ns (drop p D)) (count-both j p D l within) ∙ take-shorter j p D l

head-front : (k p : ℕ) (l m : List LineEntry) (n : ℕ) → head_test (drop k l) ≡ Some n → k < p
    → head_test (drop k (take p l ++ m)) ≡ Some n
head-front zero zero l m n h q = absurd (omega (arith, q))
head-front zero (suc p) [] m n h q = absurd cc
head-front zero (suc p) (Test x ∷ l) m n h q = h
head-front zero (suc p) (Mark ∷ l) m n h q = absurd cc
head-front (suc k) zero l m n h q = absurd (omega (arith, q))
head-front (suc k) (suc p) [] m n h q = absurd cc
head-front (suc k) (suc p) (x ∷ l) m n h q = head-front k p l m n h (omega (arith, q))

same-log : (log : Option Log) (a : List ℕ) → with_news log (what.Back a) ≡ log
same-log None a = refl
same-log (Some l) a = refl

bytes_eq-self : (xs : List ℕ) → bytes_eq xs xs ≡ true
bytes_eq-self xs = (bytes_eq-Decides xs xs).1 refl

all-answered : (ns : List ℕ) → is_answer ns ns ≡ true
all-answered [] = refl
all-answered (n ∷ ns) = bytes_eq-self (n ∷ ns)

among-drops : (x j p : ℕ) (D X : List ℕ) → j + 1 ≤ p → among x (drop p D) ≡ true
    → among x (drop 1 (drop j D ++ X)) ≡ true
among-drops x zero zero D X h k = absurd (omega (arith, h))
among-drops x zero (suc p) [] X h k = absurd (differ k)
among-drops x zero (suc p) (y ∷ D) X h k = further x p D X k
  where
    first : (x : ℕ) (E X : List ℕ) → among x E ≡ true → among x (E ++ X) ≡ true
    first x [] X q = absurd (differ q)
    first x (z ∷ E) X q = grind (arith, nat_tests, first x E X)

    dropped : (x k : ℕ) (E : List ℕ) → among x (drop k E) ≡ true → among x E ≡ true
    dropped x zero E r = r
    dropped x (suc k) [] r = r
    dropped x (suc k) (z ∷ E) r = grind (arith, nat_tests, dropped x k E)

    further : (x p : ℕ) (D X : List ℕ) → among x (drop p D) ≡ true → among x (D ++ X) ≡ true
    further x p D X q = first x D X (dropped x p D q)
among-drops x (suc j) zero D X h k = absurd (omega (arith, h))
among-drops x (suc j) (suc p) [] X h k = absurd (differ k)
among-drops x (suc j) (suc p) (y ∷ D) X h k = among-drops x j p D X (omega (arith, h)) k

all-drops : (ns : List ℕ) (j p : ℕ) (D X : List ℕ) → j + 1 ≤ p → all_among ns (drop p D) ≡ true
    → all_among ns (drop 1 (drop j D ++ X)) ≡ true
all-drops [] j p D X h k = refl
all-drops (n ∷ ns) j p D X h k =
    (let q = split-and (among n (drop p D)) (all_among ns (drop p D)) k in rw (among-drops n j p D X h q.0, all-drops ns j p D X h q.1) refl)

module _ (size : ℕ) (orders : List Order) (ns : List ℕ) (news : List What) where
  abbrev more : List Order
  more = orders ++ Steal ns ∷ []

  abbrev D : List ℕ
  D = line_given size [] orders (answers_in news)

  -- the answer leaves what the definitions deal
  module _ (c : FunctionCall) (s : IsServing size orders news c) (unshut : list_any is_shutdown orders ≡ false) (a : List ℕ) (line : List LineEntry) (news2 : List What) (e : news2 ≡ news ++ what.Back a ∷ []) where
    answered : (line ≡ map Test (without a D))
        → take (length (ends_in news)) (without a D) ≡ take (length (ends_in news)) D
        → ((n : ℕ) → c.running ≡ true → head_test (left c) ≡ Some n → head_test (drop c.ended line) ≡ Some n)
        → IsServing size more news2 (record c { line = line })
    answered is first head =
        let answers : answers_in news2 ≡ answers_in news ++ a ∷ [] = ap answers_in e
        ∙ answers-more news (what.Back a) in
        let ended : ends_in news2 ≡ ends_in news = ap ends_in e ∙ ended-more news (what.Back a)
        ∙ append-nil (ends_in news) in
        let log : log_of news2 ≡ log_of news = ap log_of e ∙ log-more news (what.Back a) ∙ same-log (log_of news) a in
        let row : line_given size [] more (answers_in news2) ≡ without a D = ap (line_given size [] more) answers
        ∙ dealt-answered size orders ns a (answers_in news) s.answered in
        record {
          phase = s.phase;
          size_is = s.size_is;
          line_is = is ∙ ap (λ (l : List ℕ). map Test l) (sym row)
              ∙ sym (append-nil (map Test (line_given size [] more (answers_in news2))))
              ∙ ap (λ (m : List LineEntry). map Test (line_given size [] more (answers_in news2)) ++ m) (sym (no-mark more (shut-more orders (Steal ns) unshut)));
          answered = ap length answers ∙ length-append (answers_in news) (a ∷ []) ∙ ap (λ (n : ℕ). n + 1) s.answered
              ∙ sym (ap length (steals-append orders (Steal ns ∷ [])) ∙ length-append (steals_asked orders) (ns ∷ []));
          ended_is = s.ended_is ∙ ap length (sym ended);
          ended_first = ap (λ (x : List ℕ). take (length x) (line_given size [] more (answers_in news2))) ended
              ∙ ap (take (length (ends_in news))) row ∙ first ∙ s.ended_first ∙ sym ended;
          distinct = ap all_distinct row ∙ distinct-filter (λ x. not (among x a)) D s.distinct;
          within = ap (list_all (λ n. nat_lt n size)) row
              ∙ all-filtered (λ n. nat_lt n size) (λ x. not (among x a)) D s.within;
          log_is = record {
            opened = λ r. (let q = s.log_is.opened r in (ap any_open log ∙ q.0, (q.1.0, head q.1.0 r q.1.1, ap (is_of q.1.0) log ∙ q.1.2), ap number_of log ∙ q.2));
            closed = λ r. (let q = s.log_is.closed r in (ap any_open log ∙ q.0, subst (λ (l : Option Log). number_of l < number_of_log c.ended) (sym log) q.1));
            earlier = λ r n h. subst (λ (l : List ℕ). among n l ≡ true) (sym ended) (s.log_is.earlier r n (sym (ap (is_of n) log) ∙ h));
          };
          collected = ap (list_any is_collected) e ∙ collected-more news (what.Back a) s.collected;
          unfinished = ap (list_any is_last_told) e ∙ last-more news (what.Back a) refl s.unfinished;
        }

  -- and it may come
  may_answer : (c : FunctionCall) (s : IsServing size orders news c) (a : List ℕ) (all : List Order) (b : IsFirstPart more all)
      → is_answer ns a ≡ true
      → ((X : List ℕ) → all_among a (drop 1 (drop (length (ends_in news)) D ++ X)) ≡ true)
      → AnswersSteal size all news a
  may_answer c s a all b is waits =
      let less = begins-less orders (Steal ns ∷ []) all b in
      record {
        asked = ns;
        later = steals_asked b.0;
        next = ap (λ (os : List Order). drop (length (answers_in news)) (steals_asked os)) (b.1 ∙ append_assoc orders (Steal ns ∷ []) b.0)
            ∙ ap (drop (length (answers_in news))) (steals-append orders (Steal ns ∷ b.0))
            ∙ drop-length (length (answers_in news)) (steals_asked orders) (ns ∷ steals_asked b.0) (sym s.answered);
        is = is;
        waits = ap (λ (l : List ℕ). all_among a (drop 1 l)) (holds-further size orders news c s all less)
            ∙ waits (all_given size less.0);
      }

abbrev told_in : List What → CallTurn → List What
told_in before t = before ++ news_of_asks t.asks

passes : (c : FunctionCall) → c.ended + 1 ≤ passed c
passes c = go c.running
  where
    go : (b : Bool) → c.ended + 1 ≤ c.ended + (if b then 2 else 1)
    go true = omega arith
    go false = omega arith

runs-passed : (c : FunctionCall) → c.ended < passed c
runs-passed c = (let p = passes c in omega (arith, p))

module _ (size : ℕ) (orders : List Order) (ns : List ℕ) (before : List What) (t : CallTurn) (k : IsServingTurn size orders before t) (unshut : list_any is_shutdown orders ≡ false) where
  abbrev E : List ℕ
  E = line_given size [] orders (answers_in (told_in before t))

  line-tests : t.call.line ≡ map Test E
  line-tests = k.serves.line_is ∙ ap (λ (l : List LineEntry). map Test E ++ l) (no-mark orders unshut)
      ∙ append-nil (map Test E)

  ended-few : length (ends_in (told_in before t)) ≤ length E
  ended-few = count-taken (length (ends_in (told_in before t))) E (ap length k.serves.ended_first)

  -- none is given back
  gives_none : IsServingTurn size (orders ++ Steal ns ∷ []) before (asking (Tell (what.Back []) ∷ []) t)
  gives_none =
      let news = told_in before t in
      let e : told_in before (asking (Tell (what.Back []) ∷ []) t) ≡ news ++ what.Back [] ∷ [] = told-more before t.asks (Tell (what.Back []) ∷ []) in
      record {
        serves = answered size orders ns news t.call k.serves unshut [] t.call.line (told_in before (asking (Tell (what.Back []) ∷ []) t)) e
            (line-tests ∙ ap (λ (l : List ℕ). map Test l) (sym (without-none E))) (ap (take (length (ends_in news))) (without-none E)) (λ n r h. h);
        fit = λ all b m. subst (AllFit size all) (sym e) (fit-more size all news (what.Back []) (k.fit all (begins-less orders (Steal ns ∷ []) all b) m) (may_answer size orders ns news t.call k.serves [] all b refl (λ X. refl)));
      }

  -- all are given back
  gives_all : all_among ns (drop (passed t.call) E) ≡ true → is_in_order ns E ≡ true
      → IsServingTurn size (orders ++ Steal ns ∷ []) before (asking (Tell (what.Back (stolen_tests ns (queue t.call))) ∷ []) (record t { call = record (t.call) { line = front t.call ++ kept ns (queue t.call) } }))
  gives_all queued part =
      let news = told_in before t in
      let c = t.call in
      let p = passed c in
      let j = length (ends_in news) in
      let s = k.serves in
      let q : queue c ≡ map Test (drop p E) = ap (drop p) line-tests ∙ drop-map Test p E in
      let f : front c ≡ map Test (take p E) = ap (take p) line-tests ∙ take-tests p E in
      let asked : ns ≡ filter (λ n. among n ns) E = (bytes_eq-Decides ns (filter (λ n. among n ns) E)).0 part in
      let a : stolen_tests ns (queue c) ≡ ns = ap (stolen_tests ns) q ∙ stolen-is ns (drop p E)
      ∙ stolen-all ns E p s.distinct queued ∙ sym asked in
      let line : front c ++ kept ns (queue c) ≡ map Test (without ns E) =
      ap (λ (l : List LineEntry). l ++ kept ns (queue c)) f
      ∙ ap (λ (l : List LineEntry). map Test (take p E) ++ l) (ap (kept ns) q ∙ kept-tests ns (drop p E))
      ∙ sym (map-append Test (take p E) (without ns (drop p E)))
      ∙ ap (λ (l : List ℕ). map Test l) (kept-all ns E p s.distinct queued) in
      let u : CallTurn = asking (Tell (what.Back (stolen_tests ns (queue c))) ∷ []) (record t { call = record c { line = front c ++ kept ns (queue c) } }) in
      let e : told_in before u ≡ news ++ what.Back ns ∷ [] = told-more before t.asks (Tell (what.Back (stolen_tests ns (queue c))) ∷ [])
      ∙ ap (λ (x : List ℕ). news ++ what.Back x ∷ []) a in
      let first : j ≤ p = (let x = passes c in let y = s.ended_is in omega (arith, x, y)) in
      let after-running : j + 1 ≤ p = (let x = passes c in let y = s.ended_is in omega (arith, x, y)) in
      record {
        serves = answered size orders ns news c s unshut ns (front c ++ kept ns (queue c)) (told_in before u) e line (first-stays ns E j p s.distinct queued first ended-few)
            (λ n r h. head-front c.ended p c.line (kept ns (queue c)) n h (runs-passed c));
        fit = λ all b m. subst (AllFit size all) (sym e) (fit-more size all news (what.Back ns) (k.fit all (begins-less orders (Steal ns ∷ []) all b) m)
            (may_answer size orders ns news c s ns all b (all-answered ns) (λ X. all-drops ns j p E X after-running queued)));
      }

  -- a steal of tests of the line, in its order, is answered by all of them or by none
  pub answers_steal : is_in_order ns E ≡ true → IsServingTurn size (orders ++ Steal ns ∷ []) before (stolen_if ns t)
  answers_steal part =
      let s = k.serves in
      let asked : ns ≡ filter (λ n. among n ns) E = (bytes_eq-Decides ns (filter (λ n. among n ns) E)).0 part in
      let distinct : all_distinct ns ≡ true = ap all_distinct asked
      ∙ distinct-filter (λ n. among n ns) E s.distinct in
      let low : list_all (λ n. nat_lt n size) ns ≡ true = ap (list_all (λ n. nat_lt n size)) asked
      ∙ all-filtered (λ n. nat_lt n size) (λ n. among n ns) E s.within in
      let can : can_ask t.call.size [] ns ≡ true = ap (λ (z : ℕ). can_ask z [] ns) s.size_is
      ∙ can_ask-new size [] ns distinct low (λ n h. refl) in
      let tests : all_queued (queue t.call) ns ≡ all_among ns (drop (passed t.call) E) = ap (λ (l : List LineEntry). all_queued l ns) (ap (drop (passed t.call)) line-tests ∙ drop-map Test (passed t.call) E)
      ∙ queued-tests (drop (passed t.call) E) ns in
      subst (λ (b : Bool). IsServingTurn size (orders ++ Steal ns ∷ []) before (if b then stolen ns t else ended_early BadCommand t)) (sym can) (go (all_queued (queue t.call) ns) (sym tests))
    where
      go : (b : Bool) → all_among ns (drop (passed t.call) E) ≡ b
          → IsServingTurn size (orders ++ Steal ns ∷ []) before (if b then asking (Tell (what.Back (stolen_tests ns (queue t.call))) ∷ []) (record t { call = record (t.call) { line = front t.call ++ kept ns (queue t.call) } }) else asking (Tell (what.Back []) ∷ []) t)
      go true h = gives_all h part
      go false h = gives_none
