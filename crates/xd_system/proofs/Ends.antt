-- The running test prints, and ends.
use Rattle.std.proofs.Common.{◌≡◌, ℕ, ◌+◌, ◌≤◌, ◌<◌, List, [], ◌∷◌, ◌++◌, take, drop, length, map, Bool, true, false, refl, ap, sym, ◌∙◌, subst, arith, append_assoc, length-append}
use Rattle.std.specs.Prelude.{nat_lt, if◌then◌else◌, Option, Some, None}
use Rattle.std.specs.List.{list_all, list_any}
use Rattle.std.proofs.lemmas.Bool.Decides.{nat_tests}
use Rattle.std.proofs.lemmas.List.{append-nil}
use Rattle.xd_edge.specs.Limits.{most_tests}
use Rattle.xd_journal.specs.declared.entry.Outcome.{Outcome}
use Rattle.xd_journal.specs.declared.news.What.{What}
use Rattle.xd_journal.specs.declared.news.What.TheVariants as what
use Rattle.xd_commands.specs.declared.order.Order.{Order}
use Rattle.xd_run.specs.Meaning.{Log, any_open, is_of, is_open_log, log_of, number_of, with_news}
use Rattle.xd_run.specs.Numbers.{among, all_distinct, first_of}
use Rattle.xd_worker_tests.specs.declared.ask.Ask.{Ask}
use Rattle.xd_worker_tests.specs.declared.ask.Ask.TheVariants.{CloseLog, Piece, Tell}
use Rattle.xd_worker_tests.specs.declared.line_entry.LineEntry.{LineEntry}
use Rattle.xd_worker_tests.specs.declared.line_entry.LineEntry.TheVariants.{Test, Mark}
use Rattle.xd_worker_tests.specs.Line.{FunctionCall, head_test, left, number_of_log, running_test}
use Rattle.xd_worker_tests.specs.Turns.{CallTurn, line_settled, piece_asks, put_out, told_done, without_run}
use Rattle.xd_run_laws.proofs.Logic.{differ}
use Rattle.xd_system.specs.LineGiven.{all_given, line_given, is_shutdown}
use Rattle.xd_system.specs.Fits.{EndsHead, is_collected}
use Rattle.xd_system.specs.Moment.{IsFirstPart}
use Rattle.xd_system.specs.Own.{answers_in, ends_in}
use Rattle.xd_system.specs.Tells.{news_of_asks}
use Rattle.xd_system.proofs.Call.{AllFit, IsServing, IsServingTurn, IsTurn, is_last_told, mark_of}
use Rattle.xd_system.proofs.Lines.{drop-mapped}
use Rattle.xd_system.proofs.Lists.{count-taken, take-next}
use Rattle.xd_system.proofs.Settles.{holds-further, settles}
use Rattle.xd_system.proofs.Told.{answers-more, collected-more, ended-more, fit-more, last-more, log-more, told-more}

abbrev told_in : List What → CallTurn → List What
told_in before t = before ++ news_of_asks t.asks

-- the log

open-log : (log : Option Log) (n : ℕ) → any_open log ≡ true → number_of log ≡ n → is_open_log n log ≡ true
open-log None n h k = absurd (differ h)
open-log (Some l) n h k = grind (arith, nat_tests, h, k)

piece-open : (log : Option Log) (n : ℕ) (b : List ℕ) → any_open (with_news log (what.Piece n b)) ≡ any_open log
piece-open None n b = refl
piece-open (Some l) n b = refl

piece-number : (log : Option Log) (n : ℕ) (b : List ℕ) → number_of (with_news log (what.Piece n b)) ≡ number_of log
piece-number None n b = refl
piece-number (Some l) n b = refl

piece-of : (m : ℕ) (log : Option Log) (n : ℕ) (b : List ℕ) → is_of m (with_news log (what.Piece n b)) ≡ is_of m log
piece-of m None n b = refl
piece-of m (Some l) n b = refl

closed-open : (log : Option Log) (n : ℕ) → any_open (with_news log (what.LogClosed n)) ≡ false
closed-open None n = refl
closed-open (Some l) n = refl

closed-number : (log : Option Log) (n : ℕ) → number_of (with_news log (what.LogClosed n)) ≡ number_of log
closed-number None n = refl
closed-number (Some l) n = refl

closed-of : (m : ℕ) (log : Option Log) (n : ℕ) → is_of m (with_news log (what.LogClosed n)) ≡ is_of m log
closed-of m None n = refl
closed-of m (Some l) n = refl

done-log : (log : Option Log) (n : ℕ) (o : Outcome) (ms : ℕ) → with_news log (what.Done n o ms) ≡ log
done-log None n o ms = refl
done-log (Some l) n o ms = refl

one-of : (log : Option Log) (m n : ℕ) → is_of m log ≡ true → is_of n log ≡ true → m ≡ n
one-of None m n h k = absurd (differ h)
one-of (Some l) m n h k = grind (arith, nat_tests, h, k)

-- the running test is the first that has not ended

runs-test : (c : FunctionCall) (n : ℕ) → running_test c ≡ Some n → (c.running ≡ true) × (head_test (left c) ≡ Some n)
runs-test c n h = go c.running refl h
  where
    go : (b : Bool) → c.running ≡ b → (if b then head_test (left c) else None) ≡ Some n
        → (c.running ≡ true) × (head_test (left c) ≡ Some n)
    go true e k = (e, k)
    go false e k = absurd cc

head-row : (ps : List ℕ) (shut : Bool) (n : ℕ) → head_test (map Test ps ++ (if shut then Mark ∷ [] else [])) ≡ Some n
    → (rest : List ℕ) × (ps ≡ n ∷ rest)
head-row [] true n h = absurd cc
head-row [] false n h = absurd cc
head-row (x ∷ ps) shut n h = (ps, (let e : x ≡ n = cc in ap (λ (y : ℕ). y ∷ ps) e))

same-some : (m n : ℕ) → Some m ≡ Some n → m ≡ n
same-some m n h = cc

among-end : (n : ℕ) (xs : List ℕ) → among n (xs ++ n ∷ []) ≡ true
among-end n [] = grind (arith, nat_tests)
among-end n (x ∷ xs) = grind (arith, nat_tests, among-end n xs)

module _ (size : ℕ) (orders : List Order) (news : List What) (c : FunctionCall) (s : IsServing size orders news c) (n : ℕ) (runs : running_test c ≡ Some n) where
  abbrev row : List ℕ
  row = line_given size [] orders (answers_in news)

  abbrev log : ℕ
  log = number_of_log c.ended

  pub next-test : (rest : List ℕ) × (drop (length (ends_in news)) row ≡ n ∷ rest)
  next-test =
      let k = length (ends_in news) in
      let within : k ≤ length row = count-taken k row (ap length s.ended_first) in
      let left_is : left c ≡ map Test (drop k row) ++ mark_of orders =
      ap (λ (l : List LineEntry). drop c.ended l) s.line_is
      ∙ ap (λ (i : ℕ). drop i (map Test row ++ mark_of orders)) s.ended_is
      ∙ drop-mapped k row (mark_of orders) within in
      head-row (drop k row) (list_any is_shutdown orders) n (ap head_test (sym left_is) ∙ (runs-test c n runs).1)

  pub is-open : is_open_log log (log_of news) ≡ true
  is-open = (let o = s.log_is.opened (runs-test c n runs).0 in open-log (log_of news) log o.0 o.2)

  pub is-logged : is_of n (log_of news) ≡ true
  is-logged = (let o = s.log_is.opened (runs-test c n runs).0 in subst (λ (m : ℕ). is_of m (log_of news) ≡ true) (same-some o.1.0 n (sym o.1.1 ∙ (runs-test c n runs).1)) o.1.2)

  -- output leaves all but how much was sent
  pub printed : (bytes : List ℕ) (sent : ℕ) (news2 : List What) → news2 ≡ news ++ what.Piece log bytes ∷ []
      → IsServing size orders news2 (record c { sent = sent })
  printed bytes sent news2 e =
      let x = what.Piece log bytes in
      let answers : answers_in news2 ≡ answers_in news = ap answers_in e ∙ answers-more news x
      ∙ append-nil (answers_in news) in
      let ended : ends_in news2 ≡ ends_in news = ap ends_in e ∙ ended-more news x ∙ append-nil (ends_in news) in
      let logged : log_of news2 ≡ with_news (log_of news) x = ap log_of e ∙ log-more news x in
      record {
        phase = s.phase;
        size_is = s.size_is;
        line_is = s.line_is ∙ ap (λ (a : List (List ℕ)). map Test (line_given size [] orders a) ++ mark_of orders) (sym answers);
        answered = ap length answers ∙ s.answered;
        ended_is = s.ended_is ∙ ap length (sym ended);
        ended_first = ap (λ (z : List ℕ). take (length z) (line_given size [] orders (answers_in news2))) ended
            ∙ ap (λ (a : List (List ℕ)). take (length (ends_in news)) (line_given size [] orders a)) answers
            ∙ s.ended_first ∙ sym ended;
        distinct = ap (λ (a : List (List ℕ)). all_distinct (line_given size [] orders a)) answers ∙ s.distinct;
        within = ap (λ (a : List (List ℕ)). list_all (λ z. nat_lt z size) (line_given size [] orders a)) answers
            ∙ s.within;
        log_is = record {
          opened = λ r. (let o = s.log_is.opened r in (ap any_open logged ∙ piece-open (log_of news) log bytes ∙ o.0, (o.1.0, o.1.1, ap (is_of o.1.0) logged ∙ piece-of o.1.0 (log_of news) log bytes ∙ o.1.2), ap number_of logged ∙ piece-number (log_of news) log bytes ∙ o.2));
          closed = λ r. (let o = s.log_is.closed r in (ap any_open logged ∙ piece-open (log_of news) log bytes ∙ o.0, subst (λ (i : ℕ). i < log) (sym (ap number_of logged ∙ piece-number (log_of news) log bytes)) o.1));
          earlier = λ r m h. subst (λ (l : List ℕ). among m l ≡ true) (sym ended) (s.log_is.earlier r m (sym (ap (is_of m) logged ∙ piece-of m (log_of news) log bytes) ∙ h));
        };
        collected = ap (list_any is_collected) e ∙ collected-more news x s.collected;
        unfinished = ap (list_any is_last_told) e ∙ last-more news x refl s.unfinished;
      }

  -- the test ends
  module _ (outcome : Outcome) (ms : ℕ) where
    abbrev closing : List What
    closing = news ++ what.LogClosed log ∷ []

    logged-then : log_of closing ≡ with_news (log_of news) (what.LogClosed log)
    logged-then = log-more news (what.LogClosed log)

    ended-then : ends_in closing ≡ ends_in news
    ended-then = ended-more news (what.LogClosed log) ∙ append-nil (ends_in news)

    answers-then : answers_in closing ≡ answers_in news
    answers-then = answers-more news (what.LogClosed log) ∙ append-nil (answers_in news)

    pub ends-head : (all : List Order) → IsFirstPart orders all → EndsHead size all closing n
    ends-head all b = record {
      head = ap (λ (j : ℕ). first_of (drop j (line_given size [] all (answers_in closing)))) (ap length ended-then)
          ∙ ap (λ (a : List (List ℕ)). first_of (drop (length (ends_in news)) (line_given size [] all a))) answers-then
          ∙ ap first_of (holds-further size orders news c s all b ∙ ap (λ (l : List ℕ). l ++ all_given size b.0) next-test.1);
      logged = ap (is_of n) logged-then ∙ closed-of n (log_of news) log ∙ is-logged;
      closed = ap any_open logged-then ∙ closed-open (log_of news) log;
    }

    pub done : (news2 : List What) → news2 ≡ closing ++ what.Done n outcome ms ∷ []
        → IsServing size orders news2 (without_run c)
    done news2 e =
        let x = what.Done n outcome ms in
        let k = length (ends_in news) in
        let answers : answers_in news2 ≡ answers_in news = ap answers_in e ∙ answers-more closing x
        ∙ append-nil (answers_in closing) ∙ answers-then in
        let ended : ends_in news2 ≡ ends_in news ++ n ∷ [] = ap ends_in e ∙ ended-more closing x
        ∙ ap (λ (l : List ℕ). l ++ n ∷ []) ended-then in
        let count : length (ends_in news2) ≡ k + 1 = ap length ended ∙ length-append (ends_in news) (n ∷ []) in
        let logged : log_of news2 ≡ with_news (log_of news) (what.LogClosed log) = ap log_of e ∙ log-more closing x
        ∙ done-log (log_of closing) n outcome ms ∙ logged-then in
        let number : number_of (log_of news2) ≡ log = ap number_of logged ∙ closed-number (log_of news) log
        ∙ (s.log_is.opened (runs-test c n runs).0).2 in
        record {
          phase = s.phase;
          size_is = s.size_is;
          line_is = s.line_is ∙ ap (λ (a : List (List ℕ)). map Test (line_given size [] orders a) ++ mark_of orders) (sym answers);
          answered = ap length answers ∙ s.answered;
          ended_is = ap (λ (j : ℕ). j + 1) s.ended_is ∙ sym count;
          ended_first = ap (λ (j : ℕ). take j (line_given size [] orders (answers_in news2))) count
              ∙ ap (λ (a : List (List ℕ)). take (k + 1) (line_given size [] orders a)) answers
              ∙ take-next k n row next-test.0 next-test.1 ∙ ap (λ (l : List ℕ). l ++ n ∷ []) s.ended_first
              ∙ sym ended;
          distinct = ap (λ (a : List (List ℕ)). all_distinct (line_given size [] orders a)) answers ∙ s.distinct;
          within = ap (λ (a : List (List ℕ)). list_all (λ z. nat_lt z size) (line_given size [] orders a)) answers
              ∙ s.within;
          log_is = record {
            opened = λ r. absurd cc;
            closed = λ r. (ap any_open logged ∙ closed-open (log_of news) log, omega (arith, number));
            earlier = λ r m h. (let old : is_of m (log_of news) ≡ true = sym (ap (is_of m) logged ∙ closed-of m (log_of news) log) ∙ h in
                let same : n ≡ m = one-of (log_of news) n m is-logged old in
                subst (λ (l : List ℕ). among m l ≡ true) (sym ended) (subst (λ (i : ℕ). among i (ends_in news ++ n ∷ []) ≡ true) same (among-end n (ends_in news))));
          };
          collected = ap (list_any is_collected) e
              ∙ collected-more closing x (collected-more news (what.LogClosed log) s.collected);
          unfinished = ap (list_any is_last_told) e
              ∙ last-more closing x refl (last-more news (what.LogClosed log) refl s.unfinished);
        }

module _ (size : ℕ) (orders : List Order) (before : List What) (t : CallTurn) (k : IsServingTurn size orders before t) (n : ℕ) (runs : running_test t.call ≡ Some n) where
  puts : (bytes : List ℕ) (sent : ℕ)
      → IsServingTurn size orders before (record { call = record (t.call) { sent = sent }; asks = t.asks ++ piece_asks (number_of_log t.call.ended) bytes; run = t.run })
  puts [] sent =
      let s = k.serves in
      let e : before ++ news_of_asks (t.asks ++ []) ≡ told_in before t = ap (λ (l : List Ask). before ++ news_of_asks l) (append-nil t.asks) in
      let plain : IsServing size orders (told_in before t) (record (t.call) { sent = sent }) = record {
        phase = s.phase;
        size_is = s.size_is;
        line_is = s.line_is;
        answered = s.answered;
        ended_is = s.ended_is;
        ended_first = s.ended_first;
        distinct = s.distinct;
        within = s.within;
        log_is = record { opened = s.log_is.opened; closed = s.log_is.closed; earlier = s.log_is.earlier };
        collected = s.collected;
        unfinished = s.unfinished;
      } in
      record {
        serves = subst (λ (l : List What). IsServing size orders l (record (t.call) { sent = sent })) (sym e) plain;
        fit = λ all b m. subst (AllFit size all) (sym e) (k.fit all b m);
      }
  puts (x ∷ xs) sent =
      let log = number_of_log t.call.ended in
      let news = told_in before t in
      let e : before ++ news_of_asks (t.asks ++ Piece log (x ∷ xs) ∷ []) ≡ news ++ what.Piece log (x ∷ xs) ∷ [] = told-more before t.asks (Piece log (x ∷ xs) ∷ []) in
      record {
        serves = printed size orders news t.call k.serves n runs (x ∷ xs) sent (before ++ news_of_asks (t.asks ++ Piece log (x ∷ xs) ∷ [])) e;
        fit = λ all b m. subst (AllFit size all) (sym e) (fit-more size all news (what.Piece log (x ∷ xs)) (k.fit all b m) (is-open size orders news t.call k.serves n runs));
      }

  pub prints : (bytes : List ℕ) → IsServingTurn size orders before (put_out bytes t)
  prints bytes = puts _ _

  pub ends : size ≤ most_tests → (outcome : Outcome) (ms : ℕ)
      → IsTurn size orders before (line_settled true (told_done n outcome ms t))
  ends few outcome ms =
      let log = number_of_log t.call.ended in
      let news = told_in before t in
      let u = told_done n outcome ms t in
      let e : told_in before u ≡ (news ++ what.LogClosed log ∷ []) ++ what.Done n outcome ms ∷ [] =
      told-more before t.asks (CloseLog log ∷ Tell (what.Done n outcome ms) ∷ [])
      ∙ sym (append_assoc news (what.LogClosed log ∷ []) (what.Done n outcome ms ∷ [])) in
      settles size orders before few u (record {
        serves = done size orders news t.call k.serves n runs outcome ms (told_in before u) e;
        fit = λ all b m. subst (AllFit size all) (sym e) (fit-more size all (news ++ what.LogClosed log ∷ []) (what.Done n outcome ms)
            (fit-more size all news (what.LogClosed log) (k.fit all b m) (is-open size orders news t.call k.serves n runs)) (ends-head size orders news t.call k.serves n runs outcome ms all b));
      })
