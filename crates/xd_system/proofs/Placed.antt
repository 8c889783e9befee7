-- Each test that an active worker holds stands in its place, at the worker or on the way.
use Rattle.std.proofs.Common.{◌≡◌, ℕ, zero, suc, ◌+◌, ◌≤◌, ◌<◌, List, [], ◌∷◌, ◌++◌, take, drop, length, map, Bool, true, false, not, refl, ap, sym, ◌∙◌, subst, arith, append_assoc, length-append, inl, inr}
use Rattle.std.specs.Prelude.{if◌then◌else◌}
use Rattle.std.specs.List.{flat_map, list_any, list_all}
use Rattle.std.proofs.lemmas.Bool.Decides.{nat_tests}
use Rattle.std.proofs.lemmas.List.{append-nil, take-append-drop}
use Rattle.std.proofs.lemmas.List.Elements.{filter_map-append}
use Rattle.std.proofs.lemmas.List.Folds.{list_any-append}
use Rattle.std.proofs.lemmas.Slice.Eq.{bytes_eq-Decides}
use Rattle.xd_journal.specs.declared.settings.Settings.{Settings}
use Rattle.xd_journal.specs.declared.news.News.{News}
use Rattle.xd_journal.specs.declared.news.What.{What}
use Rattle.xd_journal.specs.declared.news.What.TheVariants as what
use Rattle.xd_commands.specs.declared.order.Order.{Order}
use Rattle.xd_commands.specs.declared.order.Order.TheVariants.{RunTests, RunAll, Steal, Shutdown}
use Rattle.xd_run.specs.Numbers.{among, without}
use Rattle.xd_run.specs.Plan.{items_named}
use Rattle.xd_run.specs.Proper.{IsProper}
use Rattle.xd_run.specs.Table.{held, in_rota}
use Rattle.xd_run.specs.Workers.{is_active, slot_of}
use Rattle.xd_run_laws.proofs.Counts.{among-filter}
use Rattle.xd_run_laws.proofs.Laws.{lawful}
use Rattle.xd_run_laws.proofs.Logic.{and, cases_of, differ, not_true, or-left, split-and}
use Rattle.xd_run_laws.proofs.Members.{has-member}
use Rattle.xd_run_laws.proofs.Turns.{Tidy}
use Rattle.xd_session.specs.History.{IsProperRun, Run as SoFar, run_of, said_by}
use Rattle.xd_session.proofs.Steps.{run-taken, sound-run}
use Rattle.xd_worker_tests.specs.declared.ask.Ask.{Ask}
use Rattle.xd_worker_tests.specs.declared.line_entry.LineEntry.{LineEntry}
use Rattle.xd_worker_tests.specs.declared.line_entry.LineEntry.TheVariants.{Test, Mark}
use Rattle.xd_worker_tests.specs.History.{Given, call_after}
use Rattle.xd_worker_tests.specs.Line.{FunctionCall, left, tests_in_line}
use Rattle.xd_system.specs.LineGiven.{all_given, are_fair, line_given, is_answer, is_shutdown, marks_last, steals_asked}
use Rattle.xd_system.specs.Fits.{AnswersSteal, is_collected}
use Rattle.xd_system.specs.Laws.{EachInItsPlace, items_given_back, items_of_link}
use Rattle.xd_system.specs.Moment.{IsFirstPart, IsHonestAt, LinkNow, TookOf, news_on_way, orders_on_way, told_so_far}
use Rattle.xd_system.specs.Own.{answer_of_news, answers_by, answers_in, ends_by, ends_in, end_of_news, collections_in, collection_of_news, told_to}
use Rattle.xd_system.specs.Tells.{is_of_run, news_of_asks, orders_of, tells}
use Rattle.xd_system.proofs.Accused.{drop-short, inv-honest, short-asked}
use Rattle.xd_system.proofs.Allowed.{allows}
use Rattle.xd_system.proofs.Backs.{dealt-back, dealt-nothing, without-append, without-apart}
use Rattle.xd_system.proofs.Call.{AllFit, IsServing, mark_of}
use Rattle.xd_system.proofs.Deal.{Deal, Deals, is_quiet, line_at, size_at}
use Rattle.xd_system.proofs.Echo.{Echo}
use Rattle.xd_system.proofs.Frames.{quiet-fair, quiet-line}
use Rattle.xd_system.proofs.Keeping.{deals-none, keeps_deals}
use Rattle.xd_system.proofs.Lines.{dealt-further, drop-mapped, marks-end, steals-append, without-none}
use Rattle.xd_system.proofs.Lists.{count-taken}
use Rattle.xd_system.proofs.Marks.{MarksSo, keeps_marks, marks-none}
use Rattle.xd_system.proofs.Runs.{HonestSoFar}
use Rattle.xd_system.proofs.Sizes.{size-listed}
use Rattle.xd_system.proofs.Walks.{at-run}
use Rattle.xd_system.proofs.Worker.{CallIs, IsAwaiting, SizedBy, call_is, tells_fit}
use Rattle.xd_system.proofs.Named.{named-none, named-without}
use Rattle.xd_system.proofs.Parts.{tells-part, orders-part, run-part, begins-then}
use Rattle.std.proofs.Math.Seq.{drop-append_seam}

tests-mapped : (ns : List ℕ) (shut : Bool) → tests_in_line (map Test ns ++ (if shut then Mark ∷ [] else [])) ≡ ns
tests-mapped [] true = refl
tests-mapped [] false = refl
tests-mapped (n ∷ ns) shut = ap (λ (l : List ℕ). n ∷ l) (tests-mapped ns shut)

none-second : {A : Type 0} (xs ys : List A) → xs ++ ys ≡ [] → ys ≡ []
none-second [] ys h = h
none-second (x ∷ xs) ys h = absurd cc

quiet-second : (xs ys : List Order) → is_quiet (xs ++ ys) ≡ true → is_quiet ys ≡ true
quiet-second [] ys h = h
quiet-second (x ∷ xs) ys h = quiet-second xs ys (split-and (is_shutdown x) (is_quiet (xs ++ ys)) h).1

quiet-first : (xs ys : List Order) → is_quiet (xs ++ ys) ≡ true → is_quiet xs ≡ true
quiet-first [] ys h = refl
quiet-first (x ∷ xs) ys h =
    (let p = split-and (is_shutdown x) (is_quiet (xs ++ ys)) h in and p.0 (quiet-first xs ys p.1))

quiet-given : (size : ℕ) (os : List Order) → is_quiet os ≡ true → all_given size os ≡ []
quiet-given size [] h = refl
quiet-given size (Shutdown ∷ os) h = quiet-given size os h
quiet-given size (RunTests ns ∷ os) h = absurd (differ h)
quiet-given size (RunAll ∷ os) h = absurd (differ h)
quiet-given size (Steal ns ∷ os) h = absurd (differ h)

-- the first answer among these news
first-back : (news : List What) (b : List ℕ) (rest : List (List ℕ)) → answers_in news ≡ b ∷ rest
    → (before after : List What) × (news ≡ before ++ what.Back b ∷ after) × (answers_in before ≡ [])
first-back [] b rest h = absurd cc
first-back (what.Back c ∷ news) b rest h =
    (let e : c ≡ b = cc in ([], news, ap (λ (z : List ℕ). what.Back z ∷ news) e, refl))
first-back (what.Ready ∷ news) b rest h =
    (let k = first-back news b rest h in (what.Ready ∷ k.0, k.1, ap (λ (l : List What). what.Ready ∷ l) k.2, k.3))
first-back (what.Collected i ∷ news) b rest h =
    (let k = first-back news b rest h in (what.Collected i ∷ k.0, k.1, ap (λ (l : List What). what.Collected i ∷ l) k.2, k.3))
first-back (what.LogStart i j ∷ news) b rest h =
    (let k = first-back news b rest h in (what.LogStart i j ∷ k.0, k.1, ap (λ (l : List What). what.LogStart i j ∷ l) k.2, k.3))
first-back (what.Piece i j ∷ news) b rest h =
    (let k = first-back news b rest h in (what.Piece i j ∷ k.0, k.1, ap (λ (l : List What). what.Piece i j ∷ l) k.2, k.3))
first-back (what.LogClosed i ∷ news) b rest h =
    (let k = first-back news b rest h in (what.LogClosed i ∷ k.0, k.1, ap (λ (l : List What). what.LogClosed i ∷ l) k.2, k.3))
first-back (what.Done i o j ∷ news) b rest h =
    (let k = first-back news b rest h in (what.Done i o j ∷ k.0, k.1, ap (λ (l : List What). what.Done i o j ∷ l) k.2, k.3))
first-back (what.Finished ∷ news) b rest h =
    (let k = first-back news b rest h in (what.Finished ∷ k.0, k.1, ap (λ (l : List What). what.Finished ∷ l) k.2, k.3))
first-back (what.Closed i ∷ news) b rest h =
    (let k = first-back news b rest h in (what.Closed i ∷ k.0, k.1, ap (λ (l : List What). what.Closed i ∷ l) k.2, k.3))
first-back (what.Stray ∷ news) b rest h =
    (let k = first-back news b rest h in (what.Stray ∷ k.0, k.1, ap (λ (l : List What). what.Stray ∷ l) k.2, k.3))
first-back (what.Gone i ∷ news) b rest h =
    (let k = first-back news b rest h in (what.Gone i ∷ k.0, k.1, ap (λ (l : List What). what.Gone i ∷ l) k.2, k.3))
first-back (what.NotStarted ∷ news) b rest h =
    (let k = first-back news b rest h in (what.NotStarted ∷ k.0, k.1, ap (λ (l : List What). what.NotStarted ∷ l) k.2, k.3))

-- what the call of a worker has of its line
pub record LineOf (size : ℕ) (orders : List Order) (news : List What) (c : FunctionCall) : Type 0 where
  pub answered : length (answers_in news) ≡ length (steals_asked orders)
  pub first : take (length (ends_in news)) (line_given size [] orders (answers_in news)) ≡ ends_in news
  pub tests : tests_in_line (left c) ≡ drop (length (ends_in news)) (line_given size [] orders (answers_in news))

line-serving : (size : ℕ) (orders : List Order) (news : List What) (c : FunctionCall) → IsServing size orders news c
    → LineOf size orders news c
line-serving size orders news c s =
    let row = line_given size [] orders (answers_in news) in
    let k = length (ends_in news) in
    let within : k ≤ length row = count-taken k row (ap length s.ended_first) in
    record {
      answered = s.answered;
      first = s.ended_first;
      tests = ap (λ (l : List LineEntry). tests_in_line (drop c.ended l)) s.line_is
          ∙ ap (λ (i : ℕ). tests_in_line (drop i (map Test row ++ mark_of orders))) s.ended_is
          ∙ ap tests_in_line (drop-mapped k row (mark_of orders) within)
          ∙ tests-mapped (drop k row) (list_any is_shutdown orders);
    }

module _ (settings : Settings) (taken : List News) (w : ℕ) (l : LinkNow) (proper : IsProper settings []) (h : IsHonestAt settings taken w l)
    (active : is_active w (run_of settings taken).state.books ≡ true) where
  abbrev r : SoFar
  r = run_of settings taken

  abbrev A : List Order
  A = told_to w r.entries

  abbrev said : List What
  said = said_by w taken

  sound : IsProperRun settings (run_of settings taken)
  sound = sound-run settings taken proper

  sofar : HonestSoFar w (run_of settings taken)
  sofar = inv-honest settings taken w l proper h

  pub echo-now : Echo w r.entries said
  echo-now = subst (λ (t : List News). Echo w r.entries (said_by w t)) (run-taken settings taken) (sofar.echo active)

  pub deal-now : Deal w r.state r.entries
  deal-now = (at-run settings r (Deals w) (keeps_deals settings w) sound (deals-none settings w)).active active

  pub marks-now : MarksSo w r.state r.entries
  marks-now = at-run settings r (MarksSo w) (keeps_marks settings w) sound (marks-none settings w)

  tidy : Tidy r.state
  tidy = subst Tidy (sym sound.state) (lawful settings r.inputs sound.proper).tidy

  -- its call, where the link is whole and was called
  module _ (later : List What) (tells-are : tells l.given ≡ said ++ later) where
    answers-split : answers_in (tells l.given) ≡ answers_by w r.entries ++ answers_in later
    answers-split = ap answers_in tells-are ∙ filter_map-append answer_of_news said later
        ∙ ap (λ (z : List (List ℕ)). z ++ answers_in later) echo-now.answers

    begins : IsFirstPart (answers_by w r.entries) (answers_in (tells l.given))
    begins = (answers_in later, answers-split)

    one : length (steals_asked A) ≤ length (answers_by w r.entries) + 1
    one = drop-short (length (answers_by w r.entries)) (steals_asked A) (subst (λ (z : List (List ℕ)). length z ≤ 1) deal-now.open_steal (short-asked w r.state.plan.steal))

    pub record Called (size : ℕ) : Type 0 where
      pub call : CallIs size l.given
      pub calls : (before after : List Given) → l.given ≡ after ++ before → CallIs size before
      pub fit : AllFit size A (tells l.given)

    called-by : (size : ℕ) → are_fair size [] A (answers_by w r.entries) ≡ true → SizedBy size (tells l.given)
        → Called size
    called-by size fair sized =
        let given = answers_in (tells l.given) in
        let allow = allows size A (answers_by w r.entries) given fair one begins deal-now.last in
        let calls : (before after : List Given) → l.given ≡ after ++ before → CallIs size before = λ before after e. (
        let t : IsFirstPart (tells before) (tells l.given) = subst (λ (gs : List Given). IsFirstPart (tells before) (tells gs)) (sym e) (tells-part after before) in
        let o : IsFirstPart (orders_of before) (orders_of l.given) = subst (λ (gs : List Given). IsFirstPart (orders_of before) (orders_of gs)) (sym e) (orders-part after before) in
        let run = run-part after before (sym (ap (list_all is_of_run) e) ∙ h.comes) in
        let back : IsFirstPart (answers_in (tells before)) given = (answers_in t.0, ap answers_in t.1 ∙ filter_map-append answer_of_news (tells before) t.0) in
        call_is size A given allow before (tells l.given) run sized t (begins-then (orders_of before) (orders_of l.given) A o h.orders) back) in
        let call = calls l.given [] refl in
        record { call = call; calls = calls; fit = tells_fit size A given allow l.given call A h.orders deal-now.last }

    -- where nothing but a Shutdown was told, by whatever size its suite has
    pub quiet-call : is_quiet A ≡ true → (size : ℕ) × Called size
    quiet-call q = go (collections_in (tells l.given)) refl
      where
        go : (i : List (List (List ℕ))) → collections_in (tells l.given) ≡ i → (size : ℕ) × Called size
        go [] e = (0, called-by 0 (quiet-fair 0 A (answers_by w r.entries) q) (λ ids rest k. absurd (let z : [] ≡ ids ∷ rest = sym e ∙ k in cc)))
        go (own ∷ rest) e = (
          length own,
          called-by (length own) (quiet-fair (length own) A (answers_by w r.entries) q)
              (λ ids rest_ k. (let z : own ∷ rest ≡ ids ∷ rest_ = sym e ∙ k in let same : own ≡ ids = cc in ap length (sym same))),
        )

    -- in the rota of a shared run its suite has the size that the controller has of it
    pub joined-call : in_rota w r.state.books.table ≡ true → r.state.books.shared ≡ true → Called (size_at w r.state)
    joined-call rota shared =
        let k = sofar.sized active (tidy.placed.fits.collected w rota) in
        let low : slot_of w r.state.books < r.state.books.settings.workers = tidy.members.below w (has-member w (λ m. m.active) r.state.books.members active) in
        let size : size_at w r.state ≡ length k.own = size-listed w r.state k.is.listing shared low
        ∙ k.is.joined rota in
        let first : collections_in said ≡ k.own ∷ k.rest = ap (λ (t : List News). collections_in (said_by w t)) (sym (run-taken settings taken))
        ∙ k.ids in
        let all : collections_in (tells l.given) ≡ k.own ∷ (k.rest ++ collections_in later) =
        ap collections_in tells-are ∙ filter_map-append collection_of_news said later
        ∙ ap (λ (z : List (List (List ℕ))). z ++ collections_in later) first in
        called-by (size_at w r.state) deal-now.fair (λ ids rest e. (let both : k.own ∷ (k.rest ++ collections_in later) ≡ ids ∷ rest = sym all ∙ e in
        let same : k.own ≡ ids = cc in ap length (sym same) ∙ sym size))

    pub collected-told : in_rota w r.state.books.table ≡ true → list_any is_collected (tells l.given) ≡ true
    collected-told rota =
        let c : list_any is_collected said ≡ true = echo-now.collected ∙ sym marks-now.collected
        ∙ tidy.placed.fits.collected w rota in
        ap (list_any is_collected) tells-are ∙ list_any-append is_collected said later
        ∙ or-left (list_any is_collected said) (list_any is_collected later) c

    -- once its collection was taken, what its call has of its line
    record Lined : Type 0 where
      line : LineOf (size_at w r.state) (orders_of l.given) (tells l.given) (call_after l.given)
      given : all_given (call_after l.given).size h.orders.0 ≡ all_given (size_at w r.state) h.orders.0

    awaits-nothing : IsAwaiting l.given → tells l.given ≡ what.Ready ∷ []
    awaits-nothing k = ap (λ (z : List Ask). what.Ready ∷ news_of_asks z) k.none

    lined : in_rota w r.state.books.table ≡ true → r.state.books.shared ≡ true → Lined
    lined rota shared = elim (joined-call rota shared).call [
      | inl k ↦ absurd (differ (sym (ap (list_any is_collected) (awaits-nothing k)) ∙ collected-told rota))
      | inr (inl k) ↦ record {
        line = line-serving (size_at w r.state) (orders_of l.given) (tells l.given) (call_after l.given) k.is;
        given = ap (λ (z : ℕ). all_given z h.orders.0) k.is.size_is;
      }
      | inr (inr k) ↦ (let e = k.all_ended (collected-told rota) in
          let none : h.orders.0 ≡ [] = marks-end (orders_of l.given) h.orders.0 e.shut (sym (ap marks_last h.orders.1) ∙ deal-now.last) in
          record {
            line = record { answered = e.answered; first = e.first; tests = k.left_none ∙ sym e.none };
            given = ap (all_given (call_after l.given).size) none ∙ sym (ap (all_given (size_at w r.state)) none);
          })
    ]

    abbrev line : List ℕ
    line = line_at w r.state r.entries

    -- the answer on the way takes its tests from the line
    less : (size : ℕ) → size ≡ size_at w r.state → AllFit size A (tells l.given) → (C : List (List ℕ))
        → answers_in later ≡ C → length C ≤ 1
        → line_given (size_at w r.state) [] A (answers_by w r.entries ++ C) ≡ without (flat_map (λ ns. ns) C) line
    less size same fit [] e few = ap (line_given (size_at w r.state) [] A) (append-nil (answers_by w r.entries))
        ∙ sym (without-none line)
    less size same fit (b ∷ (c ∷ C)) e few = absurd (omega (arith, few))
    less size same fit (b ∷ []) e few = go b asked.is
      where
        found : (before after : List What) × (later ≡ before ++ what.Back b ∷ after) × (answers_in before ≡ [])
        found = first-back later b [] e

        asked : AnswersSteal size A (said ++ found.0) b
        asked = fit (said ++ found.0) (what.Back b) found.1 (tells-are ∙ ap (λ (z : List What). said ++ z) found.2 ∙ sym (append_assoc said found.0 (what.Back b ∷ found.1)))

        before : answers_in (said ++ found.0) ≡ answers_by w r.entries
        before = filter_map-append answer_of_news said found.0
            ∙ ap (λ (z : List (List ℕ)). answers_in said ++ z) found.3 ∙ append-nil (answers_in said)
            ∙ echo-now.answers

        shorter : (xs : List (List ℕ)) (x : List ℕ) (ys : List (List ℕ)) → xs ≡ x ∷ ys → length xs ≤ 1 → xs ≡ x ∷ []
        shorter xs x [] q k = q
        shorter xs x (y ∷ ys) q k =
            (let n : length xs ≡ suc (suc (length ys)) = ap length q in absurd (omega (arith, n, k)))

        unanswered : drop (length (answers_by w r.entries)) (steals_asked A) ≡ asked.asked ∷ []
        unanswered = shorter (drop (length (answers_by w r.entries)) (steals_asked A)) asked.asked asked.later (ap (λ (z : List (List ℕ)). drop (length z) (steals_asked A)) (sym before) ∙ asked.next)
            (subst (λ (z : List (List ℕ)). length z ≤ 1) deal-now.open_steal (short-asked w r.state.plan.steal))

        go : (c : List ℕ) → is_answer asked.asked c ≡ true
            → line_given (size_at w r.state) [] A (answers_by w r.entries ++ c ∷ []) ≡ without (c ++ []) line
        go [] i = dealt-nothing (size_at w r.state) [] A (answers_by w r.entries) ∙ sym (without-none line)
        go (n ∷ ns) i =
            let is : n ∷ ns ≡ asked.asked = (bytes_eq-Decides (n ∷ ns) asked.asked).0 i in
            dealt-back (size_at w r.state) [] A (answers_by w r.entries) (n ∷ ns) (unanswered ∙ ap (λ (z : List ℕ). z ∷ []) (sym is)) deal-now.fair
            ∙ ap (λ (z : List ℕ). without z line) (sym (append-nil (n ∷ ns)))

    abbrev now : List ℕ
    now = ends_in later ++ (tests_in_line (left (call_after l.given)) ++ all_given (call_after l.given).size h.orders.0)

    abbrev taken_back : List ℕ
    taken_back = flat_map (λ ns. ns) (answers_in later)

    -- what it holds without what it gives back is what stands at the worker and on the way
    joined-places : in_rota w r.state.books.table ≡ true → r.state.books.shared ≡ true
        → without taken_back (drop (length (ends_by w r.entries)) line) ≡ now
    joined-places rota shared =
        let size = size_at w r.state in
        let k = lined rota shared in
        let R = orders_of l.given in
        let G = h.orders.0 in
        let T = tells l.given in
        let ended = ends_by w r.entries in
        let E = ends_in later in
        let lineT = line_given size [] R (answers_in T) in
        let answersT : answers_in T ≡ answers_by w r.entries ++ answers_in later = answers-split in
        let endedT : ends_in T ≡ ended ++ E = ap ends_in tells-are ∙ filter_map-append end_of_news said later
        ∙ ap (λ (z : List ℕ). z ++ E) echo-now.ended in
        let count : length (answers_in T) ≡ length (answers_by w r.entries) + length (answers_in later) = ap length answersT
        ∙ length-append (answers_by w r.entries) (answers_in later) in
        let steal : length (steals_asked A) ≡ length (steals_asked R) + length (steals_asked G) = ap (λ (z : List Order). length (steals_asked z)) h.orders.1
        ∙ ap length (steals-append R G) ∙ length-append (steals_asked R) (steals_asked G) in
        let answered = k.line.answered in
        let most = one in
        let few : length (answers_in later) ≤ 1 = omega (arith, count, steal, answered, most) in
        let there : without taken_back line ≡ lineT ++ all_given size G =
        sym (less size refl (joined-call rota shared).fit (answers_in later) refl few)
        ∙ ap (λ (z : List Order). line_given size [] z (answers_by w r.entries ++ answers_in later)) h.orders.1
        ∙ ap (line_given size [] (R ++ G)) (sym answersT)
        ∙ dealt-further size R G (answers_in T) (omega (arith, answered)) in
        let rest : List ℕ = E ++ (drop (length (ends_in T)) lineT ++ all_given size G) in
        let split : lineT ++ all_given size G ≡ ended ++ rest =
        ap (λ (z : List ℕ). z ++ all_given size G) (sym (take-append-drop (length (ends_in T)) lineT) ∙ ap (λ (z : List ℕ). z ++ drop (length (ends_in T)) lineT) (k.line.first ∙ endedT))
        ∙ append_assoc (ended ++ E) (drop (length (ends_in T)) lineT) (all_given size G)
        ∙ append_assoc ended E (drop (length (ends_in T)) lineT ++ all_given size G) in
        let kept : without taken_back ended ≡ ended = without-apart taken_back ended (λ x a. apart x rest a (there ∙ split)) in
        let front : without taken_back line ≡ ended ++ without taken_back (drop (length ended) line) =
        ap (without taken_back) (sym (take-append-drop (length ended) line) ∙ ap (λ (z : List ℕ). z ++ drop (length ended) line) deal-now.ended_first)
        ∙ without-append taken_back ended (drop (length ended) line)
        ∙ ap (λ (z : List ℕ). z ++ without taken_back (drop (length ended) line)) kept in
        sym (drop-append_seam ended (without taken_back (drop (length ended) line)))
        ∙ ap (drop (length ended)) (sym front ∙ there ∙ split) ∙ drop-append_seam ended rest
        ∙ ap (λ (z : List ℕ). E ++ (z ++ all_given size G)) (sym k.line.tests)
        ∙ ap (λ (z : List ℕ). E ++ (tests_in_line (left (call_after l.given)) ++ z)) (sym k.given)
      where
        in-front : (x : ℕ) (xs ys : List ℕ) → among x xs ≡ true → among x (xs ++ ys) ≡ true
        in-front x [] ys a = absurd (differ a)
        in-front x (z ∷ xs) ys a = grind (arith, nat_tests, in-front x xs ys, a)

        apart : (x : ℕ) (rest : List ℕ) → among x (ends_by w r.entries) ≡ true
            → without taken_back line ≡ ends_by w r.entries ++ rest → among x taken_back ≡ false
        apart x rest a e =
            let there : among x (without taken_back line) ≡ true = ap (among x) e
            ∙ in-front x (ends_by w r.entries) rest a in
            let p = split-and (not (among x taken_back)) (among x line) (sym (among-filter x (λ y. not (among y taken_back)) line) ∙ there) in
            not_true (among x taken_back) p.0

    -- where nothing but a Shutdown was told, nothing stands anywhere
    quiet-places : is_quiet A ≡ true → now ≡ []
    quiet-places q =
        let R = orders_of l.given in
        let quietR : is_quiet R ≡ true = quiet-first R h.orders.0 (ap is_quiet (sym h.orders.1) ∙ q) in
        let quietG : is_quiet h.orders.0 ≡ true = quiet-second R h.orders.0 (ap is_quiet (sym h.orders.1) ∙ q) in
        let k = quiet-call q in
        let parts = still k.0 k.1.call quietR in
        let E : ends_in later ≡ [] = none-second (ends_in said) (ends_in later) (sym (filter_map-append end_of_news said later) ∙ ap ends_in (sym tells-are) ∙ parts.0) in
        ap (λ (z : List ℕ). z ++ (tests_in_line (left (call_after l.given)) ++ all_given (call_after l.given).size h.orders.0)) E
        ∙ ap (λ (z : List ℕ). z ++ all_given (call_after l.given).size h.orders.0) parts.1
        ∙ quiet-given (call_after l.given).size h.orders.0 quietG
      where
        none-taken : (n : ℕ) → take {A = ℕ} n [] ≡ []
        none-taken zero = refl
        none-taken (suc n) = refl

        none-dropped : (n : ℕ) → drop {A = ℕ} n [] ≡ []
        none-dropped zero = refl
        none-dropped (suc n) = refl

        still : (size : ℕ) → CallIs size l.given → is_quiet (orders_of l.given) ≡ true
            → (ends_in (tells l.given) ≡ []) × (tests_in_line (left (call_after l.given)) ≡ [])
        still size (inl k) b =
            (ap ends_in (awaits-nothing k), ap (λ (c : FunctionCall). tests_in_line (left c)) k.call_is)
        still size (inr (inl k)) b =
            let f = line-serving size (orders_of l.given) (tells l.given) (call_after l.given) k.is in
            let row = quiet-line size (orders_of l.given) (answers_in (tells l.given)) b in (
              sym f.first ∙ ap (take (length (ends_in (tells l.given)))) row
                  ∙ none-taken (length (ends_in (tells l.given))),
              f.tests ∙ ap (drop (length (ends_in (tells l.given)))) row
                  ∙ none-dropped (length (ends_in (tells l.given))),
            )
        still size (inr (inr k)) b = (
          elim (cases_of (list_any is_collected (tells l.given))) [
            | inl c ↦ (let e = k.all_ended c in let row = quiet-line size (orders_of l.given) (answers_in (tells l.given)) b in
                sym e.first ∙ ap (take (length (ends_in (tells l.given)))) row
                ∙ none-taken (length (ends_in (tells l.given))))
            | inr c ↦ k.none_ended c
          ],
          k.left_none,
        )

  -- what is on the way

  abbrev slot : ℕ
  slot = slot_of w r.state.books

  holds-line : (bs : List ℕ)
      → without (items_named slot bs r.state.plan) (held w r.state.books.table) ≡ items_named slot (without bs (drop (length (ends_by w r.entries)) (line_at w r.state r.entries))) r.state.plan
  holds-line bs = ap (without (items_named slot bs r.state.plan)) deal-now.held_is
      ∙ named-without slot bs (drop (length (ends_by w r.entries)) (line_at w r.state r.entries)) r.state.plan

  quiet-holds : is_quiet A ≡ true → (bs : List ℕ)
      → without (items_named slot bs r.state.plan) (held w r.state.books.table) ≡ []
  quiet-holds q bs =
      let row : line_at w r.state r.entries ≡ [] = quiet-line (size_at w r.state) A (answers_by w r.entries) q in
      holds-line bs ∙ ap (λ (z : List ℕ). items_named slot (without bs (drop (length (ends_by w r.entries)) z)) r.state.plan) row
      ∙ go (length (ends_by w r.entries))
    where
      go : (n : ℕ) → items_named slot (without bs (drop n [])) r.state.plan ≡ []
      go zero = named-none slot r.state.plan
      go (suc n) = named-none slot r.state.plan

  abbrev place_items : List What → List Order → List ℕ
  place_items news orders =
      items_named slot (ends_in news ++ (tests_in_line (left (call_after l.given)) ++ all_given (call_after l.given).size orders)) r.state.plan

  abbrev back_items : List What → List ℕ
  back_items news = items_named slot (flat_map (λ ns. ns) (answers_in news)) r.state.plan

  -- of a link that was called
  pub called-places : (later : List What) → tells l.given ≡ said ++ later
      → without (back_items later) (held w r.state.books.table) ≡ place_items later h.orders.0
  called-places later e = elim (cases_of (in_rota w r.state.books.table)) [
    | inr a ↦ quiet (deal-now.early a)
    | inl a ↦ (elim (cases_of r.state.books.shared) [
      | inr b ↦ quiet (deal-now.unshared b)
      | inl b ↦ holds-line (flat_map (λ ns. ns) (answers_in later)) ∙ ap (λ (z : List ℕ). items_named slot z r.state.plan) (joined-places later e a b)
    ])
  ]
    where
      quiet : is_quiet A ≡ true
          → without (back_items later) (held w r.state.books.table) ≡ place_items later h.orders.0
      quiet q = quiet-holds q (flat_map (λ ns. ns) (answers_in later))
          ∙ sym (ap (λ (z : List ℕ). items_named slot z r.state.plan) (quiet-places later e q) ∙ named-none slot r.state.plan)

  -- or was not yet
  uncalled-places : l.called ≡ false → (later : List What) → [] ≡ said ++ later
      → without (back_items later) (held w r.state.books.table) ≡ place_items later h.orders.0
  uncalled-places u later e =
      let none : said ≡ [] = first-none said later (sym e) in
      let rest : later ≡ [] = none-second said later (sym e) in
      let given : l.given ≡ [] = h.uncalled u in
      let late : in_rota w r.state.books.table ≡ false = absent none in
      let q = deal-now.early late in
      let quietG : is_quiet h.orders.0 ≡ true = quiet-second (orders_of l.given) h.orders.0 (ap is_quiet (sym h.orders.1) ∙ q) in
      quiet-holds q (flat_map (λ ns. ns) (answers_in later)) ∙ sym (
      ap (λ (z : List What). place_items z h.orders.0) rest
      ∙ ap (λ (gs : List Given). items_named slot (tests_in_line (left (call_after gs)) ++ all_given (call_after gs).size h.orders.0) r.state.plan) given
      ∙ ap (λ (z : List ℕ). items_named slot z r.state.plan) (quiet-given 0 h.orders.0 quietG)
      ∙ named-none slot r.state.plan)
    where
      first-none : (xs ys : List What) → xs ++ ys ≡ [] → xs ≡ []
      first-none [] ys k = refl
      first-none (x ∷ xs) ys k = absurd cc

      absent : said ≡ [] → in_rota w r.state.books.table ≡ false
      absent none = elim (cases_of (in_rota w r.state.books.table)) [
        | inl a ↦ absurd (differ (sym (ap (list_any is_collected) none) ∙ echo-now.collected ∙ sym marks-now.collected ∙ tidy.placed.fits.collected w a))
        | inr a ↦ a
      ]

  -- what is told, and what of it was taken
  pub told-split : l.whole ≡ true → IsFirstPart said (told_so_far l)
  told-split whole = subst (λ (b : Bool). TookOf b said (told_so_far l)) whole h.news

  pub news-left : (b : IsFirstPart said (told_so_far l)) → news_on_way taken w l ≡ b.0
  news-left b = ap (drop (length said)) b.1 ∙ drop-append_seam said b.0

  pub orders-left : orders_on_way settings taken w l ≡ h.orders.0
  orders-left = ap (drop (length (orders_of l.given))) h.orders.1 ∙ drop-append_seam (orders_of l.given) h.orders.0

  all-places : l.whole ≡ true
      → without (items_given_back settings taken w l) (held w r.state.books.table) ≡ items_of_link settings taken w l
  all-places whole =
      let b = told-split whole in
      ap (λ (z : List What). without (back_items z) (held w r.state.books.table)) (news-left b) ∙ go l.called refl b
      ∙ sym (ap (λ (z : List What). place_items z (orders_on_way settings taken w l)) (news-left b) ∙ ap (place_items b.0) orders-left)
    where
      go : (c : Bool) → l.called ≡ c → (b : IsFirstPart said (told_so_far l))
          → without (back_items b.0) (held w r.state.books.table) ≡ place_items b.0 h.orders.0
      go true e b = called-places b.0 (sym (ap (λ (c : Bool). if c then tells l.given else []) e) ∙ b.1)
      go false e b = uncalled-places e b.0 (sym (ap (λ (c : Bool). if c then tells l.given else []) e) ∙ b.1)

pub each_placed : EachInItsPlace
each_placed settings taken w l proper h whole active = all-places settings taken w l proper h active whole
