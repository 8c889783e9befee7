-- Where a worker owes the next step, something moves.
use Rattle.std.proofs.Common.{◌≡◌, ℕ, zero, suc, ◌≤◌, List, [], ◌∷◌, ◌++◌, drop, length, map, Bool, true, false, not, ◌&&◌, ◌||◌, refl, ap, sym, ◌∙◌, subst, arith, inl, inr}
use Rattle.std.specs.Prelude.{◌⊎◌, ◌==◌, filter, if◌then◌else◌, nat_le, Option, Some, None}
use Rattle.std.specs.List.{list_any}
use Rattle.std.proofs.lemmas.Bool.Decides.{nat_tests}
use Rattle.std.proofs.lemmas.List.{append-nil}
use Rattle.xd_journal.specs.declared.settings.Settings.{Settings}
use Rattle.xd_journal.specs.declared.news.News.{News}
use Rattle.xd_journal.specs.declared.news.What.{What}
use Rattle.xd_commands.specs.declared.order.Order.{Order}
use Rattle.xd_run.specs.declared.member.Member.{Member}
use Rattle.xd_run.specs.Numbers.{all_distinct, among, without}
use Rattle.xd_run.specs.Owes.{owes, steal_open_to}
use Rattle.xd_run.specs.Plan.{Plan, UnansweredSteal, items_named}
use Rattle.xd_run.specs.Proper.{IsProper}
use Rattle.xd_run.specs.Table.{held, in_rota}
use Rattle.xd_run.specs.Workers.{has_collected, is_active, slot_of, was_ready}
use Rattle.xd_run_laws.proofs.Laws.{lawful}
use Rattle.xd_run_laws.proofs.Logic.{cases_of, differ, not_true, split-and, split-or}
use Rattle.xd_run_laws.proofs.Members.{distinct-numbered, has, numbers}
use Rattle.xd_run_laws.proofs.Turns.{Tidy}
use Rattle.xd_session.specs.History.{Run as SoFar, run_of, said_by}
use Rattle.xd_session.proofs.Steps.{run-taken, sound-run}
use Rattle.xd_worker_tests.specs.declared.line_entry.LineEntry.{LineEntry}
use Rattle.xd_worker_tests.specs.declared.line_entry.LineEntry.TheVariants.{Test, Mark}
use Rattle.xd_worker_tests.specs.History.{call_after}
use Rattle.xd_worker_tests.specs.Line.{FunctionCall, left, tests_in_line}
use Rattle.xd_worker_tests.specs.Idle.{IsIdle}
use Rattle.xd_worker_tests.proofs.Idle.{waits_after}
use Rattle.xd_system.specs.LineGiven.{all_given, line_given, is_shutdown, steals_asked}
use Rattle.xd_system.specs.Fits.{is_collected}
use Rattle.xd_system.specs.Laws.{IsMoving, SomethingMoves}
use Rattle.xd_system.specs.Laws.IsMoving.{CallOnWay, NewsOnWay, OrderOnWay, SuiteAsked, TestRuns}
use Rattle.xd_system.specs.Moment.{IsHonestAt, LinkNow, news_on_way}
use Rattle.xd_system.specs.Own.{answers_by, answers_in, ends_in, told_to}
use Rattle.xd_system.specs.Tells.{orders_of, tells}
use Rattle.xd_system.proofs.Accused.{inv-honest}
use Rattle.xd_system.proofs.Call.{is_last_told, mark_of}
use Rattle.xd_system.proofs.Deal.{asked_of, is_quiet, size_at}
use Rattle.xd_system.proofs.Echo.{is_ready_news}
use Rattle.xd_system.proofs.Lines.{drop-mapped, without-none}
use Rattle.xd_system.proofs.Lists.{count-taken}
use Rattle.xd_system.proofs.Placed.{called-places, deal-now, echo-now, joined-call, marks-now, news-left, orders-left, quiet-call, told-split}
use Rattle.xd_system.proofs.Worker.{CallIs, Serves}
use Rattle.xd_system.proofs.Named.{named-first, named-none}

-- the member of that number

record TheMember (w : ℕ) (ms : List Member) (p : Member → Bool) : Type 0 where
  member : Member
  holds : p member ≡ true
  number : member.worker ≡ w
  only : (test : Member → Bool) → has w test ms ≡ test member

none-numbered : (w : ℕ) (ms : List Member) → among w (numbers ms) ≡ false → (test : Member → Bool)
    → has w test ms ≡ false
none-numbered w [] h test = refl
none-numbered w (m ∷ ms) h test = grind (arith, nat_tests, none-numbered w ms, h)

none-kept : (w : ℕ) (p : Member → Bool) (ms : List Member) → among w (numbers ms) ≡ false
    → list_any (λ m. m.worker == w) (filter p ms) ≡ false
none-kept w p [] h = refl
none-kept w p (m ∷ ms) h = grind (arith, nat_tests, none-kept w p ms, h)

the-member : (w : ℕ) (p : Member → Bool) (ms : List Member) → all_distinct (numbers ms) ≡ true
    → list_any (λ m. m.worker == w) (filter p ms) ≡ true → TheMember w ms p
the-member w p [] d h = absurd (differ h)
the-member w p (m ∷ ms) d h =
    let q = split-and (not (among m.worker (numbers ms))) (all_distinct (numbers ms)) d in
    elim (cases_of (m.worker == w)) [
      | inl e ↦ here e q.0 (cases_of (p m))
      | inr e ↦ (let rest = the-member w p ms q.1 (later e (p m) refl) in record {
        member = rest.member;
        holds = rest.holds;
        number = rest.number;
        only = λ test. ap (λ (b : Bool). (b && test m) || has w test ms) e ∙ rest.only test;
      })
    ]
  where
    later : (m.worker == w) ≡ false → (b : Bool) → p m ≡ b → list_any (λ x. x.worker == w) (filter p ms) ≡ true
    later e true k = sym (ap (λ (b : Bool). b || list_any (λ x. x.worker == w) (filter p ms)) e)
        ∙ sym (ap (λ (b : Bool). list_any (λ x. x.worker == w) (if b then m ∷ filter p ms else filter p ms)) k) ∙ h
    later e false k =
        sym (ap (λ (b : Bool). list_any (λ x. x.worker == w) (if b then m ∷ filter p ms else filter p ms)) k)
        ∙ h

    here : (m.worker == w) ≡ true → not (among m.worker (numbers ms)) ≡ true → ((p m ≡ true) ⊎ (p m ≡ false))
        → TheMember w (m ∷ ms) p
    here e apart holds =
        let same : m.worker ≡ w = grind (arith, nat_tests, e) in
        let none : among w (numbers ms) ≡ false = ap (λ (v : ℕ). among v (numbers ms)) (sym same)
        ∙ not_true (among m.worker (numbers ms)) apart in
        elim holds [
          | inl k ↦ record {
            member = m;
            holds = k;
            number = same;
            only = λ test. ap (λ (b : Bool). (b && test m) || has w test ms) e
                ∙ ap (λ (b : Bool). test m || b) (none-numbered w ms none test) ∙ plain (test m);
          }
          | inr k ↦ absurd (differ (sym (ap (λ (b : Bool). list_any (λ x. x.worker == w) (if b then m ∷ filter p ms else filter p ms)) k ∙ none-kept w p ms none) ∙ h))
        ]
      where
        plain : (b : Bool) → (b || false) ≡ b
        plain true = refl
        plain false = refl

length-named : (slot : ℕ) (ns : List ℕ) (p : Plan) → length (items_named slot ns p) ≡ length ns
length-named slot [] p = ap length (named-none slot p)
length-named slot (n ∷ ns) p = ap length (named-first slot n ns p) ∙ ap suc (length-named slot ns p)

-- what is left of a line with a mark at its end is not idle
marked-left : (ns : List ℕ) → IsIdle (map Test ns ++ Mark ∷ []) → ⊥
marked-left [] (inl e) = cc
marked-left [] (inr e) = (let k : Mark ∷ [] ≡ Test e.0 ∷ [] = e.1 in cc)
marked-left (n ∷ ns) (inl e) = cc
marked-left (n ∷ []) (inr e) = (let k : Test n ∷ (Mark ∷ []) ≡ Test e.0 ∷ [] = e.1 in cc)
marked-left (n ∷ (m ∷ ns)) (inr e) =
    (let k : Test n ∷ (Test m ∷ (map Test ns ++ Mark ∷ [])) ≡ Test e.0 ∷ [] = e.1 in cc)

few-left : (ps : List LineEntry) → IsIdle ps → length (tests_in_line ps) ≤ 1
few-left ps (inl e) =
    (let k : length (tests_in_line ps) ≡ 0 = ap (λ (l : List LineEntry). length (tests_in_line l)) e in omega (arith, k))
few-left ps (inr e) =
    (let k : length (tests_in_line ps) ≡ 1 = ap (λ (l : List LineEntry). length (tests_in_line l)) e.1 in omega (arith, k))

all-dropped : (n : ℕ) (xs : List (List ℕ)) → length xs ≤ n → drop n xs ≡ []
all-dropped zero [] h = refl
all-dropped zero (x ∷ xs) h = absurd (omega (arith, h))
all-dropped (suc n) [] h = refl
all-dropped (suc n) (x ∷ xs) h = all-dropped n xs (omega (arith, h))

module _ (settings : Settings) (taken : List News) (w : ℕ) (l : LinkNow) (proper : IsProper settings []) (h : IsHonestAt settings taken w l) (whole : l.whole ≡ true)
    (owing : list_any (λ m. m.worker == w) (filter (owes (run_of settings taken).state) (run_of settings taken).state.books.members) ≡ true) where
  abbrev r : SoFar
  r = run_of settings taken

  tidy : Tidy (run_of settings taken).state
  tidy = (let sound = sound-run settings taken proper in subst Tidy (sym sound.state) (lawful settings r.inputs sound.proper).tidy)

  own : TheMember w r.state.books.members (owes r.state)
  own = the-member w (owes r.state) r.state.books.members (distinct-numbered r.state.books.members tidy.members.numbered) owing

  parts : (own.member.active ≡ true) × ((not own.member.ready || not own.member.collected || own.member.shut || nat_le 2 (length (held own.member.worker r.state.books.table)) || steal_open_to own.member.worker r.state) ≡ true)
  parts = split-and own.member.active (not own.member.ready || not own.member.collected || own.member.shut || nat_le 2 (length (held own.member.worker r.state.books.table)) || steal_open_to own.member.worker r.state) own.holds

  active : is_active w r.state.books ≡ true
  active = own.only (λ m. m.active) ∙ parts.0

  -- nothing is on the way
  module _ (none : tells l.given ≡ said_by w taken ++ []) (last : h.orders.0 ≡ []) where
    abbrev T : List What
    T = tells l.given

    abbrev R : List Order
    R = orders_of l.given

    told : said_by w taken ≡ tells l.given
    told = sym (none ∙ append-nil (said_by w taken))

    all : told_to w r.entries ≡ orders_of l.given
    all = h.orders.1 ∙ ap (λ (z : List Order). R ++ z) last ∙ append-nil R

    -- of a call that serves, and runs nothing
    module _ (size : ℕ) (k : Serves size l.given) (idle : (call_after l.given).running ≡ false) where
      waits : IsIdle (left (call_after l.given))
      waits = waits_after l.given k.is.phase idle

      is-ready : not own.member.ready ≡ true → ⊥
      is-ready q =
          let marks = marks-now settings taken w l proper h active in
          let echo = echo-now settings taken w l proper h active in
          let ready : was_ready w r.state.books ≡ true = marks.ready ∙ sym echo.ready
          ∙ ap (list_any is_ready_news) told in
          differ (sym (not_true own.member.ready q) ∙ sym (own.only (λ m. m.ready)) ∙ ready)

      is-collected : not own.member.collected ≡ true → ⊥
      is-collected q =
          let marks = marks-now settings taken w l proper h active in
          let echo = echo-now settings taken w l proper h active in
          let collected : has_collected w r.state.books ≡ true = marks.collected ∙ sym echo.collected
          ∙ ap (list_any is_collected) told ∙ k.is.collected in
          differ (sym (not_true own.member.collected q) ∙ sym (own.only (λ m. m.collected)) ∙ collected)

      is-shut : own.member.shut ≡ true → ⊥
      is-shut q =
          let deal = deal-now settings taken w l proper h active in
          let shut : list_any is_shutdown R ≡ true = ap (list_any is_shutdown) (sym all) ∙ sym deal.marks
          ∙ own.only (λ m. m.shut) ∙ q in
          let row = line_given size [] R (answers_in T) in
          let j = length (ends_in T) in
          let left_is : left (call_after l.given) ≡ map Test (drop j row) ++ Mark ∷ [] =
          ap (λ (z : List LineEntry). drop (call_after l.given).ended z) k.is.line_is
          ∙ ap (λ (i : ℕ). drop i (map Test row ++ mark_of R)) k.is.ended_is
          ∙ drop-mapped j row (mark_of R) (count-taken j row (ap length k.is.ended_first))
          ∙ ap (λ (b : Bool). map Test (drop j row) ++ (if b then Mark ∷ [] else [])) shut in
          marked-left (drop j row) (subst IsIdle left_is waits)

      holds-two : nat_le 2 (length (held own.member.worker r.state.books.table)) ≡ true → ⊥
      holds-two q =
          let slot = slot_of w r.state.books in
          let places = called-places settings taken w l proper h active [] none in
          let back : items_named slot [] r.state.plan ≡ [] = named-none slot r.state.plan in
          let held_is : held w r.state.books.table ≡ items_named slot (tests_in_line (left (call_after l.given)) ++ []) r.state.plan =
          sym (ap (λ (z : List ℕ). without z (held w r.state.books.table)) back ∙ without-none (held w r.state.books.table))
          ∙ places
          ∙ ap (λ (z : List Order). items_named slot (tests_in_line (left (call_after l.given)) ++ all_given (call_after l.given).size z) r.state.plan) last in
          let count : length (held w r.state.books.table) ≡ length (tests_in_line (left (call_after l.given))) =
          ap length held_is ∙ length-named slot (tests_in_line (left (call_after l.given)) ++ []) r.state.plan
          ∙ ap length (append-nil (tests_in_line (left (call_after l.given)))) in
          let few = few-left (left (call_after l.given)) waits in
          let two : nat_le 2 (length (held w r.state.books.table)) ≡ true = ap (λ (v : ℕ). nat_le 2 (length (held v r.state.books.table))) (sym own.number)
          ∙ q in
          grind (arith, nat_tests, count, few, two)

      is-asked : steal_open_to own.member.worker r.state ≡ true → ⊥
      is-asked q =
          let deal = deal-now settings taken w l proper h active in
          let echo = echo-now settings taken w l proper h active in
          let count : length (answers_by w r.entries) ≡ length (steals_asked (told_to w r.entries)) =
          ap length (sym echo.answers ∙ ap answers_in told) ∙ k.is.answered
          ∙ ap (λ (z : List Order). length (steals_asked z)) (sym all) in
          let nothing : asked_of w r.state.plan.steal ≡ [] = deal.open_steal
          ∙ all-dropped (length (answers_by w r.entries)) (steals_asked (told_to w r.entries)) (omega (arith, count)) in
          go r.state.plan.steal nothing (ap (λ (v : ℕ). steal_open_to v r.state) (sym own.number) ∙ q)
        where
          go : (o : Option UnansweredSteal) → asked_of w o ≡ []
              → elim o as (λ _. Bool) [ None ↦ false | Some a ↦ a.worker == w ] ≡ true → ⊥
          go None e z = differ z
          go (Some a) e z =
              (let one : a.tests ∷ [] ≡ [] = sym (ap (λ (b : Bool). if b then a.tests ∷ [] else []) z) ∙ e in cc)

      nobody-owes : ⊥
      nobody-owes =
          let m = own.member in
          let two = nat_le 2 (length (held m.worker r.state.books.table)) in
          let asked = steal_open_to m.worker r.state in
          elim (split-or (not m.ready || not m.collected || m.shut || two) asked parts.1) [
            | inr a ↦ is-asked a
            | inl b ↦ (elim (split-or (not m.ready || not m.collected || m.shut) two b) [
              | inr a ↦ holds-two a
              | inl c ↦ (elim (split-or (not m.ready || not m.collected) m.shut c) [
                | inr a ↦ is-shut a
                | inl d ↦ (elim (split-or (not m.ready) (not m.collected) d) [ inl a ↦ is-ready a | inr a ↦ is-collected a ])
              ])
            ])
          ]

    moves : (size : ℕ) → CallIs size l.given → IsMoving settings taken w l
    moves size (inl k) = SuiteAsked (ap (λ (c : FunctionCall). c.phase) k.call_is)
    moves size (inr (inl k)) = elim (cases_of (call_after l.given).running) [
      | inl a ↦ TestRuns a
      | inr a ↦ absurd (nobody-owes size k a)
    ]
    moves size (inr (inr k)) =
        let unfinished : list_any is_last_told (said_by w taken) ≡ false = ap (λ (t : List News). list_any is_last_told (said_by w t)) (sym (run-taken settings taken))
        ∙ (inv-honest settings taken w l proper h).unfinished active in
        absurd (differ (sym unfinished ∙ ap (list_any is_last_told) told ∙ k.said))

    moves-called : IsMoving settings taken w l
    moves-called =
        (let deal = deal-now settings taken w l proper h active in elim (cases_of (in_rota w r.state.books.table)) [
          | inr a ↦ quiet (deal.early a)
          | inl a ↦ (elim (cases_of r.state.books.shared) [
            | inr b ↦ quiet (deal.unshared b)
            | inl b ↦ moves (size_at w r.state) (joined-call settings taken w l proper h active [] none a b).call
          ])
        ])
      where
        quiet : is_quiet (told_to w r.entries) ≡ true → IsMoving settings taken w l
        quiet q = (let k = quiet-call settings taken w l proper h active [] none q in moves k.0 k.1.call)

  something : IsMoving settings taken w l
  something = go l.called refl
    where
      filled : (x : What) (xs ys : List What) → ys ≡ x ∷ xs → ys ≡ [] → ⊥
      filled x xs ys e k = (let z : x ∷ xs ≡ [] = sym e ∙ k in cc)

      by-orders : tells l.given ≡ said_by w taken ++ [] → (G : List Order) → h.orders.0 ≡ G
          → IsMoving settings taken w l
      by-orders none [] e = moves-called none e
      by-orders none (o ∷ os) e =
          OrderOnWay (λ k. (let z : o ∷ os ≡ [] = sym e ∙ sym (orders-left settings taken w l proper h active) ∙ k in absurd cc))

      by-news : tells l.given ≡ said_by w taken ++ (told-split settings taken w l proper h active whole).0
          → (L : List What) → (told-split settings taken w l proper h active whole).0 ≡ L
          → IsMoving settings taken w l
      by-news t [] e = by-orders (t ∙ ap (λ (z : List What). said_by w taken ++ z) e) h.orders.0 refl
      by-news t (x ∷ xs) e =
          NewsOnWay (λ k. filled x xs (news_on_way taken w l) (news-left settings taken w l proper h active (told-split settings taken w l proper h active whole) ∙ e) k)

      go : (c : Bool) → l.called ≡ c → IsMoving settings taken w l
      go false e = CallOnWay e
      go true e =
          let b = told-split settings taken w l proper h active whole in
          by-news (sym (ap (λ (c : Bool). if c then tells l.given else []) e) ∙ b.1) b.0 refl

pub something_moves : SomethingMoves
something_moves settings taken w l proper h whole owing = something settings taken w l proper h whole owing
