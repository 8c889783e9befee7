-- The controller takes the answer to a steal.
use Rattle.std.proofs.Common.{◌≡◌, ℕ, ◌+◌, ◌≤◌, List, [], ◌∷◌, ◌++◌, take, drop, length, Bool, true, false, not, ◌&&◌, refl, ap, sym, ◌∙◌, arith, length-append, inl, inr}
use Rattle.std.specs.Prelude.{◌==◌, if◌then◌else◌, Option, Some, None}
use Rattle.std.specs.List.{range_with_len}
use Rattle.std.specs.Str.{bytes_eq}
use Rattle.std.proofs.lemmas.Bool.Decides.{nat_tests}
use Rattle.std.proofs.lemmas.List.{append-nil, take-append-drop, take-append-le, drop-append-le}
use Rattle.std.proofs.lemmas.List.Elements.{filter_map-append}
use Rattle.std.proofs.lemmas.Slice.Eq.{bytes_eq-Decides}
use Rattle.xd_journal.specs.declared.entry.Entry.{Entry}
use Rattle.xd_journal.specs.declared.entry.Entry.TheVariants.{Back}
use Rattle.xd_commands.specs.declared.order.Order.{Order}
use Rattle.xd_commands.specs.declared.order.Order.TheVariants.{RunTests, RunAll, Steal, Shutdown}
use Rattle.xd_run.specs.declared.seat.Seat.{Seat}
use Rattle.xd_run.specs.Numbers.{all_among, all_distinct, among, without}
use Rattle.xd_run.specs.Plan.{UnansweredSteal, items_named}
use Rattle.xd_run.specs.Proper.{may_follow, may_give_back}
use Rattle.xd_run.specs.Sharing.{State}
use Rattle.xd_run.specs.State.{after_effect}
use Rattle.xd_run.specs.Table.{at_seat, held, held_in}
use Rattle.xd_run.specs.Workers.{is_active, slot_of}
use Rattle.xd_run_laws.proofs.Counts.{among-drop, distinct-filter}
use Rattle.xd_run_laws.proofs.Logic.{cases_of, differ, split-and}
use Rattle.xd_run_laws.proofs.Rota.{seat-change}
use Rattle.xd_run.specs.Orderly.{is_in_order}
use Rattle.xd_system.specs.LineGiven.{are_fair, are_new, line_given, first_answer, is_answer, steals_asked}
use Rattle.xd_system.specs.Own.{answer_in, answers_by, ends_by, test_ended_in, order_told, told_to}
use Rattle.xd_system.proofs.Backs.{dealt-back, dealt-nothing, fair-back, without-append, without-apart}
use Rattle.xd_system.proofs.Deal.{Deal, asked_of, line_at, size_at}
use Rattle.xd_system.proofs.Lines.{distinct-more, without-none}
use Rattle.xd_system.proofs.Lists.{apart-of, within-dropped, drop-next}
use Rattle.std.proofs.Math.Seq.{take-length, drop-length}
use Rattle.xd_system.proofs.Named.{item_at, named-none, same-items, named-without, among-named}

-- the line of fair orders has no test twice
pub distinct-fair : (size : ℕ) (line : List ℕ) (R : List Order) (backs : List (List ℕ)) → all_distinct line ≡ true
    → are_fair size line R backs ≡ true → all_distinct (line_given size line R backs) ≡ true
distinct-fair size line [] backs h f = h
distinct-fair size line (RunTests ns ∷ R) backs h f =
    (let p = split-and (are_new size line ns) (are_fair size (line ++ ns) R backs) f in distinct-fair size (line ++ ns) R backs (distinct-more line ns size h p.0) p.1)
distinct-fair size line (RunAll ∷ R) backs h f =
    let ns = range_with_len 0 size in
    let p = split-and (are_new size line ns) (are_fair size (line ++ ns) R backs) f in
    distinct-fair size (line ++ ns) R backs (distinct-more line ns size h p.0) p.1
distinct-fair size line (Shutdown ∷ R) backs h f = distinct-fair size line R backs h f
distinct-fair size line (Steal ns ∷ R) backs h f =
    let p = split-and (is_in_order ns line && is_answer ns (first_answer backs)) (are_fair size (without (first_answer backs) line) R (drop 1 backs)) f in
    distinct-fair size (without (first_answer backs) line) R (drop 1 backs) (distinct-filter (λ x. not (among x (first_answer backs))) line h) p.1

held-fewer : (w : ℕ) (items : List ℕ) (ss : List Seat)
    → held_in w (at_seat w (λ s. record s { held = without items s.held }) ss) ≡ without items (held_in w ss)
held-fewer w items [] = refl
held-fewer w items (s ∷ ss) = grind (arith, nat_tests, held-fewer w items ss)

-- what the rule of a Back says: the worker was asked, and gives back all or nothing of what it holds after its
-- first test
pub record MayAnswer (w : ℕ) (ns : List ℕ) (s : State) : Type 0 where
  pub asked : UnansweredSteal
  pub steal : s.plan.steal ≡ Some asked
  pub who : (asked.worker == w) ≡ true
  pub is : is_answer asked.tests ns ≡ true
  pub within : all_among (items_named (slot_of w s.books) ns s.plan) (drop 1 (held w s.books.table)) ≡ true

pub answers-by : (w : ℕ) (ns : List ℕ) (s : State) (o : Option UnansweredSteal) → s.plan.steal ≡ o
    → elim o as (λ _. Bool) [ None ↦ false | Some a ↦ (a.worker == w) && (elim ns as (λ _. Bool) [ [] ↦ true | i ∷ is ↦ bytes_eq (i ∷ is) a.tests && all_among (items_named (slot_of w s.books) (i ∷ is) s.plan) (drop 1 (held w s.books.table)) ]) ] ≡ true
    → MayAnswer w ns s
answers-by w ns s None e h = absurd (differ h)
answers-by w [] s (Some a) e h =
    let p = split-and (a.worker == w) true h in
    record { asked = a; steal = e; who = p.0; is = refl; within = ap (λ (l : List ℕ). all_among l (drop 1 (held w s.books.table))) (named-none (slot_of w s.books) s.plan) }
answers-by w (i ∷ is) s (Some a) e h =
    let p = split-and (a.worker == w) (bytes_eq (i ∷ is) a.tests && all_among (items_named (slot_of w s.books) (i ∷ is) s.plan) (drop 1 (held w s.books.table))) h in
    let q = split-and (bytes_eq (i ∷ is) a.tests) (all_among (items_named (slot_of w s.books) (i ∷ is) s.plan) (drop 1 (held w s.books.table))) p.1 in
    record { asked = a; steal = e; who = p.0; is = q.0; within = q.1 }

module _ (w : ℕ) (ns : List ℕ) (es : List Entry) where
  abbrev e : Entry
  e = Back w ns

  told-same : told_to w (es ++ e ∷ []) ≡ told_to w es
  told-same = filter_map-append (order_told w) es (e ∷ []) ∙ append-nil (told_to w es)

  ended-same : ends_by w (es ++ e ∷ []) ≡ ends_by w es
  ended-same = filter_map-append (test_ended_in w) es (e ∷ []) ∙ append-nil (ends_by w es)

  answers-more : answers_by w (es ++ e ∷ []) ≡ answers_by w es ++ ns ∷ []
  answers-more =
      let own : (w == w) ≡ true = grind (arith, nat_tests) in
      let one : answers_by w (e ∷ []) ≡ ns ∷ [] = rw own refl in
      filter_map-append (answer_in w) es (e ∷ []) ∙ ap (λ (l : List (List ℕ)). answers_by w es ++ l) one

  module _ (s : State) (h : may_follow s e ≡ true) (d : Deal w s es) where
    abbrev slot : ℕ
    slot = slot_of w s.books

    answers : MayAnswer w ns s
    answers = answers-by w ns s s.plan.steal refl (split-and (is_active w s.books) (may_give_back w ns s) h).1

    unanswered : drop (length (answers_by w es)) (steals_asked (told_to w es)) ≡ answers.asked.tests ∷ []
    unanswered =
        let one : asked_of w (Some (answers.asked)) ≡ answers.asked.tests ∷ [] = ap (λ (b : Bool). if b then answers.asked.tests ∷ [] else []) answers.who in
        sym d.open_steal ∙ ap (asked_of w) answers.steal ∙ one

    -- the line loses the answer
    line-less : line_given (size_at w s) [] (told_to w es) (answers_by w es ++ ns ∷ []) ≡ without ns (line_at w s es)
    line-less = go ns answers.is
      where
        go : (ms : List ℕ) → is_answer answers.asked.tests ms ≡ true
            → line_given (size_at w s) [] (told_to w es) (answers_by w es ++ ms ∷ []) ≡ without ms (line_at w s es)
        go [] i = dealt-nothing (size_at w s) [] (told_to w es) (answers_by w es)
            ∙ sym (without-none (line_at w s es))
        go (m ∷ ms) i =
            let same : m ∷ ms ≡ answers.asked.tests = (bytes_eq-Decides (m ∷ ms) answers.asked.tests).0 i in
            dealt-back (size_at w s) [] (told_to w es) (answers_by w es) (m ∷ ms) (unanswered ∙ ap (λ (l : List ℕ). l ∷ []) (sym same)) d.fair

    -- none of it ended
    apart : (x : ℕ) → among x (ends_by w es) ≡ true → among x ns ≡ false
    apart x a = elim (cases_of (among x ns)) [
      | inl b ↦ (let k = length (ends_by w es) in
          let line = line_at w s es in
          let item : among (item_at slot x s.plan) (drop 1 (held w s.books.table)) ≡ true = among-named slot x ns (drop 1 (held w s.books.table)) s.plan b answers.within in
          let holds : among (item_at slot x s.plan) (items_named slot (drop k line) s.plan) ≡ true = ap (among (item_at slot x s.plan)) (sym d.held_is)
          ∙ among-drop (item_at slot x s.plan) 1 (held w s.books.table) item in
          let later : among x (drop k line) ≡ true = sym (same-items slot x (drop k line) s.plan) ∙ holds in
          let first : among x (take k line) ≡ true = ap (among x) d.ended_first ∙ a in
          absurd (apart-of x k line (distinct-fair (size_at w s) [] (told_to w es) (answers_by w es) refl d.fair) first later))
      | inr b ↦ b
    ]

    -- the tests that ended stay the first
    parts : without ns (line_at w s es) ≡ ends_by w es ++ without ns (drop (length (ends_by w es)) (line_at w s es))
    parts =
        let k = length (ends_by w es) in
        let line = line_at w s es in
        ap (without ns) (sym (take-append-drop k line) ∙ ap (λ (l : List ℕ). l ++ drop k line) d.ended_first)
        ∙ without-append ns (ends_by w es) (drop k line)
        ∙ ap (λ (l : List ℕ). l ++ without ns (drop k line)) (without-apart ns (ends_by w es) apart)

    pub takes_back : Deal w (after_effect s e) (es ++ e ∷ [])
    takes_back =
        let k = length (ends_by w es) in
        let line = line_at w s es in
        let line_then : line_at w (after_effect s e) (es ++ e ∷ []) ≡ ends_by w es ++ without ns (drop k line) =
        ap (λ (os : List Order). line_given (size_at w s) [] os (answers_by w (es ++ e ∷ []))) told-same
        ∙ ap (line_given (size_at w s) [] (told_to w es)) answers-more ∙ line-less ∙ parts in
        let few : k ≤ length (ends_by w es) = omega arith in
        record {
          held_is = held-fewer w (items_named slot ns s.plan) s.books.table.rota
              ∙ ap (without (items_named slot ns s.plan)) d.held_is ∙ named-without slot ns (drop k line) s.plan
              ∙ ap (λ (l : List ℕ). items_named slot l s.plan) (ap (λ (l : List ℕ). l ++ without ns (drop k line)) (sym (drop-length (ends_by w es))) ∙ sym (drop-append-le k (ends_by w es) (without ns (drop k line)) few))
              ∙ ap (λ (l : List ℕ). items_named slot (drop k l) s.plan) (sym line_then)
              ∙ ap (λ (l : List ℕ). items_named slot (drop (length l) (line_at w (after_effect s e) (es ++ e ∷ []))) s.plan) (sym ended-same);
          ended_first = ap (λ (l : List ℕ). take (length l) (line_at w (after_effect s e) (es ++ e ∷ []))) ended-same
              ∙ ap (take k) line_then ∙ take-append-le k (ends_by w es) (without ns (drop k line)) few
              ∙ take-length (ends_by w es) ∙ sym ended-same;
          reported = ap (λ (l : List ℕ). all_among (items_named slot l s.plan) s.books.table.reported) ended-same
              ∙ d.reported;
          fair = ap (λ (os : List Order). are_fair (size_at w s) [] os (answers_by w (es ++ e ∷ []))) told-same
              ∙ ap (are_fair (size_at w s) [] (told_to w es)) answers-more
              ∙ fair-back (size_at w s) [] (told_to w es) (answers_by w es) answers.asked.tests ns unanswered answers.is d.fair;
          last = rw told-same d.last;
          marks = rw told-same d.marks;
          open_steal = sym (ap (λ (os : List Order). drop (length (answers_by w (es ++ e ∷ []))) (steals_asked os)) told-same ∙ ap (λ (l : List (List ℕ)). drop (length l) (steals_asked (told_to w es))) answers-more
              ∙ ap (λ (n : ℕ). drop n (steals_asked (told_to w es))) (length-append (answers_by w es) (ns ∷ []))
              ∙ drop-next (length (answers_by w es)) answers.asked.tests (steals_asked (told_to w es)) [] unanswered);
          answered =
              (let n = within-dropped (length (answers_by w es)) answers.asked.tests (steals_asked (told_to w es)) [] unanswered in
              let c : length (answers_by w (es ++ e ∷ [])) ≡ length (answers_by w es) + 1 = ap length answers-more
              ∙ length-append (answers_by w es) (ns ∷ []) in
              let t : length (steals_asked (told_to w (es ++ e ∷ []))) ≡ length (steals_asked (told_to w es)) = ap (λ (os : List Order). length (steals_asked os)) told-same in
              omega (arith, n, c, t));
          early = rw told-same (λ r. d.early (sym (seat-change w w (λ x. record x { held = without (items_named slot ns s.plan) x.held }) s.books.table.rota (λ x. refl)) ∙ r));
          unshared = rw told-same d.unshared;
        }
