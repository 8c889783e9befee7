-- The controller asks a worker for some of its tests.
use Rattle.std.proofs.Common.{◌≡◌, ℕ, ◌+◌, List, [], ◌∷◌, ◌++◌, take, drop, length, Bool, true, false, not, ◌&&◌, refl, ap, sym, ◌∙◌, arith, length-append, inl, inr}
use Rattle.std.specs.Prelude.{◌==◌, filter, if◌then◌else◌, Option, Some, None, is_none}
use Rattle.std.specs.List.{list_any}
use Rattle.std.proofs.lemmas.Bool.Decides.{nat_tests}
use Rattle.std.proofs.lemmas.List.{append-nil, take-append-drop}
use Rattle.std.proofs.lemmas.List.Elements.{filter_map-append, filter-append}
use Rattle.std.proofs.lemmas.Slice.Eq.{bytes_eq-Decides}
use Rattle.xd_journal.specs.declared.entry.Entry.{Entry}
use Rattle.xd_journal.specs.declared.entry.Entry.TheVariants.{Steal}
use Rattle.xd_commands.specs.declared.order.Order.{Order}
use Rattle.xd_commands.specs.declared.order.Order.TheVariants as order
use Rattle.xd_run.specs.Numbers.{all_among, all_distinct, among, without}
use Rattle.xd_run.specs.Orderly.{is_in_order, is_orderly, may_run, not_empty}
use Rattle.xd_run.specs.Plan.{UnansweredSteal, items_named}
use Rattle.xd_run.specs.Sharing.{State}
use Rattle.xd_run.specs.State.{after_effect}
use Rattle.xd_run.specs.Table.{held, in_rota}
use Rattle.xd_run.specs.Workers.{is_shut, slot_of}
use Rattle.xd_run_laws.proofs.Counts.{among-filter}
use Rattle.xd_run_laws.proofs.Logic.{and, cases_of, differ, split-and}
use Rattle.xd_system.specs.LineGiven.{are_fair, line_given, first_answer, is_answer, is_shutdown, marks_last, may_be_told, steals_asked}
use Rattle.xd_system.specs.Own.{answer_in, answers_by, ends_by, test_ended_in, order_told, told_to}
use Rattle.xd_system.proofs.Deal.{Deal, asked_of, line_at, size_at}
use Rattle.xd_system.proofs.Frames.{quiet-deal}
use Rattle.xd_system.proofs.Lines.{dealt-append, left-dropped, left_of, steals-append, without-none}
use Rattle.xd_system.proofs.Lists.{apart-of, few-dropped, none-filtered, dropped-last}
use Rattle.xd_system.proofs.Returns.{distinct-fair}
use Rattle.xd_system.proofs.Orders.{fair-more, marks-more, shut-same}
use Rattle.std.proofs.Math.ListN.{drop_of_length-le}
use Rattle.xd_system.proofs.Named.{named-injective, named-filter}

-- a Steal

pub steal-rota : (w : ℕ) (ns : List ℕ) (s : State) → is_orderly s (Steal w ns) ≡ true → in_rota w s.books.table ≡ true
steal-rota w ns s h =
    let ordered = is_in_order (items_named (slot_of w s.books) ns s.plan) (held w s.books.table) in
    let p = split-and (may_run w s && ordered && is_none s.plan.steal && not_empty ns && all_distinct ns) (all_among ns (drop 2 (held w s.books.table))) h in
    let q = split-and (may_run w s && ordered && is_none s.plan.steal && not_empty ns) (all_distinct ns) p.0 in
    let r = split-and (may_run w s && ordered && is_none s.plan.steal) (not_empty ns) q.0 in
    let t = split-and (may_run w s && ordered) (is_none s.plan.steal) r.0 in
    (split-and (in_rota w s.books.table) (not (is_shut w s.books)) (split-and (may_run w s) ordered t.0).0).0

module _ (w : ℕ) (ns : List ℕ) (es : List Entry) (s : State) (h : is_orderly s (Steal w ns) ≡ true) (d : Deal w s es) where
  abbrev e : Entry
  e = Steal w ns

  told-more : told_to w (es ++ e ∷ []) ≡ told_to w es ++ order.Steal ns ∷ []
  told-more =
      let own : (w == w) ≡ true = grind (arith, nat_tests) in
      let one : told_to w (e ∷ []) ≡ order.Steal ns ∷ [] = rw own refl in
      filter_map-append (order_told w) es (e ∷ []) ∙ ap (λ (l : List Order). told_to w es ++ l) one

  answers-same : answers_by w (es ++ e ∷ []) ≡ answers_by w es
  answers-same = filter_map-append (answer_in w) es (e ∷ []) ∙ append-nil (answers_by w es)

  ended-same : ends_by w (es ++ e ∷ []) ≡ ends_by w es
  ended-same = filter_map-append (test_ended_in w) es (e ∷ []) ∙ append-nil (ends_by w es)

  record Asks : Type 0 where
    rota : in_rota w s.books.table ≡ true
    unshut : is_shut w s.books ≡ false
    none : s.plan.steal ≡ None
    ordered : is_in_order (items_named (slot_of w s.books) ns s.plan) (held w s.books.table) ≡ true
    filled : not_empty ns ≡ true
    later : all_among ns (drop 2 (held w s.books.table)) ≡ true

  no-steal : (o : Option UnansweredSteal) → is_none o ≡ true → o ≡ None
  no-steal None k = refl
  no-steal (Some a) k = absurd (differ k)

  not-so : (b : Bool) → not b ≡ true → b ≡ false
  not-so true k = absurd (differ k)
  not-so false k = refl

  asks : Asks
  asks =
      let named = items_named (slot_of w s.books) ns s.plan in
      let inorder = is_in_order named (held w s.books.table) in
      let p = split-and (may_run w s && inorder && is_none s.plan.steal && not_empty ns && all_distinct ns) (all_among ns (drop 2 (held w s.books.table))) h in
      let q = split-and (may_run w s && inorder && is_none s.plan.steal && not_empty ns) (all_distinct ns) p.0 in
      let r = split-and (may_run w s && inorder && is_none s.plan.steal) (not_empty ns) q.0 in
      let t = split-and (may_run w s && inorder) (is_none s.plan.steal) r.0 in
      let u = split-and (may_run w s) inorder t.0 in
      let v = split-and (in_rota w s.books.table) (not (is_shut w s.books)) u.0 in
      record { rota = v.0; unshut = not-so (is_shut w s.books) v.1; none = no-steal s.plan.steal t.1; ordered = u.1; filled = r.1; later = p.1 }

  -- each steal before is answered
  all-answered : length (answers_by w es) ≡ length (steals_asked (told_to w es))
  all-answered =
      let few = few-dropped (length (answers_by w es)) (steals_asked (told_to w es)) (sym (ap (asked_of w) (sym asks.none) ∙ d.open_steal)) in
      let more = d.answered in
      omega (arith, few, more)

  no-more : left_of (told_to w es) (answers_by w es) ≡ []
  no-more = left-dropped (told_to w es) (answers_by w es)
      ∙ drop_of_length-le (answers_by w es) (let a = all-answered in omega (arith, a))

  -- what is asked is a part of the line, in its order
  asked-part : is_in_order ns (line_at w s es) ≡ true
  asked-part =
      let k = length (ends_by w es) in
      let line = line_at w s es in
      let slot = slot_of w s.books in
      let named = items_named slot ns s.plan in
      let e1 : named ≡ filter (λ y. among y named) (held w s.books.table) = (bytes_eq-Decides named (filter (λ y. among y named) (held w s.books.table))).0 asks.ordered in
      let e2 : named ≡ items_named slot (filter (λ y. among y ns) (drop k line)) s.plan = e1
      ∙ ap (filter (λ y. among y named)) d.held_is ∙ named-filter slot ns (drop k line) s.plan in
      let e3 : ns ≡ filter (λ y. among y ns) (drop k line) = named-injective slot ns (filter (λ y. among y ns) (drop k line)) s.plan e2 in
      let distinct : all_distinct line ≡ true = distinct-fair (size_at w s) [] (told_to w es) (answers_by w es) refl d.fair in
      let none : filter (λ y. among y ns) (take k line) ≡ [] = none-filtered ns (take k line) (λ x a. elim (cases_of (among x ns)) [
        | inl b ↦ absurd (apart-of x k line distinct a (split-and (among x ns) (among x (drop k line)) (sym (among-filter x (λ y. among y ns) (drop k line)) ∙ ap (among x) (sym e3) ∙ b)).1)
        | inr b ↦ b
      ]) in
      let e4 : filter (λ y. among y ns) line ≡ ns =
      ap (filter (λ y. among y ns)) (sym (take-append-drop k line))
      ∙ filter-append (λ y. among y ns) (take k line) (drop k line)
      ∙ ap (λ (l : List ℕ). l ++ filter (λ y. among y ns) (drop k line)) none ∙ sym e3 in
      (bytes_eq-Decides ns (filter (λ y. among y ns) line)).1 (sym e4)

  line-then : line_given (size_at w s) [] (told_to w (es ++ e ∷ [])) (answers_by w (es ++ e ∷ [])) ≡ line_at w s es
  line-then =
      let size = size_at w s in
      ap (λ (os : List Order). line_given size [] os (answers_by w (es ++ e ∷ []))) told-more
      ∙ ap (line_given size [] (told_to w es ++ order.Steal ns ∷ [])) answers-same
      ∙ dealt-append size [] (told_to w es) (order.Steal ns ∷ []) (answers_by w es)
      ∙ ap (λ (backs : List (List ℕ)). without (first_answer backs) (line_at w s es)) no-more
      ∙ without-none (line_at w s es)

  pub takes_steal : Deal w (after_effect s e) (es ++ e ∷ [])
  takes_steal =
      let slot = slot_of w s.books in
      let size = size_at w s in
      let unshut : list_any is_shutdown (told_to w es) ≡ false = sym d.marks ∙ asks.unshut in
      let own : (w == w) ≡ true = grind (arith, nat_tests) in
      let told : may_be_told size (line_at w s es) (order.Steal ns) (left_of (told_to w es) (answers_by w es)) ≡ true =
      and asked-part (ap (λ (backs : List (List ℕ)). is_answer ns (first_answer backs)) no-more) in
      let count : length (steals_asked (told_to w (es ++ e ∷ []))) ≡ length (steals_asked (told_to w es)) + 1 =
      ap (λ (os : List Order). length (steals_asked os)) told-more
      ∙ ap length (steals-append (told_to w es) (order.Steal ns ∷ []))
      ∙ length-append (steals_asked (told_to w es)) (ns ∷ []) in
      record {
        held_is = d.held_is ∙ ap (λ (l : List ℕ). items_named slot (drop (length (ends_by w es)) l) s.plan) (sym line-then)
            ∙ ap (λ (x : List ℕ). items_named slot (drop (length x) (line_at w (after_effect s e) (es ++ e ∷ []))) s.plan) (sym ended-same);
        ended_first = ap (λ (x : List ℕ). take (length x) (line_at w (after_effect s e) (es ++ e ∷ []))) ended-same
            ∙ ap (take (length (ends_by w es))) line-then ∙ d.ended_first ∙ sym ended-same;
        reported = ap (λ (l : List ℕ). all_among (items_named slot l s.plan) s.books.table.reported) ended-same
            ∙ d.reported;
        fair = ap (λ (os : List Order). are_fair size [] os (answers_by w (es ++ e ∷ []))) told-more
            ∙ ap (are_fair size [] (told_to w es ++ order.Steal ns ∷ [])) answers-same
            ∙ fair-more size [] (told_to w es) (order.Steal ns) (answers_by w es) d.fair told;
        last = ap marks_last told-more ∙ marks-more (told_to w es) (order.Steal ns) unshut;
        marks = d.marks ∙ sym (ap (list_any is_shutdown) told-more ∙ shut-same (told_to w es) (order.Steal ns) refl);
        open_steal = ap (λ (b : Bool). if b then ns ∷ [] else []) own
            ∙ sym (ap (λ (l : List (List ℕ)). drop (length l) (steals_asked (told_to w (es ++ e ∷ [])))) answers-same ∙ ap (λ (os : List Order). drop (length (answers_by w es)) (steals_asked os)) told-more
            ∙ ap (drop (length (answers_by w es))) (steals-append (told_to w es) (order.Steal ns ∷ []))
            ∙ dropped-last (length (answers_by w es)) (steals_asked (told_to w es)) ns (sym all-answered));
        answered = (let a : length (answers_by w (es ++ e ∷ [])) ≡ length (answers_by w es) = ap length answers-same in let b = all-answered in omega (arith, a, b, count));
        early = λ r. absurd (differ (sym r ∙ asks.rota));
        unshared = λ r. absurd (nothing ns asks.filled (ap (λ (hs : List ℕ). all_among ns (drop 2 hs)) (sym (quiet-deal w s es d (d.unshared r)).held) ∙ asks.later));
      }
    where
      nothing : (ms : List ℕ) → not_empty ms ≡ true → all_among ms [] ≡ true → ⊥
      nothing [] f a = differ f
      nothing (m ∷ ms) f a = differ a
