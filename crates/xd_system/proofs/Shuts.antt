-- A worker is started, collects, and is told to shut down.
use Rattle.std.proofs.Common.{◌≡◌, ℕ, ◌≤◌, List, [], ◌∷◌, ◌++◌, take, drop, length, Bool, true, false, not, ◌&&◌, ◌||◌, refl, ap, sym, ◌∙◌, subst, arith, inl, inr}
use Rattle.std.specs.Prelude.{◌==◌, if◌then◌else◌}
use Rattle.std.specs.List.{list_any}
use Rattle.std.proofs.lemmas.Bool.Decides.{nat_tests}
use Rattle.std.proofs.lemmas.List.{append-nil}
use Rattle.std.proofs.lemmas.List.Elements.{filter_map-append}
use Rattle.std.proofs.lemmas.List.Folds.{list_any-append, list_all-append}
use Rattle.xd_journal.specs.declared.entry.Entry.{Entry}
use Rattle.xd_journal.specs.declared.entry.Entry.TheVariants.{Collected, Shutdown, Start}
use Rattle.xd_journal.specs.declared.entry.Ids.{Ids}
use Rattle.xd_commands.specs.declared.order.Order.{Order}
use Rattle.xd_commands.specs.declared.order.Order.TheVariants as order
use Rattle.xd_run.specs.declared.seat.Seat.{Seat}
use Rattle.xd_run.specs.Books.{marked}
use Rattle.xd_run.specs.Collections.{listed, unequal, with_list}
use Rattle.xd_run.specs.Numbers.{all_among}
use Rattle.xd_run.specs.Orderly.{is_orderly}
use Rattle.xd_run.specs.Plan.{items_named}
use Rattle.xd_run.specs.Sharing.{State, in_books}
use Rattle.xd_run.specs.State.{after_effect}
use Rattle.xd_run.specs.Table.{held, held_in, in_rota}
use Rattle.xd_run.specs.Workers.{has_member, is_active, is_shut, made_collected, made_shut, slot_of, started, was_ready}
use Rattle.xd_run_laws.proofs.Inputs.{collecting-keeps, shut_as_before}
use Rattle.xd_run_laws.proofs.Logic.{and, cases_of, differ, not_true, split-and}
use Rattle.xd_run_laws.proofs.Members.{has, has-member, has-more, has-set, is_member}
use Rattle.xd_run_laws.proofs.MembersFit.{slot-marked}
use Rattle.xd_run_laws.proofs.Placed.{Placed}
use Rattle.xd_run_laws.proofs.Queue.{held-none, held-shut}
use Rattle.xd_run_laws.proofs.Rota.{seat-change}
use Rattle.xd_system.specs.LineGiven.{are_fair, line_given, is_shutdown, marks_last, steals_asked}
use Rattle.xd_system.specs.Own.{answer_in, answers_by, ends_by, test_ended_in, order_told, told_to}
use Rattle.xd_system.proofs.Deal.{Deal, HasNothing, asked_of, is_quiet, line_at, size_at}
use Rattle.xd_system.proofs.Frames.{Apart, Quiet, apart-one, deal-bare, quiet-deal}
use Rattle.xd_system.proofs.Lines.{dealt-append, steals-append}
use Rattle.xd_system.proofs.Orders.{fair-more, marks-more}
use Rattle.xd_system.proofs.Others.{names-same, size-same}

-- a worker starts

pub takes_start : (w slot : ℕ) (es : List Entry) (s : State) → Placed s → has_member w (λ m. true) s.books ≡ false
    → HasNothing w es → asked_of w s.plan.steal ≡ []
    → Deal w (after_effect s (Start w slot)) (es ++ Start w slot ∷ [])
takes_start w slot es s placed none n unasked =
    let e = Start w slot in
    let a : Apart w es (es ++ e ∷ []) = apart-one w es e refl refl refl in
    let told : told_to w (es ++ e ∷ []) ≡ [] = a.told ∙ n.told in
    deal-bare w (after_effect s e) (es ++ e ∷ []) (ap is_quiet told) (ap marks_last told) (a.answers ∙ n.answers) (a.ended ∙ n.ended) (record {
      held = held-none w s.books.table.rota absent;
      marks = has-more w (λ m. m.shut) s.books.members (started w slot)
          ∙ ap (λ (b : Bool). b || ((w == w) && false)) unshut ∙ off (w == w) ∙ sym (ap (list_any is_shutdown) told);
      asked = unasked;
    })
  where
    absent : in_rota w s.books.table ≡ false
    absent = elim (cases_of (in_rota w s.books.table)) [
      | inl r ↦ absurd (differ (sym none ∙ has-member w (λ m. m.active) s.books.members (placed.fits.active w r)))
      | inr r ↦ r
    ]

    unshut : has w (λ m. m.shut) s.books.members ≡ false
    unshut = elim (cases_of (has w (λ m. m.shut) s.books.members)) [
      | inl r ↦ absurd (differ (sym none ∙ has-member w (λ m. m.shut) s.books.members r))
      | inr r ↦ r
    ]

    off : (b : Bool) → (false || (b && false)) ≡ false
    off true = refl
    off false = refl

-- a collection comes while nothing but a Shutdown was told

empty-joined : (w v : ℕ) (ss : List Seat) → held_in w ss ≡ []
    → held_in w (ss ++ record { worker = v; held = []; shut = false } ∷ []) ≡ []
empty-joined w v [] h = grind (arith, nat_tests)
empty-joined w v (s ∷ ss) h = grind (arith, nat_tests, empty-joined w v ss, h)

pub takes_collected : (w v : ℕ) (g : Ids) (es : List Entry) (s : State) → Deal w s es → is_quiet (told_to w es) ≡ true
    → Deal w (after_effect s (Collected v g)) (es ++ Collected v g ∷ [])
takes_collected w v g es s d q =
    let e = Collected v g in
    let a : Apart w es (es ++ e ∷ []) = apart-one w es e refl refl refl in
    let k : Quiet w s es = quiet-deal w s es d q in
    let u = in_books (λ b. marked (made_collected v) (with_list v g b)) s in
    let stop = unequal v g (listed v s.books) in
    let join = empty-joined w v s.books.table.rota k.held in
    deal-bare w (after_effect s e) (es ++ e ∷ []) (ap is_quiet a.told ∙ q) (ap marks_last a.told ∙ d.last) (a.answers ∙ k.answers) (a.ended ∙ k.ended) (record {
      held = collecting-keeps (λ (x : State). held w x.books.table ≡ []) u v stop k.held k.held join (λ n. join);
      marks = shut_as_before s v w g ∙ d.marks ∙ ap (list_any is_shutdown) (sym a.told);
      asked = collecting-keeps (λ (x : State). asked_of w x.plan.steal ≡ []) u v stop k.asked k.asked k.asked (λ n. k.asked);
    })

-- a Shutdown

module _ (w : ℕ) (es : List Entry) (s : State) (h : is_orderly s (Shutdown w) ≡ true) (d : Deal w s es) where
  abbrev e : Entry
  e = Shutdown w

  abbrev t : State
  t = after_effect s e

  told-more : told_to w (es ++ e ∷ []) ≡ told_to w es ++ order.Shutdown ∷ []
  told-more =
      let own : (w == w) ≡ true = grind (arith, nat_tests) in
      let one : told_to w (e ∷ []) ≡ order.Shutdown ∷ [] = rw own refl in
      filter_map-append (order_told w) es (e ∷ []) ∙ ap (λ (l : List Order). told_to w es ++ l) one

  answers-same : answers_by w (es ++ e ∷ []) ≡ answers_by w es
  answers-same = filter_map-append (answer_in w) es (e ∷ []) ∙ append-nil (answers_by w es)

  ended-same : ends_by w (es ++ e ∷ []) ≡ ends_by w es
  ended-same = filter_map-append (test_ended_in w) es (e ∷ []) ∙ append-nil (ends_by w es)

  slot-is : slot_of w t.books ≡ slot_of w s.books
  slot-is = slot-marked w (made_shut w) s.books.members (λ m. refl) (λ m. refl)

  size-is : size_at w t ≡ size_at w s
  size-is = size-same w s t slot-is refl refl

  line-then : line_at w t (es ++ e ∷ []) ≡ line_at w s es
  line-then =
      let size = size_at w s in
      ap (λ (z : ℕ). line_given z [] (told_to w (es ++ e ∷ [])) (answers_by w (es ++ e ∷ []))) size-is
      ∙ ap (λ (os : List Order). line_given size [] os (answers_by w (es ++ e ∷ []))) told-more
      ∙ ap (line_given size [] (told_to w es ++ order.Shutdown ∷ [])) answers-same
      ∙ dealt-append size [] (told_to w es) (order.Shutdown ∷ []) (answers_by w es)

  quiet-more : is_quiet (told_to w es) ≡ true → is_quiet (told_to w (es ++ e ∷ [])) ≡ true
  quiet-more q = ap is_quiet told-more ∙ list_all-append is_shutdown (told_to w es) (order.Shutdown ∷ []) ∙ and q refl

  pub takes_shutdown : Deal w t (es ++ e ∷ [])
  takes_shutdown =
      let p = split-and (is_active w s.books && was_ready w s.books) (not (is_shut w s.books)) h in
      let q = split-and (is_active w s.books) (was_ready w s.books) p.0 in
      let size = size_at w s in
      let k = length (ends_by w es) in
      let own : (w == w) ≡ true = grind (arith, nat_tests) in
      let unshut : list_any is_shutdown (told_to w es) ≡ false = sym d.marks ∙ not_true (is_shut w s.books) p.1 in
      let steals-same : steals_asked (told_to w (es ++ e ∷ [])) ≡ steals_asked (told_to w es) = ap steals_asked told-more
      ∙ steals-append (told_to w es) (order.Shutdown ∷ []) ∙ append-nil (steals_asked (told_to w es)) in
      record {
        held_is = held-shut w w s.books.table.rota ∙ d.held_is
            ∙ sym (names-same w s t (drop k (line_at w s es)) slot-is refl refl)
            ∙ ap (λ (l : List ℕ). items_named (slot_of w t.books) (drop k l) t.plan) (sym line-then)
            ∙ ap (λ (x : List ℕ). items_named (slot_of w t.books) (drop (length x) (line_at w t (es ++ e ∷ []))) t.plan) (sym ended-same);
        ended_first = ap (λ (x : List ℕ). take (length x) (line_at w t (es ++ e ∷ []))) ended-same
            ∙ ap (take k) line-then ∙ d.ended_first ∙ sym ended-same;
        reported = ap (λ (l : List ℕ). all_among l s.books.table.reported) (names-same w s t (ends_by w (es ++ e ∷ [])) slot-is refl refl)
            ∙ ap (λ (l : List ℕ). all_among (items_named (slot_of w s.books) l s.plan) s.books.table.reported) ended-same
            ∙ d.reported;
        fair = ap (λ (z : ℕ). are_fair z [] (told_to w (es ++ e ∷ [])) (answers_by w (es ++ e ∷ []))) size-is
            ∙ ap (λ (os : List Order). are_fair size [] os (answers_by w (es ++ e ∷ []))) told-more
            ∙ ap (are_fair size [] (told_to w es ++ order.Shutdown ∷ [])) answers-same
            ∙ fair-more size [] (told_to w es) order.Shutdown (answers_by w es) d.fair refl;
        last = ap marks_last told-more ∙ marks-more (told_to w es) order.Shutdown unshut;
        marks = has-set w w (λ m. m.shut) (made_shut w) s.books.members (λ m. refl) (λ m. refl)
            ∙ ap (λ (b : Bool). if b then is_member w s.books.members else is_shut w s.books) own
            ∙ has-member w (λ m. m.active) s.books.members q.0
            ∙ sym (ap (list_any is_shutdown) told-more ∙ list_any-append is_shutdown (told_to w es) (order.Shutdown ∷ []) ∙ last-one (list_any is_shutdown (told_to w es)));
        open_steal = d.open_steal
            ∙ ap (λ (l : List (List ℕ)). drop (length l) (steals_asked (told_to w es))) (sym answers-same)
            ∙ ap (drop (length (answers_by w (es ++ e ∷ [])))) (sym steals-same);
        answered = subst (λ (l : List (List ℕ)). length (answers_by w (es ++ e ∷ [])) ≤ length l) (sym steals-same) (subst (λ (l : List (List ℕ)). length l ≤ length (steals_asked (told_to w es))) (sym answers-same) d.answered);
        early = λ r. quiet-more (d.early (sym (seat-change w w (λ x. record x { shut = true }) s.books.table.rota (λ x. refl)) ∙ r));
        unshared = λ r. quiet-more (d.unshared r);
      }
    where
      last-one : (b : Bool) → (b || true) ≡ true
      last-one true = refl
      last-one false = refl
