-- The controller takes the end of a test.
use Rattle.std.proofs.Common.{◌≡◌, ℕ, ◌+◌, List, [], ◌∷◌, ◌++◌, take, drop, length, Bool, true, false, refl, ap, sym, ◌∙◌, arith, length-append}
use Rattle.std.specs.Prelude.{◌==◌}
use Rattle.std.specs.List.{list_any}
use Rattle.std.proofs.lemmas.Bool.Decides.{nat_tests}
use Rattle.std.proofs.lemmas.List.{append-nil}
use Rattle.std.proofs.lemmas.List.Elements.{filter_map-append}
use Rattle.xd_journal.specs.declared.entry.Outcome.{Outcome}
use Rattle.xd_journal.specs.declared.entry.Entry.{Entry}
use Rattle.xd_journal.specs.declared.entry.Entry.TheVariants.{Done}
use Rattle.xd_run.specs.declared.seat.Seat.{Seat}
use Rattle.xd_run.specs.Numbers.{all_among, all_distinct, without}
use Rattle.xd_run.specs.Plan.{items_named}
use Rattle.xd_run.specs.Proper.{is_head, may_follow, names_head}
use Rattle.xd_run.specs.Results.{completed_first}
use Rattle.xd_run.specs.Sharing.{State}
use Rattle.xd_run.specs.State.{after_effect}
use Rattle.xd_run.specs.Table.{Table, at_seat, completed, held, held_in, in_rota}
use Rattle.xd_run.specs.Workers.{is_active, slot_of}
use Rattle.xd_run_laws.proofs.Counts.{distinct-of_times, all_among-append}
use Rattle.xd_run_laws.proofs.Logic.{differ, or-false, split-and}
use Rattle.xd_run_laws.proofs.Placed.{Placed, at_most_once}
use Rattle.xd_run_laws.proofs.Places.{held-within, times-table}
use Rattle.xd_run_laws.proofs.Rota.{seat-change}
use Rattle.xd_system.specs.Own.{answer_in, answers_by, ends_by, test_ended_in, order_told, told_to}
use Rattle.xd_system.proofs.Deal.{Deal, line_at}
use Rattle.xd_system.proofs.Lists.{drop-next, take-next, all-last, itself-last, without-first}
use Rattle.xd_system.proofs.Named.{item_at, named-first, named-none, named-append, named-head}

-- the head of what is held

head-is : (hs : List ℕ) (x : ℕ) → (elim hs as (λ _. Bool) [ [] ↦ false | t ∷ ts ↦ x == t ]) ≡ true
    → (rest : List ℕ) × (hs ≡ x ∷ rest)
head-is [] x h = absurd (differ h)
head-is (t ∷ ts) x h = (ts, (let e : x ≡ t = grind (arith, nat_tests, h) in ap (λ (y : ℕ). y ∷ ts) (sym e)))

pub names-item : (s : State) (w n : ℕ) → names_head w n s ≡ true
    → is_head w (item_at (slot_of w s.books) n s.plan) s ≡ true
names-item s w n h =
    let one : items_named (slot_of w s.books) (n ∷ []) s.plan ≡ item_at (slot_of w s.books) n s.plan ∷ [] =
    named-first (slot_of w s.books) n [] s.plan
    ∙ ap (λ (l : List ℕ). item_at (slot_of w s.books) n s.plan ∷ l) (named-none (slot_of w s.books) s.plan) in
    sym (or-false (is_head w (item_at (slot_of w s.books) n s.plan) s))
    ∙ ap (λ (l : List ℕ). list_any (λ x. is_head w x s) l) (sym one) ∙ h

-- the table

pub held-completed : (w item : ℕ) (ss : List Seat)
    → held_in w (at_seat w (λ s. record s { held = without (item ∷ []) s.held }) ss) ≡ without (item ∷ []) (held_in w ss)
held-completed w item [] = refl
held-completed w item (s ∷ ss) = grind (arith, nat_tests, held-completed w item ss)

held-distinct : (s : State) (w : ℕ) → Placed s → all_distinct (held w s.books.table) ≡ true
held-distinct s w k =
    distinct-of_times (held w s.books.table) (λ x. omega (arith, at_most_once s k x, times-table x s.books.table, held-within x w s.books.table.rota))

-- the entry is no order and no answer, and ends this test

module _ (w n : ℕ) (outcome : Outcome) (ms : ℕ) (output : List ℕ) (es : List Entry) where
  abbrev e : Entry
  e = Done w n outcome ms output

  told-same : told_to w (es ++ e ∷ []) ≡ told_to w es
  told-same = filter_map-append (order_told w) es (e ∷ []) ∙ append-nil (told_to w es)

  answers-same : answers_by w (es ++ e ∷ []) ≡ answers_by w es
  answers-same = filter_map-append (answer_in w) es (e ∷ []) ∙ append-nil (answers_by w es)

  ended-more : ends_by w (es ++ e ∷ []) ≡ ends_by w es ++ n ∷ []
  ended-more =
      let own : (w == w) ≡ true = grind (arith, nat_tests) in
      let one : ends_by w (e ∷ []) ≡ n ∷ [] = rw own refl in
      filter_map-append (test_ended_in w) es (e ∷ []) ∙ ap (λ (l : List ℕ). ends_by w es ++ l) one

  pub takes_end : (s : State) → Placed s → may_follow s e ≡ true → Deal w s es
      → Deal w (after_effect s e) (es ++ e ∷ [])
  takes_end s placed h d =
      let slot = slot_of w s.books in
      let t = s.books.table in
      let item = item_at slot n s.plan in
      let k = length (ends_by w es) in
      let line = line_at w s es in
      let named = (split-and (is_active w s.books) (names_head w n s) h).1 in
      let head = head-is (held w t) item (names-item s w n named) in
      let part = named-head slot n (drop k line) head.0 s.plan (sym d.held_is ∙ head.1) in
      let one : items_named slot (n ∷ []) s.plan ≡ item ∷ [] = named-first slot n [] s.plan
      ∙ ap (λ (l : List ℕ). item ∷ l) (named-none slot s.plan) in
      let table : (after_effect s e).books.table ≡ completed w item t = ap (λ (l : List ℕ). completed_first w l t) one in
      let count : length (ends_by w (es ++ e ∷ [])) ≡ k + 1 = ap length ended-more
      ∙ length-append (ends_by w es) (n ∷ []) in
      let line_same : line_at w (after_effect s e) (es ++ e ∷ []) ≡ line = rw (told-same, answers-same) refl in
      let rest : without (item ∷ []) (held w t) ≡ head.0 =
      ap (λ (l : List ℕ). without (item ∷ []) l) head.1
      ∙ without-first item head.0 (ap all_distinct (sym head.1) ∙ held-distinct s w placed) in
      record {
        held_is = ap (λ (u : Table). held w u) table ∙ held-completed w item t.rota ∙ rest ∙ part.2
            ∙ ap (λ (l : List ℕ). items_named slot l s.plan) (sym (drop-next k n line part.0 part.1))
            ∙ ap (λ (j : ℕ). items_named slot (drop j line) s.plan) (sym count)
            ∙ ap (λ (l : List ℕ). items_named slot (drop (length (ends_by w (es ++ e ∷ []))) l) s.plan) (sym line_same);
        ended_first = ap (λ (l : List ℕ). take (length (ends_by w (es ++ e ∷ []))) l) line_same
            ∙ ap (λ (j : ℕ). take j line) count ∙ take-next k n line part.0 part.1
            ∙ ap (λ (l : List ℕ). l ++ n ∷ []) d.ended_first ∙ sym ended-more;
        reported = ap (λ (u : Table). all_among (items_named slot (ends_by w (es ++ e ∷ [])) s.plan) u.reported) table
            ∙ ap (λ (l : List ℕ). all_among (items_named slot l s.plan) (t.reported ++ item ∷ [])) ended-more
            ∙ ap (λ (l : List ℕ). all_among l (t.reported ++ item ∷ [])) (named-append slot (ends_by w es) (n ∷ []) s.plan ∙ ap (λ (l : List ℕ). items_named slot (ends_by w es) s.plan ++ l) one)
            ∙ all_among-append (items_named slot (ends_by w es) s.plan) (item ∷ []) (t.reported ++ item ∷ []) (all-last (items_named slot (ends_by w es) s.plan) t.reported (item ∷ []) d.reported) (itself-last item t.reported);
        fair = rw (told-same, answers-same) d.fair;
        last = rw told-same d.last;
        marks = rw told-same d.marks;
        open_steal = rw (told-same, answers-same) d.open_steal;
        answered = rw (told-same, answers-same) d.answered;
        early = rw told-same (λ r. d.early (sym (seat-change w w (λ x. record x { held = without (item ∷ []) x.held }) t.rota (λ x. refl)) ∙ sym (ap (λ (u : Table). in_rota w u) table) ∙ r));
        unshared = rw told-same d.unshared;
      }
