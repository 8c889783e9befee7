-- After each entry every item stands in one place.
use Rattle.std.proofs.Common.{◌≡◌, ℕ, ◌+◌, List, [], ◌∷◌, ◌++◌, drop, length, map, Bool, true, false, not, ◌&&◌, refl, ap, sym, ◌∙◌, subst, arith, inl, inr}
use Rattle.std.specs.Prelude.{if◌then◌else◌, ◌==◌, Some, None, Option, slice_index, is_none}
use Rattle.std.specs.List.{list_any, range_with_len}
use Rattle.std.specs.Str.{bytes_eq}
use Rattle.std.proofs.lemmas.Bool.Decides.{nat_tests}
use Rattle.std.proofs.lemmas.Slice.Eq.{bytes_eq-Decides}
use Rattle.xd_journal.specs.declared.entry.Ids.{Ids}
use Rattle.xd_journal.specs.declared.entry.RunStop.{RunStop}
use Rattle.xd_journal.specs.declared.entry.Outcome.{Outcome}
use Rattle.xd_journal.specs.declared.entry.Entry.{Entry}
use Rattle.xd_journal.specs.declared.entry.Entry.TheVariants.{Ready, Collected, Done, Back, Finished, Refused, Down, NotStarted, Start, Run, RunAll, Steal, Shutdown, Kill, Over}
use Rattle.xd_run.specs.declared.member.Member.{Member}
use Rattle.xd_run.specs.Numbers.{among, without, all_distinct, all_among, times}
use Rattle.xd_run.specs.Table.{Table, in_rota, held, all_items, assigned, completed, given_back, left_rota, died, joined}
use Rattle.xd_run.specs.Plan.{Plan, UnansweredSteal, base, items_named, slot_items, total, is_each}
use Rattle.xd_run.specs.Books.{marked}
use Rattle.xd_run.specs.Workers.{is_active, was_ready, has_collected, is_shut, slot_of, made_collected}
use Rattle.xd_run.specs.Collections.{unequal, listed, with_list}
use Rattle.xd_run.specs.Stops.{stopped_by}
use Rattle.xd_run.specs.Retry.{is_retry}
use Rattle.xd_run.specs.Sharing.{State, in_books, joining, share_where_full, shared_now, is_full}
use Rattle.xd_run.specs.Collecting.{collecting}
use Rattle.xd_run.specs.Deaths.{steal_without}
use Rattle.xd_run.specs.Results.{completed_first}
use Rattle.xd_run.specs.State.{after_effect}
use Rattle.xd_run.specs.Proper.{may_follow, may_give_back, is_head, are_ids}
use Rattle.xd_run.specs.Orderly.{is_in_order, is_orderly, may_run, not_empty}
use Rattle.xd_run_laws.proofs.Logic.{differ, cases_of, split-and, not_true, or-false, in_both}
use Rattle.xd_run_laws.proofs.Counts.{among-drop, among-times, times-range, distinct-range, all_among-drop, distinct-plus}
use Rattle.xd_run_laws.proofs.Rota.{none-of_seat, seat-of_held}
use Rattle.xd_run_laws.proofs.Places.{held-within, AtMostOnce, times-table, assigned-keeps, completed-keeps, given_back-keeps, none_back-keeps, died-keeps, left-keeps, joined-keeps, shut-keeps}
use Rattle.xd_run_laws.proofs.Members.{has, has-member, has-same, has-set}
use Rattle.xd_run_laws.proofs.Fits.{Fits, one_seat, fits-change, fits-gone, fits-refused, fits-ready, fits-collected, fits-start, fits-shutdown, fits-joined}

-- how often the item is to stand in all places together
abbrev pub due_times : ℕ → Bool → ℕ → ℕ
due_times x shared n = if shared then times x (range_with_len 0 n) else 0

-- an open steal names no test twice, and the tests are shared
abbrev pub StealFits : Bool → Option UnansweredSteal → Type 0
StealFits shared None = Unit {0}
StealFits shared (Some a) = (all_distinct a.tests ≡ true) × (shared ≡ true)

-- the rota fits the marks, each item of the run stands in one place, and so does an open steal
pub record PlacedOf (t : Table) (ms : List Member) (shared : Bool) (n : ℕ) (steal : Option UnansweredSteal) : Type 0 where
  pub fits : Fits t ms
  pub whole : (x : ℕ) → times x (all_items t) ≡ due_times x shared n
  pub steals : StealFits shared steal

abbrev pub Placed : State → Type 0
Placed s = PlacedOf s.books.table s.books.members s.books.shared (total s.plan) s.plan.steal

at_most-by : (t : Table) (b : Bool) (n : ℕ) → ((x : ℕ) → times x (all_items t) ≡ due_times x b n) → AtMostOnce t
at_most-by t true n k = λ x. (let e = k x in omega (arith, e, times-range x 0 n))
at_most-by t false n k = λ x. (let e = k x in omega (arith, e))

pub at_most_once : (s : State) → Placed s → AtMostOnce s.books.table
at_most_once s k = at_most-by s.books.table s.books.shared (total s.plan) k.whole

-- the moves of the table

placed-assigned : (t : Table) (ms : List Member) (b : Bool) (n : ℕ) (a : Option UnansweredSteal) (w : ℕ) (items : List ℕ) → PlacedOf t ms b n a → in_rota w t ≡ true
    → all_distinct items ≡ true → all_among items t.pool ≡ true → PlacedOf (assigned w items t) ms b n a
placed-assigned t ms b n a w items k rota distinct within = record {
  fits = fits-change t (assigned w items t) ms w (λ s. record s { held = s.held ++ items }) refl (λ s. refl) (λ s. refl) k.fits;
  whole = λ x. assigned-keeps x w items t (at_most-by t b n k.whole) (one_seat t ms w k.fits rota) distinct within ∙ k.whole x;
  steals = k.steals;
}

placed-completed : (t : Table) (ms : List Member) (b : Bool) (n : ℕ) (a : Option UnansweredSteal) (w item : ℕ) → PlacedOf t ms b n a → among item (held w t) ≡ true
    → PlacedOf (completed w item t) ms b n a
placed-completed t ms b n a w item k holds = record {
  fits = fits-change t (completed w item t) ms w (λ s. record s { held = without (item ∷ []) s.held }) refl (λ s. refl) (λ s. refl) k.fits;
  whole = λ x. completed-keeps x w item t (at_most-by t b n k.whole) (one_seat t ms w k.fits (seat-of_held w t.rota item holds)) holds ∙ k.whole x;
  steals = k.steals;
}

placed-given_back : (t : Table) (ms : List Member) (b : Bool) (n : ℕ) (a : Option UnansweredSteal) (w : ℕ) (items : List ℕ) → PlacedOf t ms b n a → in_rota w t ≡ true
    → all_distinct items ≡ true → all_among items (held w t) ≡ true → PlacedOf (given_back w items t) ms b n None
placed-given_back t ms b n a w items k rota distinct within = record {
  fits = fits-change t (given_back w items t) ms w (λ s. record s { held = without items s.held }) refl (λ s. refl) (λ s. refl) k.fits;
  whole = λ x. given_back-keeps x w items t (at_most-by t b n k.whole) (one_seat t ms w k.fits rota) distinct within ∙ k.whole x;
  steals = tt;
}

placed-none_back : (t : Table) (ms : List Member) (b : Bool) (n : ℕ) (a : Option UnansweredSteal) (w : ℕ) → PlacedOf t ms b n a → PlacedOf (given_back w [] t) ms b n None
placed-none_back t ms b n a w k = elim (cases_of (in_rota w t)) [
  | inl r ↦ placed-given_back t ms b n a w [] k r refl refl
  | inr r ↦ record {
    fits = fits-change t (given_back w [] t) ms w (λ s. record s { held = without [] s.held }) refl (λ s. refl) (λ s. refl) k.fits;
    whole = λ x. none_back-keeps x w t (none-of_seat w t.rota r) ∙ k.whole x;
    steals = tt;
  }
]

placed-joined : (t : Table) (ms : List Member) (b : Bool) (n : ℕ) (a : Option UnansweredSteal) (w : ℕ) → PlacedOf t ms b n a → in_rota w t ≡ false
    → has w (λ m. m.active) ms ≡ true → has w (λ m. m.ready) ms ≡ true → has w (λ m. m.collected) ms ≡ true → has w (λ m. m.shut) ms ≡ false
    → PlacedOf (joined w t) ms b n a
placed-joined t ms b n a w k r e f g h = record {
  fits = fits-joined t ms w k.fits r e f g h;
  whole = λ x. joined-keeps x w t ∙ k.whole x;
  steals = k.steals;
}

-- outputs in order

pub placed-run : (s : State) (w : ℕ) (indices : List ℕ) → Placed s → is_orderly s (Run w indices) ≡ true → Placed (after_effect s (Run w indices))
placed-run s w indices k h =
    let items = items_named (slot_of w s.books) indices s.plan in
    let e = split-and (may_run w s && not_empty indices && all_distinct items && all_among items s.books.table.pool) (if is_each s.plan.mode then all_among items (slot_items (slot_of w s.books) s.plan) else true) h in
    let d = split-and (may_run w s && not_empty indices && all_distinct items) (all_among items s.books.table.pool) e.0 in
    let c = split-and (may_run w s && not_empty indices) (all_distinct items) d.0 in
    let b = split-and (may_run w s) (not_empty indices) c.0 in
    let a = split-and (in_rota w s.books.table) (not (is_shut w s.books)) b.0 in
    placed-assigned s.books.table s.books.members s.books.shared (total s.plan) s.plan.steal w items k a.0 c.1 d.1

placed-run_all : (s : State) (w : ℕ) → Placed s → is_orderly s (RunAll w) ≡ true → Placed (after_effect s (RunAll w))
placed-run_all s w k h =
    let slot = slot_of w s.books in
    let items = slot_items slot s.plan in
    let d = split-and (is_each s.plan.mode && s.books.shared && may_run w s) (all_among items s.books.table.pool) h in
    let c = split-and (is_each s.plan.mode && s.books.shared) (may_run w s) d.0 in
    let a = split-and (in_rota w s.books.table) (not (is_shut w s.books)) c.1 in
    placed-assigned s.books.table s.books.members s.books.shared (total s.plan) s.plan.steal w items k a.0 (distinct-range (base slot s.plan) (slice_index s.plan.sizes slot)) d.1

placed-shutdown : (s : State) (w : ℕ) → Placed s → Placed (after_effect s (Shutdown w))
placed-shutdown s w k = record {
  fits = fits-shutdown s.books.table s.books.members w k.fits;
  whole = λ x. shut-keeps x w s.books.table ∙ k.whole x;
  steals = k.steals;
}

-- where a worker holds something the tests are shared
pub shared-of_held : (s : State) (w x : ℕ) → Placed s → among x (held w s.books.table) ≡ true → s.books.shared ≡ true
shared-of_held s w x k h = elim (cases_of s.books.shared) [
  | inl e ↦ e
  | inr e ↦
      (let t = s.books.table in
      let none : times x (all_items t) ≡ 0 = k.whole x ∙ ap (λ (b : Bool). due_times x b (total s.plan)) e in
      absurd (omega (arith, none, times-table x t, held-within x w t.rota, among-times x (held w t) h)))
]

pub first_among : (is xs : List ℕ) → not_empty is ≡ true → all_among is xs ≡ true → (x : ℕ) × (among x xs ≡ true)
first_among [] xs h k = absurd (differ h)
first_among (i ∷ is) xs h k = (i, (split-and (among i xs) (all_among is xs) k).0)

placed-steal : (s : State) (w : ℕ) (indices : List ℕ) → Placed s → is_orderly s (Steal w indices) ≡ true → Placed (after_effect s (Steal w indices))
placed-steal s w indices k h =
    let d = split-and (may_run w s && is_in_order (items_named (slot_of w s.books) indices s.plan) (held w s.books.table) && is_none s.plan.steal && not_empty indices && all_distinct indices) (all_among indices (drop 2 (held w s.books.table))) h in
    let c = split-and (may_run w s && is_in_order (items_named (slot_of w s.books) indices s.plan) (held w s.books.table) && is_none s.plan.steal && not_empty indices) (all_distinct indices) d.0 in
    let one = first_among indices (drop 2 (held w s.books.table)) (split-and (may_run w s && is_in_order (items_named (slot_of w s.books) indices s.plan) (held w s.books.table) && is_none s.plan.steal) (not_empty indices) c.0).1 d.1 in
    record { fits = k.fits; whole = k.whole; steals = (c.1, shared-of_held s w one.0 k (among-drop one.0 2 (held w s.books.table) one.1)) }

pub placed-output : (s : State) (e : Entry) → is_orderly s e ≡ true → Placed s → Placed (after_effect s e)
placed-output s (Start w slot) h k = record { fits = fits-start s.books.table s.books.members w slot k.fits; whole = k.whole; steals = k.steals }
placed-output s (Run w indices) h k = placed-run s w indices k h
placed-output s (RunAll w) h k = placed-run_all s w k h
placed-output s (Steal w indices) h k = placed-steal s w indices k h
placed-output s (Shutdown w) h k = placed-shutdown s w k
placed-output s (Kill w) h k = k
placed-output s (Over how) h k = k
placed-output s (Ready w) h k = absurd (differ h)
placed-output s (Collected w g) h k = absurd (differ h)
placed-output s (Done w i u m b) h k = absurd (differ h)
placed-output s (Back w i) h k = absurd (differ h)
placed-output s (Finished w) h k = absurd (differ h)
placed-output s (Refused w t) h k = absurd (differ h)
placed-output s (Down w c b) h k = absurd (differ h)
placed-output s (NotStarted w) h k = absurd (differ h)

-- inputs that may follow

-- who has not collected is not in the rota
pub not_in_rota : (s : State) (w : ℕ) → Placed s → has_collected w s.books ≡ false → in_rota w s.books.table ≡ false
not_in_rota s w k h = elim (cases_of (in_rota w s.books.table)) [ inl r ↦ absurd (differ (sym h ∙ k.fits.collected w r)) | inr r ↦ r ]

placed-refused : (s : State) (w : ℕ) (text : List ℕ) → Placed s → may_follow s (Refused w text) ≡ true → Placed (after_effect s (Refused w text))
placed-refused s w text k h =
    let a = split-and (is_active w s.books) (not (has_collected w s.books)) h in
    record { fits = fits-refused s.books.table s.books.members w (not_in_rota s w k (not_true (has_collected w s.books) a.1)) k.fits; whole = k.whole; steals = k.steals }

steals-without : (w : ℕ) (b : Bool) (a : Option UnansweredSteal) → StealFits b a → StealFits b (steal_without w a)
steals-without w b None k = tt
steals-without w b (Some a) k = in_both (StealFits b) (a.worker == w) None (Some a) (λ h. tt) (λ h. k)

pub placed-down : (s : State) (w : ℕ) → Placed s → Placed (after_effect s (NotStarted w))
placed-down s w k = record {
  fits = fits-gone s.books.table (died w (is_retry w s.books) s.books.table) s.books.members w refl k.fits;
  whole = λ x. died-keeps x w (is_retry w s.books) s.books.table (k.fits.seats w) ∙ k.whole x;
  steals = steals-without w s.books.shared s.plan.steal k.steals;
}

pub empty_of : (xs : List ℕ) → (length xs == 0) ≡ true → xs ≡ []
empty_of [] h = refl
empty_of (x ∷ xs) h = grind (arith, nat_tests)

placed-finished : (s : State) (w : ℕ) → Placed s → may_follow s (Finished w) ≡ true → Placed (after_effect s (Finished w))
placed-finished s w k h =
    let a = split-and (is_active w s.books && is_shut w s.books && has_collected w s.books) (length (held w s.books.table) == 0) h in
    record {
      fits = fits-gone s.books.table (left_rota w s.books.table) s.books.members w refl k.fits;
      whole = λ x. left-keeps x w s.books.table (k.fits.seats w) (empty_of (held w s.books.table) a.1) ∙ k.whole x;
      steals = k.steals;
    }

-- a result names one item, which stands at the head

one_item-by : (b : Bool) (i j : ℕ) (test : ℕ → Bool) → list_any test (if b then i ∷ [] else j ∷ []) ≡ true
    → (item : ℕ) × ((if b then i ∷ [] else j ∷ []) ≡ item ∷ []) × (test item ≡ true)
one_item-by true i j test h = (i, refl, sym (or-false (test i)) ∙ h)
one_item-by false i j test h = (j, refl, sym (or-false (test j)) ∙ h)

pub one_item : (slot index : ℕ) (p : Plan) (test : ℕ → Bool) → list_any test (items_named slot (index ∷ []) p) ≡ true
    → (item : ℕ) × (items_named slot (index ∷ []) p ≡ item ∷ []) × (test item ≡ true)
one_item slot index p test h = one_item-by (is_each p.mode) (base slot p + index) index test h

head_among-by : (item : ℕ) (xs : List ℕ) → (elim xs as (λ _. Bool) [ [] ↦ false | t ∷ ts ↦ item == t ]) ≡ true → among item xs ≡ true
head_among-by item [] h = cc
head_among-by item (x ∷ xs) h = grind (arith, nat_tests)

pub head_among : (w item : ℕ) (s : State) → is_head w item s ≡ true → among item (held w s.books.table) ≡ true
head_among w item s h = head_among-by item (held w s.books.table) h

placed-first : (t : Table) (ms : List Member) (b : Bool) (n : ℕ) (a : Option UnansweredSteal) (w : ℕ) (items : List ℕ) (item : ℕ) → items ≡ item ∷ [] → among item (held w t) ≡ true
    → PlacedOf t ms b n a → PlacedOf (completed_first w items t) ms b n a
placed-first t ms b n a w items item e h k = subst (λ (is : List ℕ). PlacedOf (completed_first w is t) ms b n a) (sym e) (placed-completed t ms b n a w item k h)

placed-done : (s : State) (w index : ℕ) (outcome : Outcome) (ms : ℕ) (output : List ℕ) → Placed s → may_follow s (Done w index outcome ms output) ≡ true
    → Placed (after_effect s (Done w index outcome ms output))
placed-done s w index outcome ms output k h =
    let slot = slot_of w s.books in
    let a = split-and (is_active w s.books) (list_any (λ item. is_head w item s) (items_named slot (index ∷ []) s.plan)) h in
    let i = one_item slot index s.plan (λ item. is_head w item s) a.1 in
    placed-first s.books.table s.books.members s.books.shared (total s.plan) s.plan.steal w (items_named slot (index ∷ []) s.plan) i.0 i.1 (head_among w i.0 s i.2) k

-- tests come back

distinct_named-by : (each : Bool) (b : ℕ) (xs : List ℕ) → all_distinct xs ≡ true → all_distinct (if each then map (λ i. b + i) xs else xs) ≡ true
distinct_named-by true b xs h = distinct-plus b xs h
distinct_named-by false b xs h = h

pub first_named-by : (each : Bool) (b i : ℕ) (is xs : List ℕ) → all_among (if each then map (λ j. b + j) (i ∷ is) else i ∷ is) xs ≡ true → (x : ℕ) × (among x xs ≡ true)
first_named-by true b i is xs h = (b + i, (split-and (among (b + i) xs) (all_among (map (λ j. b + j) is) xs) h).0)
first_named-by false b i is xs h = (i, (split-and (among i xs) (all_among is xs) h).0)

back_by : (b : Bool) (steal : Option UnansweredSteal) (w i : ℕ) (is items holds : List ℕ)
    → (elim steal as (λ _. Bool) [ None ↦ false | Some a ↦ (a.worker == w) && (bytes_eq (i ∷ is) a.tests && all_among items (drop 1 holds)) ]) ≡ true
    → StealFits b steal → (all_distinct (i ∷ is) ≡ true) × (all_among items holds ≡ true)
back_by b None w i is items holds h k = absurd (differ h)
back_by b (Some a) w i is items holds h k =
    let p = split-and (a.worker == w) (bytes_eq (i ∷ is) a.tests && all_among items (drop 1 holds)) h in
    let q = split-and (bytes_eq (i ∷ is) a.tests) (all_among items (drop 1 holds)) p.1 in
    (ap all_distinct ((bytes_eq-Decides (i ∷ is) a.tests).0 q.0) ∙ k.0, all_among-drop 1 items holds q.1)

shared_by : (b : Bool) (steal : Option UnansweredSteal) (answer : UnansweredSteal → Bool) → (elim steal as (λ _. Bool) [ None ↦ false | Some a ↦ answer a ]) ≡ true → StealFits b steal → b ≡ true
shared_by b None answer h k = absurd (differ h)
shared_by b (Some a) answer h k = k.1

-- where a steal is open the tests are shared
pub shared-of_back : (s : State) (w : ℕ) (indices : List ℕ) → Placed s → may_follow s (Back w indices) ≡ true → s.books.shared ≡ true
shared-of_back s w indices k h =
    shared_by s.books.shared s.plan.steal (λ a. (a.worker == w) && (elim indices [
      | [] ↦ true
      | i ∷ is ↦ bytes_eq (i ∷ is) a.tests && all_among (items_named (slot_of w s.books) (i ∷ is) s.plan) (drop 1 (held w s.books.table))
    ])) (split-and (is_active w s.books) (may_give_back w indices s) h).1 k.steals

-- where no steal is open none is answered

none_back : (steal : Option UnansweredSteal) (answer : UnansweredSteal → Bool) → steal ≡ None → (elim steal as (λ _. Bool) [ None ↦ false | Some a ↦ answer a ]) ≡ true → ⊥
none_back None answer e h = differ h
none_back (Some a) answer e h = cc

pub no_back : (s : State) (w : ℕ) (indices : List ℕ) → s.plan.steal ≡ None → may_follow s (Back w indices) ≡ true → ⊥
no_back s w indices k h =
    none_back s.plan.steal (λ a. (a.worker == w) && (elim indices [
      | [] ↦ true
      | i ∷ is ↦ bytes_eq (i ∷ is) a.tests && all_among (items_named (slot_of w s.books) (i ∷ is) s.plan) (drop 1 (held w s.books.table))
    ])) k (split-and (is_active w s.books) (may_give_back w indices s) h).1

named-none : (slot : ℕ) (p : Plan) → items_named slot [] p ≡ []
named-none slot p = elim (is_each p.mode) as (λ b. (if b then map (λ i. base slot p + i) [] else []) ≡ []) [ true ↦ refl | false ↦ refl ]

placed-back : (s : State) (w : ℕ) (indices : List ℕ) → Placed s → may_follow s (Back w indices) ≡ true → Placed (after_effect s (Back w indices))
placed-back s w [] k h = subst (λ (is : List ℕ). PlacedOf (given_back w is s.books.table) s.books.members s.books.shared (total s.plan) None) (sym (named-none (slot_of w s.books) s.plan))
    (placed-none_back s.books.table s.books.members s.books.shared (total s.plan) s.plan.steal w k)
placed-back s w (i ∷ is) k h =
    let slot = slot_of w s.books in
    let items = items_named slot (i ∷ is) s.plan in
    let holds = held w s.books.table in
    let a = split-and (is_active w s.books) (may_give_back w (i ∷ is) s) h in
    let b = back_by s.books.shared s.plan.steal w i is items holds a.1 k.steals in
    let one = first_named-by (is_each s.plan.mode) (base slot s.plan) i is holds b.1 in
    placed-given_back s.books.table s.books.members s.books.shared (total s.plan) s.plan.steal w items k (seat-of_held w s.books.table.rota one.0 one.1)
    (distinct_named-by (is_each s.plan.mode) (base slot s.plan) (i ∷ is) b.0) b.1

-- a worker collects

steals-shared : (b : Bool) (a : Option UnansweredSteal) → StealFits b a → StealFits true a
steals-shared b None k = tt
steals-shared b (Some a) k = (k.0, refl)

placed-shared_now : (s : State) → Placed s → s.books.shared ≡ false → Placed (shared_now s)
placed-shared_now s k h = record {
  fits = record { seats = k.fits.seats; active = k.fits.active; ready = k.fits.ready; collected = k.fits.collected; marks = k.fits.marks };
  whole = λ x. (let z : times x (all_items s.books.table) ≡ 0 = k.whole x ∙ ap (λ (b : Bool). due_times x b (total s.plan)) h in
      omega (arith, z, times-table x s.books.table, times-table x (shared_now s).books.table));
  steals = steals-shared s.books.shared s.plan.steal k.steals;
}

placed-share : (s : State) → Placed s → Placed (share_where_full s)
placed-share s k = in_both Placed (is_full s.books) (shared_now s) s
    (λ h. placed-shared_now s k (not_true s.books.shared (split-and (not s.books.shared) (length s.books.table.rota == s.books.settings.workers) h).0))
    (λ h. k)

placed-collecting : (s : State) (w : ℕ) (stop : Option RunStop) → Placed s → in_rota w s.books.table ≡ false
    → is_active w s.books ≡ true → was_ready w s.books ≡ true → has_collected w s.books ≡ true → Placed (collecting w stop s)
placed-collecting s w (Some how) k r a e d = in_both Placed (is_shut w s.books) s (in_books (stopped_by (Some how)) s) (λ h. k) (λ h. k)
placed-collecting s w None k r a e d = in_both Placed (is_shut w s.books) s (joining w s) (λ h. k)
    (λ h. placed-share (in_books (λ b. record b { table = joined w b.table }) s) (placed-joined s.books.table s.books.members s.books.shared (total s.plan) s.plan.steal w k r a e d h))

placed-collected : (s : State) (w : ℕ) (given : Ids) → Placed s → may_follow s (Collected w given) ≡ true → Placed (after_effect s (Collected w given))
placed-collected s w given k h =
    let ms = s.books.members in
    let c = split-and (is_active w s.books && was_ready w s.books && not (has_collected w s.books)) (are_ids given w s) h in
    let b = split-and (is_active w s.books && was_ready w s.books) (not (has_collected w s.books)) c.0 in
    let a = split-and (is_active w s.books) (was_ready w s.books) b.0 in
    let now = in_books (λ b. marked (made_collected w) (with_list w given b)) s in
    let set : has w (λ m. m.collected) (map (made_collected w) ms) ≡ true =
    has-set w w (λ m. m.collected) (made_collected w) ms (λ m. refl) (λ m. refl) ∙ grind (arith, nat_tests, has-member w (λ m. m.active) ms a.0) in
    placed-collecting now w (unequal w given (listed w s.books)) (record { fits = fits-collected s.books.table ms w k.fits; whole = k.whole; steals = k.steals })
    (not_in_rota s w k (not_true (has_collected w s.books) b.1))
    (has-same w (λ m. m.active) (made_collected w) ms (λ m. refl) (λ m. refl) ∙ a.0)
    (has-same w (λ m. m.ready) (made_collected w) ms (λ m. refl) (λ m. refl) ∙ a.1)
    set

pub placed-input : (s : State) (e : Entry) → may_follow s e ≡ true → Placed s → Placed (after_effect s e)
placed-input s (Ready w) h k = record { fits = fits-ready s.books.table s.books.members w k.fits; whole = k.whole; steals = k.steals }
placed-input s (Collected w g) h k = placed-collected s w g k h
placed-input s (Done w i u m o) h k = placed-done s w i u m o k h
placed-input s (Back w i) h k = placed-back s w i k h
placed-input s (Finished w) h k = placed-finished s w k h
placed-input s (Refused w t) h k = placed-refused s w t k h
placed-input s (Down w c o) h k = placed-down s w k
placed-input s (NotStarted w) h k = placed-down s w k
placed-input s (Start w slot) h k = absurd (differ h)
placed-input s (Run w indices) h k = absurd (differ h)
placed-input s (RunAll w) h k = absurd (differ h)
placed-input s (Steal w indices) h k = absurd (differ h)
placed-input s (Shutdown w) h k = absurd (differ h)
placed-input s (Kill w) h k = absurd (differ h)
placed-input s (Over how) h k = absurd (differ h)
