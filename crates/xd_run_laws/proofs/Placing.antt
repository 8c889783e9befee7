-- The last entry that moves an item decides its place.
use Rattle.std.proofs.Common.{◌≡◌, ℕ, ◌+◌, ◌≤◌, List, [], ◌∷◌, ◌++◌, length, take, drop, Bool, true, false, not, ◌&&◌, refl, ap, sym, ◌∙◌, subst, arith, inl, inr}
use Rattle.std.specs.Prelude.{◌==◌, if◌then◌else◌, nat_lt, Option, Some, None}
use Rattle.std.specs.List.{range_with_len}
use Rattle.std.proofs.lemmas.Bool.Decides.{nat_tests}
use Rattle.xd_journal.specs.declared.settings.Settings.{Settings}
use Rattle.xd_journal.specs.declared.entry.Ids.{Ids}
use Rattle.xd_journal.specs.declared.entry.Entry.{Entry}
use Rattle.xd_journal.specs.declared.entry.Entry.TheVariants.{Ready, Collected, Done, Back, Finished, Refused, Down, NotStarted, Start, Run, RunAll, Steal, Shutdown, Kill, Over}
use Rattle.xd_run.specs.declared.seat.Seat.{Seat}
use Rattle.xd_run.specs.Numbers.{all_among, all_distinct, among, times, without}
use Rattle.xd_run.specs.Table.{Table, all_items, assigned, at_seat, crash_item, died, given_back, held, held_in, in_rota, joined, left_rota, retried_item, without_seat}
use Rattle.xd_run.specs.Plan.{base, is_each, items_named, slot_items, total}
use Rattle.xd_run.specs.Books.{marked}
use Rattle.xd_run.specs.Workers.{has_collected, is_active, is_shut, made_collected, slot_of}
use Rattle.xd_run.specs.Collections.{listed, unequal, with_list}
use Rattle.xd_run.specs.Retry.{is_retry}
use Rattle.xd_run.specs.Sharing.{State, in_books, shared_now}
use Rattle.xd_run.specs.Results.{completed_first}
use Rattle.xd_run.specs.State.{after_entries, after_effect, after_entry, no_one, reached}
use Rattle.xd_run.specs.Proper.{may_follow}
use Rattle.xd_run.specs.Orderly.{is_orderly, may_run, not_empty}
use Rattle.xd_run_laws.specs.Places.{HeldBy, InPool, Place, Reported, StandsAt, or_before, place_by, put_last, puts}
use Rattle.xd_run_laws.proofs.Logic.{cases_of, differ, split-and}
use Rattle.xd_run_laws.proofs.Counts.{among-in_range, among-times, times-among, times-append, times-after_range, times-cut, times-without}
use Rattle.xd_run_laws.proofs.Rota.{has_seat, seat-of_held}
use Rattle.xd_run_laws.proofs.Places.{held-within, joined-keeps, times-table}
use Rattle.xd_run_laws.proofs.Placed.{Placed, due_times, empty_of, placed-output}
use Rattle.xd_run_laws.proofs.Turns.{Tidy}
use Rattle.xd_run_laws.proofs.Inputs.{collecting-keeps, tidy-input}
use Rattle.xd_run_laws.proofs.Queue.{held-fewer, held-joined, held-left, held-more, held-shut}
use Rattle.xd_run_laws.proofs.Told.{none-held}
use Rattle.xd_run_laws.proofs.Walk.{Keeps}

-- an item among these, or not among them, as they change

among-more : (x : ℕ) (xs ys : List ℕ) → among x xs ≡ true → among x (xs ++ ys) ≡ true
among-more x xs ys h = times-among x (xs ++ ys) (omega (arith, times-append x xs ys, among-times x xs h))

among-last : (x : ℕ) (xs ys : List ℕ) → among x ys ≡ true → among x (xs ++ ys) ≡ true
among-last x xs ys h = times-among x (xs ++ ys) (omega (arith, times-append x xs ys, among-times x ys h))

among-without : (x : ℕ) (those xs : List ℕ) → among x those ≡ false → among x xs ≡ true → among x (without those xs) ≡ true
among-without x those xs n h =
    let a = among-times x xs h in
    let e : times x (without those xs) ≡ times x xs = times-without x those xs ∙ rw n in
    times-among x (without those xs) (omega (arith, a, e))

held-after_more : (x v w : ℕ) (items : List ℕ) (ss : List Seat) → among x (held_in v ss) ≡ true → among x (held_in v (at_seat w (λ s. record s { held = s.held ++ items }) ss)) ≡ true
held-after_more x v w items ss h =
    let a = among-times x (held_in v ss) h in
    let e = held-more x v w items ss (seat-of_held v ss x h) in
    times-among x (held_in v (at_seat w (λ s. record s { held = s.held ++ items }) ss)) (omega (arith, a, e))

held-after_fewer : (x v w : ℕ) (items : List ℕ) (ss : List Seat) → among x items ≡ false → among x (held_in v ss) ≡ true → among x (held_in v (at_seat w (λ s. record s { held = without items s.held }) ss)) ≡ true
held-after_fewer x v w items ss n h =
    let a = among-times x (held_in v ss) h in
    let e : times x (held_in v (at_seat w (λ s. record s { held = without items s.held }) ss)) ≡ times x (held_in v ss) = held-fewer x v w items ss ∙ no-part (v == w) (among x items) (times x (held_in v ss)) n in
    times-among x (held_in v (at_seat w (λ s. record s { held = without items s.held }) ss)) (omega (arith, a, e))
  where
    no-part : (a b : Bool) (k : ℕ) → b ≡ false → (if a && b then 0 else k) ≡ k
    no-part true b k n = rw n
    no-part false b k n = refl

held-after_left : (x v w : ℕ) (ss : List Seat) → among x (held_in w ss) ≡ false → among x (held_in v ss) ≡ true → among x (held_in v (without_seat w ss)) ≡ true
held-after_left x v w ss n h = elim (cases_of (v == w)) [
  | inl e ↦ (let same : v ≡ w = grind (arith, nat_tests, e) in absurd (differ (sym n ∙ ap (λ (u : ℕ). among x (held_in u ss)) (sym same) ∙ h)))
  | inr e ↦ ap (λ (xs : List ℕ). among x xs) (held-left v w ss e) ∙ h
]

-- what leaves the item where it is
pub record Leaves (t u : Table) (x : ℕ) : Type 0 where
  pool : among x t.pool ≡ true → among x u.pool ≡ true
  held : (w : ℕ) → among x (held_in w t.rota) ≡ true → among x (held_in w u.rota) ≡ true
  reported : among x t.reported ≡ true → among x u.reported ≡ true
  none : times x (all_items u) ≡ times x (all_items t)

stands-left : (t u : Table) (x : ℕ) (p : Option Place) → Leaves t u x → StandsAt t x p → StandsAt u x p
stands-left t u x None k h = k.none ∙ h
stands-left t u x (Some InPool) k h = k.pool h
stands-left t u x (Some (HeldBy w)) k h = k.held w h
stands-left t u x (Some Reported) k h = k.reported h

-- the item is put where the test says so, and else stays
by_test : (t u : Table) (x : ℕ) (b : Bool) (q : Place) (p : Option Place) → (b ≡ true → StandsAt u x (Some q)) → (b ≡ false → Leaves t u x) → StandsAt t x p
    → StandsAt u x (or_before (if b then Some q else None) p)
by_test t u x true q p a b h = a refl
by_test t u x false q p a b h = stands-left t u x p (b refl) h

-- each item stands as often as before, where the share is not new
same-times : (s t : State) (x : ℕ) → Placed s → Placed t → t.books.shared ≡ s.books.shared → total t.plan ≡ total s.plan → times x (all_items t.books.table) ≡ times x (all_items s.books.table)
same-times s t x k l a b = l.whole x ∙ ap (λ (c : Bool). due_times x c (total t.plan)) a ∙ ap (λ (n : ℕ). due_times x s.books.shared n) b ∙ sym (k.whole x)

-- items are given to a worker

held-of_more : (x w : ℕ) (items : List ℕ) (ss : List Seat) → has_seat w ss ≡ true → among x items ≡ true → among x (held_in w (at_seat w (λ s. record s { held = s.held ++ items }) ss)) ≡ true
held-of_more x w items ss r h =
    let a = among-times x items h in
    let same : (w == w) ≡ true = grind (arith, nat_tests) in
    let e : times x (held_in w (at_seat w (λ s. record s { held = s.held ++ items }) ss)) ≡ times x (held_in w ss) + times x items =
    held-more x w w items ss r ∙ ap (λ (b : Bool). times x (held_in w ss) + (if b then times x items else 0)) same in
    times-among x (held_in w (at_seat w (λ s. record s { held = s.held ++ items }) ss)) (omega (arith, a, e))

stands-assigned : (t : Table) (x w : ℕ) (items : List ℕ) (p : Option Place) → in_rota w t ≡ true → times x (all_items (assigned w items t)) ≡ times x (all_items t) → StandsAt t x p
    → StandsAt (assigned w items t) x (or_before (if among x items then Some (HeldBy w) else None) p)
stands-assigned t x w items p r e h =
    by_test t (assigned w items t) x (among x items) (HeldBy w) p (λ a. held-of_more x w items t.rota r a)
    (λ n. record { pool = among-without x items t.pool n; held = λ v. held-after_more x v w items t.rota; reported = λ k. k; none = e }) h

-- a test ends

stands-completed : (t : Table) (x w : ℕ) (b : Bool) (i j : ℕ) (p : Option Place) → times x (all_items (completed_first w (if b then i ∷ [] else j ∷ []) t)) ≡ times x (all_items t) → StandsAt t x p
    → StandsAt (completed_first w (if b then i ∷ [] else j ∷ []) t) x (or_before (if among x (if b then i ∷ [] else j ∷ []) then Some Reported else None) p)
stands-completed t x w true i j p e h =
    by_test t (completed_first w (i ∷ []) t) x (among x (i ∷ [])) Reported p (λ a. among-last x t.reported (i ∷ []) a)
    (λ n. record { pool = λ k. k; held = λ v. held-after_fewer x v w (i ∷ []) t.rota n; reported = among-more x t.reported (i ∷ []); none = e }) h
stands-completed t x w false i j p e h =
    by_test t (completed_first w (j ∷ []) t) x (among x (j ∷ [])) Reported p (λ a. among-last x t.reported (j ∷ []) a)
    (λ n. record { pool = λ k. k; held = λ v. held-after_fewer x v w (j ∷ []) t.rota n; reported = among-more x t.reported (j ∷ []); none = e }) h

-- items come back

stands-back : (t : Table) (x w : ℕ) (items : List ℕ) (p : Option Place) → times x (all_items (given_back w items t)) ≡ times x (all_items t) → StandsAt t x p
    → StandsAt (given_back w items t) x (or_before (if among x items then Some InPool else None) p)
stands-back t x w items p e h =
    by_test t (given_back w items t) x (among x items) InPool p (λ a. among-last x t.pool items a)
    (λ n. record { pool = among-more x t.pool items; held = λ v. held-after_fewer x v w items t.rota n; reported = λ k. k; none = e }) h

-- a worker goes

not-held : (x : ℕ) (xs : List ℕ) → among x (take 1 xs) ≡ false → among x (drop 1 xs) ≡ false → among x xs ≡ false
not-held x xs a b = elim (cases_of (among x xs)) [
  | inl h ↦
      (let one = among-times x xs h in
      let cut = times-cut x xs in
      let none_first = not-among x (take 1 xs) a in
      let none_rest = not-among x (drop 1 xs) b in
      absurd (omega (arith, one, cut, none_first, none_rest)))
  | inr h ↦ h
]
  where
    not-among : (y : ℕ) (ys : List ℕ) → among y ys ≡ false → times y ys ≡ 0
    not-among y [] h = refl
    not-among y (z ∷ zs) h = grind (arith, nat_tests, not-among y zs)

leaves-died : (t : Table) (x w : ℕ) (retry : Bool) → among x (held w t) ≡ false → times x (all_items (died w retry t)) ≡ times x (all_items t) → Leaves t (died w retry t) x
leaves-died t x w retry n e = record {
  pool = λ k. among-last x (retried_item retry (held w t)) (t.pool ++ drop 1 (held w t)) (among-more x t.pool (drop 1 (held w t)) k);
  held = λ v. held-after_left x v w t.rota n;
  reported = among-more x t.reported (crash_item retry (held w t));
  none = e;
}

-- the head comes to the pool where it is tried again, else it is reported
stands-head : (t : Table) (x w : ℕ) (retry : Bool) → among x (take 1 (held w t)) ≡ true → StandsAt (died w retry t) x (Some (if retry then InPool else Reported))
stands-head t x w true a = among-more x (take 1 (held w t)) (t.pool ++ drop 1 (held w t)) a
stands-head t x w false a = among-last x t.reported (take 1 (held w t)) a

stands-died : (t : Table) (x w : ℕ) (retry : Bool) (p : Option Place) → times x (all_items (died w retry t)) ≡ times x (all_items t) → StandsAt t x p
    → StandsAt (died w retry t) x
    (or_before (if among x (take 1 (held w t)) then Some (if retry then InPool else Reported) else (if among x (drop 1 (held w t)) then Some InPool else None)) p)
stands-died t x w retry p e h = by (among x (take 1 (held w t))) refl
  where
    rest : (c : Bool) → among x (take 1 (held w t)) ≡ false → among x (drop 1 (held w t)) ≡ c → StandsAt (died w retry t) x (or_before (if c then Some InPool else None) p)
    rest true a b = among-last x (retried_item retry (held w t)) (t.pool ++ drop 1 (held w t)) (among-last x t.pool (drop 1 (held w t)) b)
    rest false a b = stands-left t (died w retry t) x p (leaves-died t x w retry (not-held x (held w t) a b) e) h

    by : (c : Bool) → among x (take 1 (held w t)) ≡ c
        → StandsAt (died w retry t) x (or_before (if c then Some (if retry then InPool else Reported) else (if among x (drop 1 (held w t)) then Some InPool else None)) p)
    by true a = stands-head t x w retry a
    by false a = rest (among x (drop 1 (held w t))) a refl

none-in_none : (x : ℕ) (xs : List ℕ) → xs ≡ [] → among x xs ≡ false
none-in_none x xs h = ap (λ (ys : List ℕ). among x ys) h

leaves-gone : (t : Table) (x w : ℕ) → held w t ≡ [] → times x (all_items (left_rota w t)) ≡ times x (all_items t) → Leaves t (left_rota w t) x
leaves-gone t x w n e = record {
  pool = λ k. k;
  held = λ v. held-after_left x v w t.rota (none-in_none x (held w t) n);
  reported = λ k. k;
  none = e;
}

-- a worker collects

no-share : (b c : Bool) (p : Option Place) → or_before (if (not b && b) && c then Some InPool else None) p ≡ p
no-share true c p = refl
no-share false c p = refl

leaves-joined : (t : Table) (x w : ℕ) → Leaves t (joined w t) x
leaves-joined t x w = record {
  pool = λ k. k;
  held = λ v h. ap (λ (xs : List ℕ). among x xs) (held-joined v t.rota (record { worker = w; held = []; shut = false }) (seat-of_held v t.rota x h)) ∙ h;
  reported = λ k. k;
  none = joined-keeps x w t;
}

-- before the share an item stands nowhere
nowhere-by : (t : Table) (x : ℕ) (p : Option Place) → times x (all_items t) ≡ 0 → StandsAt t x p → p ≡ None
nowhere-by t x None z h = refl
nowhere-by t x (Some InPool) z h = absurd (let a = among-times x t.pool h in let b = times-table x t in omega (arith, a, b, z))
nowhere-by t x (Some (HeldBy w)) z h =
    absurd (let a = among-times x (held_in w t.rota) h in let b = times-table x t in let c = held-within x w t.rota in omega (arith, a, b, c, z))
nowhere-by t x (Some Reported) z h = absurd (let a = among-times x t.reported h in let b = times-table x t in omega (arith, a, b, z))

-- with the share each item comes into the pool
stands-shared : (t : Table) (x w n : ℕ) (p : Option Place) → times x (all_items t) ≡ 0 → StandsAt t x p
    → StandsAt (record (joined w t) { pool = range_with_len 0 n }) x (or_before (if nat_lt x n then Some InPool else None) p)
stands-shared t x w n p z h = by (nat_lt x n) refl
  where
    by : (c : Bool) → nat_lt x n ≡ c → StandsAt (record (joined w t) { pool = range_with_len 0 n }) x (or_before (if c then Some InPool else None) p)
    by true e = among-in_range x 0 n (omega arith) (grind (arith, nat_tests, e))
    by false e =
        let far : n ≤ x = grind (arith, nat_tests, e) in
        let a = joined-keeps x w t in
        let b = times-table x (joined w t) in
        let c = times-table x (record (joined w t) { pool = range_with_len 0 n }) in
        let d = times-after_range x 0 n (omega (arith, far)) in
        let none : times x (all_items (record (joined w t) { pool = range_with_len 0 n })) ≡ 0 = omega (arith, a, b, c, d, z) in
        subst (λ (q : Option Place). StandsAt (record (joined w t) { pool = range_with_len 0 n }) x q) (sym (nowhere-by t x p z h)) none

stands-collected : (s : State) (w : ℕ) (g : Ids) (x : ℕ) (p : Option Place) → Placed s → StandsAt s.books.table x p
    → StandsAt (after_effect s (Collected w g)).books.table x (or_before (puts s (Collected w g) x) p)
stands-collected s w g x p k h =
    let now = in_books (λ b. marked (made_collected w) (with_list w g b)) s in
    let stop = unequal w g (listed w s.books) in
    let P = λ (u : State). StandsAt u.books.table x (or_before (if (not s.books.shared && u.books.shared) && nat_lt x (total u.plan) then Some InPool else None) p) in
    let stay : StandsAt s.books.table x (or_before (if (not s.books.shared && s.books.shared) && nat_lt x (total s.plan) then Some InPool else None) p) =
    subst (λ (q : Option Place). StandsAt s.books.table x q) (sym (no-share s.books.shared (nat_lt x (total s.plan)) p)) h in
    let come : StandsAt (joined w s.books.table) x (or_before (if (not s.books.shared && s.books.shared) && nat_lt x (total s.plan) then Some InPool else None) p) =
    stands-left s.books.table (joined w s.books.table) x (or_before (if (not s.books.shared && s.books.shared) && nat_lt x (total s.plan) then Some InPool else None) p) (leaves-joined s.books.table x w) stay in
    let j = in_books (λ b. record b { table = joined w b.table }) now in
    collecting-keeps P now w stop stay stay come
    (λ n.
    (let z : times x (all_items s.books.table) ≡ 0 = k.whole x ∙ ap (λ (b : Bool). due_times x b (total s.plan)) n in
    let m = total (shared_now j).plan in
    let put : StandsAt (shared_now j).books.table x (or_before (if nat_lt x m then Some InPool else None) p) = stands-shared s.books.table x w m p z h in
    subst (λ (b : Bool). StandsAt (shared_now j).books.table x (or_before (if (not b && true) && nat_lt x m then Some InPool else None) p)) (sym n) put))

-- each entry

stands-said : (s : State) (e : Entry) (x : ℕ) (p : Option Place) → Tidy s → may_follow s e ≡ true → StandsAt s.books.table x p → StandsAt (after_effect s e).books.table x (or_before (puts s e x) p)
stands-said s (Ready w) x p d h k = k
stands-said s (Collected w g) x p d h k = stands-collected s w g x p d.placed k
stands-said s (Done w i u m o) x p d h k =
    let t = after_effect s (Done w i u m o) in
    stands-completed s.books.table x w (is_each s.plan.mode) (base (slot_of w s.books) s.plan + i) i p
    (same-times s t x d.placed (tidy-input s (Done w i u m o) h d).placed refl refl) k
stands-said s (Back w is) x p d h k =
    stands-back s.books.table x w (items_named (slot_of w s.books) is s.plan) p (same-times s (after_effect s (Back w is)) x d.placed (tidy-input s (Back w is) h d).placed refl refl) k
stands-said s (Finished w) x p d h k =
    let a = split-and (is_active w s.books && is_shut w s.books && has_collected w s.books) (length (held w s.books.table) == 0) h in
    stands-left s.books.table (left_rota w s.books.table) x p
    (leaves-gone s.books.table x w (empty_of (held w s.books.table) a.1) (same-times s (after_effect s (Finished w)) x d.placed (tidy-input s (Finished w) h d).placed refl refl)) k
stands-said s (Refused w t) x p d h k = k
stands-said s (Down w c o) x p d h k = stands-died s.books.table x w (is_retry w s.books) p (same-times s (after_effect s (Down w c o)) x d.placed (tidy-input s (Down w c o) h d).placed refl refl) k
stands-said s (NotStarted w) x p d h k =
    stands-left s.books.table (died w (is_retry w s.books) s.books.table) x p
    (leaves-died s.books.table x w (is_retry w s.books) (none-in_none x (held w s.books.table) (none-held s w d.placed h)) (same-times s (after_effect s (NotStarted w)) x d.placed (tidy-input s (NotStarted w) h d).placed refl refl)) k
stands-said s (Start w slot) x p d h k = absurd (differ h)
stands-said s (Run w is) x p d h k = absurd (differ h)
stands-said s (RunAll w) x p d h k = absurd (differ h)
stands-said s (Steal w is) x p d h k = absurd (differ h)
stands-said s (Shutdown w) x p d h k = absurd (differ h)
stands-said s (Kill w) x p d h k = absurd (differ h)
stands-said s (Over how) x p d h k = absurd (differ h)

-- who is given items is in the rota

rota-run : (s : State) (w : ℕ) (is : List ℕ) → is_orderly s (Run w is) ≡ true → in_rota w s.books.table ≡ true
rota-run s w is h =
    let slot = slot_of w s.books in
    let items = items_named slot is s.plan in
    let a = split-and (may_run w s && not_empty is && all_distinct items && all_among items s.books.table.pool) (if is_each s.plan.mode then all_among items (slot_items slot s.plan) else true) h in
    let b = split-and (may_run w s && not_empty is && all_distinct items) (all_among items s.books.table.pool) a.0 in
    let c = split-and (may_run w s && not_empty is) (all_distinct items) b.0 in
    let d = split-and (may_run w s) (not_empty is) c.0 in
    (split-and (in_rota w s.books.table) (not (is_shut w s.books)) d.0).0

rota-run_all : (s : State) (w : ℕ) → is_orderly s (RunAll w) ≡ true → in_rota w s.books.table ≡ true
rota-run_all s w h =
    let items = slot_items (slot_of w s.books) s.plan in
    let a = split-and (is_each s.plan.mode && s.books.shared && may_run w s) (all_among items s.books.table.pool) h in
    let b = split-and (is_each s.plan.mode && s.books.shared) (may_run w s) a.0 in
    (split-and (in_rota w s.books.table) (not (is_shut w s.books)) b.1).0

stands-told : (s : State) (e : Entry) (x : ℕ) (p : Option Place) → Placed s → is_orderly s e ≡ true → StandsAt s.books.table x p → StandsAt (after_effect s e).books.table x (or_before (puts s e x) p)
stands-told s (Start w slot) x p k h a = a
stands-told s (Run w is) x p k h a =
    stands-assigned s.books.table x w (items_named (slot_of w s.books) is s.plan) p (rota-run s w is h) (same-times s (after_effect s (Run w is)) x k (placed-output s (Run w is) h k) refl refl) a
stands-told s (RunAll w) x p k h a =
    stands-assigned s.books.table x w (slot_items (slot_of w s.books) s.plan) p (rota-run_all s w h) (same-times s (after_effect s (RunAll w)) x k (placed-output s (RunAll w) h k) refl refl) a
stands-told s (Steal w is) x p k h a = a
stands-told s (Shutdown w) x p k h a =
    stands-left s.books.table (after_effect s (Shutdown w)).books.table x p
    (record {
      pool = λ q. q;
      held = λ v q. ap (λ (xs : List ℕ). among x xs) (held-shut v w s.books.table.rota) ∙ q;
      reported = λ q. q;
      none = same-times s (after_effect s (Shutdown w)) x k (placed-output s (Shutdown w) h k) refl refl;
    }) a
stands-told s (Kill w) x p k h a = a
stands-told s (Over how) x p k h a = a
stands-told s (Ready w) x p k h a = absurd (differ h)
stands-told s (Collected w g) x p k h a = absurd (differ h)
stands-told s (Done w i u m o) x p k h a = absurd (differ h)
stands-told s (Back w is) x p k h a = absurd (differ h)
stands-told s (Finished w) x p k h a = absurd (differ h)
stands-told s (Refused w t) x p k h a = absurd (differ h)
stands-told s (Down w c o) x p k h a = absurd (differ h)
stands-told s (NotStarted w) x p k h a = absurd (differ h)

-- one entry more

put-more : (s : State) (es : List Entry) (e : Entry) (x : ℕ) (p : Option Place) → put_last s (es ++ e ∷ []) x p ≡ or_before (puts (reached (after_entries s es) e) e x) (put_last s es x p)
put-more s [] e x p = refl
put-more s (y ∷ es) e x p = put-more (after_entry s y) es e x (or_before (puts (reached s y) y x) p)

place-more : (settings : Settings) (es : List Entry) (e : Entry) (s : State) (x : ℕ) → s ≡ reached (after_entries (no_one settings) es) e
    → place_by settings (es ++ e ∷ []) x ≡ or_before (puts s e x) (place_by settings es x)
place-more settings es e s x at = put-more (no_one settings) es e x None ∙ ap (λ (u : State). or_before (puts u e x) (place_by settings es x)) (sym at)

-- each item stands where the entries put it
abbrev pub Standing : Settings → State → List Entry → Type 0
Standing settings s es = (x : ℕ) → StandsAt s.books.table x (place_by settings es x)

pub keeps_standing : (settings : Settings) → Keeps settings (Standing settings)
keeps_standing settings = record {
  said = λ s es e d h at k x. subst (λ (q : Option Place). StandsAt (after_effect s e).books.table x q) (sym (place-more settings es e s x at)) (stands-said s e x (place_by settings es x) d h (k x));
  told = λ s es e p h at k x. subst (λ (q : Option Place). StandsAt (after_effect s e).books.table x q) (sym (place-more settings es e s x at)) (stands-told s e x (place_by settings es x) p h (k x));
  settled = λ s es k. k;
}

pub standing-none : (settings : Settings) → Standing settings (no_one settings) []
standing-none settings = λ x. refl
