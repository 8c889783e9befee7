-- What mode each keeps beside its rule, and how its calls leave workers and pool.
use Rattle.std.proofs.Common.{◌≡◌, ℕ, suc, ◌+◌, ◌-◌, ◌≤◌, ◌<◌, List, [], ◌∷◌, ◌++◌, drop, length, map, take, Bool, true, false, not, ◌&&◌, ◌||◌, refl, ap, sym, ◌∙◌, subst, arith, inl, inr}
use Rattle.std.specs.Prelude.{◌==◌, ◌⊎◌, nat_le, nat_lt, sum, slice_index, Some, None}
use Rattle.std.specs.List.{list_any}
use Rattle.std.proofs.lemmas.Bool.Decides.{nat_tests}
use Rattle.std.proofs.lemmas.List.{length-map}
use Rattle.xd_edge.specs.declared.mode.ModeKind.{ModeKind}
use Rattle.xd_edge.specs.declared.mode.ModeKind.TheVariants.{Each}
use Rattle.xd_journal.specs.declared.settings.Settings.{Settings}
use Rattle.xd_journal.specs.declared.entry.Entry.{Entry}
use Rattle.xd_journal.specs.declared.entry.Entry.TheVariants.{NotStarted, Start, Run, RunAll, Shutdown}
use Rattle.xd_run.specs.declared.member.Member.{Member}
use Rattle.xd_run.specs.declared.seat.Seat.{Seat}
use Rattle.xd_run.specs.Numbers.{among, without}
use Rattle.xd_run.specs.Table.{Table, assigned, held, retried_item, seat_shut, shut_down, workers_of}
use Rattle.xd_run.specs.Plan.{Plan, base, is_each, slot_items, total}
use Rattle.xd_run.specs.Turn.{Turn, shut}
use Rattle.xd_run.specs.Each.{give_all, give_of_slot, give_slots, joins, remainder, each_share}
use Rattle.xd_run.specs.Modes.{ModeCall, each_turn, turned}
use Rattle.xd_run.specs.Modes.ModeCall.{Share, Joined, TestDone, TestsBack, Died}
use Rattle.xd_run.specs.Workers.{is_active, made_gone, slot_in, slot_of, started}
use Rattle.xd_run.specs.Retry.{is_retry}
use Rattle.xd_run.specs.Sharing.{State}
use Rattle.xd_run.specs.State.{after_entries, after_effect, no_one}
use Rattle.xd_run.specs.Outputs.{acts_of, turn_of}
use Rattle.xd_run_laws.proofs.Logic.{cases_of, clash, differ, in_both, not_true, or-left, or-right, or-unset, split-and, split-or}
use Rattle.xd_run_laws.proofs.Counts.{among-filter, among-in_range, among-times, bounds-of_range, times-among, times-append}
use Rattle.xd_run_laws.proofs.Rota.{has_seat, seat-among, seat-change, told-change, told-shut}
use Rattle.xd_run_laws.proofs.Members.{has, has-cleared, has-member, has-more, has-same, is_member}
use Rattle.xd_run_laws.proofs.MembersFit.{slot-marked, slot-new, slot-old}
use Rattle.xd_run_laws.proofs.Places.{times-apart}
use Rattle.xd_run_laws.proofs.Turns.{InRota, Tidy}
use Rattle.xd_run_laws.proofs.Rule.{CallFits, IsFresh, Rule}
use Rattle.xd_run_laws.proofs.InMode.{InMode}
use Rattle.xd_run.proofs.Parts.{sum-more}
use Rattle.xd_run_laws.proofs.EachTurns.{base-each, pool-shut, rota-apart, rota-distinct}
use Rattle.xd_run_laws.proofs.EachRule.{each_rule}
use Rattle.xd_run_laws.proofs.Pigeons.{all-taken, among-image, image-once, none-among}
use Rattle.xd_run_laws.proofs.Busy.{told-kept}
use Rattle.xd_run_laws.proofs.Later.{plain-acts, tells, untold-outputs}
use Rattle.xd_run_laws.proofs.Serving.{Beside, Both, NoSteal, no_steal-input, rule-both}
use Rattle.xd_run_laws.proofs.Slots.{OwnSlot, own-input, own-none, own-outputs, own-shutdown, own-start}
use Rattle.xd_run_laws.proofs.Owing.{Awaited, Awaits, awaits-by}
use Rattle.xd_run_laws.proofs.Keeping.{Expects, Keeper, OthersTold, buried_acts, later-call, new-untold}

-- the plan stays

plan-shut : (w : ℕ) (t : Turn) → (shut w t).plan ≡ t.plan
plan-shut w t = in_both (λ (u : Turn). u.plan ≡ t.plan) (seat_shut w t.table) t (record t { table = shut_down w t.table; acts = t.acts ++ Shutdown w ∷ [] }) (λ h. refl) (λ h. refl)

-- the worker's slot is given to it, and nothing is said of a Shutdown yet
abbrev all_given : ℕ → ℕ → Turn → Turn
all_given w slot t = record t { table = assigned w (slot_items slot t.plan) t.table; acts = t.acts ++ RunAll w ∷ [] }

plan-give_all : (w slot : ℕ) (t : Turn) → (give_all w slot t).plan ≡ t.plan
plan-give_all w slot t = plan-shut w (all_given w slot t)

plan-give_slots : (ws slots : List ℕ) (t : Turn) → (give_slots ws slots t).plan ≡ t.plan
plan-give_slots [] slots t = refl
plan-give_slots (w ∷ ws) [] t = refl
plan-give_slots (w ∷ ws) (k ∷ ks) t = plan-give_slots ws ks (give_all w k t) ∙ plan-give_all w k t

plan-of_slot : (w slot : ℕ) (items : List ℕ) (t : Turn) → (give_of_slot w slot items t).plan ≡ t.plan
plan-of_slot w slot [] t = refl
plan-of_slot w slot (i ∷ is) t = refl

plan-each : (c : ModeCall) (t : Turn) → (each_turn c t).plan ≡ t.plan
plan-each (Share slots) t = plan-give_slots (workers_of t.table) slots t
plan-each (Joined w slot) t = plan-shut w (give_of_slot w slot (remainder slot t) t) ∙ plan-of_slot w slot (remainder slot t) t
plan-each (TestDone w ms) t = refl
plan-each TestsBack t = refl
plan-each Died t = refl

-- who is told

shut-told : (w : ℕ) (t : Turn) → has_seat w t.table.rota ≡ true → seat_shut w (shut w t).table ≡ true
shut-told w t h = in_both (λ (u : Turn). seat_shut w u.table ≡ true) (seat_shut w t.table) t (record t { table = shut_down w t.table; acts = t.acts ++ Shutdown w ∷ [] }) (λ k. k)
    (λ k. told-shut w w t.table.rota ∙ grind (arith, nat_tests, h))

still-told : (v w : ℕ) (t : Turn) → seat_shut v t.table ≡ true → seat_shut v (shut w t).table ≡ true
still-told v w t h = in_both (λ (u : Turn). seat_shut v u.table ≡ true) (seat_shut w t.table) t (record t { table = shut_down w t.table; acts = t.acts ++ Shutdown w ∷ [] }) (λ k. h) (λ k. told-kept v w t.table.rota h)

still-seated : (v w : ℕ) (t : Turn) → has_seat v (shut w t).table.rota ≡ has_seat v t.table.rota
still-seated v w t = in_both (λ (u : Turn). has_seat v u.table.rota ≡ has_seat v t.table.rota) (seat_shut w t.table) t (record t { table = shut_down w t.table; acts = t.acts ++ Shutdown w ∷ [] }) (λ k. refl)
    (λ k. seat-change v w (λ s. record s { shut = true }) t.table.rota (λ s. refl))

told-give_all : (w slot : ℕ) (t : Turn) → has_seat w t.table.rota ≡ true → seat_shut w (give_all w slot t).table ≡ true
told-give_all w slot t h = shut-told w (all_given w slot t) (seat-change w w (λ s. record s { held = s.held ++ slot_items slot t.plan }) t.table.rota (λ s. refl) ∙ h)

still-give_all : (v w slot : ℕ) (t : Turn) → seat_shut v t.table ≡ true → seat_shut v (give_all w slot t).table ≡ true
still-give_all v w slot t h = still-told v w (all_given w slot t) (told-change v w (λ s. record s { held = s.held ++ slot_items slot t.plan }) t.table.rota (λ s. refl) (λ s. refl) ∙ h)

seated-give_all : (v w slot : ℕ) (t : Turn) → has_seat v (give_all w slot t).table.rota ≡ has_seat v t.table.rota
seated-give_all v w slot t = still-seated v w (all_given w slot t) ∙ seat-change v w (λ s. record s { held = s.held ++ slot_items slot t.plan }) t.table.rota (λ s. refl)

still-give_slots : (v : ℕ) (ws slots : List ℕ) (t : Turn) → seat_shut v t.table ≡ true → seat_shut v (give_slots ws slots t).table ≡ true
still-give_slots v [] slots t h = h
still-give_slots v (w ∷ ws) [] t h = h
still-give_slots v (w ∷ ws) (k ∷ ks) t h = still-give_slots v ws ks (give_all w k t) (still-give_all v w k t h)

told-give_slots : (f : ℕ → ℕ) (v : ℕ) (ws : List ℕ) (t : Turn) → ((u : ℕ) → among u ws ≡ true → has_seat u t.table.rota ≡ true) → among v ws ≡ true → seat_shut v (give_slots ws (map f ws) t).table ≡ true
told-give_slots f v [] t seats a = absurd (differ a)
told-give_slots f v (w ∷ ws) t seats a = elim (split-or (v == w) (among v ws) a) [
  | inl k ↦
      (let same : w ≡ v = grind (arith, nat_tests, k) in
      let here = told-give_all w (f w) t (seats w (grind (arith, nat_tests))) in
      still-give_slots v ws (map f ws) (give_all w (f w) t) (subst (λ (u : ℕ). seat_shut u (give_all w (f w) t).table ≡ true) same here))
  | inr k ↦ told-give_slots f v ws (give_all w (f w) t) (λ u b. seated-give_all u w (f w) t ∙ seats u (or-right (u == w) (among u ws) b)) k
]

told-of_slot : (v w slot : ℕ) (items : List ℕ) (t : Turn) → seat_shut v (give_of_slot w slot items t).table ≡ seat_shut v t.table
told-of_slot v w slot [] t = refl
told-of_slot v w slot (i ∷ is) t = told-change v w (λ s. record s { held = s.held ++ (i ∷ is) }) t.table.rota (λ s. refl) (λ s. refl)

seated-of_slot : (v w slot : ℕ) (items : List ℕ) (t : Turn) → has_seat v (give_of_slot w slot items t).table.rota ≡ has_seat v t.table.rota
seated-of_slot v w slot [] t = refl
seated-of_slot v w slot (i ∷ is) t = seat-change v w (λ s. record s { held = s.held ++ (i ∷ is) }) t.table.rota (λ s. refl)

-- after a call everyone in the rota is told
all-told : (s : State) (c : ModeCall) → is_each s.plan.mode ≡ true → CallFits s c → OthersTold s c → (v : ℕ) → InRota s v → seat_shut v (each_turn c (turn_of s)).table ≡ true
all-told s (Share slots) e f o v a =
    let ws = workers_of s.books.table in
    subst (λ (ks : List ℕ). seat_shut v (give_slots ws ks (turn_of s)).table ≡ true) (sym f.slots_are)
    (told-give_slots (λ w. slot_of w s.books) v ws (turn_of s) (λ u b. seat-among u s.books.table.rota ∙ b) a)
all-told s (Joined w slot) e f o v a =
    let t = turn_of s in
    let u = give_of_slot w slot (remainder slot t) t in
    elim (cases_of (v == w)) [
      | inl k ↦
          (let same : w ≡ v = grind (arith, nat_tests, k) in
          subst (λ (x : ℕ). seat_shut x (shut w u).table ≡ true) same (shut-told w u (seated-of_slot w w slot (remainder slot t) t ∙ seat-among w s.books.table.rota ∙ f.rota)))
      | inr k ↦ still-told v w u (told-of_slot v w slot (remainder slot t) t ∙ o e v a k)
    ]
all-told s (TestDone w ms) e f o v a = o e v a refl
all-told s TestsBack e f o v a = o e v a refl
all-told s Died e f o v a = o e v a refl

-- what is left in the pool

pool-give_slots : (f : ℕ → ℕ) (y : ℕ) (ws : List ℕ) (t : Turn) (p : Plan) → t.plan ≡ p → among y (give_slots ws (map f ws) t).table.pool ≡ true
    → (among y t.table.pool ≡ true) × ((v : ℕ) → among v ws ≡ true → among y (slot_items (f v) p) ≡ false)
pool-give_slots f y [] t p e h = (h, λ v a. absurd (differ a))
pool-give_slots f y (w ∷ ws) t p e h =
    let rest = pool-give_slots f y ws (give_all w (f w) t) p (plan-give_all w (f w) t ∙ e) h in
    let items = slot_items (f w) t.plan in
    let left : among y (without items t.table.pool) ≡ true = ap (λ (xs : List ℕ). among y xs) (sym (pool-shut w (all_given w (f w) t))) ∙ rest.0 in
    let here = split-and (not (among y items)) (among y t.table.pool) (sym (among-filter y (λ z. not (among z items)) t.table.pool) ∙ left) in
    let none : among y (slot_items (f w) p) ≡ false = ap (λ (q : Plan). among y (slot_items (f w) q)) (sym e) ∙ not_true (among y items) here.0 in (
      here.1,
      λ v a. elim (split-or (v == w) (among v ws) a) [
        | inl k ↦ (let same : w ≡ v = grind (arith, nat_tests, k) in subst (λ (u : ℕ). among y (slot_items (f u) p) ≡ false) same none)
        | inr k ↦ rest.1 v k
      ],
    )

-- each item is of some slot
some-part : (y : ℕ) (sizes : List ℕ) → y < sum sizes → (k : ℕ) × (k < length sizes) × (sum (take k sizes) ≤ y) × (y < sum (take k sizes) + slice_index sizes k)
some-part y [] h = absurd (omega (arith, h))
some-part y (x ∷ xs) h = elim (cases_of (nat_lt y x)) [
  | inl k ↦ (let l : y < x = grind (arith, nat_tests, k) in let i : slice_index (x ∷ xs) 0 ≡ x = refl in (0, omega arith, omega arith, omega (arith, l, i)))
  | inr k ↦
      (let l : x ≤ y = grind (arith, nat_tests, k) in
      let all = sum-more x xs in
      let r = some-part (y - x) xs (omega (arith, h, l, all)) in
      let more = sum-more x (take (r.0) xs) in
      let i : slice_index (x ∷ xs) (suc (r.0)) ≡ slice_index xs (r.0) = refl in
      (suc (r.0), omega (arith, r.1), omega (arith, more, r.2, l), omega (arith, more, r.3, i, l)))
]

some-slot : (y : ℕ) (p : Plan) → is_each p.mode ≡ true → y < total p → (k : ℕ) × (k < length p.sizes) × (among y (slot_items k p) ≡ true)
some-slot y p e h =
    let r = some-part y p.sizes h in
    let first = base-each (r.0) p e in
    (r.0, r.1, among-in_range y (base (r.0) p) (slice_index p.sizes (r.0)) (omega (arith, first, r.2)) (omega (arith, first, r.3)))

-- all are handed out at the share, as each slot has its worker
none-left : (s : State) (slots : List ℕ) → is_each s.plan.mode ≡ true → Tidy s → IsFresh s slots → length s.books.table.rota ≡ s.books.settings.workers
    → (y : ℕ) → among y (each_share slots (turn_of s)).table.pool ≡ true → ⊥
none-left s slots e d f full y h =
    let ws = workers_of s.books.table in
    let slot : ℕ → ℕ = λ w. slot_of w s.books in
    let n = s.books.settings.workers in
    let given : among y (give_slots ws (map slot ws) (turn_of s)).table.pool ≡ true = subst (λ (ks : List ℕ). among y (give_slots ws ks (turn_of s)).table.pool ≡ true) f.slots_are h in
    let left = pool-give_slots slot y ws (turn_of s) s.plan refl given in
    let low = (bounds-of_range y 0 (total s.plan) (ap (λ (xs : List ℕ). among y xs) (sym f.pool) ∙ left.0)).1 in
    let part = some-slot y s.plan e (omega (arith, low)) in
    let below : (x : ℕ) → among x (map slot ws) ≡ true → x < n = λ x a.
    (let one = among-image slot x ws a in
    let active = d.placed.fits.active (one.0) (seat-among (one.0) s.books.table.rota ∙ one.1) in
    subst (λ (z : ℕ). z < n) one.2 (d.members.below (one.0) (has-member (one.0) (λ m. m.active) s.books.members active))) in
    let many : length (map slot ws) ≡ n = length-map ws slot ∙ length-map s.books.table.rota (λ (x : Seat). x.worker) ∙ full in
    let here = all-taken (part.0) n (map slot ws) (image-once slot ws (rota-distinct s d) (λ v u a b q. rota-apart s d v u a b q)) below many (omega (arith, part.1, f.sizes e)) in
    let one = among-image slot (part.0) ws here in
    no-other (slot (one.0)) (part.0) one.2 (left.1 (one.0) one.1) part.2
  where
    no-other : (i k : ℕ) → i ≡ k → among y (slot_items i s.plan) ≡ false → among y (slot_items k s.plan) ≡ true → ⊥
    no-other i k same away there = clash (among y (slot_items k s.plan)) (ap (λ (j : ℕ). among y (slot_items j s.plan)) (sym same) ∙ away) there

-- whoever joins gets what is left of its slot
pool-joins : (y w slot : ℕ) (t : Turn) → among y (joins w slot t).table.pool ≡ true → (among y t.table.pool ≡ true) × (among y (slot_items slot t.plan) ≡ false)
pool-joins y w slot t h =
    let mine = slot_items slot t.plan in
    let left = by (remainder slot t) (ap (λ (xs : List ℕ). among y xs) (sym (pool-shut w (give_of_slot w slot (remainder slot t) t))) ∙ h) in
    let none : (among y mine && among y t.table.pool) ≡ false = sym (among-filter y (λ i. among i mine) t.table.pool) ∙ left.1 in
    (left.0, grind (arith, nat_tests, none, left.0))
  where
    by : (items : List ℕ) → among y (give_of_slot w slot items t).table.pool ≡ true → (among y t.table.pool ≡ true) × (among y items ≡ false)
    by [] k = (k, refl)
    by (i ∷ is) k =
        let p = split-and (not (among y (i ∷ is))) (among y t.table.pool) (sym (among-filter y (λ z. not (among z (i ∷ is))) t.table.pool) ∙ k) in
        (p.1, not_true (among y (i ∷ is)) p.0)

-- nobody else is told
tells-joins : (v w slot : ℕ) (t : Turn) → (w == v) ≡ false → t.acts ≡ [] → list_any (tells v) (joins w slot t).acts ≡ false
tells-joins v w slot t n none =
    let u = give_of_slot w slot (remainder slot t) t in
    in_both (λ (x : Turn). list_any (tells v) x.acts ≡ false) (seat_shut w u.table) u (record u { table = shut_down w u.table; acts = u.acts ++ Shutdown w ∷ [] })
    (λ h. first (remainder slot t)) (λ h. more u.acts (first (remainder slot t)))
  where
    first : (items : List ℕ) → list_any (tells v) (give_of_slot w slot items t).acts ≡ false
    first [] = ap (λ (es : List Entry). list_any (tells v) es) none
    first (i ∷ is) = ap (λ (es : List Entry). list_any (tells v) (es ++ Run w (map (λ item. item - base slot t.plan) (i ∷ is)) ∷ [])) none

    more : (es : List Entry) → list_any (tells v) es ≡ false → list_any (tells v) (es ++ Shutdown w ∷ []) ≡ false
    more [] h = rw n refl
    more (e ∷ es) h = by (tells v e) (list_any (tells v) es) h (more es)
      where
        by : (a b : Bool) → (a || b) ≡ false → (b ≡ false → list_any (tells v) (es ++ Shutdown w ∷ []) ≡ false) → (a || list_any (tells v) (es ++ Shutdown w ∷ [])) ≡ false
        by true b q g = absurd (differ (sym q))
        by false b q g = g q

-- mode each keeps what is needed

abbrev pub InEach : State → Type 0
InEach = Both (Both (InMode Each) NoSteal) OwnSlot

steal-each : (s : State) (c : ModeCall) → Tidy s → s.books.shared ≡ true → InMode Each s → CallFits s c → (after_entries s (acts_of c s)).plan.steal ≡ s.plan.steal
steal-each s c d h m f =
    ap (λ (p : Plan). p.steal) (each_rule.agrees s c d h m f).plan ∙ ap (λ (k : ModeKind). (turned k c (turn_of s)).plan.steal) m ∙ ap (λ (p : Plan). p.steal) (plan-each c (turn_of s))

each_no_steal : Beside (InMode Each) NoSteal
each_no_steal = record {
  input = λ s e h d x n. no_steal-input s e h n;
  start = λ s w slot n. n;
  shutdown = λ s w n. n;
  settled = λ s n. n;
  turns = λ s c d h x n f. steal-each s c d h x f ∙ n;
}

each_still : Rule (Both (InMode Each) NoSteal)
each_still = rule-both (InMode Each) NoSteal each_rule each_no_steal

each_own : Beside (Both (InMode Each) NoSteal) OwnSlot
each_own = record {
  input = λ s e h d x k. own-input s e h d.placed k;
  start = λ s w slot k. own-start s w slot k;
  shutdown = λ s w k. own-shutdown s w k;
  settled = λ s k. k;
  turns = λ s c d h x k f. own-outputs s (acts_of c s) (each_still.turns s c d h x f).fit.orderly d.placed k;
}

in_each_rule : Rule InEach
in_each_rule = rule-both (Both (InMode Each) NoSteal) OwnSlot each_still each_own

each-told : (s : State) (c : ModeCall) → InEach s → CallFits s c → OthersTold s c → (v : ℕ) → InRota s v → seat_shut v (turned s.plan.mode c (turn_of s)).table ≡ true
each-told s c x f o v a = subst (λ (k : ModeKind). seat_shut v (turned k c (turn_of s)).table ≡ true) (sym x.first.first) (all-told s c (ap is_each x.first.first) f o v a)

-- the outputs of a call that hands nothing out
none-said : (s : State) (c : ModeCall) → InEach s → (each_turn c (turn_of s)).acts ≡ [] → after_entries s (acts_of c s) ≡ s
none-said s c x e = ap (λ (k : ModeKind). after_entries s (turned k c (turn_of s)).acts) x.first.first ∙ ap (λ (es : List Entry). after_entries s es) e

table-each : (s : State) (c : ModeCall) → Tidy s → s.books.shared ≡ true → InEach s → CallFits s c → (after_entries s (acts_of c s)).books.table ≡ (each_turn c (turn_of s)).table
table-each s c d h x f = (in_each_rule.agrees s c d h x f).table ∙ ap (λ (k : ModeKind). (turned k c (turn_of s)).table) x.first.first

plan-following : (s : State) (c : ModeCall) → Tidy s → s.books.shared ≡ true → InEach s → CallFits s c → (after_entries s (acts_of c s)).plan ≡ s.plan
plan-following s c d h x f = (in_each_rule.agrees s c d h x f).plan ∙ ap (λ (k : ModeKind). (turned k c (turn_of s)).plan) x.first.first ∙ plan-each c (turn_of s)

joined-waits : (s : State) (w slot : ℕ) → Tidy s → s.books.shared ≡ true → InEach s → CallFits s (Joined w slot) → Awaited s → Awaited (after_entries s (acts_of (Joined w slot) s))
joined-waits s w slot d h x f o y a =
    let c = Joined w slot in
    let m = after_entries s (acts_of c s) in
    let later = later-call InEach in_each_rule s c d h x f in
    let left = pool-joins y w slot (turn_of s) (ap (λ (u : Table). among y u.pool) (sym (table-each s c d h x f)) ∙ a) in
    let one = o y left.0 in
    let mine = one.fits (ap is_each x.first.first) in
    let other : (w == one.who) ≡ false = elim (cases_of (w == one.who)) [
      | inl k ↦ (let same : one.who ≡ w = grind (arith, nat_tests, k) in
          absurd (differ (sym left.1 ∙ ap (λ (i : ℕ). among y (slot_items i s.plan)) f.slot_is ∙ ap (λ (u : ℕ). among y (slot_items (slot_of u s.books) s.plan)) (sym same) ∙ mine)))
      | inr k ↦ k
    ] in
    let silent : list_any (tells one.who) (acts_of c s) ≡ false =
    ap (λ (k : ModeKind). list_any (tells one.who) (turned k c (turn_of s)).acts) x.first.first ∙ tells-joins one.who w slot (turn_of s) other refl in
    record {
      who = one.who;
      active = later.active one.who ∙ one.active;
      untold = untold-outputs one.who s (acts_of c s) (in_each_rule.turns s c d h x f).fit.orderly (plain-acts c s) silent ∙ one.untold;
      fits = λ e. ap (λ (i : ℕ). among y (slot_items i m.plan)) (later.slots one.who) ∙ ap (λ (p : Plan). among y (slot_items (slot_of one.who s.books) p)) (plan-following s c d h x f) ∙ mine;
    }

each-waits : (s : State) (c : ModeCall) → Tidy s → s.books.shared ≡ true → InEach s → CallFits s c → Expects s c → Awaited (after_entries s (acts_of c s))
each-waits s (Share slots) d h x f o =
    λ y a. absurd (none-left s slots (ap is_each x.first.first) d f o.full y (ap (λ (u : Table). among y u.pool) (sym (table-each s (Share slots) d h x f)) ∙ a))
each-waits s (Joined w slot) d h x f o = joined-waits s w slot d h x f o
each-waits s (TestDone w ms) d h x f o = subst Awaited (sym (none-said s (TestDone w ms) x refl)) o
each-waits s TestsBack d h x f o = subst Awaited (sym (none-said s TestsBack x refl)) o
each-waits s Died d h x f o = subst Awaited (sym (none-said s Died x refl)) o

-- a worker goes at whose slot another comes, which waits for what is left of the slot

pool-buried : (s : State) (w x : ℕ) → among x (after_effect s (NotStarted w)).books.table.pool ≡ true → (among x s.books.table.pool ≡ true) ⊎ (among x (held w s.books.table) ≡ true)
pool-buried s w x h =
    let pool = s.books.table.pool in
    let items = held w s.books.table in
    let retry = is_retry w s.books in
    let first = times-append x (retried_item retry items) (pool ++ drop 1 items) in
    let all = times-append x pool (drop 1 items) in
    let some = among-times x (retried_item retry items ++ (pool ++ drop 1 items)) h in
    elim (cases_of (among x pool)) [
      | inl a ↦ inl a
      | inr a ↦ inr (times-among x items (omega (arith, first, all, some, none-among x pool a, times-apart x retry items)))
    ]

each-buried : (s : State) (w : ℕ) → is_active w s.books ≡ true → Tidy s → InEach s → Awaited s → InEach (after_effect s (NotStarted w))
    → is_member (length s.books.members) (after_effect s (NotStarted w)).books.members ≡ false → Awaited (after_effect (after_effect s (NotStarted w)) (Start (length s.books.members) (slot_of w (after_effect s (NotStarted w)).books)))
each-buried s w a d x o z free y h = elim (pool-buried s w y h) [
  | inl b ↦
      (let one = o y b in
      elim (cases_of (one.who == w)) [
        | inl k ↦
            (let same : one.who ≡ w = grind (arith, nat_tests, k) in
            newcomer (ap (λ (u : ℕ). among y (slot_items (slot_of u s.books) s.plan)) (sym same) ∙ one.fits (ap is_each x.first.first)))
        | inr k ↦
            (let member : is_member one.who now.books.members ≡ true = has-same one.who (λ m. true) (made_gone w) ms (λ m. refl) (λ m. refl) ∙ has-member one.who (λ m. m.active) ms one.active in
            let active : has one.who (λ m. m.active) now.books.members ≡ true = has-cleared one.who w (λ m. m.active) (made_gone w) ms (λ m. refl) (λ m. refl) ∙ rw (k, one.active) refl in
            let untold : has one.who (λ m. m.shut) now.books.members ≡ false = has-same one.who (λ m. m.shut) (made_gone w) ms (λ m. refl) (λ m. refl) ∙ one.untold in
            awaits-by s after y one
            (has-more one.who (λ m. m.active) now.books.members new ∙ or-left (has one.who (λ m. m.active) now.books.members) (n == one.who && true) active)
            (has-more one.who (λ m. m.shut) now.books.members new ∙ or-unset (has one.who (λ m. m.shut) now.books.members) (n == one.who) ∙ untold)
            (slot-old one.who now.books.members new member ∙ slot-marked one.who (made_gone w) ms (λ m. refl) (λ m. refl)) refl refl)
      ])
  | inr b ↦ newcomer (x.second (ap is_each x.first.first) w y b).1
]
  where
    ms : List Member
    ms = s.books.members

    now : State
    now = after_effect s (NotStarted w)

    n : ℕ
    n = length ms

    new : Member
    new = started n (slot_of w now.books)

    after : State
    after = after_effect now (Start n (slot_of w now.books))

    newcomer : among y (slot_items (slot_of w s.books) s.plan) ≡ true → Awaits after y
    newcomer mine =
        let marks = new-untold now.books.members n (slot_of w now.books) free in
        let slot : slot_in n after.books.members ≡ slot_in w ms = slot-new n now.books.members new free (grind (arith, nat_tests)) ∙ slot-marked w (made_gone w) ms (λ m. refl) (λ m. refl) in
        record {
          who = n;
          active = marks.0;
          untold = marks.1;
          fits = λ e. ap (λ (i : ℕ). among y (slot_items i s.plan)) slot ∙ mine;
        }

pub each_keeper : Keeper InEach
each_keeper = record {
  rule = in_each_rule;
  work = λ s c d h x f b o t. inr (λ v a. or-left (seat_shut v (turned s.plan.mode c (turn_of s)).table) (nat_le 2 (length (held v (turned s.plan.mode c (turn_of s)).table))) (each-told s c x f t v a));
  told = λ s c d h x f t e v a. each-told s c x f t v a;
  asked = λ s c d h x f o a e. absurd (let z : None ≡ Some a = sym (steal-each s c d h x.first.first f ∙ x.first.second) ∙ e in cc);
  waits = each-waits;
  buried = λ s w a d x o t k free same.
      (let now = after_effect s (NotStarted w) in
      let quiet : after_entries now (buried_acts now) ≡ now = none-buried now k in
      let member : is_member (length s.books.members) now.books.members ≡ false = ap (λ (u : State). is_member (length s.books.members) u.books.members) (sym quiet) ∙ free in
      let comes = each-buried s w a d x o k member in
      subst (λ (u : State). Awaited (after_effect u (Start (length now.books.members) (slot_of w now.books)))) (sym quiet)
      (subst (λ (i : ℕ). Awaited (after_effect now (Start i (slot_of w now.books)))) (sym same) comes));
  steals = λ s x. inr x.first.second;
}
  where
    none-buried : (now : State) → InEach now → after_entries now (buried_acts now) ≡ now
    none-buried now k = in_both (λ (es : List Entry). after_entries now es ≡ now) now.books.shared (acts_of Died now) [] (λ h. none-said now Died k refl) (λ h. refl)

pub each-begins : (settings : Settings) → settings.mode ≡ Each → InEach (no_one settings)
each-begins settings h = record { first = record { first = h; second = refl }; second = own-none settings }
