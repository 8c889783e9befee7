-- The turns of mode each are in order.
use Rattle.std.proofs.Common.{◌≡◌, ℕ, ◌+◌, ◌-◌, ◌≤◌, ◌<◌, List, [], ◌∷◌, ◌++◌, take, map, Bool, true, false, not, ◌&&◌, refl, ap, sym, ◌∙◌, subst, arith, inl, inr}
use Rattle.std.specs.Prelude.{◌==◌, sum, slice_index}
use Rattle.std.specs.List.{range_with_len}
use Rattle.std.proofs.lemmas.Bool.{cases_order}
use Rattle.std.proofs.lemmas.Bool.Decides.{nat_tests}
use Rattle.xd_journal.specs.declared.entry.Entry.TheVariants.{Run, RunAll, Shutdown}
use Rattle.xd_run.specs.declared.seat.Seat.{Seat}
use Rattle.xd_run.specs.Numbers.{among, without, all_distinct, all_among, times}
use Rattle.xd_run.specs.Table.{Table, in_rota, seat_shut, workers_of, assigned, shut_down}
use Rattle.xd_run.specs.Plan.{Plan, base, items_named, slot_items, total, is_each, is_scope}
use Rattle.xd_run.specs.Turn.{Turn, shut}
use Rattle.xd_run.specs.Each.{give_all, give_slots, each_share, remainder, give_of_slot, joins}
use Rattle.xd_run.specs.Workers.{is_shut, slot_of}
use Rattle.xd_run.specs.Sharing.{State}
use Rattle.xd_run.specs.State.{after_entries}
use Rattle.xd_run.specs.Outputs.{turn_of}
use Rattle.xd_run.specs.Orderly.{is_orderly}
use Rattle.xd_run.proofs.Parts.{parts-apart, parts-within}
use Rattle.xd_run_laws.proofs.Logic.{differ, cases_of, split-and, not_true, in_both}
use Rattle.xd_run_laws.proofs.Counts.{distinct-of_times, all_among-self, all_among-of, among_of-all_among, among-filter, distinct-filter, among-in_range, bounds-of_range}
use Rattle.xd_run_laws.proofs.Rota.{seats_of, seat-among, told-change, told-shut, workers-change}
use Rattle.xd_run_laws.proofs.Turns.{plan-plain, Tidy, Good, InRota, in_rota-following, unshut-of, turn-distinct, good-first, good-more, good-shut}
use Rattle.xd_run_laws.proofs.Rule.{IsFresh}

-- the items of slots

pub base-each : (slot : ℕ) (p : Plan) → is_each p.mode ≡ true → base slot p ≡ sum (take slot p.sizes)
base-each slot p h = rw h

slots-ordered : (a b x : ℕ) (p : Plan) → is_each p.mode ≡ true → a < b → among x (slot_items a p) ≡ true → among x (slot_items b p) ≡ true → ⊥
slots-ordered a b x p e h i j =
    let k = bounds-of_range x (base a p) (slice_index p.sizes a) i in
    let l = bounds-of_range x (base b p) (slice_index p.sizes b) j in
    let q = parts-apart a b p.sizes h in
    omega (arith, k.1, l.0, q, base-each a p e, base-each b p e)

slots-apart : (a b x : ℕ) (p : Plan) → is_each p.mode ≡ true → (a ≡ b → ⊥) → among x (slot_items a p) ≡ true → among x (slot_items b p) ≡ false
slots-apart a b x p e n i = elim (cases_of (among x (slot_items b p))) [
  | inl j ↦ (elim (cases_order a b) [
    | inl k ↦ absurd (n k)
    | inr k ↦ (elim k [ inl l ↦ absurd (slots-ordered a b x p e l i j) | inr l ↦ absurd (slots-ordered b a x p e l j i) ])
  ])
  | inr j ↦ j
]

slot-within : (a : ℕ) (p : Plan) → is_each p.mode ≡ true → all_among (slot_items a p) (range_with_len 0 (total p)) ≡ true
slot-within a p e = all_among-of (slot_items a p) (range_with_len 0 (total p)) (λ x h.
    (let k = bounds-of_range x (base a p) (slice_index p.sizes a) h in
    let q = parts-within a p.sizes in
    among-in_range x 0 (total p) (omega arith) (omega (arith, k.1, q, base-each a p e))))

all_among-without : (xs those ys : List ℕ) → all_among xs ys ≡ true → ((x : ℕ) → among x xs ≡ true → among x those ≡ false) → all_among xs (without those ys) ≡ true
all_among-without xs those ys h k = all_among-of xs (without those ys) (λ x i.
    among-filter x (λ y. not (among y those)) ys ∙ ap (λ (q : Bool). not q && among x ys) (k x i) ∙ among_of-all_among x xs ys h i)

-- one worker gets its slot

orderly-run_all : (m : State) (w : ℕ) → is_each m.plan.mode ≡ true → m.books.shared ≡ true → in_rota w m.books.table ≡ true → is_shut w m.books ≡ false
    → all_among (slot_items (slot_of w m.books) m.plan) m.books.table.pool ≡ true → is_orderly m (RunAll w) ≡ true
orderly-run_all m w a e b c d = rw (d, a, e, b, c)

-- the worker may get all of its slot
record MayTake (s : State) (t : Turn) (w : ℕ) : Type 0 where
  unshut : seat_shut w t.table ≡ false
  within : all_among (slot_items (slot_of w s.books) s.plan) t.table.pool ≡ true

-- the turn of a mode that keeps its plan
record Steady (s : State) (t : Turn) : Type 0 where
  good : Good s t
  same : t.plan ≡ s.plan

slot-following : (s : State) (t : Turn) (w : ℕ) → Steady s t → slot_items (slot_of w (after_entries s t.acts).books) (after_entries s t.acts).plan ≡ slot_items (slot_of w s.books) s.plan
slot-following s t w g =
    let m = after_entries s t.acts in
    ap (λ (k : ℕ). slot_items k m.plan) (g.good.kin.slots_same w) ∙ ap (λ (p : Plan). slot_items (slot_of w s.books) p) (g.good.plan ∙ g.same)

steady-run_all : (s : State) (w : ℕ) (t : Turn) → is_each s.plan.mode ≡ true → InRota s w → Steady s t → MayTake s t w
    → Steady s (record t { table = assigned w (slot_items (slot_of w s.books) t.plan) t.table; acts = t.acts ++ RunAll w ∷ [] })
steady-run_all s w t e a g k =
    let m = after_entries s t.acts in
    let slot = slot_of w s.books in
    let items = slot_items slot t.plan in
    let mine = slot-following s t w g in
    let yours : items ≡ slot_items slot s.plan = ap (λ (p : Plan). slot_items slot p) g.same in
    record {
      good = good-more s t (record t { table = assigned w items t.table; acts = t.acts ++ RunAll w ∷ [] }) (RunAll w) g.good refl refl
          (orderly-run_all m w (ap (λ (p : Plan). is_each p.mode) (g.good.plan ∙ g.same) ∙ e) g.good.shared (in_rota-following s t w g.good a) (unshut-of s t w g.good a k.unshut)
          (ap (λ (xs : List ℕ). all_among xs m.books.table.pool) mine ∙ ap (λ (u : Table). all_among (slot_items slot s.plan) u.pool) g.good.table ∙ k.within))
          (ap (λ (xs : List ℕ). assigned w xs m.books.table) (mine ∙ sym yours) ∙ ap (λ (u : Table). assigned w items u) g.good.table)
          g.good.plan (workers-change w (λ s. record s { held = s.held ++ items }) t.table.rota (λ s. refl)) refl;
      same = g.same;
    }

steady-shut : (s : State) (w : ℕ) (t : Turn) → InRota s w → Steady s t → Steady s (shut w t)
steady-shut s w t a g = record {
  good = good-shut s w t a g.good;
  same = in_both (λ (u : Turn). u.plan ≡ s.plan) (seat_shut w t.table) t (record t { table = shut_down w t.table; acts = t.acts ++ Shutdown w ∷ [] }) (λ h. g.same) (λ h. g.same);
}

steady-give_all : (s : State) (w : ℕ) (t : Turn) → is_each s.plan.mode ≡ true → InRota s w → Steady s t → MayTake s t w → Steady s (give_all w (slot_of w s.books) t)
steady-give_all s w t e a g k =
    steady-shut s w (record t { table = assigned w (slot_items (slot_of w s.books) t.plan) t.table; acts = t.acts ++ RunAll w ∷ [] }) a (steady-run_all s w t e a g k)

-- another worker may get its slot still

pub told-other : (v w : ℕ) (t : Turn) → (v == w) ≡ false → seat_shut v (shut w t).table ≡ seat_shut v t.table
told-other v w t h = in_both (λ (u : Turn). seat_shut v u.table ≡ seat_shut v t.table) (seat_shut w t.table) t (record t { table = shut_down w t.table; acts = t.acts ++ Shutdown w ∷ [] }) (λ k. refl)
    (λ k. told-shut v w t.table.rota ∙ rw h)

pub pool-shut : (w : ℕ) (t : Turn) → (shut w t).table.pool ≡ t.table.pool
pool-shut w t = in_both (λ (u : Turn). u.table.pool ≡ t.table.pool) (seat_shut w t.table) t (record t { table = shut_down w t.table; acts = t.acts ++ Shutdown w ∷ [] }) (λ k. refl) (λ k. refl)

may-take_still : (s : State) (v w : ℕ) (t : Turn) → is_each s.plan.mode ≡ true → t.plan ≡ s.plan → (v == w) ≡ false → (slot_of v s.books ≡ slot_of w s.books → ⊥) → MayTake s t v
    → MayTake s (give_all w (slot_of w s.books) t) v
may-take_still s v w t e same h apart k =
    let items = slot_items (slot_of w s.books) t.plan in
    let u = record t { table = assigned w items t.table; acts = t.acts ++ RunAll w ∷ [] } in
    record {
      unshut = told-other v w u h ∙ told-change v w (λ s. record s { held = s.held ++ items }) t.table.rota (λ s. refl) (λ s. refl) ∙ k.unshut;
      within = ap (λ (xs : List ℕ). all_among (slot_items (slot_of v s.books) s.plan) xs) (pool-shut w u)
          ∙ all_among-without (slot_items (slot_of v s.books) s.plan) items t.table.pool k.within
          (λ x i. ap (λ (p : Plan). among x (slot_items (slot_of w s.books) p)) same ∙ slots-apart (slot_of v s.books) (slot_of w s.books) x s.plan e apart i);
    }

pub other-of : (v w : ℕ) (ws : List ℕ) → among w ws ≡ false → among v ws ≡ true → (v == w) ≡ false
other-of v w ws n h = elim (cases_of (v == w)) [ inl k ↦ absurd (let e : v ≡ w = grind (arith, nat_tests) in differ (sym n ∙ ap (λ (u : ℕ). among u ws) (sym e) ∙ h)) | inr k ↦ k ]

good-slots : (s : State) (ws : List ℕ) (t : Turn) → is_each s.plan.mode ≡ true → Steady s t → all_among ws (workers_of s.books.table) ≡ true → all_distinct ws ≡ true
    → ((v u : ℕ) → InRota s v → InRota s u → slot_of v s.books ≡ slot_of u s.books → v ≡ u)
    → ((v : ℕ) → among v ws ≡ true → MayTake s t v) → Steady s (give_slots ws (map (λ w. slot_of w s.books) ws) t)
good-slots s [] t e g a d apart k = g
good-slots s (w ∷ ws) t e g a d apart k =
    let p = split-and (among w (workers_of s.books.table)) (all_among ws (workers_of s.books.table)) a in
    let q = split-and (not (among w ws)) (all_distinct ws) d in
    good-slots s ws (give_all w (slot_of w s.books) t) e (steady-give_all s w t e p.0 g (k w (grind (arith, nat_tests)))) p.1 q.1 apart
    (λ v h. (let o = other-of v w ws (not_true (among w ws) q.0) h in
    may-take_still s v w t e g.same o (λ same. (let z = apart v w (among_of-all_among v ws (workers_of s.books.table) p.1 h) p.0 same in grind (arith, nat_tests, z, o))) (k v (grind (arith, nat_tests, h)))))

-- the share

seats-times : (w : ℕ) (ss : List Seat) → times w (map (λ s. s.worker) ss) ≡ seats_of w ss
seats-times w [] = refl
seats-times w (s ∷ ss) = grind (arith, nat_tests, seats-times w ss)

pub rota-distinct : (s : State) → Tidy s → all_distinct (workers_of s.books.table) ≡ true
rota-distinct s d = distinct-of_times (workers_of s.books.table) (λ w. omega (arith, seats-times w s.books.table.rota, d.placed.fits.seats w))

pub rota-apart : (s : State) → Tidy s → (v u : ℕ) → InRota s v → InRota s u → slot_of v s.books ≡ slot_of u s.books → v ≡ u
rota-apart s d v u a b e =
    let f = d.placed.fits in
    d.members.apart v u (f.active v (seat-among v s.books.table.rota ∙ a)) (f.active u (seat-among u s.books.table.rota ∙ b)) e

pub good-share : (s : State) (slots : List ℕ) → is_each s.plan.mode ≡ true → Tidy s → s.books.shared ≡ true → IsFresh s slots → Good s (each_share slots (turn_of s))
good-share s slots e d h f =
    let ws = workers_of s.books.table in
    let take : (v : ℕ) → among v ws ≡ true → MayTake s (turn_of s) v = λ v a. record {
      unshut = sym (d.placed.fits.marks v (seat-among v s.books.table.rota ∙ a)) ∙ f.unshut v;
      within = ap (λ (xs : List ℕ). all_among (slot_items (slot_of v s.books) s.plan) xs) f.pool ∙ slot-within (slot_of v s.books) s.plan e;
    } in
    subst (λ (xs : List ℕ). Good s (give_slots ws xs (turn_of s))) (sym f.slots_are)
    (good-slots s ws (turn_of s) e (record { good = good-first s d h; same = refl }) (all_among-self ws) (rota-distinct s d) (rota-apart s d) take).good

-- a worker joins after the share

named-back : (b : ℕ) (items : List ℕ) → ((x : ℕ) → among x items ≡ true → b ≤ x) → map (λ i. b + i) (map (λ item. item - b) items) ≡ items
named-back b [] h = refl
named-back b (x ∷ xs) h =
    let here : b + (x - b) ≡ x = (let k = h x (grind (arith, nat_tests)) in omega (arith, k)) in
    let rest = named-back b xs (λ y k. h y (grind (arith, nat_tests, k))) in
    ap (λ (y : ℕ). y ∷ map (λ i. b + i) (map (λ item. item - b) xs)) here ∙ ap (λ (ys : List ℕ). x ∷ ys) rest

items_named-each : (slot : ℕ) (indices : List ℕ) (p : Plan) → is_each p.mode ≡ true → items_named slot indices p ≡ map (λ i. base slot p + i) indices
items_named-each slot indices p h = rw h

orderly-of_slot : (m : State) (w i : ℕ) (is items : List ℕ) → items_named (slot_of w m.books) (i ∷ is) m.plan ≡ items → in_rota w m.books.table ≡ true → is_shut w m.books ≡ false
    → all_distinct items ≡ true → all_among items m.books.table.pool ≡ true → is_each m.plan.mode ≡ true → all_among items (slot_items (slot_of w m.books) m.plan) ≡ true
    → is_orderly m (Run w (i ∷ is)) ≡ true
orderly-of_slot m w i is items named a b c d e f = rw (named, f, e, a, b, c, d)

good-of_slot : (s : State) (w : ℕ) (items : List ℕ) (t : Turn) → is_each s.plan.mode ≡ true → is_scope s.plan.mode ≡ false → InRota s w → Steady s t → seat_shut w t.table ≡ false
    → all_distinct items ≡ true → all_among items t.table.pool ≡ true → all_among items (slot_items (slot_of w s.books) s.plan) ≡ true → Good s (give_of_slot w (slot_of w s.books) items t)
good-of_slot s w [] t e n a g unshut distinct within mine = g.good
good-of_slot s w (x ∷ xs) t e n a g unshut distinct within mine =
    let m = after_entries s t.acts in
    let slot = slot_of w s.books in
    let items = x ∷ xs in
    let plan : m.plan ≡ s.plan = g.good.plan ∙ g.same in
    let each : is_each m.plan.mode ≡ true = ap (λ (p : Plan). is_each p.mode) plan ∙ e in
    let first : base slot t.plan ≡ base (slot_of w m.books) m.plan = ap (λ (p : Plan). base slot p) (g.same ∙ sym plan) ∙ ap (λ (k : ℕ). base k m.plan) (sym (g.good.kin.slots_same w)) in
    let low : (y : ℕ) → among y items ≡ true → base slot t.plan ≤ y = λ y h.
    (let b = bounds-of_range y (base slot s.plan) (slice_index s.plan.sizes slot) (among_of-all_among y items (slot_items slot s.plan) mine h) in
    subst (λ (k : ℕ). k ≤ y) (ap (λ (p : Plan). base slot p) (sym g.same)) b.0) in
    let indices = map (λ item. item - base slot t.plan) items in
    let named : items_named (slot_of w m.books) indices m.plan ≡ items =
    items_named-each (slot_of w m.books) indices m.plan each ∙ ap (λ (k : ℕ). map (λ i. k + i) indices) (sym first) ∙ named-back (base slot t.plan) items low in
    good-more s t (give_of_slot w slot items t) (Run w indices) g.good refl refl
    (orderly-of_slot m w (x - base slot t.plan) (map (λ item. item - base slot t.plan) xs) items named (in_rota-following s t w g.good a) (unshut-of s t w g.good a unshut) distinct
    (ap (λ (u : Table). all_among items u.pool) g.good.table ∙ within) each (ap (λ (ys : List ℕ). all_among items ys) (slot-following s t w g) ∙ mine))
    (ap (λ (ys : List ℕ). assigned w ys m.books.table) named ∙ ap (λ (u : Table). assigned w items u) g.good.table)
    (plan-plain w indices m.plan (ap (λ (p : Plan). is_scope p.mode) plan ∙ n) ∙ g.good.plan)
    (workers-change w (λ s. record s { held = s.held ++ items }) t.table.rota (λ s. refl)) refl

pub good-joins : (s : State) (w : ℕ) → is_each s.plan.mode ≡ true → is_scope s.plan.mode ≡ false → Tidy s → s.books.shared ≡ true → InRota s w → seat_shut w s.books.table ≡ false
    → Good s (joins w (slot_of w s.books) (turn_of s))
good-joins s w e n d h a unshut =
    let t = turn_of s in
    let slot = slot_of w s.books in
    let mine = slot_items slot s.plan in
    let left = remainder slot t in
    let g = good-first s d h in
    good-shut s w (give_of_slot w slot left t) a
    (good-of_slot s w left t e n a (record { good = g; same = refl }) unshut (distinct-filter (λ i. among i mine) s.books.table.pool (turn-distinct s t g))
    (all_among-of left s.books.table.pool (λ x k. (split-and (among x mine) (among x s.books.table.pool) (sym (among-filter x (λ i. among i mine) s.books.table.pool) ∙ k)).1))
    (all_among-of left mine (λ x k. (split-and (among x mine) (among x s.books.table.pool) (sym (among-filter x (λ i. among i mine) s.books.table.pool) ∙ k)).0)))
