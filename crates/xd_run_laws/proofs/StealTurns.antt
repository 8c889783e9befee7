-- The turns of mode worksteal are in order.
use Rattle.std.proofs.Common.{◌≡◌, ℕ, zero, suc, ◌+◌, ◌-◌, ◌≤◌, ◌<◌, ◌/◌, List, [], ◌∷◌, ◌++◌, take, drop, length, map, Bool, true, false, not, ◌&&◌, refl, ap, sym, ◌∙◌, subst, arith, inl, inr}
use Rattle.std.specs.Prelude.{if◌then◌else◌, ◌==◌, nat_lt, filter, Option, Some, None, is_none}
use Rattle.std.proofs.lemmas.Bool.Decides.{nat_tests}
use Rattle.std.proofs.lemmas.Slice.Eq.{bytes_eq-Decides}
use Rattle.xd_journal.specs.declared.entry.Entry.TheVariants.{Steal}
use Rattle.xd_run.specs.declared.seat.Seat.{Seat}
use Rattle.xd_run.specs.Numbers.{among, all_distinct, all_among}
use Rattle.xd_run.specs.Table.{Table, held, held_in, in_rota, workers_of}
use Rattle.xd_run.specs.Plan.{Plan, UnansweredSteal, items_named, is_each}
use Rattle.xd_run.specs.Turn.{Turn, give, give_front, shut_each}
use Rattle.xd_run.specs.Worksteal.{idle, dealt, open_seats, most, first_with, victim, steal_count, asks, asks_or_shuts, after_dealing, rule, steal_share}
use Rattle.xd_run.specs.Turn.{enough}
use Rattle.xd_run.specs.Workers.{is_shut, slot_of}
use Rattle.xd_run.specs.Sharing.{State}
use Rattle.xd_run.specs.State.{after_entries}
use Rattle.xd_run.specs.Orderly.{is_in_order, is_orderly, not_empty}
use Rattle.xd_run_laws.proofs.Logic.{differ, cases_of, split-and, split-or, not_true, in_both}
use Rattle.xd_run_laws.proofs.Counts.{among-drop, distinct-of_times, all_among-more, all_among-drops, all_among-self, distinct-drop}
use Rattle.xd_run_laws.proofs.Rota.{seats_of, has_seat, is_told, one-of_seat, untold-of_seat, seat-among, seat-change, told-change}
use Rattle.xd_run_laws.proofs.Places.{times-table, held-within}
use Rattle.xd_run_laws.proofs.Placed.{Placed, at_most_once}
use Rattle.xd_run_laws.proofs.Turns.{Good, InRota, IsPlain, named-plain, in_rota-following, unshut-of, good-more, good-give_front, good-shut_each}

-- each worker has one seat at most
abbrev pub OneSeat : List Seat → Type 0
OneSeat ss = (w : ℕ) → seats_of w ss ≤ 1

one_seat-rest : (s : Seat) (ss : List Seat) → OneSeat (s ∷ ss) → OneSeat ss
one_seat-rest s ss h = λ w. omega (arith, h w)

pub one_seat-turn : (s : State) (t : Turn) → Good s t → OneSeat t.table.rota
one_seat-turn s t g = λ w. subst (λ (u : Table). seats_of w u.rota ≤ 1) g.table (g.tidy.placed.fits.seats w)

-- the worker is in the rota and was not told to shut down
pub record IsOpen (w : ℕ) (ss : List Seat) : Type 0 where
  pub there : has_seat w ss ≡ true
  pub untold : is_told w ss ≡ false

open-first : (s : Seat) (ss : List Seat) → OneSeat (s ∷ ss) → s.shut ≡ false → IsOpen s.worker (s ∷ ss)
open-first s ss one h =
    let none : has_seat s.worker ss ≡ false = elim (cases_of (has_seat s.worker ss)) [ inl k ↦ absurd (grind (arith, nat_tests, one s.worker, one-of_seat s.worker ss k)) | inr k ↦ k ] in
    record { there = grind (arith, nat_tests); untold = grind (arith, nat_tests, untold-of_seat s.worker ss none, h) }

open-later : (w : ℕ) (s : Seat) (ss : List Seat) → OneSeat (s ∷ ss) → IsOpen w ss → IsOpen w (s ∷ ss)
open-later w s ss one o =
    let other : (s.worker == w) ≡ false = elim (cases_of (s.worker == w)) [ inl k ↦ absurd (grind (arith, nat_tests, one w, one-of_seat w ss o.there, k)) | inr k ↦ k ] in
    record { there = rw (other, o.there); untold = rw (other, o.untold) }

-- whoever is idle may be told

abbrev is_idle : Seat → Bool
is_idle s = not s.shut && nat_lt (length s.held) enough

open-same : (w : ℕ) (s : Seat) (ss : List Seat) → (w == s.worker) ≡ true → IsOpen s.worker ss → IsOpen w ss
open-same w s ss h o = let e : w ≡ s.worker = grind (arith, nat_tests) in subst (λ v. IsOpen v ss) (sym e) o

idle-step : (b : Bool) (w : ℕ) (s : Seat) (ss : List Seat) → OneSeat (s ∷ ss) → is_idle s ≡ b → among w (map (λ x. x.worker) (if b then s ∷ filter is_idle ss else filter is_idle ss)) ≡ true
    → (among w (map (λ x. x.worker) (filter is_idle ss)) ≡ true → IsOpen w ss) → IsOpen w (s ∷ ss)
idle-step false w s ss one e h rest = open-later w s ss one (rest h)
idle-step true w s ss one e h rest = elim (split-or (w == s.worker) (among w (map (λ x. x.worker) (filter is_idle ss))) h) [
  | inl k ↦ open-same w s (s ∷ ss) k (open-first s ss one (not_true s.shut (split-and (not s.shut) (nat_lt (length s.held) enough) e).0))
  | inr k ↦ open-later w s ss one (rest k)
]

pub idle-open : (w : ℕ) (ss : List Seat) → OneSeat ss → among w (map (λ x. x.worker) (filter is_idle ss)) ≡ true → IsOpen w ss
idle-open w [] one h = absurd (differ h)
idle-open w (s ∷ ss) one h = idle-step (is_idle s) w s ss one refl h (idle-open w ss (one_seat-rest s ss one))

all_among-some : (test : Seat → Bool) (ss : List Seat) → all_among (map (λ s. s.worker) (filter test ss)) (map (λ s. s.worker) ss) ≡ true
all_among-some test [] = refl
all_among-some test (s ∷ ss) =
    let rest = all_among-more s.worker (map (λ x. x.worker) (filter test ss)) (map (λ x. x.worker) ss) (all_among-some test ss) in
    elim (test s) as (λ b. all_among (map (λ x. x.worker) (if b then s ∷ filter test ss else filter test ss)) (map (λ x. x.worker) (s ∷ ss)) ≡ true) [ true ↦ grind (arith, nat_tests, rest) | false ↦ rest ]

in_rota-to : (s : State) (t : Turn) (w : ℕ) → Good s t → has_seat w t.table.rota ≡ true → InRota s w
in_rota-to s t w g h = ap (λ (ws : List ℕ). among w ws) (sym g.rota) ∙ sym (seat-among w t.table.rota) ∙ h

idle-rota : (s : State) (t : Turn) → Good s t → all_among (idle t.table) (workers_of s.books.table) ≡ true
idle-rota s t g = ap (λ (ws : List ℕ). all_among (idle t.table) ws) (sym g.rota) ∙ all_among-some is_idle t.table.rota

-- the pool is dealt to those

open-give : (v w : ℕ) (items : List ℕ) (t : Turn) → IsOpen v t.table.rota → IsOpen v (give w items t).table.rota
open-give v w [] t o = o
open-give v w (i ∷ is) t o =
    let f : Seat → Seat = λ s. record s { held = s.held ++ i ∷ is } in
    record { there = seat-change v w f t.table.rota (λ s. refl) ∙ o.there; untold = told-change v w f t.table.rota (λ s. refl) (λ s. refl) ∙ o.untold }

pub good-dealt : (s : State) (ws : List ℕ) (t : Turn) → IsPlain s.plan.mode → Good s t → ((w : ℕ) → among w ws ≡ true → IsOpen w t.table.rota) → Good s (dealt ws t)
good-dealt s [] t plain g o = g
good-dealt s (w ∷ ws) t plain g o =
    let n = length t.table.pool / (length ws + 1) in
    let here = o w (grind (arith, nat_tests)) in
    good-dealt s ws (give_front w n t) plain (good-give_front s w n t plain (in_rota-to s t w g here.there) g here.untold)
    (λ v h. open-give v w (take n t.table.pool) t (o v (grind (arith, nat_tests, h))))

-- the worker that is asked

pub record IsVictim (ss : List Seat) (s : Seat) : Type 0 where
  pub open_ : IsOpen s.worker ss
  pub holds : held_in s.worker ss ≡ s.held

abbrev pub is_open : Seat → Bool
is_open s = not s.shut

victim-later : (x : Seat) (ss : List Seat) (s : Seat) → OneSeat (x ∷ ss) → IsVictim ss s → IsVictim (x ∷ ss) s
victim-later x ss s one v =
    let other : (x.worker == s.worker) ≡ false = elim (cases_of (x.worker == s.worker)) [ inl k ↦ absurd (grind (arith, nat_tests, one s.worker, one-of_seat s.worker ss v.open_.there, k)) | inr k ↦ k ] in
    record { open_ = open-later s.worker x ss one v.open_; holds = rw (other, v.holds) }

victim-here : (x : Seat) (ss : List Seat) (s : Seat) → OneSeat (x ∷ ss) → x.shut ≡ false → x ≡ s → IsVictim (x ∷ ss) s
victim-here x ss s one h e = subst (λ (y : Seat). IsVictim (x ∷ ss) y) e (record { open_ = open-first x ss one h; holds = grind (arith, nat_tests) })

victim-first : (c : Bool) (x : Seat) (ss : List Seat) (s : Seat) (rest : Option Seat) → OneSeat (x ∷ ss) → x.shut ≡ false → (if c then Some x else rest) ≡ Some s
    → (rest ≡ Some s → IsVictim ss s) → IsVictim (x ∷ ss) s
victim-first true x ss s rest one h k v = victim-here x ss s one h cc
victim-first false x ss s rest one h k v = victim-later x ss s one (v k)

pub victim-of : (n : ℕ) (ss : List Seat) (s : Seat) → OneSeat ss → first_with n (filter is_open ss) ≡ Some s → IsVictim ss s
victim-of n [] s one h = absurd (let q : None ≡ Some s = h in cc)
victim-of n (x ∷ ss) s one h =
    let later = victim-of n ss s (one_seat-rest x ss one) in
    elim (cases_of (is_open x)) [
      | inl k ↦
          (let e : filter is_open (x ∷ ss) ≡ x ∷ filter is_open ss = rw k in
          victim-first (length x.held == n) x ss s (first_with n (filter is_open ss)) one (not_true x.shut k) (ap (λ (ys : List Seat). first_with n ys) (sym e) ∙ h) later)
      | inr k ↦
          (let e : filter is_open (x ∷ ss) ≡ filter is_open ss = rw k in
          victim-later x ss s one (later (ap (λ (ys : List Seat). first_with n ys) (sym e) ∙ h)))
    ]

not_empty-drop : (k : ℕ) (xs : List ℕ) → k < length xs → not_empty (drop k xs) ≡ true
not_empty-drop k [] h = absurd (omega (arith, h))
not_empty-drop zero (x ∷ xs) h = refl
not_empty-drop (suc k) (x ∷ xs) h = not_empty-drop k xs (omega (arith, h))

held-distinct : (s : State) (w : ℕ) → Placed s → all_distinct (held w s.books.table) ≡ true
held-distinct s w k = distinct-of_times (held w s.books.table) (λ x. omega (arith, at_most_once s k x, times-table x s.books.table, held-within x w s.books.table.rota))

number-low : (s : Seat) → (steal_count s == 0) ≡ false → (2 ≤ length s.held - steal_count s) × (length s.held - steal_count s < length s.held)
number-low s h = (grind (arith, nat_tests), grind (arith, nat_tests))

orderly-steal : (m : State) (w : ℕ) (tests : List ℕ) → in_rota w m.books.table ≡ true → is_shut w m.books ≡ false → is_none m.plan.steal ≡ true → not_empty tests ≡ true
    → all_distinct tests ≡ true → all_among tests (drop 2 (held w m.books.table)) ≡ true → is_in_order (items_named (slot_of w m.books) tests m.plan) (held w m.books.table) ≡ true → is_orderly m (Steal w tests) ≡ true
orderly-steal m w tests a b c d e f i = rw (a, b, c, d, e, f, i)

-- the last of a list stand in its order

kept-self : (xs ys : List ℕ) → all_among xs ys ≡ true → filter (λ y. among y ys) xs ≡ xs
kept-self [] ys h = refl
kept-self (x ∷ xs) ys h = (let p = split-and (among x ys) (all_among xs ys) h in rw p.0 (ap (λ (l : List ℕ). x ∷ l) (kept-self xs ys p.1)))

last-kept : (n : ℕ) (xs : List ℕ) → all_distinct xs ≡ true → filter (λ y. among y (drop n xs)) xs ≡ drop n xs
last-kept zero xs h = kept-self xs xs (all_among-self xs)
last-kept (suc n) [] h = refl
last-kept (suc n) (x ∷ xs) h =
    let p = split-and (not (among x xs)) (all_distinct xs) h in
    let none : among x (drop n xs) ≡ false = elim (cases_of (among x (drop n xs))) [ inl k ↦ absurd (differ (sym (not_true (among x xs) p.0) ∙ among-drop x n xs k)) | inr k ↦ k ] in
    rw none (last-kept n xs p.1)

last-in_order : (n : ℕ) (xs : List ℕ) → all_distinct xs ≡ true → is_in_order (drop n xs) xs ≡ true
last-in_order n xs h = (bytes_eq-Decides (drop n xs) (filter (λ y. among y (drop n xs)) xs)).1 (sym (last-kept n xs h))

good-asks : (s : State) (v : Seat) (t : Turn) → IsPlain s.plan.mode → Good s t → t.plan.steal ≡ None → IsVictim t.table.rota v → (steal_count v == 0) ≡ false → Good s (asks v (steal_count v) t)
good-asks s v t plain g none k h =
    let m = after_entries s t.acts in
    let w = v.worker in
    let n = length v.held - steal_count v in
    let tests = drop n v.held in
    let low = number-low v h in
    let a = in_rota-to s t w g k.open_.there in
    let holds : held w m.books.table ≡ v.held = ap (λ (u : Table). held w u) g.table ∙ k.holds in
    let distinct : all_distinct v.held ≡ true = ap all_distinct (sym holds) ∙ held-distinct m w g.tidy.placed in
    let asked : Option UnansweredSteal = Some (record { worker = w; tests = tests }) in
    good-more s t (asks v (steal_count v) t) (Steal w tests) g refl refl
    (orderly-steal m w tests (in_rota-following s t w g a) (unshut-of s t w g a k.open_.untold) (ap (λ (p : Plan). is_none p.steal) g.plan ∙ ap is_none none)
    (not_empty-drop n v.held low.1) (distinct-drop n v.held distinct)
    (ap (λ (xs : List ℕ). all_among tests (drop 2 xs)) holds ∙ all_among-drops 2 n v.held low.0)
    (ap (λ (xs : List ℕ). is_in_order xs (held w m.books.table)) (named-plain (slot_of w m.books) tests m.plan (ap (λ (p : Plan). is_each p.mode) g.plan ∙ ap is_each g.mode ∙ plain.each)) ∙ ap (λ (xs : List ℕ). is_in_order tests xs) holds ∙ last-in_order n v.held distinct))
    g.table (ap (λ (p : Plan). record p { steal = asked }) g.plan) refl refl

good-asks_or_shuts : (s : State) (ws : List ℕ) (o : Option Seat) (t : Turn) → IsPlain s.plan.mode → Good s t → all_among ws (workers_of s.books.table) ≡ true → t.plan.steal ≡ None → victim t.table ≡ o
    → Good s (asks_or_shuts ws o t)
good-asks_or_shuts s ws None t plain g a none h = good-shut_each s ws t a g
good-asks_or_shuts s ws (Some v) t plain g a none h =
    in_both (Good s) (steal_count v == 0) (shut_each ws t) (asks v (steal_count v) t) (λ k. good-shut_each s ws t a g)
    (λ k. good-asks s v t plain g none (victim-of (most (open_seats t.table)) t.table.rota v (one_seat-turn s t g) h) k)

steal-by : (s : State) (ws : List ℕ) (o : Option UnansweredSteal) (t : Turn) → IsPlain s.plan.mode → Good s t → all_among ws (workers_of s.books.table) ≡ true → t.plan.steal ≡ o
    → Good s (elim o as (λ _. Turn) [ None ↦ asks_or_shuts ws (victim t.table) t | Some a ↦ t ])
steal-by s ws None t plain g a h = good-asks_or_shuts s ws (victim t.table) t plain g a h refl
steal-by s ws (Some x) t plain g a h = g

after-by : (s : State) (ws : List ℕ) (t : Turn) → IsPlain s.plan.mode → Good s t → all_among ws (workers_of s.books.table) ≡ true
    → Good s (elim ws as (λ _. Turn) [ [] ↦ t | v ∷ vs ↦ (elim t.plan.steal as (λ _. Turn) [ None ↦ asks_or_shuts (v ∷ vs) (victim t.table) t | Some a ↦ t ]) ])
after-by s [] t plain g a = g
after-by s (v ∷ vs) t plain g a = steal-by s (v ∷ vs) t.plan.steal t plain g a refl

good-after_dealing : (s : State) (t : Turn) → IsPlain s.plan.mode → Good s t → Good s (after_dealing t)
good-after_dealing s t plain g = after-by s (idle t.table) t plain g (idle-rota s t g)

rule-by : (s : State) (ws : List ℕ) (t : Turn) → IsPlain s.plan.mode → Good s t → ((w : ℕ) → among w ws ≡ true → IsOpen w t.table.rota)
    → Good s (elim ws as (λ _. Turn) [ [] ↦ t | v ∷ vs ↦ after_dealing (dealt (v ∷ vs) t) ])
rule-by s [] t plain g o = g
rule-by s (v ∷ vs) t plain g o = good-after_dealing s (dealt (v ∷ vs) t) plain (good-dealt s (v ∷ vs) t plain g o)

pub good-rule : (s : State) (t : Turn) → IsPlain s.plan.mode → Good s t → Good s (rule t)
good-rule s t plain g = rule-by s (idle t.table) t plain g (λ w h. idle-open w t.table.rota (one_seat-turn s t g) h)

share-by : (s : State) (pool : List ℕ) (t : Turn) → IsPlain s.plan.mode → Good s t → Good s (elim pool as (λ _. Turn) [ [] ↦ t | x ∷ xs ↦ rule t ])
share-by s [] t plain g = g
share-by s (x ∷ xs) t plain g = good-rule s t plain g

pub good-share : (s : State) (t : Turn) → IsPlain s.plan.mode → Good s t → Good s (steal_share t)
good-share s t plain g = share-by s t.table.pool t plain g
