-- After each turn of a mode with scopes the pool is empty, or each worker has work.
use Rattle.std.proofs.Common.{◌≡◌, ℕ, zero, suc, ◌+◌, ◌≤◌, List, [], ◌∷◌, ◌++◌, length, take, drop, reverse, true, false, ◌||◌, refl, ap, sym, ◌∙◌, subst, arith, inl, inr}
use Rattle.std.specs.Prelude.{if◌then◌else◌, ◌==◌, ◌⊎◌, nat_le, nat_lt, None}
use Rattle.std.proofs.lemmas.Bool.Decides.{nat_tests}
use Rattle.std.proofs.lemmas.List.{length-take-le}
use Rattle.xd_journal.specs.declared.entry.Entry.TheVariants.{Run, Shutdown}
use Rattle.xd_run.specs.Numbers.{among, all_among, times, without}
use Rattle.xd_run.specs.Table.{Table, held, seat_shut, shut_down, workers_of}
use Rattle.xd_run.specs.Plan.{Plan}
use Rattle.xd_run.specs.Turn.{Turn, shut, in_turn, shut_each}
use Rattle.xd_run.specs.ScopeModes.{give_unit, give_more, scope_refill, shut_where_spent, scope_share}
use Rattle.xd_run.specs.Turn.{enough}
use Rattle.xd_run.specs.Sharing.{State}
use Rattle.xd_run.specs.Outputs.{turn_of}
use Rattle.xd_run.specs.Orderly.{not_empty}
use Rattle.xd_run.specs.Suits.{tests_of_units}
use Rattle.xd_run.proofs.Handing.{give_unit-front}
use Rattle.xd_run_laws.proofs.Logic.{differ, cases_of, or-left, or-right, split-and, split-or, in_both}
use Rattle.xd_run_laws.proofs.Counts.{times-append, times-without, all_among-take, all_among-of, all_among-drop, all_among-self, among_of-all_among, empty-of_times}
use Rattle.xd_run_laws.proofs.Rota.{has_seat, seat-among, seat-change}
use Rattle.xd_run_laws.proofs.Turns.{Tidy, InRota, in_rota-of}
use Rattle.xd_run_laws.proofs.EachTurns.{pool-shut, rota-distinct}
use Rattle.xd_run_laws.proofs.Units.{none_empty}
use Rattle.xd_run_laws.proofs.ScopeTurns.{IsScoped, Fine, FineFor, with_unit, fine-give_unit, fine-refill, fine-shut_each, fine-units, told-give_unit, told-others, among-reverse, front-only, unit-by, unit-none}
use Rattle.xd_run_laws.proofs.Busy.{AllWork, Employs, has_work, held-given, shut-still, shut-work, shut_each-pool, shut_each-still, work-give, work-through}
use Rattle.xd_run_laws.proofs.Handing.{Fair, fair-shut, fair-shut_each, hand-more, in_turn-all, plan-shut_each}

-- the units in the queue have each test of the pool
abbrev pub Covers : Table → Plan → Type 0
Covers t p = (x : ℕ) → times x t.pool ≤ times x (tests_of_units p.queue)

pub covers-spent : (t : Table) (p : Plan) → Covers t p → p.queue ≡ [] → t.pool ≡ []
covers-spent t p c e = empty-of_times t.pool (λ x. (let k : times x t.pool ≤ 0 = subst (λ (q : List (List ℕ)). times x t.pool ≤ times x (tests_of_units q)) e (c x) in omega (arith, k)))

pub none-there : (x : ℕ) (u : List ℕ) → among x u ≡ false → times x u ≡ 0
none-there x [] h = refl
none-there x (y ∷ u) h = grind (arith, nat_tests, none-there x u)

covers-with : (w : ℕ) (u : List ℕ) (us : List (List ℕ)) (t : Turn) → t.plan.queue ≡ u ∷ us → Covers t.table t.plan → Covers (with_unit w u us t).table (with_unit w u us t).plan
covers-with w u us t e c x =
    let a : times x t.table.pool ≤ times x (u ++ tests_of_units us) = subst (λ (q : List (List ℕ)). times x t.table.pool ≤ times x (tests_of_units q)) e (c x) in
    let b = times-append x u (tests_of_units us) in
    let d = times-without x u t.table.pool in
    elim (cases_of (among x u)) [
      | inl h ↦ (let z : times x (without u t.table.pool) ≡ 0 = d ∙ rw h refl in omega (arith, z))
      | inr h ↦ (let z : times x (without u t.table.pool) ≡ times x t.table.pool = d ∙ rw h refl in omega (arith, z, a, b, none-there x u h))
    ]

more-keeps : (P : Turn → Type 0) (w : ℕ) → ((t : Turn) → P t → P (give_unit w t)) → (n : ℕ) (t : Turn) → P t → P (give_more n w t)
more-keeps P w k zero t p = p
more-keeps P w k (suc n) t p = in_both P (nat_lt (length (held w t.table)) enough) (give_more n w (give_unit w t)) t (λ h. more-keeps P w k n (give_unit w t) (k t p)) (λ h. p)

pub refill-keeps : (P : Turn → Type 0) (w : ℕ) → ((t : Turn) → P t → P (give_unit w t)) → (t : Turn) → P t → (t.plan.queue ≡ [] → P (shut w t)) → P (scope_refill w t)
refill-keeps P w k t p spent =
    in_both P (seat_shut w t.table) t (elim t.plan.queue as (λ _. Turn) [ [] ↦ shut w t | u ∷ us ↦ (if nat_lt enough (length (held w t.table)) then t else give_more enough w (give_unit w t)) ])
    (λ h. p) (λ h. by t.plan.queue refl)
  where
    by : (q : List (List ℕ)) → t.plan.queue ≡ q → P (elim q as (λ _. Turn) [ [] ↦ shut w t | u ∷ us ↦ (if nat_lt enough (length (held w t.table)) then t else give_more enough w (give_unit w t)) ])
    by [] e = spent e
    by (u ∷ us) e = in_both P (nat_lt enough (length (held w t.table))) t (give_more enough w (give_unit w t)) (λ h. p) (λ h. more-keeps P w k enough (give_unit w t) (k t p))

-- the queue covers the pool

abbrev IsCovered : Turn → Type 0
IsCovered t = Covers t.table t.plan

covered-unit : (w : ℕ) (t : Turn) → IsCovered t → IsCovered (give_unit w t)
covered-unit w t c = unit-by IsCovered w t c (λ u us e. covers-with w u us t e c)

covered-shut : (w : ℕ) (t : Turn) → IsCovered t → IsCovered (shut w t)
covered-shut w t c = in_both IsCovered (seat_shut w t.table) t (record t { table = shut_down w t.table; acts = t.acts ++ Shutdown w ∷ [] }) (λ h. c) (λ h. c)

pub covered-refill : (w : ℕ) (t : Turn) → IsCovered t → IsCovered (scope_refill w t)
covered-refill w t c = refill-keeps IsCovered w (λ u k. covered-unit w u k) t c (λ e. covered-shut w t c)

pub covered-refills : (ws : List ℕ) (t : Turn) → IsCovered t → IsCovered (in_turn scope_refill ws t)
covered-refills ws t c = in_turn-all IsCovered scope_refill (λ w u k. covered-refill w u k) ws t c

pub covered-shuts : (ws : List ℕ) (t : Turn) → IsCovered t → IsCovered (shut_each ws t)
covered-shuts ws t c = in_turn-all IsCovered shut (λ w u k. covered-shut w u k) ws t c

pub covered-share : (t : Turn) → IsCovered t → IsCovered (scope_share t)
covered-share t c = by t.table.pool
  where
    k : ℕ
    k = length t.plan.queue

    ws : List ℕ
    ws = workers_of t.table

    last : Turn
    last = in_turn scope_refill (take k ws) (in_turn give_unit (take k ws) (shut_each (reverse (drop k ws)) t))

    done : IsCovered last
    done = covered-refills (take k ws) (in_turn give_unit (take k ws) (shut_each (reverse (drop k ws)) t))
        (in_turn-all IsCovered give_unit (λ w u z. covered-unit w u z) (take k ws) (shut_each (reverse (drop k ws)) t) (covered-shuts (reverse (drop k ws)) t c))

    spent : (q : List (List ℕ)) → IsCovered (elim q as (λ _. Turn) [ [] ↦ shut_each (workers_of last.table) last | u ∷ us ↦ last ])
    spent [] = covered-shuts (workers_of last.table) last done
    spent (u ∷ us) = done

    by : (pool : List ℕ) → IsCovered (elim pool as (λ _. Turn) [ [] ↦ t | x ∷ xs ↦ shut_where_spent last ])
    by [] = c
    by (x ∷ xs) = spent last.plan.queue

-- a worker has work

spent-refill : (w : ℕ) (t : Turn) → t.table.pool ≡ [] → (scope_refill w t).table.pool ≡ []
spent-refill w t e = refill-keeps (λ (u : Turn). u.table.pool ≡ []) w (λ u k. spent-unit u k) t e (λ z. pool-shut w t ∙ e)
  where
    spent-unit : (u : Turn) → u.table.pool ≡ [] → (give_unit w u).table.pool ≡ []
    spent-unit u k = unit-by (λ (y : Turn). y.table.pool ≡ []) w u k (λ x us z. ap (λ (xs : List ℕ). without x xs) k)

unit-still : (v w : ℕ) (t : Turn) → has_work v t.table ≡ true → has_work v (give_unit w t).table ≡ true
unit-still v w t h = unit-by (λ (y : Turn). has_work v y.table ≡ true) w t h (λ u us e. work-give v w u t.table h)

still-refill : (v w : ℕ) (t : Turn) → has_work v t.table ≡ true → has_work v (scope_refill w t).table ≡ true
still-refill v w t h = refill-keeps (λ (y : Turn). has_work v y.table ≡ true) w (λ u k. unit-still v w u k) t h (λ e. shut-still v w t h)

-- the turn of a mode with scopes, and its queue covers the pool
pub record Ample (s : State) (t : Turn) : Type 0 where
  pub fine : Fine s t
  pub covers : Covers t.table t.plan

more-none : (n w : ℕ) (t : Turn) → t.plan.queue ≡ [] → (give_more n w t).plan.queue ≡ []
more-none n w t e = more-keeps (λ (u : Turn). u.plan.queue ≡ []) w (λ u k. ap (λ (y : Turn). y.plan.queue) (unit-none w u k) ∙ k) n t e

some-length : (u : List ℕ) → not_empty u ≡ true → 1 ≤ length u
some-length [] h = absurd (differ h)
some-length (x ∷ u) h = omega arith

abbrev SpentOr : ℕ → Turn → Type 0
SpentOr w t = (t.plan.queue ≡ []) ⊎ (2 ≤ length (held w t.table))

unit-held : (s : State) (w : ℕ) (u : List ℕ) (us : List (List ℕ)) (t : Turn) → InRota s w → Fine s t → t.plan.queue ≡ u ∷ us → length (held w t.table) + 1 ≤ length (held w (give_unit w t).table)
unit-held s w u us t a f e =
    let filled = (split-and (not_empty u) (none_empty us) (ap none_empty (sym e) ∙ f.queue.filled)).0 in
    let one = some-length u filled in
    let given = held-given w u t.table.rota (in_rota-of s t w f.good a) in
    let same = ap (λ (y : Turn). length (held w y.table)) (give_unit-front w u us t e) in
    omega (arith, one, given, same)

more-by : (n w : ℕ) (t : Turn) → ((u : List ℕ) (us : List (List ℕ)) → t.plan.queue ≡ u ∷ us → SpentOr w (give_more n w (give_unit w t))) → SpentOr w (give_more n w (give_unit w t))
more-by n w t k = by t.plan.queue refl
  where
    by : (q : List (List ℕ)) → t.plan.queue ≡ q → SpentOr w (give_more n w (give_unit w t))
    by [] e = inl (more-none n w (give_unit w t) (ap (λ (y : Turn). y.plan.queue) (unit-none w t e) ∙ e))
    by (u ∷ us) e = k u us e

more-work : (s : State) (n w : ℕ) (t : Turn) → IsScoped s → InRota s w → Fine s t → seat_shut w t.table ≡ false → 2 ≤ length (held w t.table) + n → SpentOr w (give_more n w t)
more-work s zero w t k a f unshut h = inr (omega (arith, h))
more-work s (suc n) w t k a f unshut h =
    in_both (SpentOr w) (nat_lt (length (held w t.table)) enough) (give_more n w (give_unit w t)) t
    (λ z. more-by n w t (λ u us e. more-work s n w (give_unit w t) k a (fine-give_unit s w t k a f unshut) (told-give_unit w w t ∙ unshut) (omega (arith, h, unit-held s w u us t a f e))))
    (λ z. inr (grind (arith, nat_tests, z)))

abbrev Served : ℕ → Turn → Type 0
Served w u = (u.table.pool ≡ []) ⊎ (has_work w u.table ≡ true)

rich : (w : ℕ) (t : Table) → 2 ≤ length (held w t) → has_work w t ≡ true
rich w t h = or-right (seat_shut w t) (nat_le 2 (length (held w t))) (grind (arith, nat_tests, h))

served-more : (s : State) (w : ℕ) (t : Turn) → IsScoped s → InRota s w → Ample s t → seat_shut w t.table ≡ false → Served w (give_more enough w (give_unit w t))
served-more s w t k a f unshut =
    let u = give_unit w t in
    let last = give_more enough w u in
    let covers = more-keeps IsCovered w (λ y z. covered-unit w y z) enough u (covered-unit w t f.covers) in
    elim (more-work s enough w u k a (fine-give_unit s w t k a f.fine unshut) (told-give_unit w w t ∙ unshut) (omega arith)) [
      | inl e ↦ inl (covers-spent last.table last.plan covers e)
      | inr h ↦ inr (rich w last.table h)
    ]

here-refill : (s : State) (w : ℕ) (t : Turn) → IsScoped s → InRota s w → Ample s t → Served w (scope_refill w t)
here-refill s w t k a f =
    in_both (Served w) (seat_shut w t.table) t (elim t.plan.queue as (λ _. Turn) [ [] ↦ shut w t | u ∷ us ↦ (if nat_lt enough (length (held w t.table)) then t else give_more enough w (give_unit w t)) ])
    (λ h. inr (or-left (seat_shut w t.table) (nat_le 2 (length (held w t.table))) h)) (λ h. by h t.plan.queue)
  where
    by : seat_shut w t.table ≡ false → (q : List (List ℕ)) → Served w (elim q as (λ _. Turn) [ [] ↦ shut w t | u ∷ us ↦ (if nat_lt enough (length (held w t.table)) then t else give_more enough w (give_unit w t)) ])
    by h [] = inr (shut-work w t (in_rota-of s t w f.fine.good a))
    by h (u ∷ us) = in_both (Served w) (nat_lt enough (length (held w t.table))) t (give_more enough w (give_unit w t)) (λ z. inr (rich w t.table (grind (arith, nat_tests, z)))) (λ z. served-more s w t k a f h)

pub refill-employs : (s : State) (w : ℕ) (t : Turn) → IsScoped s → InRota s w → Ample s t → Employs scope_refill w t
refill-employs s w t k a f = record { spent = spent-refill w t; still = λ v h. still-refill v w t h; here = here-refill s w t k a f }

pub ample-refill : (s : State) (w : ℕ) (t : Turn) → IsScoped s → InRota s w → Ample s t → Ample s (scope_refill w t)
ample-refill s w t k a f = record { fine = fine-refill s w t k a f.fine; covers = covered-refill w t f.covers }

pub refills-work : (s : State) (ws : List ℕ) (t : Turn) → IsScoped s → all_among ws (workers_of s.books.table) ≡ true → Ample s t → AllWork ws (in_turn scope_refill ws t).table
refills-work s ws t k h f = work-through (Ample s) scope_refill (workers_of s.books.table) (λ w u a z. ample-refill s w u k a z) (λ w u a z. refill-employs s w u k a z) ws t h f

-- the share

units-spent : (ws : List ℕ) (t : Turn) → length t.plan.queue ≤ length ws → (in_turn give_unit ws t).plan.queue ≡ []
units-spent [] t h = empty t.plan.queue h
  where
    empty : (q : List (List ℕ)) → length q ≤ 0 → q ≡ []
    empty [] h = refl
    empty (u ∷ us) h = absurd (omega (arith, h))
units-spent (w ∷ ws) t h = units-spent ws (give_unit w t) (by t.plan.queue refl)
  where
    by : (q : List (List ℕ)) → t.plan.queue ≡ q → length (give_unit w t).plan.queue ≤ length ws
    by [] e = (let z : length (give_unit w t).plan.queue ≡ 0 = ap (λ (y : Turn). length y.plan.queue) (unit-none w t e) ∙ ap (λ (q : List (List ℕ)). length q) e in omega (arith, z))
    by (u ∷ us) e = (let z : length (give_unit w t).plan.queue ≡ length us = ap (λ (y : Turn). length y.plan.queue) (give_unit-front w u us t e) in
        let l : length (u ∷ us) ≤ length (w ∷ ws) = subst (λ (q : List (List ℕ)). length q ≤ length (w ∷ ws)) e h in
        omega (arith, z, l))

among-split : (x n : ℕ) (xs : List ℕ) → among x xs ≡ true → (among x (take n xs) || among x (drop n xs)) ≡ true
among-split x zero xs h = h
among-split x (suc n) [] h = absurd (differ h)
among-split x (suc n) (y ∷ xs) h = grind (arith, nat_tests, h, among-split x n xs)

-- whoever is told has work
shuts-work : (v : ℕ) (ws : List ℕ) (t : Turn) → among v ws ≡ true → has_seat v t.table.rota ≡ true → has_work v (shut_each ws t).table ≡ true
shuts-work v [] t a seat = absurd (differ a)
shuts-work v (w ∷ ws) t a seat = elim (split-or (v == w) (among v ws) a) [
  | inl e ↦
      (let same : w ≡ v = grind (arith, nat_tests, e) in
      shut_each-still v ws (shut w t) (subst (λ (u : ℕ). has_work v (shut u t).table ≡ true) (sym same) (shut-work v t seat)))
  | inr b ↦ shuts-work v ws (shut w t) b (seat-shut v w t seat)
]
  where
    seat-shut : (v w : ℕ) (t : Turn) → has_seat v t.table.rota ≡ true → has_seat v (shut w t).table.rota ≡ true
    seat-shut v w t h = in_both (λ (u : Turn). has_seat v u.table.rota ≡ true) (seat_shut w t.table) t (record t { table = shut_down w t.table; acts = t.acts ++ Shutdown w ∷ [] }) (λ k. h)
        (λ k. seat-change v w (λ s. record s { shut = true }) t.table.rota (λ s. refl) ∙ h)

module _ (s : State) (k : IsScoped s) (d : Tidy s) (unshut : (v : ℕ) → InRota s v → seat_shut v s.books.table ≡ false) (f : Fine s (turn_of s)) (c : Covers s.books.table s.plan) where
  abbrev begins : Turn
  begins = turn_of s

  abbrev n : ℕ
  n = length s.plan.queue

  abbrev ws : List ℕ
  ws = workers_of s.books.table

  abbrev front : List ℕ
  front = take n ws

  abbrev back : List ℕ
  back = reverse (drop n ws)

  preceding : all_among front ws ≡ true
  preceding = all_among-take n ws

  following : all_among back ws ≡ true
  following = all_among-of back ws (λ x h. among_of-all_among x (drop n ws) ws (all_among-drop n (drop n ws) ws (all_among-self (drop n ws))) (sym (among-reverse x (drop n ws)) ∙ h))

  abbrev first : Turn
  first = shut_each back begins

  untold : (v : ℕ) → among v front ≡ true → seat_shut v first.table ≡ false
  untold v h = told-others v back begins (among-reverse v (drop n ws) ∙ front-only v n ws (rota-distinct s d) h) ∙ unshut v (among_of-all_among v front ws preceding h)

  abbrev units : Turn
  units = in_turn give_unit front first

  dealt : FineFor s front units
  dealt = fine-units s front first k preceding (record { fine = fine-shut_each s back begins following f; untold = untold })

  covered : Covers units.table units.plan
  covered = in_turn-all IsCovered give_unit (λ w u z. covered-unit w u z) front first (covered-shuts back begins c)

  abbrev last : Turn
  last = in_turn scope_refill front units

  front-work : AllWork front last.table
  front-work = refills-work s front units k preceding (record { fine = dealt.fine; covers = covered })

  back-work : (v : ℕ) → among v (drop n ws) ≡ true → has_work v last.table ≡ true
  back-work v h =
      let told = shuts-work v back begins (among-reverse v (drop n ws) ∙ h) (seat-among v s.books.table.rota ∙ among_of-all_among v (drop n ws) ws (all_among-drop n (drop n ws) ws (all_among-self (drop n ws))) h) in
      in_turn-all (λ (u : Turn). has_work v u.table ≡ true) scope_refill (λ w u z. still-refill v w u z) front units
      (in_turn-all (λ (u : Turn). has_work v u.table ≡ true) give_unit (λ w u z. unit-still v w u z) front first told)

  last-work : AllWork ws last.table
  last-work = elim front-work [
    | inl e ↦ inl e
    | inr h ↦ inr (λ v a. elim (split-or (among v front) (among v (drop n ws)) (among-split v n ws a)) [ inl b ↦ h v b | inr b ↦ back-work v b ])
  ]

  pub share-work : AllWork ws (scope_share begins).table
  share-work = by s.books.table.pool refl
    where
      kept : (vs : List ℕ) (u : Turn) → AllWork ws u.table → AllWork ws (shut_each vs u).table
      kept vs u z = elim z [ inl e ↦ inl (shut_each-pool vs u ∙ e) | inr h ↦ inr (λ v a. shut_each-still v vs u (h v a)) ]

      spent : (q : List (List ℕ)) → AllWork ws (elim q as (λ _. Turn) [ [] ↦ shut_each (workers_of last.table) last | u ∷ us ↦ last ]).table
      spent [] = kept (workers_of last.table) last last-work
      spent (u ∷ us) = last-work

      by : (pool : List ℕ) → s.books.table.pool ≡ pool → AllWork ws (elim pool as (λ _. Turn) [ [] ↦ begins | x ∷ xs ↦ shut_where_spent last ]).table
      by [] e = inl e
      by (x ∷ xs) e = spent last.plan.queue

-- who is told to shut down

record FairCover (t : Turn) : Type 0 where
  fair : Fair t
  covers : Covers t.table t.plan

fair-unit : (w : ℕ) (t : Turn) → Fair t → Fair (give_unit w t)
fair-unit w t f = unit-by Fair w t f (λ u us e. record {
  steal = f.steal;
  fair = elim f.fair [ inl z ↦ inl (ap (λ (xs : List ℕ). without u xs) z) | inr h ↦ inr (hand-more t.acts (Run w u) h refl) ];
})

both-unit : (w : ℕ) (t : Turn) → FairCover t → FairCover (give_unit w t)
both-unit w t f = record { fair = fair-unit w t f.fair; covers = covered-unit w t f.covers }

both-refill : (w : ℕ) (t : Turn) → FairCover t → FairCover (scope_refill w t)
both-refill w t f = refill-keeps FairCover w (λ u z. both-unit w u z) t f (λ e. record { fair = fair-shut w t (covers-spent t.table t.plan f.covers e) f.fair; covers = covered-shut w t f.covers })

pub fair-refill : (w : ℕ) (t : Turn) → Fair t → Covers t.table t.plan → Fair (scope_refill w t)
fair-refill w t f c = (both-refill w t (record { fair = f; covers = c })).fair

pub fair-refills : (ws : List ℕ) (t : Turn) → Fair t → Covers t.table t.plan → Fair (in_turn scope_refill ws t)
fair-refills ws t f c = (in_turn-all FairCover scope_refill (λ w u z. both-refill w u z) ws t (record { fair = f; covers = c })).fair

drop-all : (n : ℕ) (xs : List ℕ) → length xs ≤ n → drop n xs ≡ []
drop-all zero [] h = refl
drop-all (suc n) [] h = refl
drop-all zero (x ∷ xs) h = absurd (omega (arith, h))
drop-all (suc n) (x ∷ xs) h = drop-all n xs (omega (arith, h))

pub fair-share : (t : Turn) → Fair t → Covers t.table t.plan → Fair (scope_share t)
fair-share t f c = by t.table.pool refl
  where
    k : ℕ
    k = length t.plan.queue

    vs : List ℕ
    vs = workers_of t.table

    one : Turn
    one = shut_each (reverse (drop k vs)) t

    two : Turn
    two = in_turn give_unit (take k vs) one

    covers : Covers two.table two.plan
    covers = in_turn-all IsCovered give_unit (λ w u z. covered-unit w u z) (take k vs) one (covered-shuts (reverse (drop k vs)) t c)

    few : length vs ≤ k → Fair two
    few h = (let none : one ≡ t = ap (λ (xs : List ℕ). shut_each (reverse xs) t) (drop-all k vs h) in
        in_turn-all Fair give_unit (λ w u z. fair-unit w u z) (take k vs) one (subst Fair (sym none) f))

    many : k ≤ length vs → Fair two
    many h = (let count : length (take k vs) ≡ k = length-take-le k vs h in
        let same : length one.plan.queue ≡ k = ap (λ (p : Plan). length p.queue) (plan-shut_each (reverse (drop k vs)) t) in
        let spent : two.plan.queue ≡ [] = units-spent (take k vs) one (omega (arith, count, same)) in
        record {
          steal = in_turn-all (λ (u : Turn). u.plan.steal ≡ None) give_unit (λ w u z. unit-by (λ (y : Turn). y.plan.steal ≡ None) w u z (λ x us e. z)) (take k vs) one (ap (λ (p : Plan). p.steal) (plan-shut_each (reverse (drop k vs)) t) ∙ f.steal);
          fair = inl (covers-spent two.table two.plan covers spent);
        })

    dealt_fair : Fair two
    dealt_fair = elim (cases_of (nat_le k (length vs))) [ inl h ↦ many (grind (arith, nat_tests, h)) | inr h ↦ few (grind (arith, nat_tests, h)) ]

    last_one : FairCover (in_turn scope_refill (take k vs) two)
    last_one = in_turn-all FairCover scope_refill (λ w u z. both-refill w u z) (take k vs) two (record { fair = dealt_fair; covers = covers })

    spent_by : (q : List (List ℕ)) → (in_turn scope_refill (take k vs) two).plan.queue ≡ q
        → Fair (elim q as (λ _. Turn) [ [] ↦ shut_each (workers_of (in_turn scope_refill (take k vs) two).table) (in_turn scope_refill (take k vs) two) | u ∷ us ↦ in_turn scope_refill (take k vs) two ])
    spent_by [] e = fair-shut_each (workers_of (in_turn scope_refill (take k vs) two).table) (in_turn scope_refill (take k vs) two) (covers-spent (in_turn scope_refill (take k vs) two).table (in_turn scope_refill (take k vs) two).plan last_one.covers e) last_one.fair
    spent_by (u ∷ us) e = last_one.fair

    by : (pool : List ℕ) → t.table.pool ≡ pool → Fair (elim pool as (λ _. Turn) [ [] ↦ t | x ∷ xs ↦ shut_where_spent (in_turn scope_refill (take k vs) two) ])
    by [] e = f
    by (x ∷ xs) e = spent_by (in_turn scope_refill (take k vs) two).plan.queue refl
