-- Workers of the rota that have something to do.
use Rattle.std.proofs.Common.{◌≡◌, ℕ, zero, suc, ◌+◌, ◌≤◌, List, [], ◌∷◌, ◌++◌, length, take, Bool, true, false, ◌||◌, refl, ap, sym, ◌∙◌, subst, arith, inl, inr, length-append}
use Rattle.std.specs.Prelude.{if◌then◌else◌, ◌==◌, ◌⊎◌, nat_le}
use Rattle.std.proofs.lemmas.Bool.Decides.{nat_tests}
use Rattle.std.proofs.lemmas.List.{length-take-le}
use Rattle.xd_journal.specs.declared.entry.Entry.TheVariants.{Shutdown}
use Rattle.xd_run.specs.declared.seat.Seat.{Seat}
use Rattle.xd_run.specs.Numbers.{among, all_among, without}
use Rattle.xd_run.specs.Table.{Table, held, held_in, seat_shut, at_seat, assigned, shut_down}
use Rattle.xd_run.specs.Turn.{Turn, give, give_front, shut, in_turn, shut_each}
use Rattle.xd_run_laws.proofs.Logic.{differ, cases_of, or-left, or-right, split-and, split-or, in_both}
use Rattle.xd_run_laws.proofs.Rota.{has_seat, is_told, told-change, told-shut, untold-of_seat}
use Rattle.xd_run_laws.proofs.Queue.{held-shut}
use Rattle.xd_run_laws.proofs.EachTurns.{pool-shut}

-- the worker was told to shut down, or a test stands after its first one
abbrev pub has_work : ℕ → Table → Bool
has_work w t = seat_shut w t || nat_le 2 (length (held w t))

-- the pool is empty, or each of these has work
abbrev pub AllWork : List ℕ → Table → Type 0
AllWork ws t = (t.pool ≡ []) ⊎ ((w : ℕ) → among w ws ≡ true → has_work w t ≡ true)

-- what a worker holds

held-grows : (v w : ℕ) (items : List ℕ) (ss : List Seat) → length (held_in v ss) ≤ length (held_in v (at_seat w (λ s. record s { held = s.held ++ items }) ss))
held-grows v w items [] = omega arith
held-grows v w items (s ∷ ss) = grind (arith, nat_tests, held-grows v w items ss, length-append s.held items)

pub held-given : (w : ℕ) (items : List ℕ) (ss : List Seat) → has_seat w ss ≡ true
    → length (held_in w (at_seat w (λ s. record s { held = s.held ++ items }) ss)) ≡ length (held_in w ss) + length items
held-given w items [] h = absurd (differ h)
held-given w items (s ∷ ss) h = grind (arith, nat_tests, held-given w items ss, length-append s.held items)

seat-of_told : (w : ℕ) (ss : List Seat) → is_told w ss ≡ true → has_seat w ss ≡ true
seat-of_told w ss h = elim (cases_of (has_seat w ss)) [ inl k ↦ k | inr k ↦ absurd (differ (sym (untold-of_seat w ss k) ∙ h)) ]

work-longer : (a : Bool) (m n : ℕ) → m ≤ n → (a || nat_le 2 m) ≡ true → (a || nat_le 2 n) ≡ true
work-longer true m n k h = refl
work-longer false m n k h = grind (arith, nat_tests, k, h)

pub work-give : (v w : ℕ) (items : List ℕ) (t : Table) → has_work v t ≡ true → has_work v (assigned w items t) ≡ true
work-give v w items t h =
    let f : Seat → Seat = λ s. record s { held = s.held ++ items } in
    let same = told-change v w f t.rota (λ s. refl) (λ s. refl) in
    let longer = work-longer (is_told v t.rota) (length (held_in v t.rota)) (length (held_in v (at_seat w f t.rota))) (held-grows v w items t.rota) h in
    subst (λ (b : Bool). (b || nat_le 2 (length (held_in v (at_seat w f t.rota)))) ≡ true) (sym same) longer

pub told-kept : (v w : ℕ) (ss : List Seat) → is_told v ss ≡ true → is_told v (at_seat w (λ s. record s { shut = true }) ss) ≡ true
told-kept v w ss h = told-shut v w ss ∙ (elim (v == w) as (λ b. (if b then has_seat v ss else is_told v ss) ≡ true) [ true ↦ seat-of_told v ss h | false ↦ h ])

pub work-shut : (v w : ℕ) (t : Table) → has_work v t ≡ true → has_work v (shut_down w t) ≡ true
work-shut v w t h = elim (split-or (seat_shut v t) (nat_le 2 (length (held v t))) h) [
  | inl k ↦ or-left (seat_shut v (shut_down w t)) (nat_le 2 (length (held v (shut_down w t)))) (told-kept v w t.rota k)
  | inr k ↦ or-right (seat_shut v (shut_down w t)) (nat_le 2 (length (held v (shut_down w t)))) (ap (λ (xs : List ℕ). nat_le 2 (length xs)) (held-shut v w t.rota) ∙ k)
]

-- a step for a worker: an empty pool stays so, whoever has work still has it, and the worker has work after it where the
-- pool is not empty
pub record Employs (f : ℕ → Turn → Turn) (w : ℕ) (t : Turn) : Type 0 where
  pub spent : t.table.pool ≡ [] → (f w t).table.pool ≡ []
  pub still : (v : ℕ) → has_work v t.table ≡ true → has_work v (f w t).table ≡ true
  pub here : ((f w t).table.pool ≡ []) ⊎ (has_work w (f w t).table ≡ true)

module _ (P : Turn → Type 0) (f : ℕ → Turn → Turn) (all : List ℕ) (keeps : (w : ℕ) (t : Turn) → among w all ≡ true → P t → P (f w t))
    (step : (w : ℕ) (t : Turn) → among w all ≡ true → P t → Employs f w t) where
  spent-through : (ws : List ℕ) (t : Turn) → all_among ws all ≡ true → P t → t.table.pool ≡ [] → (in_turn f ws t).table.pool ≡ []
  spent-through [] t h p e = e
  spent-through (w ∷ ws) t h p e =
      let q = split-and (among w all) (all_among ws all) h in
      spent-through ws (f w t) q.1 (keeps w t q.0 p) ((step w t q.0 p).spent e)

  pub still-through : (v : ℕ) (ws : List ℕ) (t : Turn) → all_among ws all ≡ true → P t → has_work v t.table ≡ true → has_work v (in_turn f ws t).table ≡ true
  still-through v [] t h p k = k
  still-through v (w ∷ ws) t h p k =
      let q = split-and (among w all) (all_among ws all) h in
      still-through v ws (f w t) q.1 (keeps w t q.0 p) ((step w t q.0 p).still v k)

  pub work-through : (ws : List ℕ) (t : Turn) → all_among ws all ≡ true → P t → AllWork ws (in_turn f ws t).table
  work-through [] t h p = inr (λ w a. absurd (differ a))
  work-through (w ∷ ws) t h p =
      let q = split-and (among w all) (all_among ws all) h in
      let now = keeps w t q.0 p in
      elim ((step w t q.0 p).here) [
        | inl e ↦ inl (spent-through ws (f w t) q.1 now e)
        | inr b ↦ (elim (work-through ws (f w t) q.1 now) [
          | inl e ↦ inl e
          | inr k ↦ inr (λ v a. elim (split-or (v == w) (among v ws) a) [
            | inl same ↦ (let e : w ≡ v = grind (arith, nat_tests, same) in subst (λ (u : ℕ). has_work u (in_turn f ws (f w t)).table ≡ true) e (still-through w ws (f w t) q.1 now b))
            | inr later ↦ k v later
          ])
        ])
      ]

-- items of the pool's front

pub without-self : (xs : List ℕ) → without xs xs ≡ []
without-self xs = without-part xs xs (λ x h. h)
  where
    without-part : (xs ys : List ℕ) → ((x : ℕ) → among x ys ≡ true → among x xs ≡ true) → without xs ys ≡ []
    without-part xs [] k = refl
    without-part xs (y ∷ ys) k =
        let here : among y xs ≡ true = k y (grind (arith, nat_tests)) in
        let rest = without-part xs ys (λ x h. k x (grind (arith, nat_tests, h))) in
        rw (here) rest

give-spent : (w : ℕ) (items : List ℕ) (t : Turn) → t.table.pool ≡ [] → (give w items t).table.pool ≡ []
give-spent w [] t e = e
give-spent w (i ∷ is) t e = ap (λ (xs : List ℕ). without (i ∷ is) xs) e

give-still : (v w : ℕ) (items : List ℕ) (t : Turn) → has_work v t.table ≡ true → has_work v (give w items t).table ≡ true
give-still v w [] t h = h
give-still v w (i ∷ is) t h = work-give v w (i ∷ is) t.table h

give-work : (w : ℕ) (items : List ℕ) (t : Turn) → has_seat w t.table.rota ≡ true → 2 ≤ length (held w t.table) + length items → has_work w (give w items t).table ≡ true
give-work w [] t h k = or-right (seat_shut w t.table) (nat_le 2 (length (held w t.table))) (grind (arith, nat_tests, k))
give-work w (i ∷ is) t h k =
    let u = (give w (i ∷ is) t).table in
    let g = held-given w (i ∷ is) t.table.rota h in
    or-right (seat_shut w u) (nat_le 2 (length (held w u))) (grind (arith, nat_tests, g, k))

pub taken-all : (n : ℕ) (xs : List ℕ) → length xs ≤ n → take n xs ≡ xs
taken-all zero [] h = refl
taken-all (suc n) [] h = refl
taken-all zero (x ∷ xs) h = absurd (omega (arith, h))
taken-all (suc n) (x ∷ xs) h = ap (λ (ys : List ℕ). x ∷ ys) (taken-all n xs (omega (arith, h)))

pub give-all : (w : ℕ) (items : List ℕ) (t : Turn) → items ≡ t.table.pool → (give w items t).table.pool ≡ []
give-all w [] t e = sym e
give-all w (i ∷ is) t e = ap (λ (xs : List ℕ). without (i ∷ is) xs) (sym e) ∙ without-self (i ∷ is)

-- n are given that the worker has two, or all that there are
pub front-work : (w n : ℕ) (t : Turn) → has_seat w t.table.rota ≡ true → 2 ≤ length (held w t.table) + n → ((give_front w n t).table.pool ≡ []) ⊎ (has_work w (give_front w n t).table ≡ true)
front-work w n t h k = elim (cases_of (nat_le (length t.table.pool) n)) [
  | inl l ↦ inl (give-all w (take n t.table.pool) t (taken-all n t.table.pool (grind (arith, nat_tests, l))))
  | inr l ↦
      (let many : n ≤ length t.table.pool = grind (arith, nat_tests, l) in
      let count : length (take n t.table.pool) ≡ n = length-take-le n t.table.pool many in
      inr (give-work w (take n t.table.pool) t h (omega (arith, count, k))))
]

pub front-spent : (w n : ℕ) (t : Turn) → t.table.pool ≡ [] → (give_front w n t).table.pool ≡ []
front-spent w n t e = give-spent w (take n t.table.pool) t e

pub front-still : (v w n : ℕ) (t : Turn) → has_work v t.table ≡ true → has_work v (give_front w n t).table ≡ true
front-still v w n t h = give-still v w (take n t.table.pool) t h

-- Shutdowns

pub shut-still : (v w : ℕ) (t : Turn) → has_work v t.table ≡ true → has_work v (shut w t).table ≡ true
shut-still v w t h = in_both (λ (u : Turn). has_work v u.table ≡ true) (seat_shut w t.table) t (record t { table = shut_down w t.table; acts = t.acts ++ Shutdown w ∷ [] }) (λ k. h) (λ k. work-shut v w t.table h)

pub shut-work : (w : ℕ) (t : Turn) → has_seat w t.table.rota ≡ true → has_work w (shut w t).table ≡ true
shut-work w t seat = in_both (λ (u : Turn). has_work w u.table ≡ true) (seat_shut w t.table) t (record t { table = shut_down w t.table; acts = t.acts ++ Shutdown w ∷ [] })
    (λ k. or-left (seat_shut w t.table) (nat_le 2 (length (held w t.table))) k)
    (λ k. or-left (seat_shut w (shut_down w t.table)) (nat_le 2 (length (held w (shut_down w t.table)))) (told-shut w w t.table.rota ∙ grind (arith, nat_tests, seat)))

pub shut_each-pool : (ws : List ℕ) (t : Turn) → (shut_each ws t).table.pool ≡ t.table.pool
shut_each-pool [] t = refl
shut_each-pool (w ∷ ws) t = shut_each-pool ws (shut w t) ∙ pool-shut w t

pub shut_each-still : (v : ℕ) (ws : List ℕ) (t : Turn) → has_work v t.table ≡ true → has_work v (shut_each ws t).table ≡ true
shut_each-still v [] t h = h
shut_each-still v (w ∷ ws) t h = shut_each-still v ws (shut w t) (shut-still v w t h)
