-- After each turn of mode load the pool is empty, or each worker has work.
use Rattle.std.proofs.Common.{◌≡◌, ℕ, suc, ◌+◌, ◌-◌, ◌*◌, ◌/◌, ◌≤◌, List, [], ◌∷◌, ◌++◌, length, take, true, false, not, ◌&&◌, refl, ap, sym, ◌∙◌, subst, arith, inl, inr, length-append}
use Rattle.std.specs.Prelude.{◌⊎◌, nat_le, nat_lt, min, max}
use Rattle.std.proofs.lemmas.Bool.Decides.{nat_tests}
use Rattle.xd_run.specs.Numbers.{among, without}
use Rattle.xd_run.specs.Table.{held, seat_shut, workers_of}
use Rattle.xd_run.specs.Plan.{chunk_of}
use Rattle.xd_run.specs.Turn.{Turn, give, give_front, shut, in_turn, shut_each}
use Rattle.xd_run.specs.Load.{is_due, more, topped_up, load_refill, load_refill_all, first_batch, give_unless_shut, dealt_singly, load_share}
use Rattle.xd_run.specs.Turn.{enough}
use Rattle.xd_run.specs.Sharing.{State}
use Rattle.xd_run_laws.proofs.Logic.{cases_of, or-left, or-right, in_both}
use Rattle.xd_run_laws.proofs.Rota.{has_seat, told-change}
use Rattle.xd_run_laws.proofs.Turns.{Good, IsPlain, in_rota-of, rota-all}
use Rattle.xd_run_laws.proofs.LoadTurns.{good-refill, good-guarded}
use Rattle.xd_run_laws.proofs.EachTurns.{pool-shut}
use Rattle.xd_run_laws.proofs.Busy.{AllWork, Employs, front-spent, front-still, front-work, has_work, shut-still, shut_each-pool, work-through}

-- a refill

more-enough : (h q c : ℕ) → 2 ≤ h + min (max 2 q - h) (max (2 - h) c)
more-enough h q c = omega arith

rich-unless_due : (h q ms : ℕ) → (nat_lt h (max 2 q) && not (nat_le 100 ms && nat_le 2 h)) ≡ false → 2 ≤ h
rich-unless_due h q ms k = elim (cases_of (nat_le 2 h)) [
  | inl l ↦ grind (arith, nat_tests, l)
  | inr l ↦ (let few : nat_lt h (max 2 q) ≡ true = grind (arith, nat_tests, l) in absurd (grind (arith, nat_tests, k, l, few)))
]

topped-spent : (ms w : ℕ) (t : Turn) → t.table.pool ≡ [] → (topped_up ms w t).table.pool ≡ []
topped-spent ms w t e =
    let pool = length t.table.pool in
    let workers = length (workers_of t.table) in
    let holds = length (held w t.table) in
    let n = more pool workers (chunk_of t.plan) holds in
    in_both (λ (u : Turn). u.table.pool ≡ []) (is_due pool workers holds ms) (give_front w n t) t (λ h. front-spent w n t e) (λ h. e)

topped-still : (v ms w : ℕ) (t : Turn) → has_work v t.table ≡ true → has_work v (topped_up ms w t).table ≡ true
topped-still v ms w t k =
    let pool = length t.table.pool in
    let workers = length (workers_of t.table) in
    let holds = length (held w t.table) in
    let n = more pool workers (chunk_of t.plan) holds in
    in_both (λ (u : Turn). has_work v u.table ≡ true) (is_due pool workers holds ms) (give_front w n t) t (λ h. front-still v w n t k) (λ h. k)

-- the pool is empty, or the worker has work
abbrev Served : ℕ → Turn → Type 0
Served w u = (u.table.pool ≡ []) ⊎ (has_work w u.table ≡ true)

topped-here : (ms w : ℕ) (t : Turn) → has_seat w t.table.rota ≡ true → Served w (topped_up ms w t)
topped-here ms w t seat =
    let pool = length t.table.pool in
    let workers = length (workers_of t.table) in
    let holds = length (held w t.table) in
    let n = more pool workers (chunk_of t.plan) holds in
    in_both (Served w) (is_due pool workers holds ms) (give_front w n t) t
    (λ h. front-work w n t seat (more-enough holds (pool / workers / 2) (chunk_of t.plan)))
    (λ h. (let rich = rich-unless_due holds (pool / workers / 4) ms h in inr (or-right (seat_shut w t.table) (nat_le 2 holds) (grind (arith, nat_tests, rich)))))

refill-spent : (ms w : ℕ) (t : Turn) → t.table.pool ≡ [] → (load_refill ms w t).table.pool ≡ []
refill-spent ms w t e = in_both (λ (u : Turn). u.table.pool ≡ []) (seat_shut w t.table) t (elim t.table.pool as (λ _. Turn) [ [] ↦ shut w t | x ∷ xs ↦ topped_up ms w t ]) (λ h. e) (λ h. by t.table.pool)
  where
    by : (pool : List ℕ) → (elim pool as (λ _. Turn) [ [] ↦ shut w t | x ∷ xs ↦ topped_up ms w t ]).table.pool ≡ []
    by [] = pool-shut w t ∙ e
    by (x ∷ xs) = topped-spent ms w t e

refill-still : (v ms w : ℕ) (t : Turn) → has_work v t.table ≡ true → has_work v (load_refill ms w t).table ≡ true
refill-still v ms w t k = in_both (λ (u : Turn). has_work v u.table ≡ true) (seat_shut w t.table) t (elim t.table.pool as (λ _. Turn) [ [] ↦ shut w t | x ∷ xs ↦ topped_up ms w t ]) (λ h. k) (λ h. by t.table.pool)
  where
    by : (pool : List ℕ) → has_work v (elim pool as (λ _. Turn) [ [] ↦ shut w t | x ∷ xs ↦ topped_up ms w t ]).table ≡ true
    by [] = shut-still v w t k
    by (x ∷ xs) = topped-still v ms w t k

refill-here : (ms w : ℕ) (t : Turn) → has_seat w t.table.rota ≡ true → Served w (load_refill ms w t)
refill-here ms w t seat =
    in_both (Served w) (seat_shut w t.table) t (elim t.table.pool as (λ _. Turn) [ [] ↦ shut w t | x ∷ xs ↦ topped_up ms w t ])
    (λ h. inr (or-left (seat_shut w t.table) (nat_le 2 (length (held w t.table))) h)) (λ h. by t.table.pool refl)
  where
    by : (pool : List ℕ) → t.table.pool ≡ pool → Served w (elim pool as (λ _. Turn) [ [] ↦ shut w t | x ∷ xs ↦ topped_up ms w t ])
    by [] e = inl (pool-shut w t ∙ e)
    by (x ∷ xs) e = topped-here ms w t seat

pub refill-employs : (ms w : ℕ) (t : Turn) → has_seat w t.table.rota ≡ true → Employs (load_refill ms) w t
refill-employs ms w t seat = record { spent = refill-spent ms w t; still = λ v k. refill-still v ms w t k; here = refill-here ms w t seat }

pub refill_all-work : (s : State) (t : Turn) → IsPlain s.plan.mode → Good s t → AllWork (workers_of t.table) (load_refill_all t).table
refill_all-work s t plain g =
    work-through (Good s) (load_refill 0) (workers_of s.books.table) (λ w u a h. good-refill s 0 w u plain a h) (λ w u a h. refill-employs 0 w u (in_rota-of s u w h a)) (workers_of t.table) t (rota-all s t g) g

-- the share

guarded-employs : (n w : ℕ) (t : Turn) → 2 ≤ n → has_seat w t.table.rota ≡ true → Employs (give_unless_shut n) w t
guarded-employs n w t two seat = record {
  spent = λ e. in_both (λ (u : Turn). u.table.pool ≡ []) (seat_shut w t.table) t (give_front w n t) (λ h. e) (λ h. front-spent w n t e);
  still = λ v k. in_both (λ (u : Turn). has_work v u.table ≡ true) (seat_shut w t.table) t (give_front w n t) (λ h. k) (λ h. front-still v w n t k);
  here = in_both (Served w) (seat_shut w t.table) t (give_front w n t)
      (λ h. inr (or-left (seat_shut w t.table) (nat_le 2 (length (held w t.table))) h)) (λ h. front-work w n t seat (omega (arith, two)));
}

batch-enough : (a b : ℕ) → 2 ≤ max (min a b) 2
batch-enough a b = omega arith

-- tests are dealt singly, to workers that were told nothing

fewer : (x : ℕ) (xs : List ℕ) → length (without (x ∷ []) xs) ≤ length xs
fewer x [] = omega arith
fewer x (y ∷ xs) = grind (arith, nat_tests, fewer x xs)

one-fewer : (w n : ℕ) (t : Turn) → length t.table.pool ≤ suc n → length (give_front w 1 t).table.pool ≤ n
one-fewer w n t h = by t.table.pool refl
  where
    by : (pool : List ℕ) → t.table.pool ≡ pool → length (give w (take 1 pool) t).table.pool ≤ n
    by [] e = (let z : length t.table.pool ≡ 0 = ap (λ (xs : List ℕ). length xs) e in omega (arith, z))
    by (x ∷ xs) e =
        (let z : length (without (x ∷ []) t.table.pool) ≡ length (without (x ∷ []) (x ∷ xs)) = ap (λ (ys : List ℕ). length (without (x ∷ []) ys)) e in
        let l : length (x ∷ xs) ≤ suc n = subst (λ (ys : List ℕ). length ys ≤ suc n) e h in
        let f = fewer x xs in
        let g : length (without (x ∷ []) (x ∷ xs)) ≡ length (without (x ∷ []) xs) = grind (arith, nat_tests) in
        omega (arith, z, l, f, g))

untold-give : (v w : ℕ) (items : List ℕ) (t : Turn) → seat_shut v t.table ≡ false → seat_shut v (give w items t).table ≡ false
untold-give v w [] t h = h
untold-give v w (i ∷ is) t h = told-change v w (λ s. record s { held = s.held ++ i ∷ is }) t.table.rota (λ s. refl) (λ s. refl) ∙ h

guarded-open : (n w : ℕ) (t : Turn) → seat_shut w t.table ≡ false → give_unless_shut n w t ≡ give_front w n t
guarded-open n w t h = rw h

singly : (ws : List ℕ) (t : Turn) → length t.table.pool ≤ length ws → ((v : ℕ) → among v ws ≡ true → seat_shut v t.table ≡ false) → (in_turn (give_unless_shut 1) ws t).table.pool ≡ []
singly [] t h k = empty t.table.pool h
  where
    empty : (xs : List ℕ) → length xs ≤ 0 → xs ≡ []
    empty [] h = refl
    empty (x ∷ xs) h = absurd (omega (arith, h))
singly (w ∷ ws) t h k =
    let same = guarded-open 1 w t (k w (grind (arith, nat_tests))) in
    subst (λ (u : Turn). (in_turn (give_unless_shut 1) ws u).table.pool ≡ []) (sym same)
    (singly ws (give_front w 1 t) (one-fewer w (length ws) t h) (λ v a. untold-give v w (take 1 t.table.pool) t (k v (grind (arith, nat_tests, a)))))

twice : (n m : ℕ) → nat_lt n (2 * m) ≡ true → n ≤ m + m
twice n m h = grind (arith, nat_tests, h)

among-twice : (v : ℕ) (xs ys : List ℕ) → among v (xs ++ ys) ≡ true → ((u : ℕ) → among u xs ≡ true → among u ys ≡ true) → among v ys ≡ true
among-twice v [] ys h k = h
among-twice v (x ∷ xs) ys h k = elim (cases_of (among v (x ∷ xs))) [
  | inl a ↦ k v a
  | inr a ↦ among-twice v xs ys (grind (arith, nat_tests, a, h)) (λ u b. k u (grind (arith, nat_tests, b)))
]

dealt-work : (s : State) (t : Turn) → IsPlain s.plan.mode → Good s t → ((v : ℕ) → among v (workers_of t.table) ≡ true → seat_shut v t.table ≡ false) → AllWork (workers_of t.table) (dealt_singly t).table
dealt-work s t plain g k =
    let tests = length t.table.pool in
    let ws = workers_of t.table in
    let n = first_batch tests (length ws) (chunk_of t.plan) in
    in_both (λ (u : Turn). AllWork ws u.table) (nat_lt tests (enough * length ws)) (in_turn (give_unless_shut 1) (ws ++ ws) t) (in_turn (give_unless_shut n) ws t)
    (λ h. (let two = length-append ws ws in
    let l = twice tests (length ws) h in
    inl (singly (ws ++ ws) t (omega (arith, two, l)) (λ v a. k v (among-twice v ws ws a (λ u b. b))))))
    (λ h. work-through (Good s) (give_unless_shut n) (workers_of s.books.table) (λ w u a x. good-guarded s n w u plain a x)
    (λ w u a x. guarded-employs n w u (batch-enough _ (chunk_of t.plan)) (in_rota-of s u w x a)) ws t (rota-all s t g) g)

pub share-work : (s : State) (t : Turn) → IsPlain s.plan.mode → Good s t → ((v : ℕ) → among v (workers_of t.table) ≡ true → seat_shut v t.table ≡ false) → AllWork (workers_of t.table) (load_share t).table
share-work s t plain g k = by (dealt_singly t).table.pool refl
  where
    by : (pool : List ℕ) → (dealt_singly t).table.pool ≡ pool → AllWork (workers_of t.table) (elim pool as (λ _. Turn) [ [] ↦ shut_each (workers_of (dealt_singly t).table) (dealt_singly t) | x ∷ xs ↦ dealt_singly t ]).table
    by [] e = inl (shut_each-pool (workers_of (dealt_singly t).table) (dealt_singly t) ∙ e)
    by (x ∷ xs) e = dealt-work s t plain g k
