-- After each turn of mode worksteal the pool is empty, or each worker has work.
use Rattle.std.proofs.Common.{◌≡◌, ℕ, ◌+◌, ◌/◌, ◌≤◌, List, [], ◌∷◌, length, take, map, Bool, true, false, not, ◌&&◌, ◌||◌, refl, sym, ◌∙◌, subst, arith, inl, inr}
use Rattle.std.specs.Prelude.{◌==◌, nat_le, nat_lt, filter, Option, Some, None}
use Rattle.std.proofs.lemmas.Bool.Decides.{nat_tests}
use Rattle.xd_run.specs.declared.seat.Seat.{Seat}
use Rattle.xd_run.specs.Numbers.{among}
use Rattle.xd_run.specs.Table.{held_in, workers_of}
use Rattle.xd_run.specs.Plan.{UnansweredSteal}
use Rattle.xd_run.specs.Turn.{Turn, give_front, shut_each}
use Rattle.xd_run.specs.Worksteal.{idle, dealt, victim, steal_count, asks, asks_or_shuts, after_dealing, rule, steal_share}
use Rattle.xd_run.specs.Turn.{enough}
use Rattle.xd_run_laws.proofs.Logic.{differ, cases_of, in_both}
use Rattle.xd_run_laws.proofs.Rota.{is_told}
use Rattle.xd_run_laws.proofs.Busy.{AllWork, give-all, shut_each-pool, taken-all}

-- where nobody is idle each worker has work

abbrev is_idle : Seat → Bool
is_idle s = not s.shut && nat_lt (length s.held) enough

not_idle : (b : Bool) (n : ℕ) → (not b && nat_lt n 2) ≡ false → (b || nat_le 2 n) ≡ true
not_idle true n h = refl
not_idle false n h = grind (arith, nat_tests, h)

or-either : (a b c : Bool) → (a || c) ≡ true → ((a || b) || c) ≡ true
or-either true b c h = refl
or-either false true c h = refl
or-either false false c h = h

working : (v : ℕ) (ss : List Seat) → filter is_idle ss ≡ [] → among v (map (λ s. s.worker) ss) ≡ true → (is_told v ss || nat_le 2 (length (held_in v ss))) ≡ true
working v [] h a = absurd (differ a)
working v (s ∷ ss) h a = elim (cases_of (is_idle s)) [
  | inl k ↦ absurd (let e : filter is_idle (s ∷ ss) ≡ s ∷ filter is_idle ss = rw k in let z : s ∷ filter is_idle ss ≡ [] = sym e ∙ h in cc)
  | inr k ↦
      (let rest : filter is_idle ss ≡ [] = (let e : filter is_idle (s ∷ ss) ≡ filter is_idle ss = rw k in sym e ∙ h) in
      elim (cases_of (s.worker == v)) [
        | inl same ↦
            (let mine = not_idle s.shut (length s.held) k in
            let told : is_told v (s ∷ ss) ≡ (s.shut || is_told v ss) = rw same in
            let holds : held_in v (s ∷ ss) ≡ s.held = rw same in
            subst (λ (b : Bool). (b || nat_le 2 (length (held_in v (s ∷ ss)))) ≡ true) (sym told)
            (subst (λ (xs : List ℕ). ((s.shut || is_told v ss) || nat_le 2 (length xs)) ≡ true) (sym holds) (or-either s.shut (is_told v ss) (nat_le 2 (length s.held)) mine)))
        | inr other ↦
            (let r = working v ss rest (grind (arith, nat_tests, other, a)) in
            let told : is_told v (s ∷ ss) ≡ is_told v ss = rw other in
            let holds : held_in v (s ∷ ss) ≡ held_in v ss = rw other in
            subst (λ (b : Bool). (b || nat_le 2 (length (held_in v (s ∷ ss)))) ≡ true) (sym told)
            (subst (λ (xs : List ℕ). (is_told v ss || nat_le 2 (length xs)) ≡ true) (sym holds) r))
      ])
]

-- the last idle worker gets what is left

whole : (n : ℕ) → n ≤ n / (0 + 1)
whole n = omega arith

pub dealt-spent : (w : ℕ) (ws : List ℕ) (t : Turn) → (dealt (w ∷ ws) t).table.pool ≡ []
dealt-spent w [] t =
    let n = length t.table.pool / (0 + 1) in
    give-all w (take n t.table.pool) t (taken-all n t.table.pool (whole (length t.table.pool)))
dealt-spent w (v ∷ vs) t = dealt-spent v vs (give_front w (length t.table.pool / (length (v ∷ vs) + 1)) t)

shuts-pool : (ws : List ℕ) (o : Option Seat) (t : Turn) → (asks_or_shuts ws o t).table.pool ≡ t.table.pool
shuts-pool ws None t = shut_each-pool ws t
shuts-pool ws (Some s) t = in_both (λ (u : Turn). u.table.pool ≡ t.table.pool) (steal_count s == 0) (shut_each ws t) (asks s (steal_count s) t) (λ h. shut_each-pool ws t) (λ h. refl)

after-pool : (t : Turn) → (after_dealing t).table.pool ≡ t.table.pool
after-pool t = by (idle t.table)
  where
    on_steal : (ws : List ℕ) (o : Option UnansweredSteal) → (elim o as (λ _. Turn) [ None ↦ asks_or_shuts ws (victim t.table) t | Some a ↦ t ]).table.pool ≡ t.table.pool
    on_steal ws None = shuts-pool ws (victim t.table) t
    on_steal ws (Some a) = refl

    by : (ws : List ℕ) → (elim ws as (λ _. Turn) [ [] ↦ t | v ∷ vs ↦ (elim t.plan.steal as (λ _. Turn) [ None ↦ asks_or_shuts (v ∷ vs) (victim t.table) t | Some a ↦ t ]) ]).table.pool ≡ t.table.pool
    by [] = refl
    by (v ∷ vs) = on_steal (v ∷ vs) t.plan.steal

pub rule-work : (t : Turn) → AllWork (workers_of t.table) (rule t).table
rule-work t = by (idle t.table) refl
  where
    unmapped : (ss : List Seat) → map (λ s. s.worker) ss ≡ [] → ss ≡ []
    unmapped [] h = refl
    unmapped (s ∷ ss) h = absurd (let z : s.worker ∷ map (λ x. x.worker) ss ≡ [] = h in cc)

    by : (ws : List ℕ) → idle t.table ≡ ws → AllWork (workers_of t.table) (elim ws as (λ _. Turn) [ [] ↦ t | v ∷ vs ↦ after_dealing (dealt (v ∷ vs) t) ]).table
    by [] e = inr (λ v a. working v t.table.rota (unmapped (filter is_idle t.table.rota) e) a)
    by (v ∷ vs) e = inl (after-pool (dealt (v ∷ vs) t) ∙ dealt-spent v vs t)

pub share-work : (t : Turn) → AllWork (workers_of t.table) (steal_share t).table
share-work t = by t.table.pool refl
  where
    by : (pool : List ℕ) → t.table.pool ≡ pool → AllWork (workers_of t.table) (elim pool as (λ _. Turn) [ [] ↦ t | x ∷ xs ↦ rule t ]).table
    by [] e = inl e
    by (x ∷ xs) e = rule-work t
