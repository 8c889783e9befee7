-- The share of the scope modes.
use Rattle.std.proofs.Common.{◌≡◌, ℕ, zero, suc, ◌+◌, ◌-◌, ◌<◌, ◌≤◌, min, List, [], ◌∷◌, take, drop, length, get_or, refl, ap, sym, subst, ◌∙◌, arith, inl, inr}
use Rattle.std.specs.Prelude.{reverse}
use Rattle.std.proofs.lemmas.Bool.{cases_lt}
use Rattle.std.proofs.lemmas.List.{get_or-drop, get_or-reverse, length-drop, length-reverse, take_min}
use Rattle.xd_journal.specs.declared.entry.Entry.{Entry}
use Rattle.xd_ledger.specs.Calls.{turn}
use Rattle.xd_run.specs.Plan.{Plan}
use Rattle.xd_run.specs.ScopeModes.{scope_share, shut_where_spent}
use Rattle.xd_run.specs.Table.{Table, workers_of}
use Rattle.xd_run.specs.Turn.{Turn, shut, shut_each}
use Rattle.xd_run.proofs.Turns.{workers-shut_turn}
use Rattle.xd_scope.specs.declared.units.Units.{Units}
use Rattle.xd_scope.specs.Stands.{IsAt, Keeps, served_share}

-- the workers after the first n, the last one first

pub length-last : (ws : List ℕ) (k : ℕ) → length (reverse (drop k ws)) ≡ length ws - k
length-last ws k = length-reverse (drop k ws) ∙ length-drop k ws

pub from-last : (ws : List ℕ) (k i : ℕ) → i < length ws - k → get_or (reverse (drop k ws)) i 0 ≡ get_or ws (k + (length ws - k - 1 - i)) 0
from-last ws k i h =
    let n = length-drop k ws in
    let a = get_or-reverse (drop k ws) i 0 (omega (arith, n)) in
    let b = get_or-drop k ws (length (drop k ws) - 1 - i) 0 in
    a ∙ b ∙ ap (λ (m : ℕ). get_or ws (k + (m - 1 - i)) 0) n

-- a turn that changes no plan
pub is-at-turn : (t : Turn) (table : Table) (p : Plan) (acts : List Entry) (u : Units) → turn table p acts ≡ t → Keeps u p → IsAt t table acts u
is-at-turn t table p acts u e h = record {
  table_is = ap (λ (s : Turn). s.table) e;
  acts_are = ap (λ (s : Turn). s.acts) e;
  keeps = subst (λ (q : Plan). Keeps u q) (ap (λ (s : Turn). s.plan) e) h;
}

pool-shut : (w : ℕ) (t : Turn) → (shut w t).table.pool ≡ t.table.pool
pool-shut w t = grind (arith)

pub pool-shut_each : (ws : List ℕ) (t : Turn) → (shut_each ws t).table.pool ≡ t.table.pool
pool-shut_each [] t = refl
pool-shut_each (w ∷ ws) t = pool-shut_each ws (shut w t) ∙ pool-shut w t

pub workers-shut_each : (ws : List ℕ) (t : Turn) → workers_of (shut_each ws t).table ≡ workers_of t.table
workers-shut_each [] t = refl
workers-shut_each (w ∷ ws) t = workers-shut_each ws (shut w t) ∙ workers-shut_turn w t

-- no more workers are served than there are

drop-past : (ws : List ℕ) (k : ℕ) → length ws ≤ k → drop k ws ≡ []
drop-past [] zero h = refl
drop-past [] (suc k) h = refl
drop-past (w ∷ ws) zero h = absurd (omega arith)
drop-past (w ∷ ws) (suc k) h = drop-past ws k (omega arith)

drop-served : (ws : List ℕ) (k n : ℕ) → n ≡ min k (length ws) → drop n ws ≡ drop k ws
drop-served ws k n e = elim (cases_lt k (length ws)) [
  | inl h ↦ ap (λ (m : ℕ). drop m ws) (let q : n ≡ k = omega (arith, e, h) in q)
  | inr h ↦ drop-past ws n (omega (arith, e, h)) ∙ sym (drop-past ws k h)
]

pub served-same : (ws : List ℕ) (k n : ℕ) (t : Turn) → n ≡ min k (length ws) → served_share n ws t ≡ served_share k ws t
served-same ws k n t e =
    let a : take n ws ≡ take k ws = ap (λ (m : ℕ). take m ws) e ∙ take_min k ws in
    let b = drop-served ws k n e in
    rw (a, b)

-- the cases of the share

share-by : (t : Turn) (pool : List ℕ) → t.table.pool ≡ pool → (length pool ≡ 0 → ⊥) → scope_share t ≡ shut_where_spent (served_share (length t.plan.queue) (workers_of t.table) t)
share-by t [] e h = absurd (h refl)
share-by t (x ∷ xs) e h = rw e

pub share-some : (t : Turn) → (length t.table.pool ≡ 0 → ⊥) → scope_share t ≡ shut_where_spent (served_share (length t.plan.queue) (workers_of t.table) t)
share-some t h = share-by t t.table.pool refl h

share-none-by : (t : Turn) (pool : List ℕ) → t.table.pool ≡ pool → length pool ≡ 0 → scope_share t ≡ t
share-none-by t [] e h = rw e
share-none-by t (x ∷ xs) e h = absurd (omega arith)

pub share-none : (t : Turn) → length t.table.pool ≡ 0 → scope_share t ≡ t
share-none t h = share-none-by t t.table.pool refl h

spent-by : (t : Turn) (q : List (List ℕ)) → t.plan.queue ≡ q → length q ≡ 0 → shut_where_spent t ≡ shut_each (workers_of t.table) t
spent-by t [] e h = rw e
spent-by t (u ∷ us) e h = absurd (omega arith)

pub spent-all : (t : Turn) → length t.plan.queue ≡ 0 → shut_where_spent t ≡ shut_each (workers_of t.table) t
spent-all t h = spent-by t t.plan.queue refl h

unspent-by : (t : Turn) (q : List (List ℕ)) → t.plan.queue ≡ q → (length q ≡ 0 → ⊥) → shut_where_spent t ≡ t
unspent-by t [] e h = absurd (h refl)
unspent-by t (u ∷ us) e h = rw e

pub unspent : (t : Turn) → (length t.plan.queue ≡ 0 → ⊥) → shut_where_spent t ≡ t
unspent t h = unspent-by t t.plan.queue refl h
