-- The turns of the scope modes, one step after another.
use Rattle.std.proofs.Common.{◌≡◌, ℕ, ◌+◌, ◌<◌, ◌≤◌, nat_lt, List, [], ◌∷◌, take, length, get_or, Bool, true, false, refl, ap, sym, subst, ◌∙◌, arith}
use Rattle.std.specs.Prelude.{if◌then◌else◌}
use Rattle.std.proofs.lemmas.Bool.Decides.{nat_tests}
use Rattle.xd_journal.specs.declared.entry.Entry.{Entry}
use Rattle.xd_ledger.specs.Calls.{turn}
use Rattle.xd_run.specs.Plan.{Plan}
use Rattle.xd_run.specs.ScopeModes.{give_more, give_unit, scope_refill}
use Rattle.xd_run.specs.Turn.{enough}
use Rattle.xd_run.specs.Table.{Table, held, seat_shut}
use Rattle.xd_run.specs.Turn.{Turn, in_turn, shut}
use Rattle.xd_run.proofs.Turns.{in_turn-one_more}
use Rattle.xd_scope.specs.declared.units.Units.{Units}
use Rattle.xd_scope.specs.Stands.{IsAt, Keeps, give_where_few}

pub is-same : (t : Turn) (table : Table) (acts : List Entry) (u : Units) → IsAt t table acts u → turn table t.plan acts ≡ t
is-same t table acts u h = rw (h.table_is, h.acts_are)

-- one step more
pub then-step : (f : Turn → Turn) (t : Turn) (table : Table) (acts : List Entry) (u : Units) (now : Table) (acts_now : List Entry) (v : Units)
    → IsAt t table acts u → ((p : Plan) → Keeps u p → IsAt (f (turn table p acts)) now acts_now v) → IsAt (f t) now acts_now v
then-step f t table acts u now acts_now v h step =
    subst (λ (s : Turn). IsAt (f s) now acts_now v) (is-same t table acts u h) (step t.plan h.keeps)

-- the next worker's step
pub one-step_more : (f : ℕ → Turn → Turn) (ws : List ℕ) (w k : ℕ) (t : Turn) (table : Table) (acts : List Entry) (u : Units) (now : Table) (acts_now : List Entry) (v : Units)
    → k < length ws → w ≡ get_or ws k 0 → IsAt (in_turn f (take k ws) t) table acts u → ((p : Plan) → Keeps u p → IsAt (f w (turn table p acts)) now acts_now v)
    → IsAt (in_turn f (take (k + 1) ws) t) now acts_now v
one-step_more f ws w k t table acts u now acts_now v lt at h step =
    let a = then-step (f w) (in_turn f (take k ws) t) table acts u now acts_now v h step in
    let e = ap (λ (x : ℕ). f x (in_turn f (take k ws) t)) at ∙ sym (in_turn-one_more f ws k t lt) in
    subst (λ (s : Turn). IsAt s now acts_now v) e a

-- one that is at the turn whose plan has the same parts
pub is-at-same : (s t : Turn) (table : Table) (acts : List Entry) (u : Units) → s ≡ t → IsAt s table acts u → IsAt t table acts u
is-at-same s t table acts u e h = subst (λ (r : Turn). IsAt r table acts u) e h

-- two more where the worker holds too few are enough
give_more-by : (w : ℕ) (t : Turn) (b : Bool) → nat_lt (length (held w t.table)) enough ≡ b → give_more enough w t ≡ give_where_few w (give_where_few w t)
give_more-by w t true h = rw h
give_more-by w t false h = rw (h, h)

pub give_more-is : (w : ℕ) (t : Turn) → give_more enough w t ≡ give_where_few w (give_where_few w t)
give_more-is w t = give_more-by w t (nat_lt (length (held w t.table)) enough) refl

-- the cases of a refill

abbrev refill_with : ℕ → Turn → Bool → List (List ℕ) → Turn
refill_with w t b q =
    if b then t
    else (elim q [
      | [] ↦ shut w t
      | u ∷ us ↦ (if nat_lt enough (length (held w t.table)) then t else give_more enough w (give_unit w t))
    ])

refill-is : (w : ℕ) (t : Turn) (b : Bool) (q : List (List ℕ)) → seat_shut w t.table ≡ b → t.plan.queue ≡ q → scope_refill w t ≡ refill_with w t b q
refill-is w t b q h e = ap (λ (c : Bool). refill_with w t c t.plan.queue) h ∙ ap (refill_with w t b) e

pub refill-shut : (w : ℕ) (t : Turn) → seat_shut w t.table ≡ true → scope_refill w t ≡ t
refill-shut w t h = refill-is w t true t.plan.queue h refl

pub refill-spent : (w : ℕ) (t : Turn) → seat_shut w t.table ≡ false → t.plan.queue ≡ [] → scope_refill w t ≡ shut w t
refill-spent w t h e = refill-is w t false [] h e

refill-by : (w : ℕ) (t : Turn) (q : List (List ℕ)) → seat_shut w t.table ≡ false → t.plan.queue ≡ q → (length q ≡ 0 → ⊥)
    → scope_refill w t ≡ (if nat_lt enough (length (held w t.table)) then t else give_more enough w (give_unit w t))
refill-by w t [] h e k = absurd (k refl)
refill-by w t (u ∷ us) h e k = refill-is w t false (u ∷ us) h e

pub refill-more : (w : ℕ) (t : Turn) → seat_shut w t.table ≡ false → (length t.plan.queue ≡ 0 → ⊥)
    → scope_refill w t ≡ (if nat_lt enough (length (held w t.table)) then t else give_more enough w (give_unit w t))
refill-more w t h k = refill-by w t t.plan.queue h refl k

pub few-gives : (w : ℕ) (t : Turn) → length (held w t.table) < 2 → give_where_few w t ≡ give_unit w t
few-gives w t h =
    let k : nat_lt (length (held w t.table)) enough ≡ true = grind (arith, nat_tests) in
    rw k

pub refill-due : (w : ℕ) (t : Turn) → seat_shut w t.table ≡ false → (length t.plan.queue ≡ 0 → ⊥) → length (held w t.table) ≤ 2 → scope_refill w t ≡ give_more enough w (give_unit w t)
refill-due w t h k l =
    let e : nat_lt enough (length (held w t.table)) ≡ false = grind (arith, nat_tests) in
    refill-more w t h k ∙ ap (λ (b : Bool). if b then t else give_more enough w (give_unit w t)) e
