-- What a call of the mode does, from what its turn is.
use Rattle.std.proofs.Common.{◌≡◌, ℕ, ◌≤◌, List, ◌++◌, length, Bool, true, refl, ap, sym, subst, ◌∙◌, arith}
use Rattle.std.specs.Prelude.{sum, if◌then◌else◌}
use Rattle.std.specs.List.{range_with_len}
use Rattle.std.proofs.lemmas.List.FromFn.{length-range_with_len}
use Rattle.xd_journal.specs.declared.entry.Entry.{Entry}
use Rattle.xd_edge.specs.declared.mode.ModeKind.{ModeKind}
use Rattle.xd_edge.specs.declared.mode.ModeKind.TheVariants.{Local, Each, Load, LoadScope, LoadFile, LoadGroup, WorkSteal}
use Rattle.xd_ledger.specs.Calls.{Turned, death_plan, last_of, turn}
use Rattle.xd_run.specs.Modes.{ModeCall, scope_turn, turned}
use Rattle.xd_run.specs.Plan.{Plan, is_scope}
use Rattle.xd_run.specs.Sharing.{shared_plan}
use Rattle.xd_run.specs.Deaths.{down_plan}
use Rattle.xd_run.specs.Suits.{AreInPool}
use Rattle.xd_run.specs.Table.{Table, retried_item}
use Rattle.xd_run.specs.Turn.{Turn}
use Rattle.xd_run.specs.Units.{unless_empty, units, units_left}
use Rattle.xd_scope.specs.declared.units.Units.{Units}
use Rattle.xd_scope.specs.Stands.{IsAt, Keeps, given_to, left_of_each}
use Rattle.xd_scope.proofs.Amounts.{few-units}
use Rattle.xd_scope.proofs.Remains.{units-left}

turned-scope : (m : ModeKind) (c : ModeCall) (t : Turn) → is_scope m ≡ true → turned m c t ≡ scope_turn c t
turned-scope Local c t h = absurd (cc)
turned-scope Each c t h = absurd (cc)
turned-scope Load c t h = absurd (cc)
turned-scope LoadScope c t h = refl
turned-scope LoadFile c t h = refl
turned-scope LoadGroup c t h = refl
turned-scope WorkSteal c t h = absurd (cc)

pub scope-mode : (u : Units) (p : Plan) → Keeps u p → is_scope p.mode ≡ true
scope-mode u p k = ap is_scope k.mode ∙ k.scope

pub turned-at : (c : ModeCall) (p : Plan) (before : Table) (acts : List Entry) (after : Table) (acts_now : List Entry) (u v : Units) → Keeps u p → IsAt (scope_turn c (turn before p acts)) after acts_now v → Turned c p before acts after acts_now (λ q. Keeps v q)
turned-at c p before acts after acts_now u v k h =
    let e = sym (turned-scope p.mode c (turn before p acts) (scope-mode u p k)) in
    let g = subst (λ (t : Turn). IsAt t after acts_now v) e h in
    record { table_is = g.table_is; acts_are = g.acts_are; stands_for = g.keeps }

pub fits-of : (u : Units) (p : Plan) (pool : List ℕ) → Keeps u p → (is_scope p.mode ≡ true → AreInPool p.queue pool) → AreInPool u.queue.items pool
fits-of u p pool k h = subst (λ (q : List (List ℕ)). AreInPool q pool) k.queue (h (scope-mode u p k))

-- a worker is down

keeps-down : (w : ℕ) (retried rest : List ℕ) (u v : Units) (p : Plan) → Keeps u p → v.kind ≡ u.kind → v.reorder ≡ u.reorder → v.given ≡ u.given
    → v.queue.items ≡ unless_empty retried ++ (u.queue.items ++ left_of_each rest (given_to w u.given)) → Keeps v (down_plan w retried rest p)
keeps-down w retried rest u v p k a b c d = record {
  mode = k.mode ∙ sym a;
  scope = ap is_scope a ∙ k.scope;
  reorder = k.reorder ∙ sym b;
  queue = ap (λ (q : Bool). if q then unless_empty retried ++ (p.queue ++ units_left w rest p.given) else p.queue) (scope-mode u p k)
      ∙ ap (λ (q : List (List ℕ)). unless_empty retried ++ (q ++ units_left w rest p.given)) k.queue
      ∙ ap (λ (us : List (List ℕ)). unless_empty retried ++ (u.queue.items ++ us)) (units-left w rest p.given ∙ ap (left_of_each rest) (k.given w)) ∙ sym d;
  given = λ x. (k.given x ∙ ap (given_to x) (sym c));
  steal = rw k.steal;
}

-- by what came back first: what is left of its units, and then the test that is tried again
pub keeps-death : (w : ℕ) (retried : Bool) (rest : ℕ) (pool : List ℕ) (u v : Units) (p : Plan) (back : List (List ℕ)) → Keeps u p → v.kind ≡ u.kind → v.reorder ≡ u.reorder → v.given ≡ u.given
    → back ≡ u.queue.items ++ left_of_each (last_of rest pool) (given_to w u.given) → v.queue.items ≡ unless_empty (retried_item retried pool) ++ back → Keeps v (death_plan w retried rest pool p)
keeps-death w retried rest pool u v p back k a b c d e =
    keeps-down w (retried_item retried pool) (last_of rest pool) u v p k a b c (e ∙ ap (λ (us : List (List ℕ)). unless_empty (retried_item retried pool) ++ us) d)

-- the tests are shared

queue-is : (sizes : List ℕ) (ids : List (List ℕ)) (p : Plan) → is_scope p.mode ≡ true → (shared_plan sizes ids p).queue ≡ units p.mode p.reorder ids
queue-is sizes ids p h = rw h

pub keeps-shared : (sizes : List ℕ) (ids : List (List ℕ)) (u v : Units) (p : Plan) → Keeps u p → v.kind ≡ u.kind → v.reorder ≡ u.reorder → v.given ≡ u.given → v.queue.items ≡ units u.kind u.reorder ids → Keeps v (shared_plan sizes ids p)
keeps-shared sizes ids u v p k a b c d = record {
  mode = k.mode ∙ sym a;
  scope = ap is_scope a ∙ k.scope;
  reorder = k.reorder ∙ sym b;
  queue = queue-is sizes ids p (scope-mode u p k) ∙ ap (λ (m : ModeKind). units m p.reorder ids) k.mode ∙ ap (λ (r : Bool). units u.kind r ids) k.reorder ∙ sym d;
  given = λ x. (k.given x ∙ ap (given_to x) (sym c));
  steal = k.steal;
}

-- there are no more ids than tests in the pool
pub few-ids : (u : Units) (p : Plan) (sizes pool : List ℕ) (ids : List (List ℕ)) (n : ℕ) → Keeps u p → pool ≡ range_with_len 0 (sum sizes) → n ≡ length pool
    → (is_scope p.mode ≡ true → AreInPool (shared_plan sizes ids p).queue pool) → length ids ≤ n
few-ids u p sizes pool ids n k e len fits =
    let scope = scope-mode u p k in
    let queue : AreInPool (units p.mode p.reorder ids) pool = subst (λ (q : List (List ℕ)). AreInPool q pool) (queue-is sizes ids p scope) (fits scope) in
    let few = few-units p.mode p.reorder ids (sum sizes) (subst (λ (xs : List ℕ). AreInPool (units p.mode p.reorder ids) xs) e queue) in
    omega (arith, few, len, ap length e, length-range_with_len 0 (sum sizes))
