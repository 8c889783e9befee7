-- A unit is handed out.
use Rattle.std.proofs.Common.{◌≡◌, ℕ, List, [], ◌∷◌, ◌++◌, refl, ap, sym, subst, ◌∙◌, arith}
use Rattle.std.specs.Prelude.{◌==◌, if◌then◌else◌}
use Rattle.std.proofs.lemmas.Bool.Decides.{nat_tests}
use Rattle.xd_journal.specs.declared.entry.Entry.{Entry}
use Rattle.xd_journal.specs.declared.entry.Entry.TheVariants.{Run}
use Rattle.xd_ledger.specs.Calls.{turn}
use Rattle.xd_run.specs.Plan.{Handed, Plan, is_scope}
use Rattle.xd_run.specs.ScopeModes.{give_unit}
use Rattle.xd_run.specs.Table.{Table, assigned}
use Rattle.xd_run.specs.Turn.{Turn}
use Rattle.xd_run.proofs.Handing.{give_unit-front}
use Rattle.xd_scope.specs.declared.units.Units.{Units}
use Rattle.xd_scope.specs.Stands.{IsAt, Keeps, given_to, units_of}

abbrev handed : ℕ → List ℕ → Handed
handed w tests = record { worker = w; tests = tests }

units-more : (w x : ℕ) (tests : List ℕ) (given : List Handed) → units_of x (given ++ handed w tests ∷ []) ≡ (if w == x then units_of x given ++ tests ∷ [] else units_of x given)
units-more w x tests [] = grind (arith, nat_tests)
units-more w x tests (u ∷ us) = let e = units-more w x tests us in grind (arith, nat_tests)

pub given-unit : (w : ℕ) (unit : List ℕ) (u v : Units) (p : Plan) (table now : Table) (acts acts_now : List Entry) → Keeps u p → u.queue.items ≡ unit ∷ v.queue.items → v.kind ≡ u.kind → v.reorder ≡ u.reorder
    → ((x : ℕ) → given_to x v.given ≡ (if w == x then given_to x u.given ++ unit ∷ [] else given_to x u.given)) → now ≡ assigned w unit table → acts_now ≡ acts ++ Run w unit ∷ []
    → IsAt (give_unit w (turn table p acts)) now acts_now v
given-unit w unit u v p table now acts acts_now k next a b more moved run =
    let e = sym (give_unit-front w unit v.queue.items (turn table p acts) (k.queue ∙ next)) in
    let kept : Keeps v (record p { queue = v.queue.items; given = p.given ++ handed w unit ∷ [] }) = record {
      mode = k.mode ∙ sym a;
      scope = ap is_scope a ∙ k.scope;
      reorder = k.reorder ∙ sym b;
      queue = refl;
      given = λ x. (units-more w x unit p.given ∙ ap (λ (ts : List (List ℕ)). if w == x then ts ++ unit ∷ [] else ts) (k.given x) ∙ sym (more x));
      steal = k.steal;
    } in
    record {
      table_is = moved ∙ ap (λ (t : Turn). t.table) e;
      acts_are = run ∙ ap (λ (t : Turn). t.acts) e;
      keeps = subst (Keeps v) (ap (λ (t : Turn). t.plan) e) kept;
    }
