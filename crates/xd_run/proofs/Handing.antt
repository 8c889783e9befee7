-- The unit at the queue's front is the first one with its tests.
use Rattle.std.proofs.Common.{◌≡◌, ℕ, List, [], ◌∷◌, ◌++◌, true, refl, ap, ◌∙◌}
use Rattle.std.specs.Str.{bytes_eq}
use Rattle.std.proofs.lemmas.Slice.Eq.{bytes_eq-Decides}
use Rattle.xd_journal.specs.declared.entry.Entry.TheVariants.{Run}
use Rattle.xd_run.specs.Table.{assigned}
use Rattle.xd_run.specs.Plan.{Plan, with_handed}
use Rattle.xd_run.specs.Units.{unit_handed, without_unit}
use Rattle.xd_run.specs.Turn.{Turn}
use Rattle.xd_run.specs.ScopeModes.{give_unit}

same_text : (u : List ℕ) → bytes_eq u u ≡ true
same_text u = (bytes_eq-Decides u u).1 refl

without-front : (u : List ℕ) (us : List (List ℕ)) → without_unit u (u ∷ us) ≡ us
without-front u us = rw (same_text u)

pub handed-front : (w : ℕ) (u : List ℕ) (us : List (List ℕ)) (p : Plan) → p.queue ≡ u ∷ us → unit_handed w u p ≡ record p { queue = us; given = with_handed w u p }
handed-front w u us p e = ap (λ (q : List (List ℕ)). record p { queue = q; given = with_handed w u p }) (ap (λ (q : List (List ℕ)). without_unit u q) e ∙ without-front u us)

pub give_unit-front : (w : ℕ) (u : List ℕ) (us : List (List ℕ)) (t : Turn) → t.plan.queue ≡ u ∷ us
    → give_unit w t ≡ record { table = assigned w u t.table; plan = record (t.plan) { queue = us; given = with_handed w u t.plan }; acts = t.acts ++ Run w u ∷ [] }
give_unit-front w u us t e =
    ap (λ (q : List (List ℕ)). elim q as (λ _. Turn) [
      | [] ↦ t
      | u ∷ us ↦ record { table = assigned w u t.table; plan = unit_handed w u t.plan; acts = t.acts ++ Run w u ∷ [] }
    ]) e ∙ ap (λ (p : Plan). record { table = assigned w u t.table; plan = p; acts = t.acts ++ Run w u ∷ [] }) (handed-front w u us t.plan e)
