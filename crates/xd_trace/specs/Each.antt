-- That something had its moment.
use Rattle.std.specs.Prelude.{◌≡◌, List, ◌∷◌, ◌++◌}
use Rattle.std.specs.List.{Any}

-- For each of these, by those before it, there is such a moment.
-- Example: of the results 1 and 2: a moment for 1 with none before it, and one for 2 with 1 before it.
abbrev pub EachHasMoment : {A M : Type 0} → (List A → A → M → Type 0) → List A → List M → Type 0
EachHasMoment {A} P xs moments = (before : List A) (x : A) (after : List A) → xs ≡ before ++ x ∷ after → Any (P before x) moments
