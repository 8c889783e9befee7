-- Tuples that are calls, and values that are none.
use Rattle.std.proofs.Common.{◌≡◌, ℕ, List, [], ◌∷◌, length, get_or, arith, ap₂, Bool, false, Some, None, refl, ap, if◌then◌else◌}
use Rattle.xd_value.specs.Tree.{Pairs, text, tuple, dict}
use Rattle.xd_value.specs.View.{view, views}
use Rattle.xd_value.specs.declared.value.Value.{Value}
use Rattle.xd_commands.specs.Calls.{has_text_keys, call_by, call_in}

pub not_two : (xs : List Value) → (length xs ≡ 2 → ⊥) → call_in (tuple (views xs)) ≡ None
not_two [] other = refl
not_two (a ∷ []) other = refl
not_two (a ∷ b ∷ []) other = absurd (other refl)
not_two (a ∷ b ∷ c ∷ xs) other = refl

pub just_two : (xs : List Value) (a b : Value) → length xs ≡ 2 → a ≡ get_or xs 0 a → b ≡ get_or xs 1 b
    → call_by (view a) (view b) ≡ call_in (tuple (views xs))
just_two [] a b two first second = absurd (omega arith)
just_two (x ∷ []) a b two first second = absurd (omega arith)
just_two (x ∷ y ∷ []) a b two first second = ap₂ (λ v w. call_by (view v) (view w)) first second
just_two (x ∷ y ∷ z ∷ xs) a b two first second = absurd (omega arith)

pub other_keys : (name : List ℕ) (kwargs : Pairs) → has_text_keys kwargs ≡ false → call_by (text name) (dict kwargs) ≡ None
other_keys name kwargs e = ap (λ (b : Bool). if b then Some (record { name = name; kwargs = kwargs }) else None) e
