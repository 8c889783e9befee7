-- Tuples of four.
use Rattle.std.proofs.Common.{◌≡◌, List, [], ◌∷◌, length, get_or, arith, Bool, refl}
use Rattle.xd_value.specs.Tree.{tuple}
use Rattle.xd_value.specs.View.{view, views}
use Rattle.xd_value.specs.declared.value.Value.{Value}
use Rattle.xd_commands.specs.declared.function.Called.TheVariants.{Refused}
use Rattle.xd_commands.specs.declared.function.CallFault.TheVariants.{BadCall}
use Rattle.xd_commands.specs.Functions.{call_of, called_in}

pub not_four : (s : Bool) (xs : List Value) → (length xs ≡ 4 → ⊥) → called_in s (tuple (views xs)) ≡ Refused BadCall
not_four s [] other = refl
not_four s (a ∷ []) other = refl
not_four s (a ∷ b ∷ []) other = refl
not_four s (a ∷ b ∷ c ∷ []) other = refl
not_four s (a ∷ b ∷ c ∷ d ∷ []) other = absurd (other refl)
not_four s (a ∷ b ∷ c ∷ d ∷ e ∷ xs) other = refl

pub just_four : (s : Bool) (xs : List Value) (a b c d : Value) → length xs ≡ 4 → a ≡ get_or xs 0 a → b ≡ get_or xs 1 b → c ≡ get_or xs 2 c → d ≡ get_or xs 3 d
    → call_of s (view a) (view b) (view c) (view d) ≡ called_in s (tuple (views xs))
just_four s [] a b c d four e f g h = absurd (omega arith)
just_four s (x ∷ []) a b c d four e f g h = absurd (omega arith)
just_four s (x ∷ y ∷ []) a b c d four e f g h = absurd (omega arith)
just_four s (x ∷ y ∷ z ∷ []) a b c d four e f g h = absurd (omega arith)
just_four s (x ∷ y ∷ z ∷ w ∷ []) a b c d four e f g h = rw (e, f, g, h) refl
just_four s (x ∷ y ∷ z ∷ w ∷ v ∷ xs) a b c d four e f g h = absurd (omega arith)
