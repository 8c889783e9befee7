-- Truth values.
use Rattle.std.proofs.Common.{◌≡◌, Bool, true, false, not, ◌&&◌, ◌||◌, refl, inl, inr}
use Rattle.std.specs.Prelude.{if◌then◌else◌, ◌⊎◌}

pub differ : false ≡ true → ⊥
differ h = cc

-- nothing is both
pub clash : (b : Bool) → b ≡ false → b ≡ true → ⊥
clash true h k = cc
clash false h k = cc

pub cases_of : (b : Bool) → (b ≡ true) ⊎ (b ≡ false)
cases_of true = inl refl
cases_of false = inr refl

pub split-and : (a b : Bool) → (a && b) ≡ true → (a ≡ true) × (b ≡ true)
split-and true b h = (refl, h)
split-and false b h = (cc, cc)

pub split-or : (a b : Bool) → (a || b) ≡ true → (a ≡ true) ⊎ (b ≡ true)
split-or true b h = inl refl
split-or false b h = inr h

pub and : {a b : Bool} → a ≡ true → b ≡ true → (a && b) ≡ true
and {a} {b} p q = cc

pub or-left : (a b : Bool) → a ≡ true → (a || b) ≡ true
or-left true b h = refl
or-left false b h = cc

pub or-right : (a b : Bool) → b ≡ true → (a || b) ≡ true
or-right true b h = refl
or-right false b h = h

pub or-false : (b : Bool) → (b || false) ≡ b
or-false true = refl
or-false false = refl

pub and-false : (b : Bool) → (b && false) ≡ false
and-false true = refl
and-false false = refl

pub not_true : (a : Bool) → not a ≡ true → a ≡ false
not_true true h = cc
not_true false h = refl

-- a mark that is not set
pub or-unset : (a b : Bool) → (a || (b && false)) ≡ a
or-unset true b = refl
or-unset false b = and-false b

-- what holds of both branches
pub in_both : {A : Type 0} (P : A → Type 0) (b : Bool) (x y : A) → (b ≡ true → P x) → (b ≡ false → P y) → P (if b then x else y)
in_both P true x y p q = p refl
in_both P false x y p q = q refl
