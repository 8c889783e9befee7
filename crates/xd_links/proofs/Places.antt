-- What stands at the places of a list where one was written, or one more was added.
use Rattle.std.proofs.Common.{◌≡◌, ℕ, zero, suc, List, [], ◌∷◌, ◌++◌, Some, length, refl, sym, ap, arith, inl, inr}
use Rattle.std.specs.Prelude.{◌⊎◌, slice_get}
use Rattle.std.proofs.Math.ListN.{set}

pub set_read : {X : Type 0} (xs : List X) (k i : ℕ) (y x : X) → slice_get (set xs k y) i ≡ Some x → ((i ≡ k) × (x ≡ y)) ⊎ ((i ≡ k → ⊥) × (slice_get xs i ≡ Some x))
set_read [] k i y x e = absurd (cc e)
set_read (z ∷ xs) zero zero y x e = inl (refl, sym (cc e))
set_read (z ∷ xs) zero (suc i) y x e = inr ((λ h. absurd (omega (arith, h))), e)
set_read (z ∷ xs) (suc k) zero y x e = inr ((λ h. absurd (omega (arith, h))), e)
set_read (z ∷ xs) (suc k) (suc i) y x e = by (set_read xs k i y x e)
  where
    by : ((i ≡ k) × (x ≡ y)) ⊎ ((i ≡ k → ⊥) × (slice_get xs i ≡ Some x)) → ((suc i ≡ suc k) × (x ≡ y)) ⊎ ((suc i ≡ suc k → ⊥) × (slice_get xs i ≡ Some x))
    by (inl p) = inl (ap suc p.0, p.1)
    by (inr p) = inr ((λ h. p.0 (omega (arith, h))), p.1)

pub push_read : {X : Type 0} (xs : List X) (i : ℕ) (y x : X) → slice_get (xs ++ y ∷ []) i ≡ Some x → ((i ≡ length xs) × (x ≡ y)) ⊎ (slice_get xs i ≡ Some x)
push_read [] zero y x e = inl (refl, sym (cc e))
push_read [] (suc i) y x e = absurd (cc e)
push_read (z ∷ xs) zero y x e = inr e
push_read (z ∷ xs) (suc i) y x e = by (push_read xs i y x e)
  where
    by : ((i ≡ length xs) × (x ≡ y)) ⊎ (slice_get xs i ≡ Some x) → ((suc i ≡ suc (length xs)) × (x ≡ y)) ⊎ (slice_get xs i ≡ Some x)
    by (inl p) = inl (ap suc p.0, p.1)
    by (inr p) = inr p
