-- Links of which one changed, or none.
use Rattle.std.proofs.Common.{◌≡◌, ◌≢◌, ℕ, zero, suc, List, [], ◌∷◌, slice_get, refl, ap}
use Rattle.std.proofs.Math.ListN.{set}
use Rattle.std.proofs.lemmas.List.{length-set}
use Rattle.xd_real.specs.Kept.{ChangesOnly}

module _ {K : Type 0} where
  get_other : (links : List K) (number k : ℕ) (link : K) → k ≢ number → slice_get (set links number link) k ≡ slice_get links k
  get_other [] number k link other = refl
  get_other (x ∷ xs) zero zero link other = absurd (other refl)
  get_other (x ∷ xs) zero (suc k) link other = refl
  get_other (x ∷ xs) (suc number) zero link other = refl
  get_other (x ∷ xs) (suc number) (suc k) link other = get_other xs number k link (λ e. other (ap suc e))

  pub changes_one : (links : List K) (number : ℕ) (link : K) → ChangesOnly number links (set links number link)
  changes_one links number link = record {
    count = length-set links number link;
    others = λ k other. get_other links number k link other;
  }
