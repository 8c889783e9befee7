-- What is kept of the links that were started. A choice of this project.
use Rattle.std.specs.Prelude.{ℕ, ◌≡◌, ◌≢◌, Bool, true, false, List, [], ◌∷◌, ◌++◌, length, slice_get}
use Rattle.xd_link.specs.declared.place.Place.{Place}
use Rattle.xd_link.specs.Starter.{has_child}
use Rattle.xd_real.specs.declared.real_starter.Kept.{Kept}
use Rattle.xd_real.specs.declared.real_starter.Kept.TheVariants.{Child, Own, Stream}

-- The types are those of the system: of a child, of its three pipes, and of a stream.
module _ {A B C D E : Type 0} where
  -- what is kept of a link is its child
  abbrev pub is_child : Kept A B C D E → Bool
  is_child (Child child) = true
  is_child (Own kill) = false
  is_child (Stream stream) = false

  -- One link more is kept after the others: by its child exactly where a link to this place has one.
  -- Example: two links are kept; a start of a child adds it at the number 2.
  pub record KeepsOneMore (place : Place) (old new : List (Kept A B C D E)) : Type 0 where
    pub link : Kept A B C D E
    pub kind : is_child link ≡ has_child place
    pub added : new ≡ old ++ link ∷ []

module _ {K : Type 0} where
  -- As many links are kept as before, and none but that of this number changed.
  pub record ChangesOnly (number : ℕ) (old new : List K) : Type 0 where
    pub count : length new ≡ length old
    pub others : (k : ℕ) → k ≢ number → slice_get new k ≡ slice_get old k
