-- How far two lists of entries are the same.
use Rattle.std.specs.Prelude.{◌≡◌, ℕ, ◌≤◌, List, ◌∷◌, take, drop, length}
use Rattle.xd_journal.specs.declared.entry.Entry.{Entry}

-- The first n entries of both are the same, and the next ones, where both have one, are not.
pub record AgreeFor (n : ℕ) (told found : List Entry) : Type 0 where
  pub within : n ≤ length told
  pub short : n ≤ length found
  pub same : take n told ≡ take n found
  pub apart : (x : Entry) (xs ys : List Entry) → drop n told ≡ x ∷ xs → drop n found ≡ x ∷ ys → ⊥
