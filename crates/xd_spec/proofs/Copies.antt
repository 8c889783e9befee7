-- Copies after a list.
use Rattle.std.proofs.Common.{◌≡◌, ℕ, ◌+◌, List, [], ◌∷◌, ◌++◌, ap, ◌∙◌, append_assoc}
use Rattle.std.specs.Prelude.{replicate}
use Rattle.std.proofs.lemmas.List.{replicate-append-replicate}
use Rattle.xd_link.specs.declared.place.Place.{Place}

pub one_more : (xs : List Place) (k : ℕ) (p : Place) → (xs ++ replicate k p) ++ p ∷ [] ≡ xs ++ replicate (k + 1) p
one_more xs k p = append_assoc xs (replicate k p) (p ∷ []) ∙ ap (λ l. xs ++ l) (replicate-append-replicate k 1 p)
