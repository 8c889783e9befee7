-- Keyword arguments, one after another.
use Rattle.std.proofs.Common.{◌≡◌, ℕ, List, [], ◌∷◌, ◌++◌, refl, ap}
use Rattle.xd_value.specs.Tree.{pair, text}
use Rattle.xd_value.specs.View.{view}
use Rattle.xd_value.specs.Reading.{snoc_pair}
use Rattle.xd_value.specs.declared.value.Value.{Value}
use Rattle.xd_gateway.specs.Calls.{kwargs_of}

-- one more stands after the others
pub kwargs_push : (ps : List (List ℕ × Value)) (p : List ℕ × Value) → kwargs_of (ps ++ p ∷ []) ≡ snoc_pair (kwargs_of ps) (text p.0) (view p.1)
kwargs_push [] p = refl
kwargs_push (q ∷ ps) p = ap (pair (text q.0) (view q.1)) (kwargs_push ps p)
