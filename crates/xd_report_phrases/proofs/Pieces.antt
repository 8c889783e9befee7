-- Texts that are written piece by piece.
use Rattle.std.proofs.Common.{◌≡◌, ℕ, List, ◌++◌, ap, ◌∙◌, append_assoc}

-- three pieces after what stood there
pub three_more : (before a b c x y z : List ℕ) → x ≡ before ++ a → y ≡ x ++ b → z ≡ y ++ c → z ≡ before ++ (a ++ (b ++ c))
three_more before a b c x y z first second third =
    third ∙ ap (λ (l : List ℕ). l ++ c) (second ∙ ap (λ (l : List ℕ). l ++ b) first) ∙ append_assoc (before ++ a) b c ∙ append_assoc before a (b ++ c)
