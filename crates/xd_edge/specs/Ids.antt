-- Which texts may be ids. A choice of this project: an id of pytest's is any text, and here one stands on a line of a
-- report.
use Rattle.std.specs.Prelude.{ℕ, Bool, false, ◌&&◌, ◌==◌, not, nat_le, List, [], ◌∷◌}
use Rattle.std.specs.List.{list_all}

-- a space, or a character after it but for U+007F
abbrev pub is_plain : ℕ → Bool
is_plain c = nat_le 32 c && not (c == 127)

-- a text that may be a test's id or a group: not empty, and without control characters
abbrev pub is_id : List ℕ → Bool
is_id [] = false
is_id (c ∷ cs) = list_all is_plain (c ∷ cs)
