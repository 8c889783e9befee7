-- Numbers in decimal digits, which may begin with zeros. A choice of this project.
use Rattle.std.specs.Prelude.{ℕ, ◌+◌, ◌-◌, ◌*◌, ◌==◌, nat_le, Bool, ◌&&◌, not, List, [], ◌∷◌, length, Option, Some, None, if◌then◌else◌}
use Rattle.std.specs.List.{list_all}

-- the byte is a decimal digit
abbrev pub is_digit : ℕ → Bool
is_digit b = nat_le 48 b && nat_le b 57

-- a text of one digit or more, and of nothing else
abbrev pub all_digits : List ℕ → Bool
all_digits text = not (length text == 0) && list_all is_digit text

-- the number that these digits write after those that wrote `before`, where no number on the way is over the limit
abbrev pub number_after : ℕ → ℕ → List ℕ → Option ℕ
number_after limit before [] = Some before
number_after limit before (b ∷ bs) = if is_digit b && nat_le (10 * before + (b - 48)) limit then number_after limit (10 * before + (b - 48)) bs else None

-- the number that the text writes, where it is digits and the number is at most this limit
abbrev pub number_in : ℕ → List ℕ → Option ℕ
number_in limit text = if length text == 0 then None else number_after limit 0 text
