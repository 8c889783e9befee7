-- The numbers of channels. The side that started a link opens the odd ones and the other side the even ones, as in
-- execnet's gateway_base.py.
use Rattle.std.specs.Prelude.{ℕ, ◌==◌, ◌%◌, ◌||◌, ◌&&◌, not, nat_lt, List, [], ◌∷◌, Bool, false, if◌then◌else◌}
use Rattle.xd_factory.specs.declared.parity.Parity.{Parity}
use Rattle.xd_factory.specs.declared.parity.Parity.TheVariants.{Odd, Even}
use Rattle.xd_factory.specs.declared.seen.Seen.{Seen}
use Rattle.xd_factory.specs.inner.Seen.{was_seen}

-- the number is odd
abbrev pub is_odd : ℕ → Bool
is_odd c = c % 2 == 1

-- the number is one that the side opens itself
-- Example: 3 is an own number of the side that started the link.
abbrev pub is_mine : Parity → ℕ → Bool
is_mine Odd c = is_odd c
is_mine Even c = not (is_odd c)

-- the first own number
abbrev pub first_number : Parity → ℕ
first_number Odd = 1
first_number Even = 2

-- the number was opened here, where `next` is the next own number and `seen` has the peer's numbers that came
abbrev pub is_known : Parity → ℕ → Seen → ℕ → Bool
is_known parity next seen c = if is_mine parity c then nat_lt 0 c && nat_lt c next else was_seen seen c

-- the number is in the list
abbrev pub is_in : ℕ → List ℕ → Bool
is_in c [] = false
is_in c (n ∷ ns) = (n == c) || is_in c ns
