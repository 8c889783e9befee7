-- What the system is asked for where a worker is to be a program of its own.
use Rattle.std.specs.Prelude.{ℕ, List, Option, Some}
use Rattle.std.specs.Process.{var_after}
use Rattle.std.specs.Str.{encode_utf8_all}

-- a text as the system takes it: in UTF-8, which each text has
abbrev pub utf8 : List ℕ → Option (List ℕ)
utf8 text = Some (encode_utf8_all text)

-- what a command says of the variable of this name once these names and values are set in order, where it said `before`
-- Example: after `A=1` and `A=2` it says 2 of `A`, and of `B` what it said before.
abbrev pub var_set : List (List ℕ × List ℕ) → List ℕ → Option (Option (List ℕ)) → Option (Option (List ℕ))
var_set pairs name before = var_after utf8 utf8 name before pairs
