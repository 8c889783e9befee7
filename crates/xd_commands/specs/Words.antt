-- Names and keys.
use Rattle.std.specs.Prelude.{ℕ, IsTrue, List}
use Rattle.std.specs.List.{list_all}
use Rattle.std.specs.Char.{is_ascii}

-- a text of ASCII characters alone, as the names of commands, events and keys are
-- Example: `item_index`.
abbrev pub IsWord : List ℕ → Type 0
IsWord cs = IsTrue (list_all is_ascii cs)
