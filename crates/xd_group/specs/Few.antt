-- Counts of starts, and of the faults that they stand for.
use Rattle.std.specs.Prelude.{◌≡◌, ℕ, Bool, List, filter, length}
use Rattle.xd_edge.specs.Faults.{RoseBy}
use Rattle.xd_group.specs.declared.fate.Fate.{Fate}

-- how many starts had such a fate
abbrev pub count_with : (Fate → Bool) → List Fate → ℕ
count_with which fates = length (filter which fates)

-- The count of faults rose at least this often, and stood still where that is never.
-- Example: one reader was refused: the crew's count rose.
pub record RoseFor (times before now : ℕ) : Type 0 where
  pub rose : RoseBy times before now
  pub still : times ≡ 0 → now ≡ before
