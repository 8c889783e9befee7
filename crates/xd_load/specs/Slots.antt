-- The items of the slots of mode each, and the plans that a mode each stands for.
use Rattle.std.specs.Prelude.{◌≡◌, ℕ, true, List, None, take, sum, slice_index}
use Rattle.std.specs.List.{range_with_len}
use Rattle.xd_edge.specs.declared.mode.ModeKind.TheVariants.{Each}
use Rattle.xd_run.specs.Numbers.{among}
use Rattle.xd_run.specs.Plan.{Plan}

-- it keeps how many tests each slot has, and nobody steals
pub record InSlots (counts : List ℕ) (p : Plan) : Type 0 where
  pub mode : p.mode ≡ Each
  pub sizes : p.sizes ≡ counts
  pub steal : p.steal ≡ None

-- the first item of the slot
abbrev pub first_in : ℕ → List ℕ → ℕ
first_in slot counts = sum (take slot counts)

-- the items of the slot
-- Example: with slots of three and two tests those of the second are 3 and 4.
abbrev pub items_in : ℕ → List ℕ → List ℕ
items_in slot counts = range_with_len (first_in slot counts) (slice_index counts slot)

-- the items of these slots are in the pool
abbrev pub AreWaiting : List ℕ → List ℕ → List ℕ → Type 0
AreWaiting slots counts pool = (slot x : ℕ) → among slot slots ≡ true → among x (items_in slot counts) ≡ true → among x pool ≡ true
