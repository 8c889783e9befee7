-- The stack of the code, seen as cells with the last one first.
use Rattle.std.specs.Prelude.{◌≡◌, ◌==◌, ℕ, Bool, not, max, List, [], ◌∷◌, Vec, map, reverse, length}
use Rattle.std.specs.Global.{Global}
use Rattle.xd_value.specs.Tree.{list, dict, depth}
use Rattle.xd_value.specs.Reading.{Cell}
use Rattle.xd_value.specs.View.{view, views, pair_views}
use Rattle.xd_value.specs.Keys.{Knows, is_key_of}
use Rattle.xd_value_loads.specs.declared.stack.Mark.{Mark}
use Rattle.xd_value_loads.specs.declared.stack.Stack.{Stack}
use Rattle.xd_value.specs.declared.value.Value.{Value}

-- a value on the stack, with what is kept of it
pub record Seat : Type 0 where
  pub value : Value
  pub mark : Mark

-- a value and what is kept of it
abbrev pub seat : Value → Mark → Seat
seat v m = record { value = v; mark = m }

-- values, each with what stands at its place of the other list
abbrev pub marked_values : List Value → List Mark → List Seat
marked_values [] ms = []
marked_values (v ∷ vs) [] = []
marked_values (v ∷ vs) (m ∷ ms) = seat v m ∷ marked_values vs ms

-- the cell of a seat
abbrev pub cell_of : Seat → Cell
cell_of s = record { value = view s.value; missing = s.mark.missing }

-- the cells of seats
abbrev pub cells : List Seat → List Cell
cells ss = reverse (map cell_of ss)

-- the cells of a stack
abbrev pub cells_of : Stack → List Cell
cells_of s = cells (marked_values s.values.items s.marks.items)

-- what is kept of a value is true of it
pub record MarkFits (s : Seat) : Type 0 where
  pub measured : s.mark.depth ≡ depth (view s.value)
  pub known : Knows s.mark.keys (is_key_of (view s.value))

-- the same of each seat
abbrev pub EachFits : List Seat → Type 0
EachFits [] = Unit {0}
EachFits (s ∷ ss) = MarkFits s × EachFits ss

-- values and marks that belong together
pub record AreSeats (vs : List Value) (ms : List Mark) : Type 0 where
  pub even : length vs ≡ length ms
  pub fit : EachFits (marked_values vs ms)

-- a stack in order
abbrev pub IsStack : Stack → Type 0
IsStack s = AreSeats s.values.items s.marks.items

-- items of the value of which this is kept are missing
abbrev pub is_mark_short : Mark → Bool
is_mark_short m = not (m.missing == 0)

-- how deep the deepest of the values of which these are kept nests
abbrev pub deepest : List Mark → ℕ
deepest [] = 0
deepest (m ∷ ms) = max m.depth (deepest ms)

-- the cell of a list that lacks n items
abbrev pub list_cell : Vec Value Global → ℕ → Cell
list_cell items n = record { value = list (views items.items); missing = n }

-- the cell of a dict
abbrev pub dict_cell : Vec (Value × Value) Global → ℕ → Cell
dict_cell pairs n = record { value = dict (pair_views pairs.items); missing = n }
