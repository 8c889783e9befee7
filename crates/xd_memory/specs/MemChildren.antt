-- Programs that were prepared in memory. A choice of this project.
use Rattle.std.specs.Prelude.{◌≡◌, ℕ, zero, suc, Bool, true, false, ◌&&◌, nat_lt, List, [], ◌∷◌, ◌++◌, take, length, map, Option, Some, None, option_map}
use Rattle.std.specs.List.{position, slice_get}
use Rattle.std.specs.Str.{bytes_eq}
use Rattle.xd_edge.specs.declared.children.ChildEnd.{ChildEnd}
use Rattle.xd_memory.specs.declared.mem_run.MemRun.{MemRun}
use Rattle.xd_edge.specs.declared.children.Fate.TheVariants.{Running}
use Rattle.xd_edge.specs.Children.{ChildRun, whole_output}

-- a program: its arguments, the pieces of its output, and its end
abbrev pub Prepared : Type 0
Prepared = List (List ℕ) × List (List ℕ) × ChildEnd

-- the same texts in the same order
abbrev pub texts_eq : List (List ℕ) → List (List ℕ) → Bool
texts_eq [] [] = true
texts_eq [] (y ∷ ys) = false
texts_eq (x ∷ xs) [] = false
texts_eq (x ∷ xs) (y ∷ ys) = bytes_eq x y && texts_eq xs ys

-- the place of the first program with these arguments
abbrev pub child_in : List Prepared → List (List ℕ) → Option ℕ
child_in children args = position (λ c. texts_eq c.0 args) children

-- the pieces of the program at this place; none where there is no program
abbrev pub pieces_in : List Prepared → ℕ → List (List ℕ)
pieces_in [] n = []
pieces_in (c ∷ cs) zero = c.1
pieces_in (c ∷ cs) (suc n) = pieces_in cs n

-- the piece at this place; nothing after the last one
abbrev pub piece_at : List (List ℕ) → ℕ → List ℕ
piece_at [] i = []
piece_at (p ∷ ps) zero = p
piece_at (p ∷ ps) (suc i) = piece_at ps i

-- what was given, where this many pieces were given whole, and of the next one this many bytes
-- Example: of the pieces `ab` and `c` one was given whole, and of the next no byte: `ab` was given.
abbrev pub given_of : List (List ℕ) → ℕ → ℕ → List ℕ
given_of [] pieces bytes = []
given_of (p ∷ ps) zero bytes = take bytes p
given_of (p ∷ ps) (suc pieces) bytes = p ++ given_of ps pieces bytes

-- what is told of a start of one of these programs
abbrev pub told_of_run : List Prepared → MemRun → ChildRun
told_of_run children r = record { args = r.args; output = given_of (pieces_in children r.child) r.piece r.given; fate = r.fate }

-- what is told of all starts of these programs, in order
abbrev pub all_told : List Prepared → List MemRun → List ChildRun
all_told children rs = map (told_of_run children) rs

-- a start of the program at this place, of which nothing was given
abbrev pub mem_run_started : List (List ℕ) → ℕ → MemRun
mem_run_started args child = record { args = args; child = child; piece = 0; given = 0; fate = Running }

-- one start more, of the first program with these arguments
pub record Starts (children : List Prepared) (args : List (List ℕ)) (old new : List MemRun) : Type 0 where
  pub child : ℕ
  pub found : child_in children args ≡ Some child
  pub added : new ≡ old ++ mem_run_started args child ∷ []

-- the start at this place is of a prepared program
abbrev pub is_prepared : List Prepared → ℕ → List MemRun → Bool
is_prepared children place rs = elim (slice_get rs place) [ None ↦ false | Some r ↦ nat_lt r.child (length children) ]

-- the end of the program that was started at this place
abbrev pub child_end_at : List Prepared → ℕ → List MemRun → Option ChildEnd
child_end_at children place rs = elim (slice_get rs place) [ None ↦ None | Some r ↦ option_map (λ c. c.2) (slice_get children r.child) ]

-- what the start at this place gave; nothing where there is no start
abbrev pub gave : List Prepared → ℕ → List MemRun → List ℕ
gave children place [] = []
gave children zero (r ∷ rs) = given_of (pieces_in children r.child) r.piece r.given
gave children (suc place) (r ∷ rs) = gave children place rs

-- all the output that the program of the start at this place has; nothing where there is no start
abbrev pub has_to_give : List Prepared → ℕ → List MemRun → List ℕ
has_to_give children place [] = []
has_to_give children zero (r ∷ rs) = whole_output (pieces_in children r.child)
has_to_give children (suc place) (r ∷ rs) = has_to_give children place rs
