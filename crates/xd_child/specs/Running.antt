-- What a child that was started and waited for leaves of its output.
use Rattle.std.specs.Prelude.{ℕ, ◌≡◌, List, take, Option, Some}
use Rattle.xd_edge.specs.Children.{ChildRun, AddsRun, ChangesRun, with_output, with_read_fault}
use Rattle.xd_journal.specs.Kept.{kept_of}
use Rattle.xd_child.specs.Ending.{outcome_of}
use Rattle.xd_child.specs.declared.running.ChildResult.{ChildResult}

-- Where it is told, one start more of these arguments was asked for, and it came to this result, with room for that
-- many bytes of what it gave.
-- Example: with room for 3 bytes a program prints `abcde` and ends with 1: `abc` is kept; with 0 nothing is.
pub record RanChild (args : List (List ℕ)) (room : ℕ) (result : ChildResult) (old new : Option (List ChildRun)) : Type 0 where
  pub run : ChildRun
  pub args_are : run.args ≡ args
  pub came_to : outcome_of run.fate ≡ Some result.outcome
  pub kept_is : result.output ≡ kept_of result.outcome room run.output
  pub added : AddsRun run old new

-- The same, with the first bytes of what it gave, up to the room, however its test went.
pub record RanChildFirst (args : List (List ℕ)) (room : ℕ) (first : ChildResult) (old new : Option (List ChildRun)) : Type 0 where
  pub run : ChildRun
  pub args_are : run.args ≡ args
  pub came_to : outcome_of run.fate ≡ Some first.outcome
  pub first_is : first.output ≡ take room run.output
  pub added : AddsRun run old new

-- Where they are told, the start at this place gave some bytes more, whose first ones are kept, up to the room.
pub record Drained (room place : ℕ) (kept : List ℕ) (old new : Option (List ChildRun)) : Type 0 where
  pub gave : List ℕ
  pub kept_is : kept ≡ take room gave
  pub changes : ChangesRun place (with_output gave) old new

-- The same, and then it could not be read.
pub record DrainedPart (room place : ℕ) (kept : List ℕ) (old new : Option (List ChildRun)) : Type 0 where
  pub gave : List ℕ
  pub kept_is : kept ≡ take room gave
  pub changes : ChangesRun place (λ run. with_read_fault (with_output gave run)) old new
