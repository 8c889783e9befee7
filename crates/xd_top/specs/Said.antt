-- A line that the program says of itself, on standard error.
use Rattle.std.specs.Prelude.{ℕ, ◌≡◌, Bool, false, List}
use Rattle.xd_edge.specs.Faults.{Rose}
use Rattle.xd_edge.specs.Printing.{Shows}
use Rattle.xd_local.specs.Outside.{Output}

-- The line was printed; or a first part of it was taken, which was not handed on, where the output failed.
pub record SaysLine (line : List ℕ) (old new : Output) : Type 0 where
  pub shown : Bool
  pub shows : Shows shown line old.sunk new.sunk
  pub fault : shown ≡ false → Rose old.faults new.faults
