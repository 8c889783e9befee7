-- What a run without workers sees of the outside at one moment, as far as that tells.
use Rattle.std.specs.Prelude.{ℕ, List, Option}
use Rattle.xd_edge.specs.Children.{ChildRun}
use Rattle.xd_edge.specs.Sink.{Sunk}
use Rattle.xd_edge.specs.Clock.{Ticking}

-- an output: what it took, and its count of faults
pub record Output : Type 0 where
  pub sunk : Option Sunk
  pub faults : ℕ

-- the programs: the starts that were asked for, and their count of faults
pub record Programs : Type 0 where
  pub runs : Option (List ChildRun)
  pub faults : ℕ

-- all of it, and the clock
pub record Reach : Type 0 where
  pub out : Output
  pub programs : Programs
  pub clock : Ticking
