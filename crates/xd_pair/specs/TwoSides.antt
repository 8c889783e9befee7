-- Two sides of the program after a history of the law.
use Rattle.std.specs.Prelude.{List, true, false}
use Rattle.xd_pair.specs.Pair.{World, Step, run, start}
use Rattle.xd_pair.specs.Stands.{StandsForActor, Carries}
use Rattle.xd_pair.specs.declared.linked.LinkedSide.{LinkedSide}

-- the two sides, and the messages on the way between them, are as in the world
pub record StandFor (odd even : LinkedSide) (w : World) : Type 0 where
  pub odd_stands : StandsForActor true odd.side w.odd
  pub even_stands : StandsForActor false even.side w.even
  pub to_odd : Carries w.odd even w.to_odd
  pub to_even : Carries w.even odd w.to_even

-- they are as this list of steps leaves them
abbrev pub PairStands : LinkedSide → LinkedSide → List Step → Type 0
PairStands odd even steps = StandFor odd even (run steps start)
