-- What is seen of a source that is read, at one moment. A choice of this project.
use Rattle.std.specs.Prelude.{◌≡◌, ℕ, Bool, true, [], Option, IfSome}
use Rattle.xd_link.specs.Source.{Supply}

-- what the source tells, whether a read met its end, and its count of faults
pub record Spring : Type 0 where
  pub supply : Option Supply
  pub ended : Bool
  pub faults : ℕ

-- a source that tells this, whose end a read met or did not, and whose count of faults is this
abbrev pub spring : Option Supply → Bool → ℕ → Spring
spring supply ended faults = record { supply = supply; ended = ended; faults = faults }

-- The source was asked until it met its end.
pub record ReadToEnd (s : Spring) : Type 0 where
  pub ended : s.ended ≡ true
  pub none_left : IfSome s.supply (λ s. s.left ≡ [])
