-- What was noted in a trace.
use Rattle.std.specs.Prelude.{List, map}
use Rattle.rtrb.specs.Ring.{sent}
use Rattle.xd_trace.specs.declared.moments.Moments.{Moments}
use Rattle.xd_trace.specs.declared.trace.Trace.{Trace}

module _ {T : Type 0} where
  -- what was noted, in order
  -- Nothing of it is kept when the program runs.
  abbrev pub noted : Trace T → List T
  noted trace = map (λ s. s.value) (sent trace.to)

module _ {A B : Type 0} where
  -- how the two values stood at each of these moments, in order
  abbrev pub moments : Moments A B → List (A × B)
  moments m = map (λ p. (p.0.value, p.1.value)) (noted m.trace)
