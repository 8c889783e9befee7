-- How long the programs of tests ran, by the moments that a clock gives, in milliseconds.
use Rattle.std.specs.Prelude.{◌≡◌, ℕ, ◌+◌, List, [], ◌∷◌, length, Option, Some, None}
use Rattle.xd_edge.specs.Clock.{Lasts, Ticking, Ticks}
use Rattle.xd_worker.specs.declared.input.WorkerInput.{WorkerInput}
use Rattle.xd_worker.specs.declared.input.WorkerInput.TheVariants.{Message, SuiteBytes, SuiteTooLarge, SuiteUnread, Output, ChildDone, LinkEnd}

-- For each of these durations, of which the last stands first, the clock gave the moments of its begin and its end, one
-- duration after the other, and no other moment.
-- Example: a clock gives 3 and 5; a program was ordered at 3 and its end was taken at 5, so it took 2 milliseconds.
abbrev pub AreMeasured : List ℕ → Ticking → Ticking → Type 0
AreMeasured [] old new = new ≡ old
AreMeasured (ms ∷ durations) old new = (mid : Ticking) × AreMeasured durations old mid × Lasts ms mid new

-- Where a program runs that began at this moment, the clock gave that moment after all others.
abbrev pub AreMeasuredSince : Option ℕ → List ℕ → Ticking → Ticking → Type 0
AreMeasuredSince None durations old new = AreMeasured durations old new
AreMeasuredSince (Some start) durations old new = (mid : Ticking) × AreMeasured durations old mid × Ticks start mid new

-- the durations that the worker was told with the ends of its tests, the last one first
abbrev pub durations_in : List WorkerInput → List ℕ
durations_in [] = []
durations_in (Message m ∷ is) = durations_in is
durations_in (SuiteBytes b ∷ is) = durations_in is
durations_in (SuiteTooLarge ∷ is) = durations_in is
durations_in (SuiteUnread ∷ is) = durations_in is
durations_in (Output b ∷ is) = durations_in is
durations_in (ChildDone outcome ms ∷ is) = ms ∷ durations_in is
durations_in (LinkEnd ∷ is) = durations_in is

-- how many programs run, by the moment at which one began: one or none
abbrev pub one_if : Option ℕ → ℕ
one_if None = 0
one_if (Some moment) = 1

-- The clock gave a moment for each program that was started, and another for each whose end the worker was told with the
-- duration between the two.
pub record Times (inputs : List WorkerInput) (started : List (List (List ℕ))) (old new : Ticking) : Type 0 where
  pub running : Option ℕ
  pub each : length started ≡ length (durations_in inputs) + one_if running
  pub timed : AreMeasuredSince running (durations_in inputs) old new
