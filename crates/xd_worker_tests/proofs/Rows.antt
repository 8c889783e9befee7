-- Two histories: one with a test that waits, and one that no history can leave.
use Rattle.std.proofs.Common.{◌≡◌, ℕ, List, [], ◌∷◌, true, false, Some, refl, inl, inr, ◌⊎◌}
use Rattle.xd_commands.specs.declared.order.Order.TheVariants.{RunTests}
use Rattle.xd_worker_tests.specs.declared.input.Input.TheVariants as input
use Rattle.xd_worker_tests.specs.declared.phase.Phase.TheVariants.{Serving}
use Rattle.xd_worker_tests.specs.declared.line_entry.LineEntry.TheVariants.{Test, Mark}
use Rattle.xd_worker_tests.specs.History.{Given, call_after}
use Rattle.xd_worker_tests.specs.Line.{new_call, left}
use Rattle.xd_worker_tests.specs.Idle.{WaitsForNext}

-- the suite has three tests, and the worker is to run the first: it waits for a second
abbrev one_waits : List Given
one_waits = record { input = input.Command (Some (RunTests (0 ∷ []))); room = true } ∷ record { input = input.Suite ([] ∷ [] ∷ [] ∷ []); room = true } ∷ []

waits : (call_after one_waits).running ≡ false
waits = refl

test_left : left (call_after one_waits) ≡ Test 0 ∷ []
test_left = refl

-- a call that would let a test wait with a mark after it
stuck : WaitsForNext (record new_call { phase = Serving; line = Test 0 ∷ Mark ∷ [] }) → ⊥
stuck w = by (w refl refl)
  where
    by : ((Test 0 ∷ Mark ∷ [] ≡ [])) ⊎ ((n : ℕ) × ((Test 0 ∷ Mark ∷ []) ≡ Test n ∷ [])) → ⊥
    by (inl e) = cc e
    by (inr e) = let x = e.1 in cc x
