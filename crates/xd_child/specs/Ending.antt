-- What the end of a child means for its test. The status 77 for a skipped test is that of automake; the rest is a
-- choice of this project.
use Rattle.std.specs.Prelude.{ℕ, zero, suc, ◌≡◌, ◌==◌, Bool, true, false, List, Option, Some, None, pos, negsuc, if◌then◌else◌}
use Rattle.xd_edge.specs.Children.{ChildRun, ChangesRun, with_last}
use Rattle.xd_edge.specs.declared.children.ChildEnd.{ChildEnd}
use Rattle.xd_edge.specs.declared.children.ChildEnd.TheVariants.{Status, Killed}
use Rattle.xd_edge.specs.declared.children.Fate.{Fate}
use Rattle.xd_edge.specs.declared.children.Fate.TheVariants.{Running, Ended, NotStarted, NotRead, NotWaited}
use Rattle.xd_journal.specs.declared.entry.Outcome.{Outcome}
use Rattle.xd_journal.specs.declared.entry.Outcome.TheVariants.{Passed, Skipped, Failed}

-- of a child that was waited for
abbrev pub outcome_of_end : ChildEnd → Outcome
outcome_of_end (Status s) = if s == 0 then Passed else if s == 77 then Skipped else Failed (pos s)
outcome_of_end Killed = Failed (negsuc 0)

-- what a start that was asked for came to, where it is not still running
-- Example: status 0 is passed, 77 skipped, and 1 a failure with 1; a program that a signal killed is a failure with -1.
abbrev pub outcome_of : Fate → Option Outcome
outcome_of Running = None
outcome_of (Ended end) = Some (outcome_of_end end)
outcome_of NotStarted = Some (Failed (negsuc 1))
outcome_of NotRead = Some (Failed (negsuc 2))
outcome_of NotWaited = Some (Failed (negsuc 2))

-- how many faults of the outside an outcome stands for: one where the child was not started (-2), or its output or
-- end was not read (-3)
abbrev pub fault_count : Outcome → ℕ
fault_count (Failed (negsuc (suc zero))) = 1
fault_count (Failed (negsuc (suc (suc zero)))) = 1
fault_count _ = 0

-- the fate of a child whose output was read to its end, or else could not be read, and whose end came to this
abbrev pub fate_so : Bool → Fate → Fate
fate_so true last = last
fate_so false last = NotRead

-- Where it is told, the child at this place was waited for, and its test came to this outcome.
pub record Waited (whole : Bool) (place : ℕ) (outcome : Outcome) (old new : Option (List ChildRun)) : Type 0 where
  pub last : Fate
  pub outcome_is : outcome_of (fate_so whole last) ≡ Some outcome
  pub changes : ChangesRun place (with_last last) old new
