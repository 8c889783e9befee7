-- Programs that were started one after another, and what came of them.
use Rattle.std.specs.Prelude.{◌≡◌, ℕ, Bool, true, false, List, ◌++◌, map, All, Option, Some, IsSome, option_map, sum_by}
use Rattle.xd_edge.specs.Children.{ChildRun, AddsRun, with_output, with_read_fault}
use Rattle.xd_journal.specs.declared.entry.Outcome.{Outcome}
use Rattle.xd_child.specs.Ending.{outcome_of, fault_count}

-- what came of a test: all that its program printed, and how it went
pub record Ran : Type 0 where
  pub output : List ℕ
  pub outcome : Outcome

-- how many faults of the outside these stand for
abbrev pub faults_of : List Ran → ℕ
faults_of rs = sum_by (λ r. fault_count r.outcome) rs

-- Where they are told, these commands were started in order, one child for each, and this came of them.
pub record AreRun (commands : List (List (List ℕ))) (ran : List Ran) (old new : Option (List ChildRun)) : Type 0 where
  pub children : List ChildRun
  pub commands_are : map (λ c. c.args) children ≡ commands
  pub outputs_are : map (λ c. c.output) children ≡ map (λ r. r.output) ran
  pub outcomes_are : map (λ c. outcome_of c.fate) children ≡ map (λ r. Some r.outcome) ran
  pub added : new ≡ option_map (λ l. l ++ children) old

-- Where they are told, each start that was asked for meanwhile is over: the child was not started, or it was waited for, or
-- it could not be read.
-- Example: a child whose end is not asked for stays running, and is not over.
pub record AreOver (old new : Option (List ChildRun)) : Type 0 where
  pub children : List ChildRun
  pub over : All (λ c. IsSome (outcome_of c.fate)) children
  pub added : new ≡ option_map (λ l. l ++ children) old

-- a start of this command came to this outcome, and this is what it printed
pub record CameTo (args : List (List ℕ)) (output : List ℕ) (outcome : Outcome) (old new : Option (List ChildRun)) : Type 0 where
  pub run : ChildRun
  pub args_are : run.args ≡ args
  pub output_is : run.output ≡ output
  pub outcome_is : outcome_of run.fate ≡ Some outcome
  pub added : AddsRun run old new

-- a program that printed this, and then could not be read where it was not read to its end
abbrev pub read_so : Bool → List ℕ → ChildRun → ChildRun
read_so true output run = with_output output run
read_so false output run = with_read_fault (with_output output run)
