-- The programs of the tests that a worker starts, and what came of them, as it stands among the inputs. The last input
-- stands first.
use Rattle.std.specs.Prelude.{◌≡◌, ℕ, Bool, true, false, List, [], ◌∷◌, ◌++◌, map, option_to_list}
use Rattle.xd_worker_runner.specs.Programs.{Ran}
use Rattle.xd_suite.specs.Tests.{run_at}
use Rattle.xd_worker.specs.declared.input.WorkerInput.{WorkerInput}
use Rattle.xd_worker.specs.declared.input.WorkerInput.TheVariants.{Message, SuiteBytes, SuiteTooLarge, SuiteUnread, Output, ChildDone, LinkEnd}
use Rattle.xd_worker.specs.Worker.{WorkerTurn}
use Rattle.xd_worker.specs.History.{HeardInput, turn_by, worker_after}

-- what the running program printed so far
abbrev pub output_in : List WorkerInput → List ℕ
output_in [] = []
output_in (Message m ∷ is) = output_in is
output_in (SuiteBytes b ∷ is) = output_in is
output_in (SuiteTooLarge ∷ is) = output_in is
output_in (SuiteUnread ∷ is) = output_in is
output_in (Output b ∷ is) = output_in is ++ b
output_in (ChildDone outcome ms ∷ is) = []
output_in (LinkEnd ∷ is) = output_in is

-- the tests that ended, in order: the pieces of output up to each end, and the end
-- Example: Output `a`, Output `b` and ChildDone Passed are one program that printed `ab` and ended with status 0.
abbrev pub ran_in : List WorkerInput → List Ran
ran_in [] = []
ran_in (Message m ∷ is) = ran_in is
ran_in (SuiteBytes b ∷ is) = ran_in is
ran_in (SuiteTooLarge ∷ is) = ran_in is
ran_in (SuiteUnread ∷ is) = ran_in is
ran_in (Output b ∷ is) = ran_in is
ran_in (ChildDone outcome ms ∷ is) = ran_in is ++ record { output = output_in is; outcome = outcome } ∷ []
ran_in (LinkEnd ∷ is) = ran_in is

-- the commands of the tests that a turn starts, by the suite that was read
abbrev pub commands_of : WorkerTurn → List (List (List ℕ))
commands_of t = map (run_at t.duties.tests) (option_to_list t.run)

-- the commands of the tests that were started, in order
abbrev pub commands_in : List HeardInput → List (List (List ℕ))
commands_in [] = []
commands_in (g ∷ h) = commands_in h ++ commands_of (turn_by (worker_after h) g)

-- the commands that the last input starts
abbrev pub last_commands : List HeardInput → List (List (List ℕ))
last_commands [] = []
last_commands (g ∷ h) = commands_of (turn_by (worker_after h) g)

-- Every program that was to be started was run; where the sink failed, what the last input starts was left.
abbrev pub AreLeft : Bool → List (List (List ℕ)) → List HeardInput → Type 0
AreLeft true left h = left ≡ []
AreLeft false left h = left ≡ last_commands h
