-- What a list of inputs makes the function do. The last of them stands first.
use Rattle.std.specs.Prelude.{◌≡◌, ◌<◌, ◌&&◌, not, true, ℕ, List, [], ◌∷◌, ◌++◌, length, Bool, Some, option_to_list}
use Rattle.xd_worker_tests.specs.declared.ask.Ask.{Ask}
use Rattle.xd_worker_tests.specs.declared.input.Input.{Input}
use Rattle.xd_worker_tests.specs.declared.input.Input.TheVariants as input
use Rattle.xd_worker_tests.specs.declared.phase.Phase.{Phase}
use Rattle.xd_worker_tests.specs.declared.phase.Phase.TheVariants.{Awaiting, Serving, Stopped, Over}
use Rattle.xd_worker_tests.specs.declared.phase.Phase.TheVariants as phase
use Rattle.xd_worker_tests.specs.declared.run_tests.RunTests.{RunTests}
use Rattle.xd_worker_tests.specs.Line.{FunctionCall, new_call, is_among, running_test}
use Rattle.xd_worker_tests.specs.Turns.{CallTurn, call_turn_of, answered}
use Rattle.xd_worker_tests.specs.inner.Stands.{IsCall, IsReady}

-- an input, and whether the worker's table of channels has room for a log beside that of the running test
pub record Given : Type 0 where
  pub input : Input
  pub room : Bool

-- the call after these inputs
abbrev pub call_after : List Given → FunctionCall
call_after [] = new_call
call_after (g ∷ h) = (answered g.room g.input (call_turn_of (call_after h))).call

-- what an input does after these
abbrev pub turn_after : List Given → Given → CallTurn
turn_after h g = answered g.room g.input (call_turn_of (call_after h))

-- all that was asked for, in order
abbrev pub all_asks : List Given → List Ask
all_asks [] = []
all_asks (g ∷ h) = all_asks h ++ (turn_after h g).asks

-- the tests that were started, in order
-- Example: a suite of two tests, `runtests` of both, the end of a program: test 0 alone was started.
abbrev pub started_tests : List Given → List ℕ
started_tests [] = []
started_tests (g ∷ h) = started_tests h ++ option_to_list (turn_after h g).run

-- no number stands twice
abbrev pub no_number_twice : List ℕ → Bool
no_number_twice [] = true
no_number_twice (n ∷ ns) = not (is_among n ns) && no_number_twice ns

-- Whatever comes, no test is started twice.
-- Example: test 2 is given, given back and given again: it starts once.
abbrev pub StartsOnce : Type 0
StartsOnce = (h : List Given) → no_number_twice (started_tests h) ≡ true

-- how many tests the suite has after a collection: the first one counts, which the function waits for
abbrev pub size_opened : Phase → List (List ℕ) → ℕ → ℕ
size_opened Awaiting ids n = length ids
size_opened Serving ids n = n
size_opened (phase.Ending e) ids n = n
size_opened Stopped ids n = n
size_opened Over ids n = n

-- how many tests the suite has after an input
abbrev pub size_after : Phase → Input → ℕ → ℕ
size_after p (input.Command o) n = n
size_after p input.ReceivingEnded n = n
size_after p (input.Suite ids) n = size_opened p ids n
size_after p (input.SuiteRefused text) n = n
size_after p (input.Output bytes) n = n
size_after p (input.Done outcome ms) n = n
size_after p input.Stop n = n

-- Whatever comes, a test that runs or that is started is one of the suite.
pub record CallKnowsTests : Type 0 where
  pub size : (h : List Given) (g : Given) → (turn_after h g).call.size ≡ size_after (call_after h).phase g.input (call_after h).size
  pub runs : (h : List Given) (n : ℕ) → running_test (call_after h) ≡ Some n → n < (call_after h).size
  pub starts : (h : List Given) (g : Given) (n : ℕ) → (turn_after h g).run ≡ Some n → n < (turn_after h g).call.size

-- the parts are those of the call after these inputs
pub record StandsForGiven (s : RunTests) (h : List Given) : Type 0 where
  pub call : IsCall s (call_after h)
  pub ready : IsReady s (call_after h)
