-- Whether a test runs in a worker.
use Rattle.std.specs.Prelude.{Bool, true, false, Option, Some, None}
use Rattle.xd_worker_tests.specs.declared.phase.Phase.{Phase}
use Rattle.xd_worker_tests.specs.declared.phase.Phase.TheVariants.{Awaiting, Serving, Stopped, Over}
use Rattle.xd_worker_tests.specs.declared.phase.Phase.TheVariants as phase
use Rattle.xd_worker_tests.specs.Line.{FunctionCall, new_call}
use Rattle.xd_worker_tests.specs.History.{call_after}
use Rattle.xd_worker.specs.Worker.{Service}

-- nothing runs in these phases
abbrev pub rests : Phase → Bool
rests Awaiting = true
rests Serving = false
rests (phase.Ending e) = false
rests Stopped = false
rests Over = true

-- the call of `run_tests`, or one to which nothing came yet
abbrev pub call_of_service : Option Service → FunctionCall
call_of_service None = new_call
call_of_service (Some s) = call_after s.given
