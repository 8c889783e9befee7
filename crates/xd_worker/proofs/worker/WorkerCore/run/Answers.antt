use Rattle.std.proofs.Common.{sym, subst}
use Rattle.xd_commands.specs.declared.function.Called.TheVariants.{Runs}
use Rattle.xd_commands.specs.declared.function.Function.{Function}
use Rattle.xd_worker.specs.Turns.{called}
use Rattle.xd_worker.specs.Stands.{IsWorkerTurn}
use Rattle.xd_worker.proofs.worker.WorkerCore.run.Goals as goal

pub returns-in_ok-begin_echo-in-Echo : goal.returns-in_ok-begin_echo-in-Echo
returns-in_ok-begin_echo-in-Echo c = λ t h.
    subst (λ (x : Function). IsWorkerTurn c.begin_echo.new.self c.args.acts.now (called c.args.number (Runs x) t)) (sym c.in-Echo.is)
    (c.in_ok-begin_echo-in-Echo.ensures c.args.acts.now t h)
