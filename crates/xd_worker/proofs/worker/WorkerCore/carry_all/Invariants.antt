use Rattle.xd_worker.specs.Worker.{WorkerTurn}
use Rattle.xd_worker.specs.Turns.{all_asked}
use Rattle.xd_worker.specs.Logs.{AllOpen}
use Rattle.xd_worker.specs.Stands.{IsWorkerTurn}
use Rattle.xd_worker.proofs.worker.WorkerCore.carry_all.Given as goal

abbrev pub invariant-loop-ask : goal.invariant-loop-ask
invariant-loop-ask l = (t : WorkerTurn) → IsWorkerTurn l.fn.self l.fn.acts t → AllOpen (all_asked l.channel l.yielded t).logs → IsWorkerTurn l.self l.acts (all_asked l.channel l.yielded t)
