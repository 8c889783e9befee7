use Rattle.std.proofs.Common.{sym, subst}
use Rattle.xd_worker.specs.Worker.{WorkerTurn}
use Rattle.xd_worker.specs.Turns.{all_asked}
use Rattle.xd_worker.specs.Logs.{AllOpen}
use Rattle.xd_worker.specs.Stands.{IsWorkerTurn}
use Rattle.xd_worker.proofs.Standing.{all_asked_more, asked_before}
use Rattle.xd_worker.proofs.worker.WorkerCore.carry_all.Goals as goal

pub loop-ask-preserved : goal.loop-ask-preserved
loop-ask-preserved c = λ t h k.
    let u = all_asked c.args.channel c.loop-ask.yielded t in
    let more = all_asked_more c.args.channel c.loop-ask.yielded c.in-Some.ask t in
    let logs = subst (λ (x : WorkerTurn). AllOpen x.logs) more k in
    subst (λ (x : WorkerTurn). IsWorkerTurn c.carry.new.self c.carry.new.acts x) (sym more)
    (c.in_ok-carry.ensures u (c.loop-ask.invariant t h (asked_before c.args.channel c.in-Some.ask u logs)) logs)
