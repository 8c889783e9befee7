use Rattle.std.proofs.Common.{subst}
use Rattle.std.proofs.Common.{ℕ}
use Rattle.xd_worker.specs.Talk.{status_told}
use Rattle.xd_worker.specs.Turns.{at_talk}
use Rattle.xd_worker.specs.Stands.{IsWorkerTurn}
use Rattle.xd_worker.proofs.Standing.{spoke}
use Rattle.xd_worker.proofs.worker.WorkerCore.tell_status.Goals as goal

pub returns : goal.returns
returns c = λ t h.
    let s = c.args.self.now in
    subst (λ (x : ℕ). IsWorkerTurn s (record (c.args.acts.now) { say = c.tell_status.new.say }) (at_talk (status_told c.args.number c.args.channels x) t)) (c.functions-functions.ensures t.duties h.duties_are)
    (spoke s s.side c.args.acts.now c.tell_status.new.say t (status_told c.args.number c.args.channels c.functions-functions.result) (c.in_ok-tell_status.ensures s.side) h)
