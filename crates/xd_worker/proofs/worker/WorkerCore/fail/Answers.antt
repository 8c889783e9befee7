use Rattle.xd_worker.specs.Talk.{function_ended}
use Rattle.std.proofs.Common.{Some}
use Rattle.xd_worker.proofs.Standing.{failed_is, spoke}
use Rattle.xd_worker.proofs.worker.WorkerCore.fail.Goals as goal

pub returns : goal.returns
returns c = λ t h.
    failed_is _ _ c.args.number c.args.text c.in_ok-text.text c.in_ok-other.other t c.in_ok-text.ensures c.in_ok-other.ensures
    (spoke c.args.self.now c.end_function.new.side c.args.acts.now c.end_function.new.say t (function_ended c.args.number (Some c.in_ok-text.text) (Some c.in_ok-other.other)) c.in_ok-end_function.ensures h)
