use Rattle.xd_worker.proofs.Standing.{heard_does}
use Rattle.xd_worker.proofs.worker.WorkerCore.take_message.Goals as goal

pub returns-in-Ok-act_unless_stopped-clause-does : goal.returns-in-Ok-act_unless_stopped-clause-does
returns-in-Ok-act_unless_stopped-clause-does c = λ w h l.
    let r = c.in-Ok-act_unless_stopped.ensures in
    heard_does c.args.self.now c.act_unless_stopped.new.self c.take.new.side c.args.acts.now c.act_unless_stopped.new.acts w c.args.message c.in-Ok.taken h l c.in-Ok.ensures.heard r.0 r.1 r.2
