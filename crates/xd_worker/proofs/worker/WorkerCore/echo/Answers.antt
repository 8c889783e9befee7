use Rattle.std.proofs.Common.{◌≡◌, sym, subst, ◌∙◌}
use Rattle.xd_value.specs.View.{view}
use Rattle.xd_worker.specs.Worker.{WorkerTurn}
use Rattle.xd_worker.specs.Stands.{IsWorkerTurn}
use Rattle.xd_factory.specs.SideTable.{channel_table}
use Rattle.xd_worker.specs.Talk.{sent_how, payload_on}
use Rattle.xd_worker.specs.declared.talk.Sent.TheVariants.{Unwritten}
use Rattle.xd_worker.proofs.Standing.{left_out, echoed_long}
use Rattle.xd_worker.proofs.worker.WorkerCore.echo.Goals as goal

pub returns-in_ok-end_long_echo-in-Unwritten : goal.returns-in_ok-end_long_echo-in-Unwritten
returns-in_ok-end_long_echo-in-Unwritten c = λ t h.
    let s = c.args.self.now in
    let a = c.args.acts.now in
    let n = c.args.number in
    let v = view c.args.value.now in
    let u : sent_how (payload_on n v (channel_table s.side)) ≡ Unwritten = sym c.in_ok-send.ensures.how ∙ c.in-Unwritten.is in
    subst (λ (x : WorkerTurn). IsWorkerTurn c.end_long_echo.new.self c.end_long_echo.new.acts x) (echoed_long s a t n v u h)
    (c.in_ok-end_long_echo-in-Unwritten.ensures t (left_out s c.send.new.side a c.send.new.say t n v u c.in_ok-send.ensures.talk h))
