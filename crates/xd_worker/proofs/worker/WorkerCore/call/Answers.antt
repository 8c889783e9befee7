use Rattle.std.proofs.Common.{Bool, ap, subst, ◌∙◌}
use Rattle.xd_value.specs.View.{view}
use Rattle.xd_commands.specs.declared.function.Called.{Called}
use Rattle.xd_commands.specs.Functions.{called_in}
use Rattle.xd_worker.specs.Turns.{called}
use Rattle.xd_worker.specs.Stands.{IsWorkerTurn}
use Rattle.xd_worker.proofs.Standing.{called_is}
use Rattle.xd_worker.proofs.worker.WorkerCore.call.Goals as goal

pub returns : goal.returns
returns c = λ t h.
    subst (λ (x : Called). IsWorkerTurn c.begin.new.self c.begin.new.acts (called c.args.number x t))
    (c.in_ok-call.ensures ∙ ap (λ (b : Bool). called_in b (view c.args.value.now)) (c.is_some.ensures ∙ called_is c.args.self.now.tests_call t.duties.service h.duties_are.services_are))
    (c.in_ok-begin.ensures t h)
