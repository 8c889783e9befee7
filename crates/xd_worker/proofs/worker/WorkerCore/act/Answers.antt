use Rattle.std.proofs.Common.{sym, subst}
use Rattle.xd_value.specs.declared.value.Value.{Value}
use Rattle.xd_factory.specs.declared.taken.Taken.{Taken}
use Rattle.xd_factory.specs.Trees.{taken_tree}
use Rattle.xd_worker.specs.Turns.{did}
use Rattle.xd_worker.specs.Logs.{AllOpen}
use Rattle.xd_worker.specs.Stands.{IsWorkerTurn}
use Rattle.xd_worker.proofs.worker.WorkerCore.act.Goals as goal

pub returns-in-EndHanded : goal.returns-in-EndHanded
returns-in-EndHanded c = λ t h k.
    subst (λ (x : Taken Value). IsWorkerTurn c.take_channel_end.new.self c.take_channel_end.new.acts (did (taken_tree x) c.args.channels t)) (sym c.in-EndHanded.is)
    (c.in_ok-take_channel_end-in-EndHanded.ensures t c.in-EndHanded.field-1 h (subst (λ (x : Taken Value). AllOpen (did (taken_tree x) c.args.channels t).logs) c.in-EndHanded.is k))
