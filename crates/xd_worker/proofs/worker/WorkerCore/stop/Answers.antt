use Rattle.std.proofs.Common.{refl, true}
use Rattle.xd_worker.proofs.worker.WorkerCore.stop.Goals as goal

pub returns : goal.returns
returns c = λ t h k.
    c.in_ok-feed.ensures (record t { duties = record (t.duties) { stopped = true } })
    (record { talk_is = h.talk_is; duties_are = record { good = h.duties_are.good; stopped_is = refl; services_are = h.duties_are.services_are; echoes_are = h.duties_are.echoes_are; owed_is = h.duties_are.owed_is; tests_are = h.duties_are.tests_are }; suite_is = h.suite_is; run_is = h.run_is })
    k
