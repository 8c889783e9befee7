use Rattle.std.proofs.Common.{refl, false}
use Rattle.xd_worker.proofs.worker.WorkerCore.refuse_suite.Goals as goal

pub returns : goal.returns
returns c = λ t h k.
    c.in_ok-feed.ensures (record t { duties = record (t.duties) { owed = false } })
    (record { talk_is = h.talk_is; duties_are = record { good = h.duties_are.good; stopped_is = h.duties_are.stopped_is; services_are = h.duties_are.services_are; echoes_are = h.duties_are.echoes_are; owed_is = refl; tests_are = h.duties_are.tests_are }; suite_is = h.suite_is; run_is = h.run_is })
    k
