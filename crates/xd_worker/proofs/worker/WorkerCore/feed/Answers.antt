use Rattle.std.proofs.Common.{Option, sym, subst, refl}
use Rattle.xd_worker.specs.declared.tests_call.Fed.{Fed}
use Rattle.xd_worker.specs.Worker.{WorkerTurn}
use Rattle.xd_worker.specs.Logs.{AllOpen}
use Rattle.xd_worker.specs.Stands.{IsWorkerTurn, HasFed}
use Rattle.xd_worker.proofs.Standing.{fed_something}
use Rattle.xd_worker.proofs.worker.WorkerCore.feed.Goals as goal

pub returns : goal.returns
returns c = λ t h l.
    let s = t.duties.service in
    let k = subst (λ (o : Option Fed). HasFed c.feed.new.tests_call s c.args.input c.args.channels o) c.in-Some.is (c.in_ok-fed.ensures s h.duties_are.services_are) in
    let r = fed_something c.feed.new.tests_call s c.args.input c.args.channels t c.in-Some.fed k in
    subst (λ (x : WorkerTurn). IsWorkerTurn c.carry_all.new.self c.carry_all.new.acts x) (sym r.2)
    (c.in_ok-carry_all.ensures (record t { duties = record (t.duties) { service = r.0 }; run = c.in-Some.fed.acts.run })
    (record {
      talk_is = h.talk_is;
      duties_are = record {
        good = h.duties_are.good;
        stopped_is = h.duties_are.stopped_is;
        services_are = r.1;
        echoes_are = h.duties_are.echoes_are;
        owed_is = h.duties_are.owed_is;
        tests_are = h.duties_are.tests_are;
      };
      suite_is = h.suite_is;
      run_is = refl;
    })
    (subst (λ (x : WorkerTurn). AllOpen x.logs) r.2 l))
