use Rattle.std.proofs.Common.{sym, subst}
use Rattle.xd_worker_tests.specs.declared.input.Input.{Input}
use Rattle.xd_worker_tests.specs.Turns.{answered_in}
use Rattle.xd_worker_tests.specs.inner.Stands.{IsCallTurn, test_of_running}
use Rattle.xd_worker_tests.proofs.run_tests.RunTests.take.Goals as goal

pub returns-in-Stop : goal.returns-in-Stop
returns-in-Stop c = λ t h. subst (λ (f : Input). IsCallTurn c.stop.new.self c.args.acts.now (answered_in c.args.self.now.phase (test_of_running c.args.self.now.running) c.args.room f t)) (sym c.in-Stop.is) (c.stop.ensures c.args.acts.now t h)
