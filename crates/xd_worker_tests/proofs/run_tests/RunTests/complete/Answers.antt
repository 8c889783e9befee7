use Rattle.std.proofs.Common.{Option, Some, List, ℕ, sym, subst, OnOk}
use Rattle.xd_worker_tests.specs.declared.phase.Phase.{Phase}
use Rattle.xd_worker_tests.specs.declared.run_tests.Running.{Running}
use Rattle.xd_worker_tests.specs.Turns.{over, done_of, told_done}
use Rattle.xd_worker_tests.specs.inner.Stands.{IsCallTurn, test_of_running}
use Rattle.xd_worker_tests.proofs.run_tests.RunTests.complete.Goals as goal

pub returns-in_ok-text-in-Ending : goal.returns-in_ok-text-in-Ending
returns-in_ok-text-in-Ending c = λ t h.
    let told = c.in_ok-tell_done-in-Ending.ensures t c.in-Some.is h in
    let end = c.finish.ensures (told_done c.in-Some.running.test c.args.outcome c.args.ms t) (record { held = told.call.held; acted = told.acted }) in
    let text = subst (λ (x : Option (List ℕ)). OnOk c.finish.result (IsCallTurn c.finish.new.self c.finish.new.acts (over x (told_done c.in-Some.running.test c.args.outcome c.args.ms t)))) c.in_ok-text-in-Ending.ensures end in
    subst (λ (r : Option Running). OnOk c.finish.result (IsCallTurn c.finish.new.self c.finish.new.acts (done_of (test_of_running r) c.args.self.now.phase c.args.room c.args.outcome c.args.ms t))) (sym c.in-Some.is)
    (subst (λ (p : Phase). OnOk c.finish.result (IsCallTurn c.finish.new.self c.finish.new.acts (done_of (Some c.in-Some.running.test) p c.args.room c.args.outcome c.args.ms t))) (sym c.in-Ending.is) text)
