use Rattle.std.proofs.Common.{true, false, ◌∙◌, refl, arith}
use Rattle.std.proofs.lemmas.Result.{err_from_is_err_and}
use Rattle.xd_run.specs.State.{no_one}
use Rattle.xd_report.proofs.Endings.{ends_on}
use Rattle.xd_local.proofs.Steps.{go, limited, not_collected, start, stop}
use Rattle.xd_local.proofs.running.Run.run_tests.Goals as goal

pub returns-in_err-print_from-clause-ran : goal.returns-in_err-print_from-clause-ran
returns-in_err-print_from-clause-ran g c =
    let failed = err_from_is_err_and c.from_residual.result c.from_residual.ensures.1 in
    rw (failed.1) (ends_on failed.0 _ _ _ failed.2
    (λ shows. not_collected c.args.suite.now (record { run = c.args.self.now; sunk = g.O.Sink.sunk c.args.out.now; clock = record { moment = g.T.Clock.moment c.args.clock.now; coming = g.T.Clock.coming c.args.clock.now } }) c.requires.begun.settings c.requires.begun (record { run = c.print_from.new.self; sunk = g.O.Sink.sunk c.print_from.new.out; clock = record { moment = g.T.Clock.moment c.args.clock.now; coming = g.T.Clock.coming c.args.clock.now } }) c.print_from.ensures.keeps refl _ shows)
    (c.in_err-print_from.ensures.shows (no_one c.args.self.now.journal.settings) c.requires.begun.unseen))

pub loop-test-init : goal.loop-test-init
loop-test-init g c = record {
  progress = start c.args.suite.now (record { run = c.args.self.now; sunk = g.O.Sink.sunk c.args.out.now; clock = record { moment = g.T.Clock.moment c.args.clock.now; coming = g.T.Clock.coming c.args.clock.now } }) c.requires.begun.settings c.requires.begun (record { run = c.print_from.new.self; sunk = g.O.Sink.sunk c.print_from.new.out; clock = record { moment = g.T.Clock.moment c.args.clock.now; coming = g.T.Clock.coming c.args.clock.now } }) c.print_from.ensures.keeps refl _
      (c.in_ok-print_from.ensures.shows (no_one c.args.self.now.journal.settings) c.requires.begun.unseen)
      (c.in_ok-print_from.ensures.follows (no_one c.args.self.now.journal.settings) c.requires.begun.unseen);
  still = c.in_ok-print_from.ensures.counted.still refl;
}

pub returns-then-is_stopped-clause-ran : goal.returns-then-is_stopped-clause-ran
returns-then-is_stopped-clause-ran g c =
    limited c.args.suite.now _ c.requires.begun.settings c.loop-test.test _ _ c.is_stopped.result c.loop-test.invariant.progress c.is_stopped.ensures c.if-is_stopped.true

pub loop-test-preserved : goal.loop-test-preserved
loop-test-preserved g c = record {
  progress = go c.args.suite.now _ c.requires.begun.settings c.loop-test.test _ _ _ c.loop-test.invariant.progress (omega arith) c.is_stopped.result c.is_stopped.ensures c.if-is_stopped.false true c.in_ok-run_test.ensures.ran refl _ c.look.ensures;
  still = c.in_ok-run_test.ensures.counted.still refl ∙ c.loop-test.invariant.still;
}

pub returns-in_err-run_test-clause-ran : goal.returns-in_err-run_test-clause-ran
returns-in_err-run_test-clause-ran g c =
    let failed = err_from_is_err_and c.from_residual-in_err-run_test.result c.from_residual-in_err-run_test.ensures.1 in
    rw (failed.1) (ends_on failed.0 _ _ _ failed.2
    (λ ran. stop c.args.suite.now _ c.requires.begun.settings c.loop-test.test _ _ _ c.loop-test.invariant.progress (omega arith) c.is_stopped.result c.is_stopped.ensures c.if-is_stopped.false false ran refl)
    c.in_err-run_test.ensures.ran)
