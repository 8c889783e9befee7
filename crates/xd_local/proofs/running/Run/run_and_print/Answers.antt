use Rattle.std.proofs.Common.{false, true}
use Rattle.std.proofs.lemmas.Result.{err_from_is_err_and}
use Rattle.xd_report.proofs.Endings.{ends_on}
use Rattle.xd_local.proofs.Report.{printed}
use Rattle.xd_local.proofs.running.Run.run_and_print.Goals as goal

pub returns-in_err-print_end-clause-ran : goal.returns-in_err-print_end-clause-ran
returns-in_err-print_end-clause-ran g c =
    let failed = err_from_is_err_and c.from_residual-in_err-print_end.result c.from_residual-in_err-print_end.ensures.1 in
    rw (failed.1) (ends_on failed.0 _ _ _ failed.2
    (λ shows. printed c.args.suite.now (record { run = c.args.self.now; sunk = g.O.Sink.sunk c.args.out.now; clock = record { moment = g.T.Clock.moment c.args.clock.now; coming = g.T.Clock.coming c.args.clock.now } }) false (record { run = c.run_tests.new.self; sunk = g.O.Sink.sunk c.run_tests.new.out; clock = record { moment = g.T.Clock.moment c.run_tests.new.clock; coming = g.T.Clock.coming c.run_tests.new.clock } }) _ _ c.in_ok-run_tests.ensures.ran shows)
    c.in_err-print_end.ensures.shows)

pub returns-clause-ran : goal.returns-clause-ran
returns-clause-ran g c = printed c.args.suite.now (record { run = c.args.self.now; sunk = g.O.Sink.sunk c.args.out.now; clock = record { moment = g.T.Clock.moment c.args.clock.now; coming = g.T.Clock.coming c.args.clock.now } }) true (record { run = c.run_tests.new.self; sunk = g.O.Sink.sunk c.run_tests.new.out; clock = record { moment = g.T.Clock.moment c.run_tests.new.clock; coming = g.T.Clock.coming c.run_tests.new.clock } }) _ _ c.in_ok-run_tests.ensures.ran c.in_ok-print_end.ensures.shows
