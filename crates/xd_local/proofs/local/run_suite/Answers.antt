use Rattle.xd_report.proofs.Endings.{ends_as}
use Rattle.xd_local.proofs.Whole.{whole_run, whole_status}
use Rattle.xd_local.proofs.local.run_suite.Goals as goal

pub returns-clause-ran : goal.returns-clause-ran
returns-clause-ran g c = rw (c.in_ok-ended.ensures.moments)
    (whole_run c.args.suite.tests c.args.suite.maxfail c.new-run.result c.collect.new.self c.run_and_print-printed.new.self c.in_ok-ended.ended.journal (g.O.Sink.sunk c.args.out.now) (g.O.Sink.sunk c.run_and_print-printed.new.out) c.in_ok-shown.shown (g.O.Sink.faults c.args.out.now) (g.O.Sink.faults c.run_and_print-printed.new.out) _ _ _ _ _
    c.new-run.ensures.new c.new-run.ensures.programs c.in_ok-collect.ensures.collected
    (ends_as c.run_and_print-printed.result c.in_ok-shown.shown _ c.in_ok-shown.ensures c.run_and_print-printed.ensures.ran)
    (ends_as c.run_and_print-printed.result c.in_ok-shown.shown _ c.in_ok-shown.ensures c.run_and_print-printed.ensures.counted)
    c.in_ok-ended.ensures.closed c.in_ok-ended.ensures.children)

pub returns-clause-status : goal.returns-clause-status
returns-clause-status g c =
    whole_status c.args.suite.tests c.args.suite.maxfail c.new-run.result c.collect.new.self c.run_and_print-printed.new.self c.in_ok-ended.ended.journal (g.O.Sink.sunk c.args.out.now) (g.O.Sink.sunk c.run_and_print-printed.new.out) c.in_ok-shown.shown c.in_ok-ended.ended.status _ _ _
    c.new-run.ensures.new c.in_ok-collect.ensures.collected
    (ends_as c.run_and_print-printed.result c.in_ok-shown.shown _ c.in_ok-shown.ensures c.run_and_print-printed.ensures.ran)
    c.in_ok-ended.ensures.closed c.in_ok-ended.ensures.status
