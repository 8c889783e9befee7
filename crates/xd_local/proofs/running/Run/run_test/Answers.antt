use Rattle.std.proofs.Common.{false}
use Rattle.std.proofs.lemmas.Result.{err_from_is_err_and}
use Rattle.xd_report.proofs.Endings.{ends_on}
use Rattle.xd_local.specs.inner.Running.{after_journal}
use Rattle.xd_local.proofs.NewLines.{preceding, ran_test}
use Rattle.xd_local.proofs.running.Run.run_test.Goals as goal

pub returns-in_err-print_from-clause-ran : goal.returns-in_err-print_from-clause-ran
returns-in_err-print_from-clause-ran g c =
    let failed = err_from_is_err_and c.from_residual-in_err-print_from.result c.from_residual-in_err-print_from.ensures.1 in
    rw (failed.1) (ends_on failed.0 _ _ _ failed.2
    (λ shows. ran_test c.args.test _ c.entry_count-from.result (record { moment = g.T.Clock.moment c.args.clock.now; coming = g.T.Clock.coming c.args.clock.now }) (record { moment = g.T.Clock.moment c.note_test.new.clock; coming = g.T.Clock.coming c.note_test.new.clock }) c.args.self.now c.note_test.new.self c.print_from.new.self c.in_ok-note_test.ensures.notes c.entry_count-from.ensures c.print_from.ensures.keeps false _ _ shows (λ no. cc))
    (c.in_err-print_from.ensures.shows (after_journal c.args.self.now.journal) (preceding c.args.test _ c.entry_count-from.result (record { moment = g.T.Clock.moment c.args.clock.now; coming = g.T.Clock.coming c.args.clock.now }) (record { moment = g.T.Clock.moment c.note_test.new.clock; coming = g.T.Clock.coming c.note_test.new.clock }) c.args.self.now c.note_test.new.self c.print_from.new.self c.in_ok-note_test.ensures.notes c.entry_count-from.ensures c.print_from.ensures.keeps c.requires.told)))
