use Rattle.std.proofs.Common.{false, true}
use Rattle.std.proofs.lemmas.Result.{err_from_is_err_and}
use Rattle.xd_run.specs.State.{no_one}
use Rattle.xd_report.specs.Lines.{run_lines}
use Rattle.xd_report.specs.Text.{tail_text}
use Rattle.xd_report.proofs.Endings.{ends_on}
use Rattle.xd_top.proofs.Replaying.{report-after, report-broken}
use Rattle.xd_top.proofs.replay.print_report.Goals as goal

pub returns-in_err-print_lines-clause-shows : goal.returns-in_err-print_lines-clause-shows
returns-in_err-print_lines-clause-shows g c =
    let j = c.args.journal.now in
    let failed = err_from_is_err_and c.from_residual.result c.from_residual.ensures.1 in
    let lines = rw (c.deref.ensures.value) at (c.in_err-print_lines.ensures.shows (no_one j.settings) c.new-reporter.ensures) in
    rw (failed.1) (ends_on failed.0 _ _ _ failed.2 (λ shows. report-broken (run_lines j.settings j.entries.items) (tail_text j) (g.O.Sink.sunk c.args.out.now) (g.O.Sink.sunk c.print_lines.new.out) shows) lines)

pub returns-in_err-print_tail-clause-shows : goal.returns-in_err-print_tail-clause-shows
returns-in_err-print_tail-clause-shows g c =
    let j = c.args.journal.now in
    let failed = err_from_is_err_and c.from_residual-in_err-print_tail.result c.from_residual-in_err-print_tail.ensures.1 in
    let lines = rw (c.deref.ensures.value) at (c.in_ok-print_lines.ensures.shows (no_one j.settings) c.new-reporter.ensures) in
    rw (failed.1) (ends_on failed.0 _ _ _ failed.2
    (λ shows. report-after false (run_lines j.settings j.entries.items) (tail_text j) (g.O.Sink.sunk c.args.out.now) (g.O.Sink.sunk c.print_lines.new.out) (g.O.Sink.sunk c.print_tail.new.out) lines shows)
    c.in_err-print_tail.ensures.shows)

pub returns-clause-shows : goal.returns-clause-shows
returns-clause-shows g c =
    let j = c.args.journal.now in
    let lines = rw (c.deref.ensures.value) at (c.in_ok-print_lines.ensures.shows (no_one j.settings) c.new-reporter.ensures) in
    report-after true (run_lines j.settings j.entries.items) (tail_text j) (g.O.Sink.sunk c.args.out.now) (g.O.Sink.sunk c.print_lines.new.out) (g.O.Sink.sunk c.print_tail.new.out) lines c.in_ok-print_tail.ensures.shows
