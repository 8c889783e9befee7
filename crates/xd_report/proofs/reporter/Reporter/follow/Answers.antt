use Rattle.std.proofs.Common.{List, take, subst, sym, arith}
use Rattle.xd_journal.specs.declared.entry.Entry.{Entry}
use Rattle.xd_run.specs.State.{after_entries}
use Rattle.xd_report.specs.Follows.{Follows}
use Rattle.xd_report.proofs.Texts.{after_effect-step}
use Rattle.xd_report.proofs.reporter.Reporter.follow.Goals as goal

pub loop-entry-preserved : goal.loop-entry-preserved
loop-entry-preserved c = λ s f.
    (let es : List Entry = c.args.entries.now in
    let i = c.loop-entry.entry-index in
    let step = after_effect-step s es i c.entry-item.result (omega arith) c.entry-item.is in
    subst (Follows c.note.new.self) (sym step) (c.in_ok-note.ensures (after_entries s (take i es)) (c.loop-entry.invariant s f)))
