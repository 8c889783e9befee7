use Rattle.std.proofs.Common.{List, take, subst, sym, ◌∙◌, ap, arith}
use Rattle.xd_journal.specs.declared.entry.Entry.{Entry}
use Rattle.xd_run.specs.State.{after_entries, reached}
use Rattle.xd_report.specs.Follows.{Follows}
use Rattle.xd_report.specs.Summary.{counted}
use Rattle.xd_report.proofs.Moves.{reach}
use Rattle.xd_report.proofs.Texts.{after_effect-step, counted-step}
use Rattle.xd_report.proofs.reporter.Reporter.count_all.Goals as goal

pub loop-entry-preserved : goal.loop-entry-preserved
loop-entry-preserved c =
    let es : List Entry = c.args.entries.now in
    let i = c.loop-entry.entry-index in
    let e : Entry = c.entry-item.result in
    record {
      counts = λ s f.
          let t = after_entries s (take i es) in
          c.in_ok-count.ensures (reached t e) (reach c.loop-entry.self t e (c.loop-entry.invariant.follows s f))
          ∙ ap (counted (reached t e) e) (c.loop-entry.invariant.counts s f)
          ∙ sym (counted-step s es i c.entry-item.result (omega arith) c.entry-item.is c.args.counts.now);
      follows = λ s f.
          subst (Follows c.note.new.self) (sym (after_effect-step s es i c.entry-item.result (omega arith) c.entry-item.is)) (c.in_ok-note.ensures (after_entries s (take i es)) (c.loop-entry.invariant.follows s f));
    }
