use Rattle.std.proofs.Common.{◌++◌, List, ℕ, take, subst, sym, ◌∙◌, ap, arith}
use Rattle.xd_journal.specs.declared.entry.Entry.{Entry}
use Rattle.xd_run.specs.State.{after_entries, reached}
use Rattle.xd_report.specs.Follows.{Follows}
use Rattle.xd_report.specs.Lines.{lines_of}
use Rattle.xd_report.proofs.Texts.{after_effect-step, lines-step}
use Rattle.xd_report.proofs.reporter.Reporter.lines.Goals as goal

pub loop-entry-preserved : goal.loop-entry-preserved
loop-entry-preserved c =
    let es : List Entry = c.args.entries.now in
    let i = c.loop-entry.entry-index in
    record {
      lines = λ s f.
          let t = after_entries s (take i es) in
          c.in_ok-add_lines.ensures.lines t (c.loop-entry.invariant.follows s f)
          ∙ ap (λ (l : List ℕ). l ++ lines_of (reached t c.entry-item.result) c.entry-item.result) (c.loop-entry.invariant.lines s f)
          ∙ sym (lines-step s es i c.entry-item.result (omega arith) c.entry-item.is);
      follows = λ s f.
          subst (Follows c.add_lines.new.self) (sym (after_effect-step s es i c.entry-item.result (omega arith) c.entry-item.is)) (c.in_ok-add_lines.ensures.follows (after_entries s (take i es)) (c.loop-entry.invariant.follows s f));
    }
