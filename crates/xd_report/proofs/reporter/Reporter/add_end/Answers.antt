use Rattle.std.proofs.Common.{◌++◌, List, ℕ, ◌∙◌, ap, append_assoc}
use Rattle.xd_report.specs.Lines.{down_line, lost_head_line}
use Rattle.xd_report_phrases.specs.Names.{cause_text}
use Rattle.xd_report.specs.Tests.{mode_of}
use Rattle.xd_report.proofs.reporter.Reporter.add_end.Goals as goal

pub returns : goal.returns
returns c = λ s f.
    let down : List ℕ = down_line (mode_of s) c.args.worker (cause_text c.args.cause) in
    c.in_ok-add_lost.ensures s f ∙ ap (λ (l : List ℕ). l ++ lost_head_line c.args.worker s) (c.in_ok-add_down.ensures s f ∙ ap (λ (why : List ℕ). c.args.out.now.items ++ down_line (mode_of s) c.args.worker why) c.cause_text.ensures)
    ∙ append_assoc c.args.out.now.items down (lost_head_line c.args.worker s)
