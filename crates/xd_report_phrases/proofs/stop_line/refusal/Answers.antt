use Rattle.std.proofs.Common.{◌≡◌, [], drop, sym, ap, ◌∙◌, arith}
use Rattle.std.proofs.lemmas.Grind.{common_steps}
use Rattle.std.proofs.lemmas.Str.{chars-nil}
use Rattle.xd_report_phrases.specs.StopLine.{refusal}
use Rattle.xd_report_phrases.proofs.stop_line.refusal.Goals as goal

pub returns : goal.returns
returns c =
    let end : drop c.loop-entry.entry-index c.args.entries.now ≡ [] = grind (arith, common_steps) in
    chars-nil ∙ sym (c.loop-entry.invariant ∙ ap (refusal c.args.worker) end)
