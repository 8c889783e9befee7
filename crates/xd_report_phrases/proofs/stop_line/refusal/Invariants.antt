use Rattle.std.proofs.Common.{◌≡◌, drop}
use Rattle.xd_report_phrases.specs.StopLine.{refusal}
use Rattle.xd_report_phrases.proofs.stop_line.refusal.Given as goal

abbrev pub invariant-loop-entry : goal.invariant-loop-entry
invariant-loop-entry l = refusal l.worker l.entries ≡ refusal l.worker (drop l.entry-index l.entries)
