use Rattle.std.proofs.Common.{◌≡◌, take}
use Rattle.xd_run.specs.Sharing.{State}
use Rattle.xd_run.specs.State.{after_entries}
use Rattle.xd_report.specs.Follows.{Follows}
use Rattle.xd_report.specs.Lines.{lines_from}
use Rattle.xd_report.proofs.reporter.Reporter.lines.Given as goal

abbrev pub invariant-loop-entry : goal.invariant-loop-entry
invariant-loop-entry l = record {
  lines : (s : State) → Follows l.initial.self s → l.bytes.items ≡ lines_from s (take l.entry-index l.entries);
  follows : (s : State) → Follows l.initial.self s → Follows l.self (after_entries s (take l.entry-index l.entries));
}
