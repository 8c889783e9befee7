use Rattle.std.proofs.Common.{◌≡◌, take}
use Rattle.xd_run.specs.Sharing.{State}
use Rattle.xd_run.specs.State.{after_entries}
use Rattle.xd_report.specs.Follows.{Follows}
use Rattle.xd_report.specs.Summary.{counted_from}
use Rattle.xd_report.proofs.reporter.Reporter.count_all.Given as goal

abbrev pub invariant-loop-entry : goal.invariant-loop-entry
invariant-loop-entry l = record {
  counts : (s : State) → Follows l.initial.self s → l.counts ≡ counted_from s (take l.entry-index l.entries) l.initial.counts;
  follows : (s : State) → Follows l.initial.self s → Follows l.self (after_entries s (take l.entry-index l.entries));
}
