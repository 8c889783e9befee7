use Rattle.std.proofs.Common.{take}
use Rattle.xd_run.specs.Sharing.{State}
use Rattle.xd_run.specs.State.{after_entries}
use Rattle.xd_report.specs.Follows.{Follows}
use Rattle.xd_report.proofs.reporter.Reporter.follow.Given as goal

abbrev pub invariant-loop-entry : goal.invariant-loop-entry
invariant-loop-entry l = (s : State) → Follows l.initial.self s → Follows l.self (after_entries s (take l.entry-index l.entries))
