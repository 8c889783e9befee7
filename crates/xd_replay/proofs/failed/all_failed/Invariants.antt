use Rattle.std.proofs.Common.{◌≡◌, take}
use Rattle.xd_run.specs.State.{after_entries, no_one}
use Rattle.xd_report.specs.Follows.{Follows}
use Rattle.xd_replay.specs.Failed.{failed_from}
use Rattle.xd_replay.proofs.failed.all_failed.Given as goal

abbrev pub invariant-loop-entry : goal.invariant-loop-entry
invariant-loop-entry l = record {
  ids : l.items.items ≡ failed_from (no_one l.journal.settings) (take l.entry-index l.journal.entries.items);
  follows : Follows l.reporter (after_entries (no_one l.journal.settings) (take l.entry-index l.journal.entries.items));
}
