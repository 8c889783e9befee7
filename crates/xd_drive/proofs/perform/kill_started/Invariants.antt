use Rattle.std.proofs.Common.{◌≡◌, ℕ, take}
use Rattle.xd_drive.specs.Performing.{marks_after, kills_of_started}
use Rattle.xd_drive.specs.Seen.{Performs}
use Rattle.xd_drive.proofs.perform.kill_started.Given as goal

abbrev pub invariant-loop-entry : goal.invariant-loop-entry
invariant-loop-entry g l = record {
  marks : (w : ℕ) → g.H.Hub.marks l.hub w ≡ marks_after (kills_of_started l.done (take l.entry-index l.entries)) (g.H.Hub.marks l.initial.hub) w;
  performs : Performs (kills_of_started l.done (take l.entry-index l.entries)) (g.H.Hub.seen l.initial.hub) (g.H.Hub.seen l.hub);
  made : g.H.Hub.made l.hub ≡ g.H.Hub.made l.initial.hub;
}
