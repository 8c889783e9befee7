use Rattle.std.proofs.Common.{◌≡◌, ℕ, take}
use Rattle.xd_drive.specs.Performing.{marks_after}
use Rattle.xd_drive.specs.Seen.{Performs}
use Rattle.xd_drive.proofs.perform.perform.Given as goal

abbrev pub invariant-loop-entry : goal.invariant-loop-entry
invariant-loop-entry g l = record {
  marks : (w : ℕ) → g.H.Hub.marks l.hub w ≡ marks_after (take l.entry-index l.entries) (g.H.Hub.marks l.initial.hub) w;
  performs : Performs (take l.entry-index l.entries) (g.H.Hub.seen l.initial.hub) (g.H.Hub.seen l.hub);
  made : g.H.Hub.made l.hub ≡ g.H.Hub.made l.initial.hub;
}
