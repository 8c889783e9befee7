use Rattle.std.proofs.Common.{◌≡◌}
use Rattle.xd_links.proofs.links.join_left.Given as goal

abbrev pub invariant-loop-handle : goal.invariant-loop-handle
invariant-loop-handle g l = g.C.Crew.faults l.crew ≡ g.C.Crew.faults l.fn.crew
