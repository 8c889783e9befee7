use Rattle.std.proofs.Common.{◌≡◌, drop, None}
use Rattle.xd_report.specs.Lines.{last_of_slot}
use Rattle.xd_report.proofs.lines.last_of_slot.Given as goal

abbrev pub invariant-loop-member : goal.invariant-loop-member
invariant-loop-member l = last_of_slot l.slot l.members None ≡ last_of_slot l.slot (drop l.member-index l.members) l.found
