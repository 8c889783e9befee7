use Rattle.std.proofs.Common.{◌≡◌, take}
use Rattle.xd_replay.proofs.compare.agree_for.Given as goal

abbrev pub invariant-loop-i : goal.invariant-loop-i
invariant-loop-i l = take l.i l.told ≡ take l.i l.found
