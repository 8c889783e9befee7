use Rattle.std.proofs.Common.{◌≡◌, ◌++◌, take}
use Rattle.xd_run.specs.Ending.{kills}
use Rattle.xd_session_rules.proofs.ending.kill_all.Given as goal

abbrev pub invariant-loop-i : goal.invariant-loop-i
invariant-loop-i l = l.entries.items ≡ l.fn.entries.items ++ kills (take l.i l.members)
