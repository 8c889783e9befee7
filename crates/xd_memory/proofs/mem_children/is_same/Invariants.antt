use Rattle.std.proofs.Common.{◌≡◌, drop}
use Rattle.xd_memory.specs.MemChildren.{texts_eq}
use Rattle.xd_memory.proofs.mem_children.is_same.Given as goal

abbrev pub invariant-loop-i : goal.invariant-loop-i
invariant-loop-i l = texts_eq l.these l.those ≡ texts_eq (drop l.i l.these) (drop l.i l.those)
