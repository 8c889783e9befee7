use Rattle.std.proofs.Common.{◌≡◌, ◌≤◌, ◌++◌, take}
use Rattle.std.specs.Vec.{vec_capacity}
use Rattle.xd_child.proofs.running.keep.Given as goal

abbrev pub invariant-loop-i : goal.invariant-loop-i
invariant-loop-i l = record {
  items : l.output.items ≡ l.fn.output.items ++ take l.i l.bytes;
  room : l.room ≤ vec_capacity l.output;
}
