use Rattle.std.proofs.Common.{◌≡◌}
use Rattle.xd_memory.specs.MemChildren.{given_of}
use Rattle.xd_memory.proofs.mem_children.next_piece.Given as goal

abbrev pub invariant-loop-i : goal.invariant-loop-i
invariant-loop-i l = given_of l.pieces l.i l.given ≡ given_of l.pieces l.piece l.fn.given
