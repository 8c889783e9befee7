use Rattle.std.proofs.Common.{◌≤◌, [], length}
use Rattle.xd_value_loads.specs.inner.Seats.{IsStack, cells_of}
use Rattle.xd_value.proofs.Runs.{Reaches}
use Rattle.xd_value_loads.proofs.reading.run.Given as goal

-- the opcodes before the rest made the stack
abbrev pub invariant-opcodes : goal.invariant-opcodes
invariant-opcodes l = record { reached : Reaches ([], l.bytes) (cells_of l.stack, l.rest); inside : length l.rest ≤ length l.bytes; stands : IsStack l.stack }

abbrev pub decreases-opcodes : goal.decreases-opcodes
decreases-opcodes l = length l.rest
