use Rattle.std.proofs.Common.{◌≡◌, ◌++◌, drop}
use Rattle.std.specs.Prelude.{codes}
use Rattle.xd_value_show.specs.Show.{hex}
use Rattle.xd_value_show.proofs.leaf.print_bytes.Given as goal

abbrev pub invariant-loop-byte : goal.invariant-loop-byte
invariant-loop-byte l = l.out ++ hex (drop l.byte-index l.bytes) ≡ (l.fn.out ++ codes "bytes(") ++ hex l.bytes
