use Rattle.std.proofs.Common.{◌≡◌, ◌≤◌, drop}
use Rattle.xd_spec.specs.Numbers.{number_after}
use Rattle.xd_spec.proofs.numbers.number_in.Given as goal

abbrev pub invariant-loop-byte : goal.invariant-loop-byte
invariant-loop-byte l = (l.number ≤ l.limit) × (number_after l.limit 0 l.bytes ≡ number_after l.limit l.number (drop l.byte-index l.bytes))
