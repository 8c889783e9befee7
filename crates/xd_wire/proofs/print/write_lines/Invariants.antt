use Rattle.std.proofs.Common.{◌≡◌, ◌≤◌, ◌-◌, length}
use Rattle.xd_wire.specs.inner.Lines.{texts_at}
use Rattle.xd_wire.specs.Printing.{TookUpTo}
use Rattle.xd_wire.proofs.print.write_lines.Given as goal

-- the lines before the place were taken
abbrev pub invariant-lines : goal.invariant-lines
invariant-lines g l = record {
  within : l.at ≤ length l.bytes;
  took : TookUpTo (texts_at l.bytes 0) (texts_at l.bytes l.at) (g.O.Sink.sunk l.initial.out) (g.O.Sink.sunk l.out);
  still : g.O.Sink.faults l.out ≡ g.O.Sink.faults l.initial.out;
}

abbrev pub decreases-lines : goal.decreases-lines
decreases-lines g l = length l.bytes - l.at
