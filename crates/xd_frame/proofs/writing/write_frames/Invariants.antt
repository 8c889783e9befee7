use Rattle.std.proofs.Common.{◌≡◌, ◌≤◌, take}
use Rattle.xd_edge.specs.Sink.{Took}
use Rattle.xd_frame.specs.Message.{frames}
use Rattle.xd_frame.proofs.writing.write_frames.Given as goal

abbrev pub invariant-loop-message : goal.invariant-loop-message
invariant-loop-message g l = record {
  took : Took (frames (take l.message-index l.messages)) (g.N.Sink.sunk l.fn.sink) (g.N.Sink.sunk l.sink);
  still : g.N.Sink.faults l.sink ≡ g.N.Sink.faults l.fn.sink;
  later : g.N.Sink.faults l.fn.sink ≤ g.N.Sink.faults l.sink;
}
