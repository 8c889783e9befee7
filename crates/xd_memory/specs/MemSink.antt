-- What a sink in memory took. A choice of this project.
use Rattle.xd_edge.specs.Sink.{Sunk}
use Rattle.xd_memory.specs.declared.mem_sink.MemSink.{MemSink}

-- what the sink tells: its bytes, how many of them were handed on, and whether it was closed
abbrev pub sunk_of : MemSink → Sunk
sunk_of s = record { bytes = s.bytes.items; flushed = s.flushed; closed = s.closed }
