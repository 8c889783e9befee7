-- A source and a sink in memory of which nothing was asked yet. A choice of this project.
use Rattle.std.specs.Prelude.{◌≡◌, false}
use Rattle.xd_link.specs.FreshLink.{unused}
use Rattle.xd_memory.specs.MemSink.{sunk_of}
use Rattle.xd_memory.specs.declared.mem_sink.MemSink.{MemSink}
use Rattle.xd_memory.specs.declared.mem_source.MemSource.{MemSource}

-- The source has given nothing, the sink took nothing, and neither failed.
pub record IsFresh (source : MemSource) (sink : MemSink) : Type 0 where
  pub given : source.given ≡ 0
  pub ended : source.is_ended ≡ false
  pub reads : source.plan.faults ≡ 0
  pub taken : sunk_of sink ≡ unused
  pub writes : sink.plan.faults ≡ 0
