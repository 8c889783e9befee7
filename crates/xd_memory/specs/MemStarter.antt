-- What a starter in memory tells. A choice of this project.
use Rattle.xd_memory.specs.declared.mem_starter.MemStarter.{MemStarter}
use Rattle.xd_link.specs.Starter.{Begun}

-- what the starter tells: the starts that were asked for, and the links that began
abbrev pub begun_of : MemStarter → Begun
begun_of s = record { starts = s.starts.items; links = s.begun.items }
