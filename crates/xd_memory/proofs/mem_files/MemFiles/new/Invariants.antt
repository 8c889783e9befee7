use Rattle.std.proofs.Common.{◌≡◌, ◌++◌, map}
use Rattle.xd_memory.specs.MemFiles.{file_of}
use Rattle.xd_memory.proofs.mem_files.MemFiles.new.Given as goal

abbrev pub invariant-loop-name : goal.invariant-loop-name
invariant-loop-name l = (map file_of l.held.items ++ l.name-iterator.rest.items ≡ l.fn.files.items) × (l.fails-inside.items.items ≡ l.fn.fails)
