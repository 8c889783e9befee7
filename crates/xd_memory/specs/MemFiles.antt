-- What files in memory hold. A choice of this project.
use Rattle.std.specs.Prelude.{ℕ, List, Option, option_map}
use Rattle.std.specs.List.{find}
use Rattle.std.specs.Str.{bytes_eq}
use Rattle.xd_memory.specs.declared.mem_file.MemFile.{MemFile}

-- a file as it is prepared: its name, its bytes, and how many bytes can be written to it
abbrev pub file_of : MemFile → List ℕ × List ℕ × ℕ
file_of f = (f.name, f.bytes.items, f.room)

-- the first file of this name
abbrev pub file_named : List MemFile → List ℕ → Option MemFile
file_named files name = find (λ f. bytes_eq f.name name) files

-- the bytes under each name: those of the first file of this name
abbrev pub held_by : List MemFile → List ℕ → Option (List ℕ)
held_by files name = option_map (λ f. f.bytes.items) (file_named files name)
