-- How far the report of a run was written.
use Rattle.std.specs.Prelude.{Bool, true, false}
use Rattle.xd_drive.specs.declared.written.Written.{Written}
use Rattle.xd_drive.specs.declared.written.Written.TheVariants.{Whole, Broken}

-- all of it was printed
-- Example: the line of the fourth entry cannot be written: it is Broken, with three performed.
abbrev pub is_whole : Written → Bool
is_whole Whole = true
is_whole (Broken performed) = false
