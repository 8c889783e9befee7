-- Numbers of the sizes that a journal has: those of the types `u32`, `u64` and `i32`.
use Rattle.std.specs.Prelude.{ℕ, ◌<◌, ℤ, pos, negsuc, Option, Some, None}
use Rattle.xd_journal.specs.declared.settings.Settings.{Settings}
use Rattle.xd_journal.specs.declared.entry.Outcome.{Outcome}
use Rattle.xd_journal.specs.declared.entry.Outcome.TheVariants.{Passed, Skipped, Failed}
use Rattle.xd_journal.specs.declared.entry.RunStop.{RunStop}
use Rattle.xd_journal.specs.declared.entry.RunStop.TheVariants.{Completed, MaxFail, Restarts, Unequal, CollectError, OutFault}
use Rattle.xd_journal.specs.declared.entry.Entry.{Entry}
use Rattle.xd_journal.specs.declared.entry.Entry.TheVariants.{Ready, Collected, Done, Back, Finished, Refused, Down, NotStarted, Start, Run, RunAll, Steal, Shutdown, Kill, Over}
use Rattle.xd_commands.specs.Kwargs.{AreIndices}

-- a number of 32 bits
abbrev pub Is32 : ℕ → Type 0
Is32 n = n < 4294967296

-- an integer of 32 bits, with a sign
abbrev pub IsSigned32 : ℤ → Type 0
IsSigned32 (pos n) = n < 2147483648
IsSigned32 (negsuc n) = n < 2147483648

-- an outcome whose code has 32 bits
abbrev pub HasCode32 : Outcome → Type 0
HasCode32 Passed = Unit {0}
HasCode32 Skipped = Unit {0}
HasCode32 (Failed code) = IsSigned32 code

-- a stop whose numbers have 32 bits
abbrev pub IsStop32 : RunStop → Type 0
IsStop32 Completed = Unit {0}
IsStop32 (MaxFail count) = Is32 count
IsStop32 (Restarts worker limit) = Is32 worker × Is32 limit
IsStop32 (Unequal worker other place) = Is32 worker × Is32 other × Is32 place
IsStop32 (CollectError worker) = Is32 worker
IsStop32 OutFault = Unit {0}

-- an entry whose numbers have 32 bits, and its duration 64
-- Example: no entry names the worker 4294967296.
abbrev pub IsSizedEntry : Entry → Type 0
IsSizedEntry (Ready w) = Is32 w
IsSizedEntry (Collected w ids) = Is32 w
IsSizedEntry (Done w test outcome ms output) = Is32 w × Is32 test × HasCode32 outcome × (ms < 18446744073709551616)
IsSizedEntry (Back w tests) = Is32 w × AreIndices tests
IsSizedEntry (Finished w) = Is32 w
IsSizedEntry (Refused w error) = Is32 w
IsSizedEntry (Down w cause output) = Is32 w
IsSizedEntry (NotStarted w) = Is32 w
IsSizedEntry (Start w slot) = Is32 w × Is32 slot
IsSizedEntry (Run w tests) = Is32 w × AreIndices tests
IsSizedEntry (RunAll w) = Is32 w
IsSizedEntry (Steal w tests) = Is32 w × AreIndices tests
IsSizedEntry (Shutdown w) = Is32 w
IsSizedEntry (Kill w) = Is32 w
IsSizedEntry (Over how) = IsStop32 how

-- a number of 32 bits, or none
abbrev pub IsOptional32 : Option ℕ → Type 0
IsOptional32 None = Unit {0}
IsOptional32 (Some n) = Is32 n

-- settings whose numbers have 32 bits
pub record AreSizedSettings (s : Settings) : Type 0 where
  pub workers : Is32 s.workers
  pub maxfail : Is32 s.maxfail
  pub restarts : Is32 s.restarts
  pub chunk : IsOptional32 s.chunk
  pub retries : Is32 s.retries
