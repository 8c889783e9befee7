-- How a report is printed.
use Rattle.std.specs.Prelude.{◌≡◌, ◌⊎◌, ⊤, ℕ, Bool, true, false, List, Option, option_map, Result, Ok, Err}
use Rattle.xd_edge.specs.Printing.{ShowsSome}
use Rattle.xd_edge.specs.Sink.{Sunk, Printed, TookPart, with_bytes, with_flush, with_close}
use Rattle.xd_report.specs.declared.printing.PrintFault.{PrintFault}
use Rattle.xd_report.specs.declared.printing.PrintFault.TheVariants.{Failed, OutOfMemory}

-- Where memory was not refused, this holds of whether all was printed.
abbrev pub OnPrinted : {A : Type 0} → Result A PrintFault → (Bool → Type 0) → Type 0
OnPrinted (Ok x) P = P true
OnPrinted (Err Failed) P = P false
OnPrinted (Err OutOfMemory) P = ⊤

-- what says that all was printed, or that it failed
abbrev pub printed_as : Bool → Result ⊤ PrintFault
printed_as true = Ok tt
printed_as false = Err Failed

-- The lines were printed, and where there are none the output is as it was; or, where it failed, a first part of them was
-- taken and no more handed on.
abbrev pub ShowsLines : Bool → List ℕ → Option Sunk → Option Sunk → Type 0
ShowsLines true bytes old new = ShowsSome bytes old new
ShowsLines false bytes old new = TookPart bytes old new

-- The bytes were printed and the output was closed; or, where it failed, a first part of them was taken and no more handed
-- on, or they were printed and it was not closed.
abbrev pub ShowsEnd : Bool → List ℕ → Option Sunk → Option Sunk → Type 0
ShowsEnd true bytes old new = new ≡ option_map (λ s. with_close (with_flush (with_bytes bytes s))) old
ShowsEnd false bytes old new = TookPart bytes old new ⊎ Printed bytes old new
