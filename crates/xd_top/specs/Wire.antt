-- What the command wire does. A choice of this project.
use Rattle.std.specs.Prelude.{ℕ, ◌≡◌, ◌≢◌, ◌≤◌, Bool, List, length, Option, Some, Ok, IsSomeAnd, if◌then◌else◌}
use Rattle.xd_edge.specs.Faults.{Rose, StoodStill}
use Rattle.xd_edge.specs.Files.{Held, HasFile, HasLarger}
use Rattle.xd_edge.specs.Sink.{Sunk}
use Rattle.xd_wire.specs.declared.print.WireEnd.{WireEnd}
use Rattle.xd_wire.specs.declared.print.WireEnd.TheVariants.{Whole, Faulty, OutFailed}
use Rattle.xd_wire.specs.Printing.{HasText, Prints}
use Rattle.xd_wire.specs.WireText.{IsWireText}
use Rattle.xd_top.specs.declared.refusal.Refusal.{Refusal}
use Rattle.xd_top.specs.declared.refusal.Refusal.TheVariants.{FileUnread, FileTooLarge}
use Rattle.xd_top.specs.Outside.{Streams}
use Rattle.xd_top.specs.Refusal.{Refuses}

-- a file of messages has at most that many bytes
abbrev pub most_file_bytes : ℕ
most_file_bytes = 67108864

-- the exit status
-- Example: a file that is cut has the status 1.
abbrev pub wire_status : WireEnd → ℕ
wire_status Whole = 0
wire_status Faulty = 1
wire_status OutFailed = 3

-- The text of the file of this name, as far as it is told, was printed whole, or a first part of it where the output
-- failed; `rose` says that the count of faults of the output rose.
pub record PrintsFile (path : List ℕ) (held : Option Held) (rose : Type 0) (how : WireEnd) (out_old out_new : Option Sunk) : Type 0 where
  pub bytes : List ℕ
  pub file : HasFile held path bytes
  pub small : length bytes ≤ most_file_bytes
  pub text : HasText bytes how
  pub prints : (text : List ℕ) (faulty : Bool) → IsWireText bytes text faulty → Prints (Ok how) text faulty out_old out_new
  pub cause : how ≡ OutFailed → rose

-- why a file of messages is refused
abbrev pub WhyFileRefused : List ℕ → Option Held → Type 0 → Refusal → Type 0
WhyFileRefused path held rose FileUnread = rose
WhyFileRefused path held rose FileTooLarge = HasLarger held path most_file_bytes
WhyFileRefused path held rose _ = ⊥

-- the status of a file that was printed, by whether it has a fault
abbrev pub status_by : Bool → ℕ
status_by faulty = if faulty then 1 else 0

-- The files tell these bytes of the file of this name, which are few enough to be read.
pub record TellsMessages (held : Option Held) (path bytes : List ℕ) : Type 0 where
  pub told : IsSomeAnd held (λ file. file path ≡ Some bytes)
  pub small : length bytes ≤ most_file_bytes

-- The text of the file of this name was printed, with this status.
pub record PrintsMessages (path : List ℕ) (status : ℕ) (old new : Streams) : Type 0 where
  pub how : WireEnd
  pub prints : PrintsFile path old.files.held (Rose old.out.faults new.out.faults) how old.out.sunk new.out.sunk
  pub status_is : status ≡ wire_status how

-- The file of this name was refused.
pub record RefusesFile (path : List ℕ) (status : ℕ) (old new : Streams) : Type 0 where
  pub why : Refusal
  pub cause : WhyFileRefused path old.files.held (Rose old.files.faults new.files.faults) why
  pub refused : Refuses why status old new

-- What wire came to: the text of the file, or a refusal, which has status 4. What is readable is printed to its end where
-- no count of faults rises.
pub record DidWire (path : List ℕ) (status : ℕ) (old new : Streams) : Type 0 where
  pub messages : status ≢ 4 → PrintsMessages path status old new
  pub refused : status ≡ 4 → RefusesFile path status old new
  pub still : status ≢ 3 → new.out.faults ≡ old.out.faults
  pub files_still : status ≢ 4 → new.files.faults ≡ old.files.faults
  pub files_kept : new.files.held ≡ old.files.held
  pub quiet : status ≢ 4 → new.err ≡ old.err
  pub readable : (bytes : List ℕ) → TellsMessages old.files.held path bytes
      → StoodStill old.files.faults new.files.faults → StoodStill old.out.faults new.out.faults
      → (text : List ℕ) (faulty : Bool) → IsWireText bytes text faulty → status ≡ status_by faulty
