-- What printing a file of messages leaves.
use Rattle.std.specs.Prelude.{◌≡◌, ℕ, List, Bool, true, false, Option, Result, Ok, Err}
use Rattle.xd_edge.specs.Sink.{Sunk, Took, TookPart, Printed}
use Rattle.xd_edge.specs.declared.refusals.Failed.{Failed}
use Rattle.xd_edge.specs.declared.refusals.OutOfMemory.{OutOfMemory}
use Rattle.xd_wire.specs.declared.print.WireEnd.{WireEnd}
use Rattle.xd_wire.specs.declared.print.WireEnd.TheVariants.{Whole, Faulty, OutFailed}
use Rattle.xd_wire.specs.WireText.{IsWireText}
use Rattle.xd_wire.specs.inner.Lines.{Texts, Continues, ended}

-- where the printing came to its end, the file has a text, with a fault where the answer says so
abbrev pub HasText : List ℕ → WireEnd → Type 0
HasText bytes Whole = (text : List ℕ) × IsWireText bytes text false
HasText bytes Faulty = (text : List ℕ) × IsWireText bytes text true
HasText bytes OutFailed = Unit {0}

-- the text of a file was printed and handed on, or a first part of it was taken
-- Example: the output fails in the second line: the answer says so, and the sink took a first part of the text.
abbrev pub Prints : Result WireEnd OutOfMemory → List ℕ → Bool → Option Sunk → Option Sunk → Type 0
Prints (Ok Whole) text faulty old new = (faulty ≡ false) × Printed text old new
Prints (Ok Faulty) text faulty old new = (faulty ≡ true) × Printed text old new
Prints (Ok OutFailed) text faulty old new = TookPart text old new
Prints (Err e) text faulty old new = TookPart text old new

-- of each of these texts a first part was taken
abbrev pub TookPartOfEach : Texts → Option Sunk → Option Sunk → Type 0
TookPartOfEach whole old new = (text : List ℕ) (faulty : Bool) → whole text faulty → TookPart text old new

-- the texts of the first kind begin with what was taken, and go on with one of the second kind
pub record TookUpTo (whole later : Texts) (old new : Option Sunk) : Type 0 where
  pub text : List ℕ
  pub continues : Continues whole text later
  pub took : Took text old new

-- how a text ends, by whether its last line is a fault
abbrev pub end_with : Bool → WireEnd
end_with true = Faulty
end_with false = Whole

-- what the lines of a file leave, before they are handed on
abbrev pub Leaves : Result (Result Bool Failed) OutOfMemory → Texts → Option Sunk → Option Sunk → Type 0
Leaves (Ok (Ok faulty)) whole old new = TookUpTo whole (ended faulty) old new
Leaves (Ok (Err e)) whole old new = TookPartOfEach whole old new
Leaves (Err e) whole old new = TookPartOfEach whole old new
