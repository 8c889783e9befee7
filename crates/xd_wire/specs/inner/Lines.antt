-- One line after another.
use Rattle.std.specs.Prelude.{◌≡◌, ℕ, ◌<◌, ◌≤◌, List, [], ◌++◌, Bool, drop}
use Rattle.xd_frame.specs.Message.{MessageView}
use Rattle.xd_frame.specs.Stream.{messages, rest}
use Rattle.xd_wire.specs.declared.line.Line.{Line}
use Rattle.xd_wire.specs.declared.line.Line.TheVariants.{Made, Fault}
use Rattle.xd_wire.specs.declared.step.Then.{Then}
use Rattle.xd_wire.specs.declared.step.Then.TheVariants.{At, End}
use Rattle.xd_wire.specs.WireText.{IsLine, IsPayloadFault, IsTextFrom}

-- what a message is printed as: a line of these bytes, or the first fault of its payload
abbrev pub IsLineOf : MessageView → List ℕ → Line → Type 0
IsLineOf m printed Made = IsLine m printed
IsLineOf m printed (Fault place what) = IsPayloadFault m place what

-- a text, and whether a fault ends it
abbrev pub Texts : Type 1
Texts = List ℕ → Bool → Type 0

-- the texts of a file from a place on
-- Example: from the place of a message on, its line and then the texts from its end on.
abbrev pub texts_at : List ℕ → ℕ → Texts
texts_at bytes at text faulty = IsTextFrom at (messages (drop at bytes)) (rest (drop at bytes)) text faulty

-- the empty text, with a fault before it or none
abbrev pub ended : Bool → Texts
ended fault text faulty = (text ≡ []) × (faulty ≡ fault)

-- the texts of the first kind are this text and then one of the second kind
pub record Continues (whole : Texts) (text : List ℕ) (later : Texts) : Type 0 where
  pub forth : (more : List ℕ) (faulty : Bool) → later more faulty → whole (text ++ more) faulty
  pub back : (all : List ℕ) (faulty : Bool) → whole all faulty → (more : List ℕ) × (all ≡ text ++ more) × later more faulty

-- the texts of what follows a line
abbrev pub texts_after : List ℕ → Then → Texts
texts_after bytes (At next) = texts_at bytes next
texts_after bytes (End faulty) = ended faulty

-- the texts of a file from a place on begin with this line, and go on with what follows it
abbrev pub LeadsTo : List ℕ → ℕ → List ℕ → Then → Type 0
LeadsTo bytes at line then = Continues (texts_at bytes at) line (texts_after bytes then)

-- the next line begins after this place, inside the file or at its end
abbrev pub BeginsAfter : ℕ → ℕ → Then → Type 0
BeginsAfter at size (At next) = (at < next) × (next ≤ size)
BeginsAfter at size (End faulty) = Unit {0}
