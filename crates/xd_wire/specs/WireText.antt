-- The text of a file of messages: a line for each, and a line for the first fault. A choice of this project.
use Rattle.std.specs.Prelude.{◌≡◌, ℕ, ◌+◌, ◌⊎◌, List, [], ◌∷◌, ◌++◌, Bool, true, false, length, codes, encode_utf8_all}
use Rattle.std.specs.Fmt.{decimal}
use Rattle.xd_frame.specs.declared.kind.Kind.{Kind}
use Rattle.xd_frame.specs.declared.kind.Kind.TheVariants as kind
use Rattle.xd_frame.specs.declared.header.Header.{Header}
use Rattle.xd_frame.specs.Message.{MessageView}
use Rattle.xd_frame.specs.Stream.{messages, rest, Rest, Clean, Unfinished, Refused}
use Rattle.xd_value.specs.declared.fault.LoadWhat.{LoadWhat}
use Rattle.xd_value.specs.Tree.{Tree}
use Rattle.xd_value.specs.Payload.{IsPayload, FirstFault}
use Rattle.xd_value_show.specs.Show.{shown}
use Rattle.xd_wire.specs.Names.{kind_name, frame_fault_name, what_name}

-- the message of a header and this payload
abbrev pub message_with : Header → List ℕ → MessageView
message_with h payload = record { kind = h.kind; channel = h.channel; payload = payload }

-- whether the payload of a message of this kind is read as one value
abbrev pub has_value : Kind → Bool
has_value kind.Exec = true
has_value kind.Item = true
has_value kind.CloseError = true
has_value kind.Status = false
has_value kind.Reconfigure = false
has_value kind.Terminate = false
has_value kind.Close = false
has_value kind.LastMessage = false

-- the name of a message, its channel and the length of its payload
abbrev pub line_start : Kind → ℕ → ℕ → List ℕ
line_start k channel size = kind_name k ++ (32 ∷ (decimal channel ++ (32 ∷ decimal size)))

-- the line of a message whose payload is not read
abbrev pub plain_line : Kind → ℕ → ℕ → List ℕ
plain_line k channel size = line_start k channel size ++ (10 ∷ [])

-- the line of a message whose payload is a value that is printed as these bytes
abbrev pub value_line : Kind → ℕ → ℕ → List ℕ → List ℕ
value_line k channel size printed = line_start k channel size ++ (32 ∷ (printed ++ (10 ∷ [])))

-- the line of a fault and its place in the file
abbrev pub fault_line : List ℕ → ℕ → List ℕ
fault_line name place = codes "fault " ++ (name ++ (codes " at " ++ (decimal place ++ (10 ∷ []))))

-- the line of a message whose payload is a value, which is printed in UTF-8, or whose payload is not read
abbrev pub LineBy : Bool → MessageView → List ℕ → Type 0
LineBy true m line =
    (v : Tree) × IsPayload v m.payload × (line ≡ value_line m.kind m.channel (length m.payload) (encode_utf8_all (shown v)))
LineBy false m line = line ≡ plain_line m.kind m.channel (length m.payload)

-- the line of a message, whose kind tells whether its payload is read
abbrev pub IsLine : MessageView → List ℕ → Type 0
IsLine m line = LineBy (has_value m.kind) m line

-- the first fault of a payload that is read
abbrev pub FaultBy : Bool → MessageView → ℕ → LoadWhat → Type 0
FaultBy true m place what = FirstFault m.payload place what
FaultBy false m place what = ⊥

-- the first fault of a message's payload and its place there; a kind whose payload is not read has none
abbrev pub IsPayloadFault : MessageView → ℕ → LoadWhat → Type 0
IsPayloadFault m place what = FaultBy (has_value m.kind) m place what

-- the text of what stands after the last message, which begins at this place, and whether that is a fault
abbrev pub IsEnd : ℕ → Rest → List ℕ → Bool → Type 0
IsEnd at Clean text faulty = (text ≡ []) × (faulty ≡ false)
IsEnd at Unfinished text faulty = (text ≡ fault_line (codes "Cut") at) × (faulty ≡ true)
IsEnd at (Refused fault) text faulty = (text ≡ fault_line (frame_fault_name fault) at) × (faulty ≡ true)

-- the text of the messages from this place of the file on, and whether a fault ends it: the line of the first and
-- the text of the others, or the fault of its payload, which begins nine bytes after the message does
abbrev pub IsTextFrom : ℕ → List MessageView → Rest → List ℕ → Bool → Type 0
IsTextFrom at [] end text faulty = IsEnd at end text faulty
IsTextFrom at (m ∷ ms) end text faulty =
    ((line later : List ℕ) × IsLine m line × (text ≡ line ++ later) × IsTextFrom (at + (9 + length m.payload)) ms end later faulty)
    ⊎ ((place : ℕ) × (what : LoadWhat) × IsPayloadFault m place what × (text ≡ fault_line (what_name what) (at + (9 + place))) × (faulty ≡ true))

-- the text of a file of messages, and whether the file has a fault
-- Example: the text that docs/USING.md shows of a file of 71 bytes.
abbrev pub IsWireText : List ℕ → List ℕ → Bool → Type 0
IsWireText bytes text faulty = IsTextFrom 0 (messages bytes) (rest bytes) text faulty
