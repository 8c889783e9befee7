-- What a message says, its payload read, and why it says nothing. After execnet's gateway_base.py. The order of the
-- faults is a choice of this project.
use Rattle.std.specs.Prelude.{◌≡◌, ℕ, ◌==◌, ◌&&◌, List, [], ◌∷◌, ◌++◌, Bool, true, false, Option, Some, None, Result, Ok, Err}
use Rattle.xd_value.specs.Tree.{Tree, is_text, text}
use Rattle.xd_value.specs.View.{view}
use Rattle.xd_value.specs.Channels.{channels}
use Rattle.xd_value.specs.Payload.{IsPayload, FirstFault}
use Rattle.xd_value.specs.declared.fault.LoadWhat.{LoadWhat}
use Rattle.xd_frame.specs.declared.kind.Kind.{Kind}
use Rattle.xd_frame.specs.declared.kind.Kind.TheVariants as kind
use Rattle.xd_frame.specs.Message.{MessageView}
use Rattle.xd_factory.specs.declared.word.Word.{Word}
use Rattle.xd_factory.specs.declared.word.Word.TheVariants as word
use Rattle.xd_factory.specs.declared.faults.SideFault.{SideFault}
use Rattle.xd_factory.specs.declared.faults.SideFault.TheVariants as fault

-- what a message says; each number is that of its channel
pub data Said : Type 0 where
  Status : ℕ → Said  -- how is the other side
  Exec : ℕ → Tree → Said  -- a function is called with a value
  Data : ℕ → Tree → Said  -- an item
  Close : ℕ → Option (List ℕ) → Said  -- the channel is closed, with the text of an error where there is one
  Last : ℕ → Said  -- no more is sent
  Terminate : Said  -- the link ends

-- a message of this kind is about a channel
abbrev pub is_numbered : Kind → Bool
is_numbered kind.Terminate = false
is_numbered kind.Reconfigure = false
is_numbered kind.Status = true
is_numbered kind.Exec = true
is_numbered kind.Item = true
is_numbered kind.Close = true
is_numbered kind.CloseError = true
is_numbered kind.LastMessage = true

-- a message about a channel has no channel's number
abbrev pub is_unnumbered : MessageView → Bool
is_unnumbered m = (m.channel == 0) && is_numbered m.kind

-- a message of this kind, channel and payload says this
abbrev pub SaysBy : Kind → ℕ → List ℕ → Said → Type 0
SaysBy kind.Status c b said = said ≡ Status c
SaysBy kind.Reconfigure c b said = ⊥
SaysBy kind.Terminate c b said = said ≡ Terminate
SaysBy kind.Exec c b said = (v : Tree) × IsPayload v b × (said ≡ Exec c v)
SaysBy kind.Item c b said = (v : Tree) × IsPayload v b × (said ≡ Data c v)
SaysBy kind.Close c b said = said ≡ Close c None
SaysBy kind.CloseError c b said = (cs : List ℕ) × IsPayload (text cs) b × (said ≡ Close c (Some cs))
SaysBy kind.LastMessage c b said = said ≡ Last c

-- the message says this, and has a channel's number where it needs one
pub record Means (m : MessageView) (said : Said) : Type 0 where
  pub numbered : is_unnumbered m ≡ false
  pub says : SaysBy m.kind m.channel m.payload said

-- the payload of a message of this kind is read
abbrev pub is_read : Kind → Bool
is_read kind.Exec = true
is_read kind.Item = true
is_read kind.CloseError = true
is_read kind.Status = false
is_read kind.Reconfigure = false
is_read kind.Terminate = false
is_read kind.Close = false
is_read kind.LastMessage = false

-- the payload of the message is read, and this is its first fault
pub record BadPayload (m : MessageView) (what : LoadWhat) : Type 0 where
  pub numbered : is_unnumbered m ≡ false
  pub reads : is_read m.kind ≡ true
  pub at : ℕ
  pub first : FirstFault m.payload at what

-- the message closes a channel with an error, and the payload is a value other than a text
pub record NotText (m : MessageView) : Type 0 where
  pub numbered : is_unnumbered m ≡ false
  pub error : m.kind ≡ kind.CloseError
  pub value : Tree
  pub payload : IsPayload value m.payload
  pub other : is_text value ≡ false

-- why a message says nothing
-- Example: a CHANNEL_DATA whose payload is `L L Q`; a CHANNEL_CLOSE says its end whatever its payload holds.
abbrev pub Misread : MessageView → SideFault → Type 0
Misread m fault.BadNumber = is_unnumbered m ≡ true
Misread m fault.Unsupported = m.kind ≡ kind.Reconfigure
Misread m (fault.BadPayload what) = BadPayload m what
Misread m fault.NotText = NotText m
Misread m fault.Finished = ⊥
Misread m fault.TooManyOpen = ⊥
Misread m fault.OutOfMemory = ⊥

-- a refusal names its reason; one because memory ran out needs none
abbrev pub IsMisread : MessageView → SideFault → Type 0
IsMisread m fault.OutOfMemory = Unit {0}
IsMisread m fault.BadNumber = Misread m fault.BadNumber
IsMisread m fault.Unsupported = Misread m fault.Unsupported
IsMisread m (fault.BadPayload what) = Misread m (fault.BadPayload what)
IsMisread m fault.NotText = Misread m fault.NotText
IsMisread m fault.Finished = ⊥
IsMisread m fault.TooManyOpen = ⊥

-- the answer is this fault, or memory ran out
abbrev pub IsFault : {X : Type 0} → SideFault → Result X SideFault → Type 0
IsFault f (Ok x) = ⊥
IsFault f (Err fault.OutOfMemory) = Unit {0}
IsFault f (Err fault.Finished) = fault.Finished ≡ f
IsFault f (Err fault.BadNumber) = fault.BadNumber ≡ f
IsFault f (Err fault.Unsupported) = fault.Unsupported ≡ f
IsFault f (Err (fault.BadPayload what)) = fault.BadPayload what ≡ f
IsFault f (Err fault.NotText) = fault.NotText ≡ f
IsFault f (Err fault.TooManyOpen) = fault.TooManyOpen ≡ f

-- what a message that was read says
abbrev pub said_of : Word → Said
said_of (word.Status c) = Status c
said_of (word.Exec c v) = Exec c (view v)
said_of (word.Data c v) = Data c (view v)
said_of (word.Close c e) = Close c e
said_of (word.Last c) = Last c
said_of word.Terminate = Terminate

-- the numbers that an item or a call names, which may open: those in its value, and its own
abbrev pub names_in : ℕ → Tree → List ℕ
names_in c v = channels v ++ c ∷ []

-- the numbers that a message names
abbrev pub names_of : Said → List ℕ
names_of (Exec c v) = names_in c v
names_of (Data c v) = names_in c v
names_of (Status c) = []
names_of (Close c e) = []
names_of (Last c) = []
names_of Terminate = []

-- those, and the number of an end
abbrev pub mentions : Said → List ℕ
mentions (Exec c v) = names_in c v
mentions (Data c v) = names_in c v
mentions (Status c) = []
mentions (Close c e) = c ∷ []
mentions (Last c) = c ∷ []
mentions Terminate = []
