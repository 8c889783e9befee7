-- What reading a message or a payload answers: what is read, that only it is, why not, and that a fault is told.
use Rattle.std.specs.Prelude.{◌≡◌, ◌≤◌, ℕ, List, true, false, Result, Ok, Err, IfOk, IfErr}
use Rattle.xd_value.specs.Tree.{Tree, is_text, text}
use Rattle.xd_value.specs.View.{view}
use Rattle.xd_value.specs.Payload.{IsPayload, FirstFault}
use Rattle.xd_value.specs.declared.value.Value.{Value}
use Rattle.xd_value.specs.declared.fault.LoadWhat.{LoadWhat}
use Rattle.xd_frame.specs.Message.{MessageView}
use Rattle.xd_factory.specs.declared.word.Word.{Word}
use Rattle.xd_factory.specs.declared.faults.SideFault.{SideFault}
use Rattle.xd_factory.specs.declared.faults.SideFault.TheVariants as fault
use Rattle.xd_factory.specs.Numbers.{is_in}
use Rattle.xd_factory.specs.Said.{Said, Means, Misread, IsMisread, IsFault, said_of, mentions}

-- the value read is this one, or memory was refused
abbrev pub IsReadAs : Tree → Result Value SideFault → Type 0
IsReadAs v (Ok w) = view w ≡ v
IsReadAs v (Err f) = f ≡ fault.OutOfMemory

-- why bytes were not read
abbrev pub IsUnread : List ℕ → SideFault → Type 0
IsUnread b (fault.BadPayload what) = (at : ℕ) × FirstFault b at what
IsUnread b fault.OutOfMemory = Unit {0}
IsUnread b fault.Finished = ⊥
IsUnread b fault.BadNumber = ⊥
IsUnread b fault.Unsupported = ⊥
IsUnread b fault.NotText = ⊥
IsUnread b fault.TooManyOpen = ⊥

-- bytes are read as the value that they are the payload of, and as no other, or refused for their first fault
pub record ValueReads (b : List ℕ) (r : Result Value SideFault) : Type 0 where
  pub read : IfOk r (λ v. IsPayload (view v) b)
  pub only : (v : Tree) → IsPayload v b → IsReadAs v r
  pub refused : IfErr r (IsUnread b)
  pub refuses : (at : ℕ) (what : LoadWhat) → FirstFault b at what → IsFault (fault.BadPayload what) r

-- the text read is this one, or memory was refused
abbrev pub IsReadText : List ℕ → Result (List ℕ) SideFault → Type 0
IsReadText cs (Ok t) = t ≡ cs
IsReadText cs (Err f) = f ≡ fault.OutOfMemory

-- why bytes were not read as a text
abbrev pub IsNoText : List ℕ → SideFault → Type 0
IsNoText b (fault.BadPayload what) = (at : ℕ) × FirstFault b at what
IsNoText b fault.NotText = (v : Tree) × IsPayload v b × (is_text v ≡ false)
IsNoText b fault.OutOfMemory = Unit {0}
IsNoText b fault.Finished = ⊥
IsNoText b fault.BadNumber = ⊥
IsNoText b fault.Unsupported = ⊥
IsNoText b fault.TooManyOpen = ⊥

-- bytes are read as the text that they are the payload of, and as no other, or refused for the reason why they are none
pub record TextReads (b : List ℕ) (r : Result (List ℕ) SideFault) : Type 0 where
  pub read : IfOk r (λ cs. IsPayload (text cs) b)
  pub only : (cs : List ℕ) → IsPayload (text cs) b → IsReadText cs r
  pub refused : IfErr r (IsNoText b)
  pub refuses : (at : ℕ) (what : LoadWhat) → FirstFault b at what → IsFault (fault.BadPayload what) r
  pub others : (v : Tree) → IsPayload v b → is_text v ≡ false → IsFault fault.NotText r

-- the answer says this, or memory was refused
abbrev pub IsSaid : Said → Result Word SideFault → Type 0
IsSaid said (Ok w) = said ≡ said_of w
IsSaid said (Err f) = f ≡ fault.OutOfMemory

-- a message is read as what it says, and as nothing else, or refused for why it says nothing;
-- the numbers that are read are at most 2,147,483,647
pub record MessageReads (m : MessageView) (r : Result Word SideFault) : Type 0 where
  pub read : IfOk r (λ w. Means m (said_of w))
  pub only : (said : Said) → Means m said → IsSaid said r
  pub refused : IfErr r (IsMisread m)
  pub refuses : (f : SideFault) → Misread m f → IsFault f r
  pub numbers : IfOk r (λ w. (c : ℕ) → is_in c (mentions (said_of w)) ≡ true → c ≤ 2147483647)
