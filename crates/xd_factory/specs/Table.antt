-- What each message does at each number, what it answers, and how many numbers it opens; what the owner's calls say to
-- the peer; and why a message or a call is refused.
use Rattle.std.specs.Prelude.{◌≡◌, ℕ, suc, ◌+◌, ◌<◌, ◌==◌, ◌&&◌, not, ◌⊎◌, List, [], ◌∷◌, ◌++◌, length, nat_lt, Bool, true, false, Option, Some, None, Result, Ok, Err, if◌then◌else◌}
use Rattle.xd_value.specs.Tree.{Tree, text}
use Rattle.xd_value.specs.Canonical.{canonical}
use Rattle.xd_value.specs.Payload.{IsPayload}
use Rattle.xd_value.specs.declared.writing.DumpFault.{DumpFault}
use Rattle.xd_value.specs.declared.writing.DumpFault.TheVariants as dump
use Rattle.xd_channel.specs.State.{end_of, put_gives, close_gives}
use Rattle.xd_channel.specs.declared.answers.Closing.{Closing}
use Rattle.xd_channel.specs.declared.answers.Closing.TheVariants as closing
use Rattle.xd_channel.specs.declared.answers.GivenUp.{GivenUp}
use Rattle.xd_channel.specs.declared.answers.GivenUp.TheVariants as given_up
use Rattle.xd_channel.specs.declared.answers.Arrived.{Arrived}
use Rattle.xd_channel.specs.declared.answers.Arrived.TheVariants as arrived
use Rattle.xd_channel.specs.declared.end.End.{End}
use Rattle.xd_channel.specs.declared.end.End.TheVariants.{LastMessage}
use Rattle.xd_frame.specs.declared.kind.Kind.TheVariants as kind
use Rattle.xd_frame.specs.Message.{MessageView}
use Rattle.xd_factory.specs.declared.parity.Parity.{Parity}
use Rattle.xd_factory.specs.declared.taken.Taken.{Taken}
use Rattle.xd_factory.specs.declared.taken.Taken.TheVariants as taken
use Rattle.xd_factory.specs.declared.faults.CloseFault.{CloseFault}
use Rattle.xd_factory.specs.declared.faults.CloseFault.TheVariants as close
use Rattle.xd_factory.specs.declared.faults.SendFault.{SendFault}
use Rattle.xd_factory.specs.declared.faults.SendFault.TheVariants as send
use Rattle.xd_factory.specs.declared.faults.SideFault.{SideFault}
use Rattle.xd_factory.specs.declared.faults.SideFault.TheVariants as fault
use Rattle.xd_factory.specs.Numbers.{is_mine, is_in}
use Rattle.xd_factory.specs.Said.{Said, Status, Exec, Data, Close, Last, Terminate, names_of, Means, Misread}
use Rattle.xd_factory.specs.Slot.{Slot, Unseen, Here, Gone, is_new, named_slot, item_slot, item_gives, peer_closed_slot, peer_last_slot, lost_gives}

-- the numbers that a message names open before anything else of it
abbrev pub named_in : Bool → Bool → Slot Tree → Slot Tree
named_in mine named s = if named then named_slot mine s else s

-- an item or an end comes on the number of its message; at other numbers nothing changes
abbrev pub told_slot : Bool → ℕ → Said → Slot Tree → Slot Tree
told_slot mine c (Status n) s = s
told_slot mine c (Exec n v) s = s
told_slot mine c (Data n v) s = if n == c then item_slot s v else s
told_slot mine c (Close n e) s = if n == c then peer_closed_slot mine s (end_of e) else s
told_slot mine c (Last n) s = if n == c then peer_last_slot mine s else s
told_slot mine c Terminate s = s

-- what a message does at a number: its names open, then its item or its end comes on its own number
-- Example: an item without channels on a number that is closed for good is Dropped, opens nothing and changes nothing.
abbrev pub heard_slot : Parity → Said → ℕ → Slot Tree → Slot Tree
heard_slot parity said c s = told_slot (is_mine parity c) c said (named_in (is_mine parity c) (is_in c (names_of said)) s)

-- how many numbers open: each where it is new, and from then on it is not
abbrev pub opened_count : (ℕ → Bool) → List ℕ → ℕ
opened_count new [] = 0
opened_count new (n ∷ ns) = if new n then suc (opened_count (λ c. new c && not (n == c)) ns) else opened_count new ns

-- what a message with an item answers, by what became of the item
abbrev pub arrived_answer : ℕ → Arrived Tree → Taken Tree
arrived_answer n arrived.Kept = taken.Kept n
arrived_answer n (arrived.Handed v) = taken.Handed n v
arrived_answer n arrived.Dropped = taken.Dropped

-- a callback is handed an end where it is the first
abbrev pub handed_answer : ℕ → Option End → Taken Tree
handed_answer n None = taken.Dropped
handed_answer n (Some end) = taken.EndHanded n end

-- what an end answers that comes on an entry: a callback is handed it, or it is kept
abbrev pub ended_answer : ℕ → Bool → Option End → Taken Tree
ended_answer n hooked handed = if hooked then handed_answer n handed else taken.EndKept n

-- what an end answers that comes on a number; without an entry it is dropped
abbrev pub end_answer : ℕ → Slot Tree → End → Taken Tree
end_answer n Unseen end = taken.Dropped
end_answer n (Here s) end = ended_answer n s.callback (put_gives s end)
end_answer n Gone end = taken.Dropped

-- what a message answers, where `slot` gives what stands at each number before it
abbrev pub answer_of : Parity → (ℕ → Slot Tree) → Said → Taken Tree
answer_of parity slot (Status n) = taken.Status n
answer_of parity slot (Exec n v) = if is_new (is_mine parity n) (slot n) then taken.Exec n v else taken.Dropped
answer_of parity slot (Data n v) = arrived_answer n (item_gives (named_slot (is_mine parity n) (slot n)) v)
answer_of parity slot (Close n e) = end_answer n (slot n) (end_of e)
answer_of parity slot (Last n) = end_answer n (slot n) LastMessage
answer_of parity slot Terminate = taken.Terminate

-- after a refusal, a number that the message named may be open
abbrev pub OpensAtMost : Bool → Slot Tree → Slot Tree → Type 0
OpensAtMost mine old new = (new ≡ old) ⊎ (new ≡ named_slot mine old)

-- the message by which an end is closed: CHANNEL_CLOSE, or CHANNEL_CLOSE_ERROR with its text
abbrev pub closing_message : ℕ → Option (List ℕ) → MessageView
closing_message n None = record { kind = kind.Close; channel = n; payload = [] }
closing_message n (Some cs) = record { kind = kind.CloseError; channel = n; payload = canonical (text cs) }

-- the message by which an end sends no more: CHANNEL_LAST_MESSAGE
abbrev pub last_message : ℕ → MessageView
last_message n = record { kind = kind.LastMessage; channel = n; payload = [] }

-- the text of the error has a payload that is too long for a message
abbrev pub is_long : Option (List ℕ) → Bool
is_long None = false
is_long (Some cs) = nat_lt 16777216 (length (canonical (text cs)))

-- the message of a close that the peer is to be told, if it is
abbrev pub closing_says : ℕ → Option (List ℕ) → Closing → Option MessageView
closing_says n e closing.Nothing = None
closing_says n e closing.Say = Some (closing_message n e)

-- whether the peer is told where the owner closes the number
abbrev pub close_gives_at : Slot Tree → Closing
close_gives_at Unseen = closing.Nothing
close_gives_at (Here s) = close_gives s
close_gives_at Gone = closing.Nothing

-- the text of the error, where there is one, has the payload that is said
abbrev pub HasErrorPayload : Option (List ℕ) → Type 0
HasErrorPayload None = Unit {0}
HasErrorPayload (Some cs) = IsPayload (text cs) (canonical (text cs))

-- what a close at a number has to say
abbrev pub close_says : ℕ → Option (List ℕ) → Slot Tree → Option MessageView
close_says n e s = closing_says n e (close_gives_at s)

-- why a close is refused, if it is: the number was never seen, or the text of the error is too long
abbrev pub close_refusal : Bool → Bool → Option CloseFault
close_refusal seen long = if not seen then Some close.Unknown else (if long then Some close.TooLong else None)

-- a refusal is this one, or memory ran out
abbrev pub IsCloseRefusal : Option CloseFault → CloseFault → Type 0
IsCloseRefusal wanted close.OutOfMemory = Unit {0}
IsCloseRefusal wanted close.Unknown = wanted ≡ Some close.Unknown
IsCloseRefusal wanted close.TooLong = wanted ≡ Some close.TooLong

-- why a close is refused whose text got no payload
abbrev pub close_fault_of : DumpFault → CloseFault
close_fault_of dump.OutOfMemory = close.OutOfMemory
close_fault_of dump.TooDeep = close.TooLong
close_fault_of dump.Unhashable = close.TooLong
close_fault_of dump.Repeated = close.TooLong
close_fault_of dump.BadChannel = close.TooLong
close_fault_of dump.TooLong = close.TooLong

-- what letting go has to say
abbrev pub giving_says : ℕ → GivenUp → Option MessageView
giving_says n given_up.Nothing = None
giving_says n given_up.SayClose = Some (closing_message n None)
giving_says n given_up.SayLast = Some (last_message n)

-- why nothing is sent: the number is unknown, sending is closed, or the value has no payload
abbrev pub send_refusal : Slot Tree → Option SendFault
send_refusal Unseen = Some send.Unknown
send_refusal (Here s) = if s.sending then None else Some send.SendClosed
send_refusal Gone = Some send.SendClosed

-- what a send comes to: the reason against it, the payload of the value, or why the value has none
abbrev pub sent_gives : Option SendFault → Result (List ℕ) DumpFault → Result (List ℕ) SendFault
sent_gives (Some f) r = Err f
sent_gives None (Ok b) = Ok b
sent_gives None (Err f) = Err (send.Dump f)

-- the answer to a send is the CHANNEL_DATA with the payload that is wanted, or the refusal that is, or memory ran out
abbrev pub IsSent : ℕ → Result MessageView SendFault → Result (List ℕ) SendFault → Type 0
IsSent n (Ok m) wanted = (b : List ℕ) × (wanted ≡ Ok b) × (m ≡ record { kind = kind.Item; channel = n; payload = b })
IsSent n (Err send.OutOfMemory) wanted = Unit {0}
IsSent n (Err send.Unknown) wanted = wanted ≡ Err send.Unknown
IsSent n (Err send.SendClosed) wanted = wanted ≡ Err send.SendClosed
IsSent n (Err (send.Dump f)) wanted = wanted ≡ Err (send.Dump f)

-- the end that the callback at this number is owed, if there is one
abbrev pub owed_at : ℕ → Option End → List (ℕ × End)
owed_at n None = []
owed_at n (Some end) = (n, end) ∷ []

-- the ends that the callbacks at these numbers are owed when the link is lost
abbrev pub owed_of : (ℕ → Slot Tree) → List ℕ → List (ℕ × End)
owed_of slot [] = []
owed_of slot (n ∷ ns) = owed_at n (lost_gives (slot n)) ++ owed_of slot ns

-- why a side refuses a message, where it has this many entries and `new` tells which numbers open when they are named
abbrev pub Refused : ℕ → (ℕ → Bool) → MessageView → SideFault → Type 0
Refused entries new m fault.TooManyOpen = (said : Said) × Means m said × (4096 < entries + opened_count new (names_of said))
Refused entries new m fault.BadNumber = Misread m fault.BadNumber
Refused entries new m fault.Unsupported = Misread m fault.Unsupported
Refused entries new m (fault.BadPayload what) = Misread m (fault.BadPayload what)
Refused entries new m fault.NotText = Misread m fault.NotText
Refused entries new m fault.Finished = ⊥
Refused entries new m fault.OutOfMemory = ⊥

-- a refusal names its reason; one because memory ran out needs none
abbrev pub IsRefused : ℕ → (ℕ → Bool) → MessageView → SideFault → Type 0
IsRefused entries new m fault.OutOfMemory = Unit {0}
IsRefused entries new m fault.TooManyOpen = Refused entries new m fault.TooManyOpen
IsRefused entries new m fault.BadNumber = Misread m fault.BadNumber
IsRefused entries new m fault.Unsupported = Misread m fault.Unsupported
IsRefused entries new m (fault.BadPayload what) = Misread m (fault.BadPayload what)
IsRefused entries new m fault.NotText = Misread m fault.NotText
IsRefused entries new m fault.Finished = ⊥

-- why the numbers of a message did not open, where the table would have this many entries
abbrev pub IsHearFault : ℕ → SideFault → Type 0
IsHearFault entries fault.OutOfMemory = Unit {0}
IsHearFault entries fault.TooManyOpen = 4096 < entries
IsHearFault entries fault.Finished = ⊥
IsHearFault entries fault.BadNumber = ⊥
IsHearFault entries fault.Unsupported = ⊥
IsHearFault entries (fault.BadPayload what) = ⊥
IsHearFault entries fault.NotText = ⊥

-- why one number did not open
abbrev pub IsNameFault : ℕ → Bool → SideFault → Type 0
IsNameFault entries new fault.OutOfMemory = Unit {0}
IsNameFault entries new fault.TooManyOpen = (entries ≡ 4096) × (new ≡ true)
IsNameFault entries new fault.Finished = ⊥
IsNameFault entries new fault.BadNumber = ⊥
IsNameFault entries new fault.Unsupported = ⊥
IsNameFault entries new (fault.BadPayload what) = ⊥
IsNameFault entries new fault.NotText = ⊥

-- the fault is that memory ran out
abbrev pub IsNoMemory : SideFault → Type 0
IsNoMemory f = f ≡ fault.OutOfMemory

-- the fault that a side met first is the one that it answers from then on
abbrev pub fault_or : Option SideFault → SideFault → Option SideFault
fault_or None f = Some f
fault_or (Some first) f = Some first
