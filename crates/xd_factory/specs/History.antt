-- What a list of calls of a side, and of messages that it took, means for one number. A history has its newest call
-- first. It is said without the table: what came on the number's end since it opened, as in the history of an end.
use Rattle.std.specs.Prelude.{◌≡◌, ℕ, ◌==◌, ◌&&◌, not, List, [], ◌∷◌, Bool, true, false, Option, Result, if◌then◌else◌}
use Rattle.xd_value.specs.Tree.{Tree}
use Rattle.xd_channel.specs.State.{EndState}
use Rattle.xd_channel.specs.History.{EndCall, send_open, end_given, Stands}
use Rattle.xd_channel.specs.History as call
use Rattle.xd_channel.specs.declared.end.End.{End}
use Rattle.xd_channel.specs.declared.answers.Got.{Got}
use Rattle.xd_channel.specs.declared.answers.Arrived.{Arrived}
use Rattle.xd_channel.specs.declared.answers.Arrived.TheVariants as arrived
use Rattle.xd_channel.specs.declared.answers.HasCallback.{HasCallback}
use Rattle.xd_factory.specs.declared.parity.Parity.{Parity}
use Rattle.xd_factory.specs.declared.side.Side.{Side}
use Rattle.xd_factory.specs.declared.taken.Taken.{Taken}
use Rattle.xd_factory.specs.declared.taken.Taken.TheVariants as taken
use Rattle.xd_factory.specs.Numbers.{is_mine, is_in}
use Rattle.xd_factory.specs.Said.{Said, names_of}
use Rattle.xd_factory.specs.Said as message
use Rattle.xd_factory.specs.Slot.{Slot, Unseen, Here, Gone}
use Rattle.xd_factory.specs.View.{slot_of_number, parity_of}

-- a call of a side, named as the call is, with what it handed out, or a message that it took or refused
pub data Act : Type 0 where
  Open_channel : ℕ → Act  -- `open_channel` gave the number
  Take_message : Said → Taken Tree → Act  -- a message, and what it did
  Refuse : (ℕ → Bool) → Act  -- a message was refused after the opening of these numbers
  Close : ℕ → Act
  Give_up : ℕ → Act
  End_function : ℕ → Act
  Set_callback : ℕ → Result (List Tree × Option End) HasCallback → Act
  Receive : ℕ → Result (Got Tree) HasCallback → Act
  Finish_receiving : Act

-- what happened to one number
pub data Deed : Type 0 where
  Opens : Deed  -- it opened
  On : EndCall Tree → Deed  -- a call on its end
  Shuts : Deed  -- its function ended, or the peer ended it before it had opened here

-- the calls on the end
abbrev pub calls : List Deed → List (EndCall Tree)
calls [] = []
calls (On k ∷ d) = k ∷ calls d
calls (Opens ∷ d) = calls d
calls (Shuts ∷ d) = calls d

-- the number was shut: its function ended, or the peer ended it before it had opened here
abbrev pub was_shut : List Deed → Bool
was_shut [] = false
was_shut (Shuts ∷ d) = true
was_shut (On k ∷ d) = was_shut d
was_shut (Opens ∷ d) = was_shut d

-- sending is closed and the end marker was given
abbrev pub has_left_table : List Deed → Bool
has_left_table d = not (send_open (calls d)) && end_given (calls d)

-- something happened, and the number has not left the table
abbrev pub is_open : List Deed → Bool
is_open [] = false
is_open (x ∷ d) = not (was_shut (x ∷ d)) && not (has_left_table (x ∷ d))

-- nothing happened to the number
abbrev pub is_untouched : List Deed → Bool
is_untouched [] = true
is_untouched (x ∷ d) = false

-- a message names the number: it opens where it is the peer's and nothing happened to it before
abbrev pub named_deeds : Bool → List Deed → List Deed
named_deeds mine [] = if mine then [] else Opens ∷ []
named_deeds mine (x ∷ d) = x ∷ d

-- a call on the end, where the number is in the table
abbrev pub on_end : EndCall Tree → List Deed → List Deed
on_end k d = if is_open d then On k ∷ d else d

-- an end from the peer; a number of the peer's that had not opened is closed for good
abbrev pub ended_deeds : Bool → EndCall Tree → List Deed → List Deed
ended_deeds mine k [] = if mine then [] else Shuts ∷ []
ended_deeds mine k (x ∷ d) = on_end k (x ∷ d)

-- the end of a function shuts a number that is open
abbrev pub function_deeds : List Deed → List Deed
function_deeds d = if is_open d then Shuts ∷ d else d

-- what became of the item of a message
abbrev pub arrived_of : Taken Tree → Arrived Tree
arrived_of (taken.Kept n) = arrived.Kept
arrived_of (taken.Handed n v) = arrived.Handed v
arrived_of (taken.EndKept n) = arrived.Dropped
arrived_of (taken.EndHanded n end) = arrived.Dropped
arrived_of taken.Dropped = arrived.Dropped
arrived_of (taken.Status n) = arrived.Dropped
arrived_of (taken.Exec n v) = arrived.Dropped
arrived_of taken.Terminate = arrived.Dropped

-- a message at a number, after the opening of what it names
abbrev pub told_deeds : Bool → ℕ → Said → Taken Tree → List Deed → List Deed
told_deeds mine c (message.Data n v) t d = if n == c then on_end (call.Arrive v (arrived_of t)) d else d
told_deeds mine c (message.Close n e) t d = if n == c then ended_deeds mine (call.Peer_close e) d else d
told_deeds mine c (message.Last n) t d = if n == c then ended_deeds mine call.Peer_last d else d
told_deeds mine c (message.Status n) t d = d
told_deeds mine c (message.Exec n v) t d = d
told_deeds mine c message.Terminate t d = d

-- a message at a number: it opens where the message names it, then the item or the end comes on it
abbrev pub took_deeds : Bool → ℕ → Said → Taken Tree → List Deed → List Deed
took_deeds mine c said t d = told_deeds mine c said t (if is_in c (names_of said) then named_deeds mine d else d)

-- what happened to a number, newest first
-- Example: a side opened 1 and 3 and closed 1: that of 1 is an opening and a close, that of 3 an opening.
abbrev pub deeds : Parity → ℕ → List Act → List Deed
deeds parity c [] = []
deeds parity c (Open_channel n ∷ h) = if n == c then Opens ∷ deeds parity c h else deeds parity c h
deeds parity c (Take_message said t ∷ h) = took_deeds (is_mine parity c) c said t (deeds parity c h)
deeds parity c (Refuse which ∷ h) = if which c then named_deeds (is_mine parity c) (deeds parity c h) else deeds parity c h
deeds parity c (Close n ∷ h) = if n == c then on_end call.Close (deeds parity c h) else deeds parity c h
deeds parity c (Give_up n ∷ h) = if n == c then on_end call.Give_up (deeds parity c h) else deeds parity c h
deeds parity c (End_function n ∷ h) = if n == c then function_deeds (deeds parity c h) else deeds parity c h
deeds parity c (Set_callback n r ∷ h) = if n == c then on_end (call.Set_callback r) (deeds parity c h) else deeds parity c h
deeds parity c (Receive n r ∷ h) = if n == c then on_end (call.Receive r) (deeds parity c h) else deeds parity c h
deeds parity c (Finish_receiving ∷ h) = on_end call.Lose (deeds parity c h)

-- an entry is open, and its end is as the calls on it leave it
pub record HereStands (s : EndState Tree) (d : List Deed) : Type 0 where
  pub open_still : is_open d ≡ true
  pub end_stands : Stands s (calls d)

-- no entry is open, and something happened to the number
pub record GoneStands (d : List Deed) : Type 0 where
  pub closed : is_open d ≡ false
  pub touched : is_untouched d ≡ false

-- what stands at a number is what its history leaves
abbrev pub SlotStands : Slot Tree → List Deed → Type 0
SlotStands Unseen d = d ≡ []
SlotStands (Here s) d = HereStands s d
SlotStands Gone d = GoneStands d

-- what stands at each number is what its history leaves
abbrev pub AllStand : (ℕ → Slot Tree) → Parity → List Act → Type 0
AllStand slot parity h = (c : ℕ) → SlotStands (slot c) (deeds parity c h)

-- the side is as this list of calls and messages leaves it
abbrev pub SideStands : Side → List Act → Type 0
SideStands s h = AllStand (slot_of_number s) (parity_of s) h
