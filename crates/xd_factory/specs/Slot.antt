-- What a side has at one number, and what each call and each message makes of it. After execnet's gateway_base.py;
-- that an entry leaves the table for good is a choice of this project.
use Rattle.std.specs.Prelude.{not, List, [], Bool, true, false, Option, Some, None, Result, Ok, Err, if◌then◌else◌}
use Rattle.xd_channel.specs.State.{EndState, fresh_end, arrive_gives, after_arrive, put_gives, after_put, after_peer_close, after_close, give_up_gives, after_give_up, after_hook, got_of, after_receive, is_done}
use Rattle.xd_channel.specs.declared.answers.GivenUp.{GivenUp}
use Rattle.xd_channel.specs.declared.answers.GivenUp.TheVariants as given_up
use Rattle.xd_channel.specs.declared.answers.Got.{Got}
use Rattle.xd_channel.specs.declared.answers.Got.TheVariants.{Ended}
use Rattle.xd_channel.specs.declared.answers.Arrived.{Arrived}
use Rattle.xd_channel.specs.declared.answers.Arrived.TheVariants.{Dropped}
use Rattle.xd_channel.specs.declared.end.End.{End}
use Rattle.xd_channel.specs.declared.end.End.TheVariants.{Closed, LastMessage, Lost}
use Rattle.xd_factory.specs.declared.faults.HookFault.{HookFault}
use Rattle.xd_factory.specs.declared.faults.HookFault.TheVariants.{Unknown, HasCallback}

-- a number at one side: never opened there, in the table with its end, or closed for good
-- Example: an item opens a number of the peer; once its close came and was received it is closed for good.
pub data Slot (V : Type 0) : Type 0 where
  Unseen : Slot V
  Here : EndState V → Slot V
  Gone : Slot V

-- the number is in the table, or closed for good
abbrev pub is_seen : {V : Type 0} → Slot V → Bool
is_seen Unseen = false
is_seen (Here s) = true
is_seen Gone = true

-- the number is in the table
abbrev pub is_here : {V : Type 0} → Slot V → Bool
is_here Unseen = false
is_here (Here s) = true
is_here Gone = false

-- an entry that is done leaves the table
abbrev pub gone_where_done : {V : Type 0} → EndState V → Slot V
gone_where_done s = if is_done s then Gone else Here s

-- an entry leaves the table for good where it is done
abbrev pub left_slot : {V : Type 0} → Bool → Slot V → Slot V
left_slot done Unseen = Unseen
left_slot done (Here s) = if done then Gone else Here s
left_slot done Gone = Gone

-- the number opens
abbrev pub opened_slot : {V : Type 0} → Slot V → Slot V
opened_slot Unseen = Here fresh_end
opened_slot (Here s) = Here s
opened_slot Gone = Gone

-- a message that names the number opens it: it is the peer's and was never seen
abbrev pub is_new : {V : Type 0} → Bool → Slot V → Bool
is_new mine Unseen = not mine
is_new mine (Here s) = false
is_new mine Gone = false

-- a message names the number: one of the peer's that was never seen opens
abbrev pub named_slot : {V : Type 0} → Bool → Slot V → Slot V
named_slot mine Unseen = if mine then Unseen else Here fresh_end
named_slot mine (Here s) = Here s
named_slot mine Gone = Gone

-- an item comes on the number
abbrev pub item_slot : {V : Type 0} → Slot V → V → Slot V
item_slot Unseen v = Unseen
item_slot (Here s) v = Here (after_arrive s v)
item_slot Gone v = Gone

-- what becomes of an item that comes on the number; without an entry it is dropped
abbrev pub item_gives : {V : Type 0} → Slot V → V → Arrived V
item_gives Unseen v = Dropped
item_gives (Here s) v = arrive_gives s v
item_gives Gone v = Dropped

-- an end comes on a number that is not in the table
abbrev pub shut_slot : {V : Type 0} → Bool → Slot V → Slot V
shut_slot mine Unseen = if mine then Unseen else Gone
shut_slot mine (Here s) = Here s
shut_slot mine Gone = Gone

-- the peer closes the channel; a number of the peer's that was never seen is closed from then on
abbrev pub peer_closed_slot : {V : Type 0} → Bool → Slot V → End → Slot V
peer_closed_slot mine Unseen end = if mine then Unseen else Gone
peer_closed_slot mine (Here s) end = gone_where_done (after_peer_close s end)
peer_closed_slot mine Gone end = Gone

-- the peer sends no more
abbrev pub peer_last_slot : {V : Type 0} → Bool → Slot V → Slot V
peer_last_slot mine Unseen = if mine then Unseen else Gone
peer_last_slot mine (Here s) = gone_where_done (after_put s LastMessage)
peer_last_slot mine Gone = Gone

-- the end that a callback at the number is handed
abbrev pub end_gives : {V : Type 0} → Slot V → End → Option End
end_gives Unseen end = None
end_gives (Here s) end = put_gives s end
end_gives Gone end = None

-- the link is lost
abbrev pub lost_slot : {V : Type 0} → Slot V → Slot V
lost_slot Unseen = Unseen
lost_slot (Here s) = gone_where_done (after_put s Lost)
lost_slot Gone = Gone

-- the end that a callback at the number is handed where the link is lost
abbrev pub lost_gives : {V : Type 0} → Slot V → Option End
lost_gives s = end_gives s Lost

-- the owner closes the channel
abbrev pub closed_slot : {V : Type 0} → Slot V → Slot V
closed_slot Unseen = Unseen
closed_slot (Here s) = gone_where_done (after_close s)
closed_slot Gone = Gone

-- the owner lets go of the channel
abbrev pub given_up_slot : {V : Type 0} → Slot V → Slot V
given_up_slot Unseen = Unseen
given_up_slot (Here s) = gone_where_done (after_give_up s)
given_up_slot Gone = Gone

-- what the peer is told where the owner lets go of the channel
abbrev pub give_up_says : {V : Type 0} → Slot V → GivenUp
give_up_says Unseen = given_up.Nothing
give_up_says (Here s) = give_up_gives s
give_up_says Gone = given_up.Nothing

-- the function of the channel has ended: what waits is dropped
abbrev pub function_ended_slot : {V : Type 0} → Slot V → Slot V
function_ended_slot Unseen = Unseen
function_ended_slot (Here s) = Gone
function_ended_slot Gone = Gone

-- a receive
abbrev pub received_slot : {V : Type 0} → Slot V → Slot V
received_slot Unseen = Unseen
received_slot (Here s) = gone_where_done (after_receive s)
received_slot Gone = Gone

-- what a receive gives; a closed channel gives its end again and again
abbrev pub receive_answer : {V : Type 0} → Slot V → Result (Got V) HookFault
receive_answer Unseen = Err Unknown
receive_answer (Here s) = if s.callback then Err HasCallback else Ok (got_of s.waiting s.marker)
receive_answer Gone = Ok (Ended Closed)

-- a callback is set: it is handed the items and the end that wait
abbrev pub hooked_slot : {V : Type 0} → Slot V → Slot V
hooked_slot Unseen = Unseen
hooked_slot (Here s) = if s.callback then Here s else gone_where_done (after_hook s)
hooked_slot Gone = Gone

-- why no callback is set, if there is a reason
abbrev pub hook_fault : {V : Type 0} → Slot V → Option HookFault
hook_fault Unseen = Some Unknown
hook_fault (Here s) = if s.callback then Some HasCallback else None
hook_fault Gone = None

-- the items that a callback is handed as it is set
abbrev pub hook_items : {V : Type 0} → Slot V → List V
hook_items Unseen = []
hook_items (Here s) = if s.callback then [] else s.waiting
hook_items Gone = []

-- the end that a callback is handed as it is set; a channel that is closed for good has the end Closed
abbrev pub hook_end : {V : Type 0} → Slot V → Option End
hook_end Unseen = None
hook_end (Here s) = if s.callback then None else s.marker
hook_end Gone = Some Closed
