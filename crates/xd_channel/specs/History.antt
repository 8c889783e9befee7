-- What a list of calls on one end of a channel means: what arrived, what was handed out, the first end marker. A
-- history has its newest call first. After the class Channel of execnet's gateway_base.py.
use Rattle.std.specs.Prelude.{◌≡◌, ℕ, List, [], ◌∷◌, ◌++◌, Bool, true, false, ◌||◌, Option, Some, None, Result, Ok, Err, is_some, if◌then◌else◌}
use Rattle.xd_channel.specs.declared.end.End.{End}
use Rattle.xd_channel.specs.declared.end.End.TheVariants.{Closed, LastMessage, Lost}
use Rattle.xd_channel.specs.declared.answers.Got.{Got}
use Rattle.xd_channel.specs.declared.answers.Got.TheVariants.{Item, Ended, NotYet}
use Rattle.xd_channel.specs.declared.answers.Arrived.{Arrived}
use Rattle.xd_channel.specs.declared.answers.Arrived.TheVariants.{Kept, Handed, Dropped}
use Rattle.xd_channel.specs.declared.answers.HasCallback.{HasCallback}
use Rattle.xd_channel.specs.State.{EndState, once_given, end_of, marker_or}

-- a call that changes an end, with its answer where that hands something out
pub data EndCall (V : Type 0) : Type 0 where
  Arrive : V → Arrived V → EndCall V
  Peer_close : Option (List ℕ) → EndCall V
  Peer_last : EndCall V
  Lose : EndCall V
  Close : EndCall V
  Give_up : EndCall V
  Set_callback : Result (List V × Option End) HasCallback → EndCall V
  Receive : Result (Got V) HasCallback → EndCall V

-- a callback was set
abbrev pub hooked : {V : Type 0} → List (EndCall V) → Bool
hooked [] = false
hooked (Set_callback (Ok w) ∷ h) = true
hooked (Set_callback (Err e) ∷ h) = hooked h
hooked (Arrive v a ∷ h) = hooked h
hooked (Peer_close e ∷ h) = hooked h
hooked (Peer_last ∷ h) = hooked h
hooked (Lose ∷ h) = hooked h
hooked (Close ∷ h) = hooked h
hooked (Give_up ∷ h) = hooked h
hooked (Receive r ∷ h) = hooked h

-- the first end marker: the peer's close, its last message, the loss of the link, an own close, or letting go
-- without a callback
abbrev pub marker : {V : Type 0} → List (EndCall V) → Option End
marker [] = None
marker (Peer_close e ∷ h) = marker_or (marker h) (end_of e)
marker (Peer_last ∷ h) = marker_or (marker h) LastMessage
marker (Lose ∷ h) = marker_or (marker h) Lost
marker (Close ∷ h) = marker_or (marker h) Closed
marker (Give_up ∷ h) = if hooked h then marker h else marker_or (marker h) Closed
marker (Arrive v a ∷ h) = marker h
marker (Set_callback r ∷ h) = marker h
marker (Receive r ∷ h) = marker h

-- the items that arrived before the first end marker
abbrev pub arrived : {V : Type 0} → List (EndCall V) → List V
arrived [] = []
arrived (Arrive v a ∷ h) = if is_some (marker h) then arrived h else arrived h ++ v ∷ []
arrived (Peer_close e ∷ h) = arrived h
arrived (Peer_last ∷ h) = arrived h
arrived (Lose ∷ h) = arrived h
arrived (Close ∷ h) = arrived h
arrived (Give_up ∷ h) = arrived h
arrived (Set_callback r ∷ h) = arrived h
arrived (Receive r ∷ h) = arrived h

-- the item that is handed to a callback as it comes
abbrev pub handed : {V : Type 0} → Arrived V → List V
handed (Handed v) = v ∷ []
handed Kept = []
handed Dropped = []

-- the items that a callback was handed as it was set; a refused one has none
abbrev pub waited : {V : Type 0} → Result (List V × Option End) HasCallback → List V
waited (Ok w) = w.0
waited (Err e) = []

-- the item that a receive gave, if it gave one
abbrev pub received : {V : Type 0} → Result (Got V) HasCallback → List V
received (Ok (Item v)) = v ∷ []
received (Ok (Ended end)) = []
received (Ok NotYet) = []
received (Err e) = []

-- the items that were handed out
abbrev pub delivered : {V : Type 0} → List (EndCall V) → List V
delivered [] = []
delivered (Arrive v a ∷ h) = delivered h ++ handed a
delivered (Set_callback r ∷ h) = delivered h ++ waited r
delivered (Receive r ∷ h) = delivered h ++ received r
delivered (Peer_close e ∷ h) = delivered h
delivered (Peer_last ∷ h) = delivered h
delivered (Lose ∷ h) = delivered h
delivered (Close ∷ h) = delivered h
delivered (Give_up ∷ h) = delivered h

-- sending is open until the peer closes, the owner closes, or the owner lets go
abbrev pub send_open : {V : Type 0} → List (EndCall V) → Bool
send_open [] = true
send_open (Peer_close e ∷ h) = false
send_open (Close ∷ h) = false
send_open (Give_up ∷ h) = false
send_open (Peer_last ∷ h) = send_open h
send_open (Lose ∷ h) = send_open h
send_open (Arrive v a ∷ h) = send_open h
send_open (Set_callback r ∷ h) = send_open h
send_open (Receive r ∷ h) = send_open h

-- a receive gave the end marker
abbrev pub gives_end : {V : Type 0} → Result (Got V) HasCallback → Bool
gives_end (Ok (Ended end)) = true
gives_end (Ok (Item v)) = false
gives_end (Ok NotYet) = false
gives_end (Err e) = false

-- a callback was handed the end marker as it was set
abbrev pub hands_end : {V : Type 0} → Result (List V × Option End) HasCallback → Bool
hands_end (Ok w) = is_some w.1
hands_end (Err e) = false

-- the end marker was given by a receive, or handed to a callback
abbrev pub end_given : {V : Type 0} → List (EndCall V) → Bool
end_given [] = false
end_given (Receive r ∷ h) = gives_end r || end_given h
end_given (Set_callback r ∷ h) = hands_end r || end_given h
end_given (Peer_close e ∷ h) = hooked h || end_given h
end_given (Peer_last ∷ h) = hooked h || end_given h
end_given (Lose ∷ h) = hooked h || end_given h
end_given (Close ∷ h) = hooked h || end_given h
end_given (Give_up ∷ h) = end_given h
end_given (Arrive v a ∷ h) = end_given h

-- the marker that stands: the first one, where an error that was told is Closed
abbrev pub marker_left : Bool → Option End → Option End
marker_left told None = None
marker_left false (Some end) = Some end
marker_left true (Some end) = Some (once_given end)

-- what a history left, by its parts: the items delivered and arrived, the first marker, whether sending is open,
-- whether a callback is set, whether the marker was told
pub record StandsByParts {V : Type 0} (s : EndState V) (done came : List V) (first : Option End) (open_ hook told : Bool) : Type 0 where
  -- what was delivered, and after it what waits, is what arrived before the first end marker
  pub items_are : done ++ s.waiting ≡ came
  pub marker_is : s.marker ≡ marker_left told first
  pub sending_is : s.sending ≡ open_
  pub callback_is : s.callback ≡ hook
  pub given_is : s.given ≡ told
  -- at a callback nothing waits, and an end marker was handed to it
  pub none_waits : hook ≡ true → s.waiting ≡ []
  pub none_kept : hook ≡ true → is_some first ≡ told
  -- a marker is told once no item waits, and only where one stands
  pub told_last : told ≡ true → s.waiting ≡ []
  pub told_late : told ≡ true → is_some first ≡ true
  -- without a callback, an end that no longer sends has its marker
  pub one_open : open_ ≡ false → hook ≡ false → is_some first ≡ true

-- the end is as this list of calls leaves it
-- Example: three items came, one was received, then came a close: two wait, and the marker is Closed.
abbrev pub Stands : {V : Type 0} → EndState V → List (EndCall V) → Type 0
Stands s h = StandsByParts s (delivered h) (arrived h) (marker h) (send_open h) (hooked h) (end_given h)
