-- One end of a channel: what stands, what each call answers, and what it leaves.
-- After the class Channel of execnet's gateway_base.py.
use Rattle.std.specs.Prelude.{◌||◌, ◌&&◌, not, is_none, is_some, ℕ, List, [], ◌∷◌, ◌++◌, Bool, true, false, Option, Some, None, Result, Ok, Err, if◌then◌else◌}
use Rattle.xd_channel.specs.declared.end.End.{End}
use Rattle.xd_channel.specs.declared.end.End.TheVariants.{Closed, LastMessage, Error, Lost}
use Rattle.xd_channel.specs.declared.answers.Got.{Got}
use Rattle.xd_channel.specs.declared.answers.Got.TheVariants.{Item, Ended, NotYet}
use Rattle.xd_channel.specs.declared.answers.Arrived.{Arrived}
use Rattle.xd_channel.specs.declared.answers.Arrived.TheVariants.{Kept, Handed, Dropped}
use Rattle.xd_channel.specs.declared.answers.SendClosed.{SendClosed}
use Rattle.xd_channel.specs.declared.answers.HasCallback.{HasCallback}
use Rattle.xd_channel.specs.declared.answers.Closing.{Closing}
use Rattle.xd_channel.specs.declared.answers.Closing.TheVariants as closing
use Rattle.xd_channel.specs.declared.answers.GivenUp.{GivenUp}
use Rattle.xd_channel.specs.declared.answers.GivenUp.TheVariants as given_up
use Rattle.xd_channel.specs.declared.answers.Waiting.{Waiting}

-- an end, as contracts see it: the items that wait, the end marker after them, whether sending is open, whether a
-- callback is set, and whether the marker was given by a receive or handed to a callback
-- Example: two items wait, and a close came after them: the marker is Closed, and a receive gives the first item.
pub record EndState (V : Type 0) : Type 0 where
  pub waiting : List V
  pub marker : Option End
  pub sending : Bool
  pub callback : Bool
  pub given : Bool

-- a new end is open in both directions
abbrev pub fresh_end : {V : Type 0} → EndState V
fresh_end = record { waiting = []; marker = None; sending = true; callback = false; given = false }

-- sending is closed and the end marker was given: the end may leave its table (a choice of this project)
abbrev pub is_done : {V : Type 0} → EndState V → Bool
is_done s = not s.sending && s.given

-- sending is refused where it is closed
abbrev pub may_send_gives : {V : Type 0} → EndState V → Result (Unit {0}) SendClosed
may_send_gives s = if s.sending then Ok tt else Err (record {})

-- an item that comes is dropped after an end marker, else handed to a callback, else kept after those that wait
abbrev pub arrive_gives : {V : Type 0} → EndState V → V → Arrived V
arrive_gives s item = if is_some s.marker then Dropped else (if s.callback then Handed item else Kept)

-- the end after an item came: an item that is kept waits after the others
abbrev pub after_arrive : {V : Type 0} → EndState V → V → EndState V
after_arrive s item = record s { waiting = if is_some s.marker || s.callback then s.waiting else s.waiting ++ item ∷ [] }

-- the end that a peer's close means
abbrev pub end_of : Option (List ℕ) → End
end_of None = Closed
end_of (Some text) = Error text

-- an error is told once: what stands in the place of an end that was given
abbrev pub once_given : End → End
once_given Closed = Closed
once_given LastMessage = LastMessage
once_given (Error text) = Closed
once_given Lost = Lost

-- the marker that stands, or this end
abbrev pub marker_or : Option End → End → Option End
marker_or None end = Some end
marker_or (Some m) end = Some m

-- an end marker is put where none stands, and a callback is handed it
abbrev pub put_gives : {V : Type 0} → EndState V → End → Option End
put_gives s end = if is_some s.marker then None else (if s.callback then Some end else None)

-- the end after an end marker came: the first one stands, and counts as given where a callback is set
abbrev pub after_put : {V : Type 0} → EndState V → End → EndState V
after_put s end = record s {
  marker = marker_or s.marker (if s.callback then once_given end else end);
  given = (is_none s.marker && s.callback) || s.given;
}

-- a peer's close ends sending, too
abbrev pub after_peer_close : {V : Type 0} → EndState V → End → EndState V
after_peer_close s end = after_put (record s { sending = false }) end

-- an own close tells the peer where sending was open and no end had come
abbrev pub close_gives : {V : Type 0} → EndState V → Closing
close_gives s = if s.sending && is_none s.marker then closing.Say else closing.Nothing

-- what waits can still be received; at a callback the close counts as handing the marker over (a choice of this project)
abbrev pub after_close : {V : Type 0} → EndState V → EndState V
after_close s = record s { sending = false; marker = marker_or s.marker Closed; given = s.callback || s.given }

-- who lets go of an end closes it, or only stops sending where a callback still takes items
abbrev pub give_up_gives : {V : Type 0} → EndState V → GivenUp
give_up_gives s =
    if s.sending && is_none s.marker then (if s.callback then given_up.SayLast else given_up.SayClose)
    else given_up.Nothing

-- the end after letting go: it sends no more, and one that still sent and has no callback has an end marker then
abbrev pub after_give_up : {V : Type 0} → EndState V → EndState V
after_give_up s = record s { sending = false; marker = if s.sending && not s.callback then marker_or s.marker Closed else s.marker }

-- the marker, once it was given
abbrev pub given_marker : Option End → Option End
given_marker None = None
given_marker (Some m) = Some (once_given m)

-- the end after its marker, if there is one, was given
abbrev pub after_given : {V : Type 0} → EndState V → EndState V
after_given s = record s { marker = given_marker s.marker; given = is_some s.marker || s.given }

-- all that a callback is handed when it is set, as a list and an end
abbrev pub waiting_of : {V : Type 0} → Result (Waiting V) HasCallback → Result (List V × Option End) HasCallback
waiting_of (Ok w) = Ok (w.items.items, w.end)
waiting_of (Err e) = Err e

-- setting a callback hands over the items that wait and the marker after them; a second one is refused
abbrev pub hook_gives : {V : Type 0} → EndState V → Result (List V × Option End) HasCallback
hook_gives s = if s.callback then Err (record {}) else Ok (s.waiting, s.marker)

-- the end after a callback was set: nothing waits, and a marker that stood was given
abbrev pub after_hook : {V : Type 0} → EndState V → EndState V
after_hook s = if s.callback then s else record (after_given s) { waiting = []; callback = true }

-- the first item that waits, else the marker, else nothing yet
abbrev pub got_of : {V : Type 0} → List V → Option End → Got V
got_of (x ∷ xs) m = Item x
got_of [] (Some end) = Ended end
got_of [] None = NotYet

-- a receive gives what comes next, and is refused where a callback is set
abbrev pub receive_gives : {V : Type 0} → EndState V → Result (Got V) HasCallback
receive_gives s = if s.callback then Err (record {}) else Ok (got_of s.waiting s.marker)

-- the end after a receive, where these items waited: the first one is taken, or without any the marker was given
abbrev pub after_got : {V : Type 0} → EndState V → List V → EndState V
after_got s (x ∷ xs) = record s { waiting = xs }
after_got s [] = after_given s

-- the end after a receive; a refused one changes nothing
abbrev pub after_receive : {V : Type 0} → EndState V → EndState V
after_receive s = if s.callback then s else after_got s s.waiting
