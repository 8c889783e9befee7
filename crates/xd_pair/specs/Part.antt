-- One side in the law: what stands at each number, in the words of the contracts of `Side`, and what was handed out
-- there. A choice of this project.
use Rattle.std.specs.Prelude.{ℕ, ◌||◌, not, List, [], ◌∷◌, ◌++◌, Bool, true, false, Option, Some, None, Result, Ok, Err}
use Rattle.xd_channel.specs.declared.end.End.{End}
use Rattle.xd_channel.specs.declared.end.End.TheVariants.{Closed, LastMessage, Error, Lost}
use Rattle.xd_channel.specs.declared.answers.Got.{Got}
use Rattle.xd_channel.specs.declared.answers.Closing.{Closing}
use Rattle.xd_channel.specs.declared.answers.Closing.TheVariants as closing
use Rattle.xd_channel.specs.declared.answers.GivenUp.{GivenUp}
use Rattle.xd_channel.specs.declared.answers.GivenUp.TheVariants as given_up
use Rattle.xd_channel.specs.declared.answers.Got.TheVariants as got_
use Rattle.xd_channel.specs.State.{end_of, close_gives, give_up_gives}
use Rattle.xd_channel.specs.History.{handed}
use Rattle.xd_factory.specs.declared.faults.HookFault.{HookFault}
use Rattle.xd_value.specs.Tree.{Tree}
use Rattle.xd_factory.specs.Slot.{is_here, Slot, Unseen, Here, Gone, opened_slot, closed_slot, function_ended_slot, given_up_slot, received_slot, receive_answer, hooked_slot, hook_items, hook_end, lost_slot, lost_gives, named_slot, item_slot, item_gives, peer_closed_slot, peer_last_slot, end_gives}
use Rattle.xd_factory.specs.Said.{Said, Close, Last}
use Rattle.xd_pair.specs.Notes.{Note, Named, Item, Ends, Lasts, Asked}

-- a number at one side, with what happened there
pub record Part : Type 0 where
  pub slot : Slot Tree
  pub got : List Tree  -- the items handed out
  pub ended : Bool  -- Closed, LastMessage or Error was given or handed
  pub let_go : Bool  -- the own end was closed, or given up without a callback
  pub lost : Bool  -- Lost was given or handed
  pub asked : Bool  -- a STATUS came on it

-- an end other than the loss of the link
abbrev pub is_end_but_loss : Option End → Bool
is_end_but_loss None = false
is_end_but_loss (Some Lost) = false
is_end_but_loss (Some Closed) = true
is_end_but_loss (Some LastMessage) = true
is_end_but_loss (Some (Error text)) = true

-- the end that the loss of the link gives
abbrev pub is_lost : Option End → Bool
is_lost None = false
is_lost (Some Lost) = true
is_lost (Some Closed) = false
is_lost (Some LastMessage) = false
is_lost (Some (Error text)) = false

-- the slot changes, these items are handed out, and this end
abbrev pub gives : Part → Slot Tree → List Tree → Option End → Part
gives p s xs end = record p { slot = s; got = p.got ++ xs; ended = is_end_but_loss end || p.ended; lost = is_lost end || p.lost }

-- what a note does
abbrev pub heard_in : Bool → Part → Slot Tree → Note → Part
heard_in mine p s Named = record p { slot = named_slot mine s }
heard_in mine p s (Item v) = gives p (item_slot (named_slot mine s) v) (handed (item_gives (named_slot mine s) v)) None
heard_in mine p s (Ends e) = gives p (peer_closed_slot mine s (end_of e)) [] (end_gives s (end_of e))
heard_in mine p s Lasts = gives p (peer_last_slot mine s) [] (end_gives s LastMessage)
heard_in mine p s Asked = record p { asked = true }

-- what a note does to the part as it stands
abbrev pub heard : Bool → Part → Note → Part
heard mine p note = heard_in mine p p.slot note

-- what several notes do, in order
abbrev pub heard_all : Bool → Part → List Note → Part
heard_all mine p [] = p
heard_all mine p (note ∷ ns) = heard_all mine (heard mine p note) ns

-- letting go of an entry without a callback gives up its items
abbrev pub is_let_go : Slot Tree → Bool
is_let_go Unseen = false
is_let_go (Here s) = not s.callback
is_let_go Gone = false

-- the item that a receive gave
abbrev pub item_in : Result (Got Tree) HookFault → List Tree
item_in (Ok (got_.Item v)) = v ∷ []
item_in (Ok (got_.Ended end)) = []
item_in (Ok got_.NotYet) = []
item_in (Err e) = []

-- the end that a receive gave
abbrev pub end_in : Result (Got Tree) HookFault → Option End
end_in (Ok (got_.Ended end)) = Some end
end_in (Ok (got_.Item v)) = None
end_in (Ok got_.NotYet) = None
end_in (Err e) = None

-- opening the number
abbrev pub opened_in : Part → Slot Tree → Part
opened_in p s = record p { slot = opened_slot s }

-- a receive
abbrev pub received_in : Part → Slot Tree → Part
received_in p s = gives p (received_slot s) (item_in (receive_answer s)) (end_in (receive_answer s))

-- setting a callback
abbrev pub hooked_in : Part → Slot Tree → Part
hooked_in p s = gives p (hooked_slot s) (hook_items s) (hook_end s)

-- an own close
abbrev pub closed_in : Part → Slot Tree → Part
closed_in p s = record p { slot = closed_slot s; let_go = is_here s || p.let_go }

-- the end of a function
abbrev pub function_ended_in : Part → Slot Tree → Part
function_ended_in p s = record p { slot = function_ended_slot s; let_go = is_here s || p.let_go }

-- letting go
abbrev pub given_up_in : Part → Slot Tree → Part
given_up_in p s = record p { slot = given_up_slot s; let_go = is_let_go s || p.let_go }

-- the loss of the link
abbrev pub lost_in : Part → Slot Tree → Part
lost_in p s = gives p (lost_slot s) [] (lost_gives s)

-- what a close says to the peer
abbrev pub closing_words : ℕ → Option (List ℕ) → Closing → List Said
closing_words n e closing.Say = Close n e ∷ []
closing_words n e closing.Nothing = []

-- a close says its end to the peer where the end's own close does
abbrev pub close_words : ℕ → Option (List ℕ) → Slot Tree → List Said
close_words n e (Here s) = closing_words n e (close_gives s)
close_words n e Unseen = []
close_words n e Gone = []

-- the end of a function is always said, where the number was opened here
abbrev pub function_end_words : ℕ → Option (List ℕ) → Slot Tree → List Said
function_end_words n e Unseen = []
function_end_words n e (Here s) = Close n e ∷ []
function_end_words n e Gone = Close n e ∷ []

-- what letting go says to the peer
abbrev pub giving_words : ℕ → GivenUp → List Said
giving_words n given_up.Nothing = []
giving_words n given_up.SayClose = Close n (None) ∷ []
giving_words n given_up.SayLast = Last n ∷ []

-- letting go says what the end says, and nothing where there is no entry
abbrev pub give_up_words : ℕ → Slot Tree → List Said
give_up_words n (Here s) = giving_words n (give_up_gives s)
give_up_words n Unseen = []
give_up_words n Gone = []

-- sending is open on an entry
abbrev pub may_send : Slot Tree → Bool
may_send (Here s) = s.sending
may_send Unseen = false
may_send Gone = false
