-- When a side of the program stands for an actor of the law, and when a call of it is a move of the law. A choice of
-- this project.
use Rattle.std.specs.Prelude.{◌≡◌, ℕ, ◌||◌, is_some, List, [], ◌∷◌, Bool, true, false, Option, Some, None}
use Rattle.xd_value.specs.Tree.{Tree}
use Rattle.xd_value.specs.Channels.{channels}
use Rattle.xd_channel.specs.declared.end.End.{End}
use Rattle.xd_factory.specs.Slot.{is_seen}
use Rattle.xd_frame.specs.Message.{MessageView}
use Rattle.xd_factory.specs.Said.{Said, Means}
use Rattle.xd_factory.specs.Table.{IsRefused, answer_of}
use Rattle.xd_factory.specs.View.{slot_of_number, new_at, parity_of, next_of, fault_of, is_finished, entry_count, KeepsRest}
use Rattle.xd_factory.specs.declared.faults.SideFault.{SideFault}
use Rattle.xd_factory.specs.declared.side.Side.{Side}
use Rattle.xd_factory.specs.declared.taken.Taken.{Taken}
use Rattle.xd_pair.specs.Notes.{owns, side_parity}
use Rattle.xd_pair.specs.Pair.{Actor, Move, Take_message, Refuse, knows_numbers, says, after, wire_after}
use Rattle.xd_pair.specs.Messages.{AllMean, AddsMessages}
use Rattle.xd_pair.specs.Handed.{Hands}
use Rattle.xd_pair.specs.declared.linked.LinkedSide.{LinkedSide}

-- the side has at each number what the actor has there, opens the same number next, and takes messages where the actor
-- does
pub record StandsForActor (odd : Bool) (s : Side) (a : Actor) : Type 0 where
  pub parity : parity_of s ≡ side_parity odd
  pub slots : (c : ℕ) → slot_of_number s c ≡ (a.part c).slot
  pub next : next_of s ≡ a.next
  pub finished : is_finished s ≡ a.finished
  pub refuses : is_some (fault_of s) ≡ a.failed || a.finished

-- the actor still takes messages
abbrev pub IsOpen : Actor → Type 0
IsOpen a = a.failed || a.finished ≡ false

-- what holds of an actor in every history: it opens its own numbers, and nothing stands or was asked at 0
pub record IsNumbered (odd : Bool) (a : Actor) : Type 0 where
  pub own : owns odd a.next ≡ true
  pub unseen : is_seen (a.part 0).slot ≡ false
  pub unasked : (a.part 0).asked ≡ false

-- from old to new the side makes the move of the actor, and says what the move says
pub record Makes (odd : Bool) (old new : LinkedSide) (a : Actor) (wire : List Said) (move : Move) : Type 0 where
  pub stands : StandsForActor odd new.side (after odd a wire move)
  pub says : AddsMessages old.said.items new.said.items (says odd a move)
  pub way : wire_after a wire move ≡ wire

-- so it does for each actor that the side stands for and that passes the test
abbrev pub IsMoveIf : (Actor → Bool) → LinkedSide → LinkedSide → Move → Type 0
IsMoveIf test old new move =
    (odd : Bool) (a : Actor) (wire : List Said) → IsNumbered odd a → test a ≡ true → StandsForActor odd old.side a → Makes odd old new a wire move

-- from old to new the side makes the move of each actor that it stands for
-- Example: a side with an open channel 1 sends 7 on it: after the call a message on the way means an item 7 on 1.
abbrev pub IsMove : LinkedSide → LinkedSide → Move → Type 0
IsMove old new move = IsMoveIf (λ a. true) old new move

-- the actor opened or saw each number that the value names
abbrev pub names_known : Tree → Actor → Bool
names_known v a = knows_numbers a.part (channels v)

-- nothing changed that contracts see
pub record Stays (old new : LinkedSide) : Type 0 where
  pub slots : (c : ℕ) → slot_of_number new.side c ≡ slot_of_number old.side c
  pub rest : KeepsRest old.side new.side
  pub said : new.said.items ≡ old.said.items

-- the move hands out these items and ends, whichever actor the side stands for
abbrev pub HandsOut : LinkedSide → Move → (ℕ → List Tree) → (ℕ → Option End) → Type 0
HandsOut old move items end = (odd : Bool) (a : Actor) (wire : List Said) → StandsForActor odd old.side a → Hands a (after odd a wire move) items end

-- what is on the way to the actor are the words that these messages mean, as long as it takes them
abbrev pub Carries : Actor → LinkedSide → List Said → Type 0
Carries a peer wire = IsOpen a → AllMean peer.said.items wire

-- the next message of the peer is taken, and this is handed out
pub record TakesNext (odd : Bool) (new left : LinkedSide) (a : Actor) (wire : List Said) (items : ℕ → List Tree) (end : ℕ → Option End) : Type 0 where
  pub stands : StandsForActor odd new.side (after odd a wire Take_message)
  pub carries : Carries (after odd a wire Take_message) left (wire_after a wire Take_message)
  pub hands : Hands a (after odd a wire Take_message) items end

-- the next message is refused
pub record RefusesMessage (odd : Bool) (new : LinkedSide) (a : Actor) (wire : List Said) : Type 0 where
  pub names : List ℕ
  pub stands : StandsForActor odd new.side (after odd a wire (Refuse names))

-- nothing is said, and the table of the peer stays
pub record SaysNothing (old new peer left : LinkedSide) : Type 0 where
  pub said : new.said.items ≡ old.said.items
  pub peer_side : left.side ≡ peer.side

-- from old to new a side took the next message of its peer, and left is the peer then
pub record IsTake (old new peer left : LinkedSide) (items : ℕ → List Tree) (end : ℕ → Option End) : Type 0 where
  pub quiet : SaysNothing old new peer left
  pub takes : (odd : Bool) (a : Actor) (wire : List Said) → StandsForActor odd old.side a → Carries a peer wire → TakesNext odd new left a wire items end

-- from old to new a side refused the next message of its peer, and left is the peer then
pub record RefusesNext (old new peer left : LinkedSide) : Type 0 where
  pub quiet : SaysNothing old new peer left
  pub refuses : (odd : Bool) (a : Actor) (wire : List Said) → StandsForActor odd old.side a → Carries a peer wire → RefusesMessage odd new a wire

-- what the next of these messages does, by what stands at the side; nothing where there is none
-- Example: a STATUS on 3 is answered as one on 3, and a call of a function on a new number of the peer as that call.
abbrev pub AnswersNext : Side → List MessageView → Option (Taken Tree) → Type 0
AnswersNext s [] t = t ≡ None
AnswersNext s (m ∷ ms) t = (said : Said) → Means m said → t ≡ Some (answer_of (parity_of s) (slot_of_number s) said)

-- why a side that has not failed refuses the next of these messages: for what the message is
abbrev pub RefusedFor : Side → List MessageView → SideFault → Type 0
RefusedFor s [] fault = ⊥
RefusedFor s (m ∷ ms) fault = fault_of s ≡ None → IsRefused (entry_count s) (new_at s) m fault
