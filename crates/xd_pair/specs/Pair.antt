-- Every history of two sides and the link between them, which hands over whole messages in order, in each direction.
-- A choice of this project.
use Rattle.std.specs.Prelude.{◌≡◌, ℕ, ◌==◌, ◌+◌, ◌||◌, ◌&&◌, not, List, [], ◌∷◌, ◌++◌, Bool, true, false, Option, None, if◌then◌else◌}
use Rattle.xd_value.specs.Tree.{Tree}
use Rattle.xd_value.specs.Channels.{channels}
use Rattle.xd_factory.specs.Slot.{Slot, Unseen, named_slot}
use Rattle.xd_factory.specs.Numbers.{is_in}
use Rattle.xd_pair.specs.Notes.{owns}
use Rattle.xd_factory.specs.Said.{Said}
use Rattle.xd_factory.specs.Said as message
use Rattle.xd_pair.specs.Notes.{Note, notes, all_notes, before_end, has_end}
use Rattle.xd_pair.specs.Part.{Part, heard_all, opened_in, received_in, hooked_in, closed_in, function_ended_in, given_up_in, lost_in, close_words, function_end_words, give_up_words, may_send}
use Rattle.xd_factory.specs.Slot.{is_seen, is_here}

-- a side: what stands at each number, what it sent there, its next number, whether it ended or failed, and what it took
pub record Actor : Type 0 where
  pub part : ℕ → Part
  pub sent : ℕ → List Tree
  pub next : ℕ
  pub finished : Bool
  pub failed : Bool
  pub taken : List Said

-- two sides and the messages between them
pub record World : Type 0 where
  pub odd : Actor
  pub even : Actor
  pub to_odd : List Said  -- on the way, oldest first
  pub to_even : List Said

-- what a side may do
pub data Move : Type 0 where
  Open_channel : Move
  Send : ℕ → Tree → Move
  Call : ℕ → Tree → Move  -- CHANNEL_EXEC
  Ask : ℕ → Move  -- STATUS
  Answer : ℕ → Tree → Move  -- the answer to a STATUS
  Terminate : Move  -- GATEWAY_TERMINATE
  Close : ℕ → Option (List ℕ) → Move
  End_function : ℕ → Option (List ℕ) → Move
  Give_up : ℕ → Move
  Receive : ℕ → Move
  Set_callback : ℕ → Move
  Take_message : Move
  Refuse : List ℕ → Move  -- a message is refused, the side has failed, and of the channels that it names these were opened
  Finish_receiving : Move  -- the link is lost

-- each number in the value was opened or seen here
abbrev pub knows_numbers : (ℕ → Part) → List ℕ → Bool
knows_numbers part [] = true
knows_numbers part (c ∷ cs) = is_seen (part c).slot && knows_numbers part cs

-- a change at one number
abbrev pub part_changed : ℕ → (Part → Part) → Actor → Actor
part_changed n f a = record a { part = λ c. if n == c then f (a.part c) else a.part c }

-- one item more was sent
abbrev pub adds : ℕ → Tree → Actor → Actor
adds n v a = record a { sent = λ c. if n == c then a.sent c ++ v ∷ [] else a.sent c }

-- the item is accepted
abbrev pub can_send : Actor → ℕ → Tree → Bool
can_send a n v = may_send (a.part n).slot && knows_numbers a.part (channels v)

-- a function may be called on an open number, with a value of known numbers
abbrev pub can_call : Actor → ℕ → Tree → Bool
can_call a n v = is_here (a.part n).slot && knows_numbers a.part (channels v)

-- the answer to a STATUS stands only where that STATUS was taken
abbrev pub can_answer : Actor → ℕ → Tree → Bool
can_answer a n v = (a.part n).asked && knows_numbers a.part (channels v)

-- no channel opens once the link has ended
abbrev pub can_open : Bool → Actor → Bool
can_open odd a = owns odd a.next && not a.finished

-- the next message is taken
abbrev pub takes : Bool → Actor → List Said → Actor
takes odd a [] = a
takes odd a (m ∷ ms) = record a { part = λ c. heard_all (owns odd c) (a.part c) (notes c m); taken = a.taken ++ m ∷ [] }

-- the messages that are still on the way
abbrev pub messages_left : List Said → List Said
messages_left [] = []
messages_left (m ∷ ms) = ms

-- something is said
abbrev pub has_notes : List Note → Bool
has_notes [] = false
has_notes (x ∷ xs) = true

-- the next message names the number, or comes on it
abbrev pub is_told : ℕ → List Said → Bool
is_told c [] = false
is_told c (m ∷ ms) = has_notes (notes c m)

-- a number opens before the message that names it is refused
abbrev pub named_part : Bool → Part → Slot Tree → Part
named_part mine p s = record p { slot = named_slot mine s }

-- what a move sends to the peer
abbrev pub says : Bool → Actor → Move → List Said
says odd a Open_channel = []
says odd a (Send n v) = if can_send a n v then message.Data n v ∷ [] else []
says odd a (Call n v) = if can_call a n v then message.Exec n v ∷ [] else []
says odd a (Ask n) = if is_here (a.part n).slot then message.Status n ∷ [] else []
says odd a (Answer n v) = if can_answer a n v then message.Data n v ∷ message.Close n None ∷ [] else []
says odd a Terminate = message.Terminate ∷ []
says odd a (Close n e) = close_words n e (a.part n).slot
says odd a (End_function n e) = function_end_words n e (a.part n).slot
says odd a (Give_up n) = give_up_words n (a.part n).slot
says odd a (Receive n) = []
says odd a (Set_callback n) = []
says odd a Take_message = []
says odd a (Refuse names) = []
says odd a Finish_receiving = []

-- the side after a move; a move whose premise fails changes nothing, as a call that finds no memory
abbrev pub after : Bool → Actor → List Said → Move → Actor
after odd a wire Open_channel = if can_open odd a then record (part_changed a.next (λ p. opened_in p p.slot) a) { next = a.next + 2 } else a
after odd a wire (Send n v) = if can_send a n v then adds n v a else a
after odd a wire (Call n v) = a
after odd a wire (Ask n) = a
after odd a wire (Answer n v) = if can_answer a n v then adds n v a else a
after odd a wire Terminate = a
after odd a wire (Close n e) = part_changed n (λ p. closed_in p p.slot) a
after odd a wire (End_function n e) = part_changed n (λ p. function_ended_in p p.slot) a
after odd a wire (Give_up n) = part_changed n (λ p. given_up_in p p.slot) a
after odd a wire (Receive n) = part_changed n (λ p. received_in p p.slot) a
after odd a wire (Set_callback n) = part_changed n (λ p. hooked_in p p.slot) a
after odd a wire Take_message = if a.failed || a.finished then a else takes odd a wire
after odd a wire (Refuse names) = record a { failed = true; part = λ c. if is_in c names && is_told c wire then named_part (owns odd c) (a.part c) (a.part c).slot else a.part c }
after odd a wire Finish_receiving = record a { part = λ c. lost_in (a.part c) (a.part c).slot; finished = true }

-- what is on the way to the side after its move
abbrev pub wire_after : Actor → List Said → Move → List Said
wire_after a wire Take_message = if a.failed || a.finished then wire else messages_left wire
wire_after a wire Open_channel = wire
wire_after a wire (Send n v) = wire
wire_after a wire (Call n v) = wire
wire_after a wire (Ask n) = wire
wire_after a wire (Answer n v) = wire
wire_after a wire Terminate = wire
wire_after a wire (Close n e) = wire
wire_after a wire (End_function n e) = wire
wire_after a wire (Give_up n) = wire
wire_after a wire (Receive n) = wire
wire_after a wire (Set_callback n) = wire
wire_after a wire (Refuse names) = wire
wire_after a wire Finish_receiving = wire

-- a move of one of the two sides
pub data Step : Type 0 where
  Odd : Move → Step
  Even : Move → Step

-- one step: a side moves, and its messages are on the way in order
abbrev pub happens : World → Step → World
happens w (Odd m) = record {
  odd = after true w.odd w.to_odd m;
  even = w.even;
  to_odd = wire_after w.odd w.to_odd m;
  to_even = w.to_even ++ says true w.odd m;
}
happens w (Even m) = record {
  odd = w.odd;
  even = after false w.even w.to_even m;
  to_odd = w.to_odd ++ says false w.even m;
  to_even = wire_after w.even w.to_even m;
}

-- a list of steps, the first one first
abbrev pub run : List Step → World → World
run [] w = w
run (e ∷ es) w = run es (happens w e)

-- nothing happened to the number
abbrev pub untouched : Part
untouched = record { slot = Unseen; got = []; ended = false; let_go = false; lost = false; asked = false }

-- a new side
abbrev pub beginning : ℕ → Actor
beginning n = record { part = λ c. untouched; sent = λ c. []; next = n; finished = false; failed = false; taken = [] }

-- two new sides and an empty link
abbrev pub start : World
start = record { odd = beginning 1; even = beginning 2; to_odd = []; to_even = [] }

-- the second list is the first with more after it
abbrev pub IsPrefixOf : List Tree → List Tree → Type 0
IsPrefixOf xs ys = (more : List Tree) × (xs ++ more ≡ ys)

-- one direction on one number: what a side was handed, what its peer sent, and all that the peer said about the number
-- Example: side A opens 1 and 3, sends the channel 3 on 1, then 7 on 3; side B receives the channel on 1 and 7 on 3.
pub record Law (p : Part) (sent : List Tree) (said : List Note) : Type 0 where
  pub prefix : IsPrefixOf p.got sent
  pub whole : p.ended ≡ true → p.let_go ≡ false → p.lost ≡ false → p.got ≡ before_end said
  pub end_came : p.ended ≡ true → p.let_go ≡ false → p.lost ≡ false → has_end said ≡ true

-- both directions, at each number
pub record PairLaw (w : World) : Type 0 where
  pub to_even : (c : ℕ) → Law (w.even.part c) (w.odd.sent c) (all_notes c (w.even.taken ++ w.to_even))
  pub to_odd : (c : ℕ) → Law (w.odd.part c) (w.even.sent c) (all_notes c (w.odd.taken ++ w.to_odd))
