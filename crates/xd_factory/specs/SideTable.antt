-- The channels of a side as one value, what calls and messages make of them, and why a message is refused.
use Rattle.std.specs.Prelude.{◌≡◌, ℕ, ◌+◌, ◌==◌, List, length, Bool, true, false, Option, Some, None, if◌then◌else◌}
use Rattle.std.specs.Ordering.{nat_cmp}
use Rattle.std.specs.List.Sorted.{IsStrictlySortedBy}
use Rattle.xd_value.specs.Tree.{Tree}
use Rattle.xd_channel.specs.State.{fresh_end}
use Rattle.xd_frame.specs.Message.{MessageView}
use Rattle.xd_factory.specs.declared.parity.Parity.{Parity}
use Rattle.xd_factory.specs.declared.taken.Taken.{Taken}
use Rattle.xd_factory.specs.declared.faults.SideFault.{SideFault}
use Rattle.xd_factory.specs.declared.side.Side.{Side}
use Rattle.xd_factory.specs.Numbers.{first_number, is_in, is_mine}
use Rattle.xd_factory.specs.Said.{Said}
use Rattle.xd_factory.specs.Slot.{Slot, Unseen, Here, is_here, is_new, lost_slot}
use Rattle.xd_factory.specs.Table.{Refused, heard_slot, answer_of, fault_or}
use Rattle.xd_factory.specs.declared.faults.SideFault.TheVariants.{Finished}
use Rattle.xd_factory.specs.View.{slot_of_number, parity_of, next_of, fault_of, is_finished}

-- what stands at each number, which numbers are its own, the next of them, why it refuses each message if it does, and
-- whether the link has ended
pub record ChannelTable : Type 0 where
  pub slot : ℕ → Slot Tree
  pub parity : Parity
  pub next : ℕ
  pub fault : Option SideFault
  pub finished : Bool

-- nothing was opened, and nothing came
abbrev pub new_table : Parity → ChannelTable
new_table parity = record { slot = λ c. Unseen; parity = parity; next = first_number parity; fault = None; finished = false }

-- the channels of a side as one value
abbrev pub channel_table : Side → ChannelTable
channel_table s = record { slot = slot_of_number s; parity = parity_of s; next = next_of s; fault = fault_of s; finished = is_finished s }

-- one number changes
abbrev pub changed_at : ℕ → (Slot Tree → Slot Tree) → ChannelTable → ChannelTable
changed_at n f t = record t { slot = λ c. if n == c then f (t.slot c) else t.slot c }

-- the next own number opens
abbrev pub opened : ChannelTable → ChannelTable
opened t = record t { slot = λ c. if t.next == c then Here fresh_end else t.slot c; next = t.next + 2 }

-- a message was taken
abbrev pub heard_of_message : Said → ChannelTable → ChannelTable
heard_of_message said t = record t { slot = λ c. heard_slot t.parity said c (t.slot c) }

-- what a message does
abbrev pub answer : Said → ChannelTable → Taken Tree
answer said t = answer_of t.parity t.slot said

-- the link has ended
abbrev pub lost : ChannelTable → ChannelTable
lost t = record t { slot = λ c. lost_slot (t.slot c); fault = fault_or t.fault Finished; finished = true }

-- n numbers are in the table
-- Example: CHANNEL_EXEC on 1 puts one channel into a new table of even numbers, and a STATUS none.
pub record Counts (slot : ℕ → Slot Tree) (n : ℕ) : Type 0 where
  pub numbers : List ℕ
  pub rising : IsStrictlySortedBy nat_cmp numbers
  pub here : (c : ℕ) → is_here (slot c) ≡ is_in c numbers
  pub count : n ≡ length numbers

-- why the side refuses a message: it did so before, or for what the message is
abbrev pub RefusedBy : Option SideFault → ChannelTable → MessageView → SideFault → Type 0
RefusedBy (Some before) t m fault = fault ≡ before
RefusedBy None t m fault = (n : ℕ) × Counts t.slot n × Refused n (λ c. is_new (is_mine t.parity c) (t.slot c)) m fault

-- the same, for each count: there is just one
abbrev pub MustRefuse : Option SideFault → ChannelTable → MessageView → SideFault → Type 0
MustRefuse (Some before) t m fault = fault ≡ before
MustRefuse None t m fault = (n : ℕ) → Counts t.slot n → Refused n (λ c. is_new (is_mine t.parity c) (t.slot c)) m fault
