-- What contracts see of a side: what it has at each number, which numbers are in its table, and four facts more.
use Rattle.std.specs.Prelude.{◌≡◌, ℕ, List, Bool, Option, Some, None, true, false}
use Rattle.std.specs.Ordering.{nat_cmp}
use Rattle.std.specs.BTreeMap as tree
use Rattle.xd_value.specs.Tree.{Tree}
use Rattle.xd_channel.specs.State.{EndState}
use Rattle.xd_factory.specs.declared.side.Side.{Side}
use Rattle.xd_factory.specs.declared.parity.Parity.{Parity}
use Rattle.xd_factory.specs.declared.faults.SideFault.{SideFault}
use Rattle.xd_factory.specs.Numbers.{is_known, is_mine}
use Rattle.xd_factory.specs.Slot.{Slot, Unseen, Here, Gone, is_new}
use Rattle.xd_factory.specs.Trees.{trees_at}

-- what stands at a number: its entry, or without one closed for good where the number is known, else never opened
abbrev pub slot_at : {V : Type 0} → Option (EndState V) → Bool → Slot V
slot_at (Some s) known = Here s
slot_at None true = Gone
slot_at None false = Unseen

-- what the side has at a number
-- Example: a side without the number 6 has there a slot that was never opened.
abbrev pub slot_of_number : Side → ℕ → Slot Tree
slot_of_number s c = slot_at (trees_at (tree.get nat_cmp s.ends c)) (is_known s.parity s.next s.seen c)

-- a message that names the number opens it
abbrev pub new_at : Side → ℕ → Bool
new_at s c = is_new (is_mine s.parity c) (slot_of_number s c)

-- which numbers are its own to open
abbrev pub parity_of : Side → Parity
parity_of s = s.parity

-- the number that it opens next
abbrev pub next_of : Side → ℕ
next_of s = s.next

-- why it refuses each message, if it has failed or the link has ended
abbrev pub fault_of : Side → Option SideFault
fault_of s = s.fault

-- the link has ended
abbrev pub is_finished : Side → Bool
is_finished s = s.finished

-- the numbers in the table, in rising order
abbrev pub numbers_of : Side → List ℕ
numbers_of s = tree.keys s.ends

-- how many numbers are in the table
abbrev pub entry_count : Side → ℕ
entry_count s = tree.btree_map_len s.ends

-- all but the channels is as it was
pub record KeepsRest (old new : Side) : Type 0 where
  pub parity : parity_of new ≡ parity_of old
  pub next : next_of new ≡ next_of old
  pub fault : fault_of new ≡ fault_of old
  pub finished : is_finished new ≡ is_finished old
