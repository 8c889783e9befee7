-- What a message says about one number, after execnet's gateway_base.py.
use Rattle.std.specs.Prelude.{ℕ, ◌==◌, List, [], ◌∷◌, ◌++◌, Bool, true, false, Option, if◌then◌else◌}
use Rattle.xd_value.specs.Tree.{Tree}
use Rattle.xd_value.specs.Channels.{channels}
use Rattle.xd_factory.specs.Numbers.{is_in, is_mine}
use Rattle.xd_factory.specs.Said.{Said, Status, Exec, Data, Close, Last, Terminate}
use Rattle.xd_factory.specs.declared.parity.Parity.{Parity}
use Rattle.xd_factory.specs.declared.parity.Parity.TheVariants as parity

-- the parity of a side
abbrev pub side_parity : Bool → Parity
side_parity true = parity.Odd
side_parity false = parity.Even

-- the number is one that the side opens itself
abbrev pub owns : Bool → ℕ → Bool
owns odd c = is_mine (side_parity odd) c

-- one thing that a message says about a number
pub data Note : Type 0 where
  Named : Note  -- a value names it, or a function is called on it
  Item : Tree → Note  -- an item on it
  Ends : Option (List ℕ) → Note  -- the peer closes it, with the text of an error where there is one
  Lasts : Note  -- the peer sends no more on it
  Asked : Note  -- a STATUS on it

-- a value names the number
abbrev pub named_notes : ℕ → Tree → List Note
named_notes c v = if is_in c (channels v) then Named ∷ [] else []

-- the channels of a value come before its item
-- Example: a CHANNEL_DATA on 1 with channel 3 says of 3 that it was named, and of 1 that an item came.
abbrev pub notes : ℕ → Said → List Note
notes c (Status n) = if n == c then Asked ∷ [] else []
notes c (Exec n v) = named_notes c v ++ (if n == c then Named ∷ [] else [])
notes c (Data n v) = named_notes c v ++ (if n == c then Item v ∷ [] else [])
notes c (Close n e) = if n == c then Ends e ∷ [] else []
notes c (Last n) = if n == c then Lasts ∷ [] else []
notes c Terminate = []

-- what several messages say about the number, in order
abbrev pub all_notes : ℕ → List Said → List Note
all_notes c [] = []
all_notes c (m ∷ ms) = notes c m ++ all_notes c ms

-- all items
abbrev pub items : List Note → List Tree
items [] = []
items (Item v ∷ ns) = v ∷ items ns
items (Named ∷ ns) = items ns
items (Ends e ∷ ns) = items ns
items (Lasts ∷ ns) = items ns
items (Asked ∷ ns) = items ns

-- the items before the first end
abbrev pub before_end : List Note → List Tree
before_end [] = []
before_end (Item v ∷ ns) = v ∷ before_end ns
before_end (Named ∷ ns) = before_end ns
before_end (Ends e ∷ ns) = []
before_end (Lasts ∷ ns) = []
before_end (Asked ∷ ns) = before_end ns

-- an end is among them
abbrev pub has_end : List Note → Bool
has_end [] = false
has_end (Item v ∷ ns) = has_end ns
has_end (Named ∷ ns) = has_end ns
has_end (Ends e ∷ ns) = true
has_end (Lasts ∷ ns) = true
has_end (Asked ∷ ns) = has_end ns
