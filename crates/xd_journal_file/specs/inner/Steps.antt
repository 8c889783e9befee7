-- What one message of a file is.
use Rattle.std.specs.Prelude.{ℕ, ◌≡◌, ◌≤◌, ◌<◌, List, ◌++◌, length, true, false}
use Rattle.xd_value.specs.Tree.{Tree, depth}
use Rattle.xd_value.specs.Canonical.{Test, all_pass, canonical}
use Rattle.std.specs.Prelude.{nat_lt}
use Rattle.xd_frame.specs.Message.{max_payload, frame}
use Rattle.xd_journal_file.specs.FileOf.{item_with, FitsMessage}

-- a value that only the length of its payload can keep from being written
pub record IsPlainValue (t : Tree) : Type 0 where
  pub shallow : nat_lt 64 (depth t) ≡ false
  pub passes : (x : Test) → all_pass x t ≡ true

-- these bytes are the canonical payload of the value, are read as it, and are short enough
pub record HasPayload (payload : List ℕ) (t : Tree) : Type 0 where
  pub is : payload ≡ canonical t
  pub fits : FitsMessage t

-- the canonical payload of the value is too long for a message
abbrev pub IsTooLong : Tree → Type 0
IsTooLong t = max_payload < length (canonical t)

-- these bytes begin with an item on channel 1 that has this payload, and go on with these others
pub record BeginsItem (bytes payload following : List ℕ) : Type 0 where
  pub short : length payload ≤ max_payload
  pub parts : bytes ≡ frame (item_with payload) ++ following

-- these bytes begin with no item on channel 1
abbrev pub BeginsNoItem : List ℕ → Type 0
BeginsNoItem bytes = (payload following : List ℕ) → BeginsItem bytes payload following → ⊥
