-- Inner words: what a pull does to the bytes that a framer holds.
use Rattle.std.specs.Prelude.{◌≡◌, ◌≢◌, ◌⊎◌, ℕ, ◌<◌, ◌≤◌, Bool, true, false, List, [], ◌∷◌, ◌++◌, Some, None, Result, Ok, Err, length, min}
use Rattle.xd_edge.specs.Faults.{Rose}
use Rattle.xd_link.specs.Source.{Gave}
use Rattle.xd_link.specs.Spring.{ReadToEnd, Spring}
use Rattle.xd_frame.specs.declared.header.Header.{Header}
use Rattle.xd_frame.specs.declared.fault.FrameFault.{FrameFault}
use Rattle.xd_frame.specs.declared.fault.FrameFault.TheVariants.{BadKind, BadChannel, BadLength, Cut}
use Rattle.xd_frame.specs.declared.pull.Pulled.{Pulled}
use Rattle.xd_frame.specs.declared.pull.Pulled.TheVariants.{More, Whole, Ended}
use Rattle.xd_frame.specs.declared.pull.PullFault.{PullFault}
use Rattle.xd_frame.specs.declared.pull.PullFault.TheVariants.{Bad, ReadFault, OutOfMemory}
use Rattle.xd_frame.specs.Stream.{AreBytes, header_in_front, message_of}
use Rattle.xd_frame.specs.Pull.{CountsSo, read_size, missing}

-- The source gave n bytes, at most this size, and they stand after the old ones.
pub record ReadsOn (n size : ℕ) (old new : List ℕ) (before after : Spring) : Type 0 where
  pub piece : List ℕ
  pub gave : Gave piece before.supply after.supply
  pub new_is : new ≡ old ++ piece
  pub length_is : length piece ≡ n
  pub asked : n ≤ size
  pub bytes : AreBytes new
  pub count : after.faults ≡ before.faults
  pub end : n ≡ 0 → 0 < size → ReadToEnd after

-- Nothing was read.
abbrev pub Unread : PullFault → List ℕ → List ℕ → Spring → Spring → Type 0
Unread (Bad fault) old new before after = ⊥
Unread ReadFault old new before after = (new ≡ old) × (after.supply ≡ before.supply) × Rose before.faults after.faults
Unread OutOfMemory old new before after = (new ≡ old) × (after ≡ before)

-- what the end of the source means after these bytes
abbrev pub ended_by : List ℕ → Result Pulled PullFault
ended_by [] = Ok Ended
ended_by (b ∷ bytes) = Err (Bad Cut)

-- The message that the bytes begin with is taken out, where it stands there whole.
abbrev pub TakesOut : Result Pulled PullFault → List ℕ → List ℕ → Type 0
TakesOut (Ok More) old new = (new ≡ old) × (header_in_front old ≡ Ok None)
TakesOut (Ok (Whole m)) old new = (new ≡ []) × ((h : Header) × (header_in_front old ≡ Ok (Some h)) × (m ≡ message_of h old))
TakesOut (Ok Ended) old new = ⊥
TakesOut (Err (Bad fault)) old new = (new ≡ old) × (header_in_front old ≡ Err fault)
TakesOut (Err ReadFault) old new = ⊥
TakesOut (Err OutOfMemory) old new = ⊥

-- a pull whose read met the end of the source
pub record MeetsEnd (old piece new : List ℕ) (after : Spring) : Type 0 where
  pub none : piece ≡ []
  pub kept : new ≡ old
  pub end : 0 < missing old → ReadToEnd after

-- What became of the bytes, by the answer.
abbrev pub DrawsSo : Result Pulled PullFault → List ℕ → List ℕ → List ℕ → Spring → Type 0
DrawsSo (Ok More) old piece new after = (piece ≢ []) × (new ≡ old ++ piece) × (header_in_front (old ++ piece) ≡ Ok None)
DrawsSo (Ok (Whole m)) old piece new after = (piece ≢ []) × (new ≡ []) × ((h : Header) × (header_in_front (old ++ piece) ≡ Ok (Some h)) × (m ≡ message_of h (old ++ piece)))
DrawsSo (Ok Ended) old piece new after = (old ≡ []) × MeetsEnd old piece new after
DrawsSo (Err (Bad fault)) old piece new after =
    ((piece ≢ []) × (new ≡ old ++ piece) × (header_in_front (old ++ piece) ≡ Err fault)) ⊎ ((fault ≡ Cut) × (old ≢ []) × MeetsEnd old piece new after)
DrawsSo (Err ReadFault) old piece new after = (piece ≡ []) × (new ≡ old)
DrawsSo (Err OutOfMemory) old piece new after = (piece ≡ []) × (new ≡ old)

-- A pull of the bytes that a framer holds.
pub record Draws (result : Result Pulled PullFault) (old new : List ℕ) (before after : Spring) : Type 0 where
  pub piece : List ℕ
  pub gave : Gave piece before.supply after.supply
  pub asked : length piece ≤ min read_size (missing old)
  pub count : CountsSo result before.faults after.faults
  pub bytes : piece ≢ [] → AreBytes (old ++ piece)
  pub so : DrawsSo result old piece new after

-- the fault is that the bytes end inside a message
abbrev pub is_cut_fault : FrameFault → Bool
is_cut_fault Cut = true
is_cut_fault (BadKind code) = false
is_cut_fault (BadChannel number) = false
is_cut_fault (BadLength number) = false

-- a pull met the end of the source inside a message
abbrev pub is_cut : Result Pulled PullFault → Bool
is_cut (Ok pulled) = false
is_cut (Err (Bad fault)) = is_cut_fault fault
is_cut (Err ReadFault) = false
is_cut (Err OutOfMemory) = false

-- a pull ran out of memory
abbrev pub is_out_of_memory : Result Pulled PullFault → Bool
is_out_of_memory (Ok pulled) = false
is_out_of_memory (Err (Bad fault)) = false
is_out_of_memory (Err ReadFault) = false
is_out_of_memory (Err OutOfMemory) = true
