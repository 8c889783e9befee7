-- A stream that is pulled from its source, one read a call.
use Rattle.std.specs.Prelude.{◌≡◌, ◌≢◌, ℕ, ◌+◌, ◌-◌, ◌<◌, ◌≤◌, List, [], ◌∷◌, ◌++◌, Option, Some, None, Result, Ok, Err, length, take, min, nat_lt, if◌then◌else◌}
use Rattle.xd_edge.specs.Faults.{Rose}
use Rattle.xd_link.specs.Source.{Gave}
use Rattle.xd_link.specs.Spring.{ReadToEnd, Spring}
use Rattle.xd_frame.specs.declared.header.Header.{Header}
use Rattle.xd_frame.specs.declared.fault.FrameFault.{FrameFault}
use Rattle.xd_frame.specs.declared.fault.FrameFault.TheVariants.{Cut}
use Rattle.xd_frame.specs.declared.pull.Pulled.{Pulled}
use Rattle.xd_frame.specs.declared.pull.Pulled.TheVariants.{More, Whole, Ended}
use Rattle.xd_frame.specs.declared.pull.PullFault.{PullFault}
use Rattle.xd_frame.specs.declared.pull.PullFault.TheVariants.{Bad, ReadFault, OutOfMemory}
use Rattle.xd_frame.specs.Message.{MessageView, frames}
use Rattle.xd_frame.specs.Header.{header_read}
use Rattle.xd_frame.specs.Stream.{Rest, Clean, Unfinished, Refused, end_meaning, rest, rest_of}
use Rattle.xd_frame.specs.Framer.{FramerView, StandsForBytes}

-- how many bytes one read asks for at most: a choice of this project
abbrev pub read_size : ℕ
read_size = 65536

-- how many bytes are missing of the message of a header, where `size` of them are there
abbrev pub missing_by : Result Header FrameFault → ℕ → ℕ
missing_by (Ok h) size = (9 + h.length) - size
missing_by (Err fault) size = 0

-- how many bytes are missing of the header that has begun, or else of its payload
unfoldable pub missing : List ℕ → ℕ
missing held = if nat_lt (length held) 9 then 9 - length held else missing_by (header_read (take 9 held)) (length held)

-- the message that a pull gave, if it gave one
abbrev pub whole_of : Result Pulled PullFault → List MessageView
whole_of (Ok (Whole m)) = m ∷ []
whole_of (Ok More) = []
whole_of (Ok Ended) = []
whole_of (Err fault) = []

-- When each answer comes: the bytes that were given so far end so, and the read of this call gave these.
abbrev pub AnswersTo : Result Pulled PullFault → Rest → List ℕ → Spring → Type 0
AnswersTo (Ok More) ends piece after = (ends ≡ Unfinished) × (piece ≢ [])
AnswersTo (Ok (Whole m)) ends piece after = (ends ≡ Clean) × (piece ≢ [])
AnswersTo (Ok Ended) ends piece after = (ends ≡ Clean) × (piece ≡ []) × ReadToEnd after
AnswersTo (Err (Bad fault)) ends piece after = (end_meaning ends ≡ Err fault) × (ends ≡ Unfinished → (piece ≡ []) × ReadToEnd after)
AnswersTo (Err ReadFault) ends piece after = piece ≡ []
AnswersTo (Err OutOfMemory) ends piece after = piece ≡ []

-- The source's count of faults rose where the answer is ReadFault, and stands else.
abbrev pub CountsSo : Result Pulled PullFault → ℕ → ℕ → Type 0
CountsSo (Ok pulled) before after = after ≡ before
CountsSo (Err ReadFault) before after = Rose before after
CountsSo (Err (Bad fault)) before after = after ≡ before
CountsSo (Err OutOfMemory) before after = after ≡ before

-- Bytes that are less than a message, or a header that is refused.
pub data IsLess : List ℕ → Type 0 where
  -- fewer than a header has
  few : {bytes : List ℕ} → length bytes < 9 → IsLess bytes
  -- a header, and less than its payload
  begun : {bytes : List ℕ} (h : Header) → header_read (take 9 bytes) ≡ Ok h → length bytes < 9 + h.length → IsLess bytes
  -- the nine bytes of a header that is refused
  refused : {bytes : List ℕ} (fault : FrameFault) → header_read bytes ≡ Err fault → length bytes ≡ 9 → IsLess bytes

-- Of a stream that was pulled from its start a framer holds less than one message: all that the source gave are the
-- frames of the messages that were pulled and these bytes.
pub record HoldsLess (s : FramerView) (given : List ℕ) (taken : List MessageView) : Type 0 where
  pub bytes : given ≡ frames taken ++ s.held
  pub less : IsLess s.held

-- why a framer whose bytes end so reads no more, where it does not
abbrev pub refusal_by : Rest → Option PullFault
refusal_by Clean = None
refusal_by Unfinished = None
refusal_by (Refused fault) = Some (Bad fault)

-- why a framer is pulled no further, where it is not
abbrev pub pull_fault_of : FramerView → Option PullFault
pull_fault_of s = if s.failed then Some OutOfMemory else (if s.cut then Some (Bad Cut) else refusal_by (rest_of s.held))

-- the answer that each later pull gives too, where there is one
abbrev pub lasting : Result Pulled PullFault → Option PullFault
lasting (Ok pulled) = None
lasting (Err ReadFault) = None
lasting (Err (Bad fault)) = Some (Bad fault)
lasting (Err OutOfMemory) = Some OutOfMemory

-- One pull of a framer: what its read gave, and what became of the framer and of the answer.
-- Example: after a message of 69 bytes and the byte 05 the pulls answer More, the message, More, and that the bytes are cut.
pub record Pulls (result : Result Pulled PullFault) (old new : FramerView) (before after : Spring) : Type 0 where
  pub piece : List ℕ
  pub gave : Gave piece before.supply after.supply
  pub asked : length piece ≤ min read_size (missing old.held)
  pub count : CountsSo result before.faults after.faults
  pub stands : (given : List ℕ) (taken : List MessageView) → StandsForBytes old given taken → StandsForBytes new (given ++ piece) (taken ++ whole_of result)
  pub answer : pull_fault_of old ≡ None → (given : List ℕ) (taken : List MessageView) → StandsForBytes old given taken → AnswersTo result (rest (given ++ piece)) piece after
  pub less : (given : List ℕ) (taken : List MessageView) → HoldsLess old given taken → HoldsLess new (given ++ piece) (taken ++ whole_of result)
