-- A message of 15 bytes and the first byte of another, read byte by byte and as far as is asked for: how each pull answers.
use Rattle.std.specs.Prelude.{◌≢◌, ℕ, List, [], ◌∷◌, ◌++◌, Result, Ok, Err, map, take, min}
use Rattle.std.proofs.Common.{◌≡◌, refl}
use Rattle.xd_link.specs.Spring.{Spring}
use Rattle.xd_frame.specs.declared.fault.FrameFault.{FrameFault}
use Rattle.xd_frame.specs.declared.fault.FrameFault.TheVariants.{Cut}
use Rattle.xd_frame.specs.declared.kind.Kind.TheVariants.{Item}
use Rattle.xd_frame.specs.declared.pull.Pulled.{Pulled}
use Rattle.xd_frame.specs.declared.pull.Pulled.TheVariants.{More, Whole, Ended}
use Rattle.xd_frame.specs.declared.pull.PullFault.{PullFault}
use Rattle.xd_frame.specs.declared.pull.PullFault.TheVariants.{Bad, ReadFault, OutOfMemory}
use Rattle.xd_frame.specs.Header.{header_read}
use Rattle.xd_frame.specs.Message.{MessageView, frame}
use Rattle.xd_frame.specs.Pull.{missing, read_size, AnswersTo}
use Rattle.xd_frame.specs.Stream.{header_in_front, parts, parts_within, messages, rest, Rest, Clean, Unfinished}

-- the integer 5 on channel 1
abbrev five : MessageView
five = record { kind = Item; channel = 1; payload = 70 ∷ 0 ∷ 0 ∷ 0 ∷ 5 ∷ 81 ∷ [] }

abbrev given : List ℕ
given = frame five ++ 5 ∷ []

abbrev ends_after : ℕ → Rest
ends_after n = rest (take n given)

-- after each byte but the fifteenth the bytes end inside a message, and after that one at its edge
byte_by_byte : map ends_after (1 ∷ 2 ∷ 3 ∷ 4 ∷ 5 ∷ 6 ∷ 7 ∷ 8 ∷ 9 ∷ 10 ∷ 11 ∷ 12 ∷ 13 ∷ 14 ∷ 15 ∷ 16 ∷ []) ≡ Unfinished ∷ Unfinished ∷ Unfinished ∷ Unfinished ∷ Unfinished ∷ Unfinished ∷ Unfinished ∷ Unfinished ∷ Unfinished ∷ Unfinished ∷ Unfinished ∷ Unfinished ∷ Unfinished ∷ Unfinished ∷ Clean ∷ Unfinished ∷ []
unfolding header_read header_in_front parts parts_within
byte_by_byte = refl

-- the one message there is then
whole_after_fifteen : messages (take 15 given) ≡ five ∷ []
unfolding header_read header_in_front parts parts_within
whole_after_fifteen = refl

-- a pull asks for the header, then for the payload, and then for the next header
asked_for_header : min read_size (missing []) ≡ 9
unfolding missing
asked_for_header = refl

asked_for_payload : min read_size (missing (take 9 given)) ≡ 6
unfolding missing header_read
asked_for_payload = refl

asked_for_rest : min read_size (missing (5 ∷ [])) ≡ 8
unfolding missing
asked_for_rest = refl

-- so a pull whose read gave bytes that end inside a message answers More
more : (result : Result Pulled PullFault) (piece : List ℕ) (after : Spring) → piece ≢ [] → AnswersTo result Unfinished piece after → result ≡ Ok More
more (Ok More) piece after some answers = refl
more (Ok (Whole m)) piece after some answers = let ends = answers.0 in cc
more (Ok Ended) piece after some answers = let ends = answers.0 in cc
more (Err (Bad fault)) piece after some answers = absurd (some (answers.1 refl).0)
more (Err ReadFault) piece after some answers = absurd (some answers)
more (Err OutOfMemory) piece after some answers = absurd (some answers)

-- one whose read gave the last byte of a message gives a message
whole : (result : Result Pulled PullFault) (piece : List ℕ) (after : Spring) → piece ≢ [] → AnswersTo result Clean piece after → (m : MessageView) × (result ≡ Ok (Whole m))
whole (Ok More) piece after some answers = let ends = answers.0 in cc
whole (Ok (Whole m)) piece after some answers = (m, refl)
whole (Ok Ended) piece after some answers = absurd (some answers.1)
whole (Err (Bad fault)) piece after some answers = let ends = answers.0 in cc
whole (Err ReadFault) piece after some answers = absurd (some answers)
whole (Err OutOfMemory) piece after some answers = absurd (some answers)

-- and one that refuses the bytes where the source ended inside a message says that they are cut
cut : (fault : FrameFault) (after : Spring) → AnswersTo (Err (Bad fault)) Unfinished [] after → fault ≡ Cut
cut fault after answers = let why = answers.0 in cc
