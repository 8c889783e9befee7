-- What is written of a piece of output, and of the text of an error.
use Rattle.std.proofs.Common.{◌≡◌, ℕ, ◌+◌, ◌≤◌, List, [], ◌∷◌, length, length-append, Ok, refl, arith}
use Rattle.std.specs.Int.{w32, to_be_bytes}
use Rattle.std.proofs.lemmas.Bool.{le-ltb}
use Rattle.xd_value.specs.Canonical.{canonical, dumped, form}
use Rattle.xd_value.specs.Payload.{IsPayload}
use Rattle.xd_value.specs.Tree.{bytes, text}
use Rattle.xd_value.proofs.Dumped.{dumped_payload}
use Rattle.xd_journal.specs.Kept.{most_of_one}
use Rattle.xd_commands.proofs.Fitting.{dumped_is}
use Rattle.xd_system_messages.proofs.Asks.{IsErrorText}

bytes_length : (b : List ℕ) → length (canonical (bytes b)) ≡ length b + 6
bytes_length b = omega (arith, length-append (form (bytes b)) (81 ∷ []), length-append (to_be_bytes w32 (length b)) b)

pub piece_dumped : (b : List ℕ) → length b ≤ most_of_one → dumped (bytes b) ≡ Ok (canonical (bytes b))
piece_dumped b few = dumped_is (bytes b) refl refl refl refl (le-ltb 16777216 _ (omega (arith, bytes_length b, few)))

pub piece_payload : (b : List ℕ) → length b ≤ most_of_one → IsPayload (bytes b) (canonical (bytes b))
piece_payload b few = dumped_payload (bytes b) (canonical (bytes b)) tt (piece_dumped b few)

pub text_payload : (cs : List ℕ) → IsErrorText cs → IsPayload (text cs) (canonical (text cs))
text_payload cs h = dumped_payload (text cs) (canonical (text cs)) h.0 (dumped_is (text cs) refl refl refl refl h.1)
