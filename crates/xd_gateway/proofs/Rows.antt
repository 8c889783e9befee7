-- Worked bytes of what a gateway says: STATUS on the first channel, an item on it, and GATEWAY_TERMINATE.
use Rattle.std.specs.Prelude.{[], ◌∷◌, false, Ok, pos}
use Rattle.std.proofs.Common.{◌≡◌, refl, arith}
use Rattle.xd_frame.specs.Message.{frames}
use Rattle.xd_factory.specs.declared.side.Side.{Side}
use Rattle.xd_factory.specs.View.{entry_count, is_finished, next_of}
use Rattle.xd_value.specs.Tree.{int}
use Rattle.xd_value.specs.Canonical.{canonical}
use Rattle.xd_gateway.specs.Calls.{item_message, status_message, status_wanted, terminate_message}

-- a side whose table is empty and whose next number is 1 asks on channel 1 how the other one is
asks_on_one : (s : Side) → is_finished s ≡ false → entry_count s ≡ 0 → next_of s ≡ 1 → status_wanted s ≡ Ok (status_message 1)
asks_on_one s goes empty first = grind (arith, goes, empty, first)

-- what is said then, with the integer 5 as the item
said : frames (status_message 1 ∷ item_message 1 (canonical (int (pos 5))) ∷ terminate_message ∷ []) ≡
    0 ∷ 0 ∷ 0 ∷ 0 ∷ 1 ∷ 0 ∷ 0 ∷ 0 ∷ 0
    ∷ 4 ∷ 0 ∷ 0 ∷ 0 ∷ 1 ∷ 0 ∷ 0 ∷ 0 ∷ 6 ∷ 70 ∷ 0 ∷ 0 ∷ 0 ∷ 5 ∷ 81
    ∷ 2 ∷ 0 ∷ 0 ∷ 0 ∷ 0 ∷ 0 ∷ 0 ∷ 0 ∷ 0 ∷ []
said = refl
