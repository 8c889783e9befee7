use Rattle.std.proofs.Common.{◌≡◌, ℕ, ◌≤◌, take, length, vec_len}
use Rattle.std.specs.Prelude.{if◌then◌else◌, vec_capacity}
use Rattle.xd_factory.specs.Numbers.{is_in}
use Rattle.xd_factory.specs.Slot.{lost_slot}
use Rattle.xd_factory.specs.Table.{owed_of}
use Rattle.xd_factory.specs.View.{slot_of_number, KeepsRest}
use Rattle.xd_factory.proofs.side.Side.lose_all.Given as goal

-- the numbers so far are lost, and the list has what their callbacks are owed
abbrev pub invariant-loop-number : goal.invariant-loop-number
invariant-loop-number l = record {
  slots : (c : ℕ) → slot_of_number l.self c ≡ (if is_in c (take l.number-index l.number-items) then lost_slot (slot_of_number l.fn.self c) else slot_of_number l.fn.self c);
  owed : l.owed.items ≡ owed_of (slot_of_number l.fn.self) (take l.number-index l.number-items);
  room : length l.number-items ≤ vec_capacity l.owed;
  count : vec_len l.owed ≤ l.number-index;
  rest : KeepsRest l.fn.self l.self;
}
