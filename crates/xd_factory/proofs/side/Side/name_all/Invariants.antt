use Rattle.std.proofs.Common.{◌≡◌, ℕ, ◌+◌, take, drop}
use Rattle.xd_factory.specs.Numbers.{is_in, is_mine}
use Rattle.xd_factory.specs.Table.{named_in, opened_count}
use Rattle.xd_factory.specs.View.{slot_of_number, new_at, entry_count, KeepsRest}
use Rattle.xd_factory.proofs.side.Side.name_all.Given as goal

-- the numbers so far are open, and those that are left open as many as before
abbrev pub invariant-loop-number : goal.invariant-loop-number
invariant-loop-number l = record {
  slots : (c : ℕ) → slot_of_number l.self c ≡ named_in (is_mine l.fn.self.parity c) (is_in c (take l.number-index l.numbers)) (slot_of_number l.fn.self c);
  rest : KeepsRest l.fn.self l.self;
  count : entry_count l.self + opened_count (new_at l.self) (drop l.number-index l.numbers) ≡ entry_count l.fn.self + opened_count (new_at l.fn.self) l.numbers;
}
