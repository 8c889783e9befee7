-- The logs that open for the tests of a worker.
use Rattle.std.specs.Prelude.{◌≡◌, ◌≤◌, ◌<◌, ℕ, ◌+◌, true, false, List, [], ◌∷◌}
use Rattle.xd_factory.specs.declared.parity.Parity.TheVariants.{Even}
use Rattle.xd_factory.specs.Numbers.{is_mine}
use Rattle.xd_factory.specs.Slot.{is_here}
use Rattle.xd_factory.specs.SideTable.{ChannelTable, Counts}
use Rattle.xd_worker.specs.Worker.{Worker, Opening}
use Rattle.xd_worker.specs.History.{HeardInput, table_after, turn_by, worker_after}

-- a log can open under the number that its start names: it is the next own number and no larger than the largest, the
-- link has not ended, and the table is not full
pub record CanOpen (number : ℕ) (t : ChannelTable) : Type 0 where
  pub named : number ≡ t.next
  pub numbered : t.next ≤ 2147483647
  pub linked : t.finished ≡ false
  pub room : (n : ℕ) → Counts t.slot n → n < 4096

-- each of these logs can open in its table
abbrev pub AllOpen : List Opening → Type 0
AllOpen [] = Unit {0}
AllOpen (o ∷ os) = CanOpen o.number o.table × AllOpen os

-- whatever comes next, each log of its turn can open
abbrev pub LogsOpen : Worker → Type 0
LogsOpen w = (g : HeardInput) → Counts (table_after g.came w.table).slot g.channels → AllOpen (turn_by w g).logs

-- Whatever came, each log can open under the number that its start names, and the table holds at most one log: the one
-- that opened last.
-- Example: with 4,095 channels in the table a log opens, and when its test has ended the next; with 4,096 none does.
pub record LogLaw : Type 0 where
  pub opens : (h : List HeardInput) → LogsOpen (worker_after h)
  pub one : (h : List HeardInput) (c : ℕ) → is_mine Even c ≡ true → is_here ((worker_after h).table.slot c) ≡ true → c + 2 ≡ (worker_after h).table.next
