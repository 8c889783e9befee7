-- Who owes the next step of a run.
use Rattle.std.specs.Prelude.{ℕ, ◌==◌, Bool, false, not, ◌&&◌, ◌||◌, nat_le, length, Some, None}
use Rattle.std.specs.List.{list_any}
use Rattle.xd_run.specs.declared.member.Member.{Member}
use Rattle.xd_run.specs.Table.{held}
use Rattle.xd_run.specs.Sharing.{State}

-- the open steal is asked of the worker
abbrev pub steal_open_to : ℕ → State → Bool
steal_open_to worker s = elim s.plan.steal [ None ↦ false | Some a ↦ a.worker == worker ]

-- the worker is active and is not ready yet, or has not collected, or is to end, or has a test that it may start, or
-- has to answer a steal
-- Example: a worker that is ready, holds one test and was not told to shut down owes nothing: it waits for what is after it.
abbrev pub owes : State → Member → Bool
owes s m = m.active && (not m.ready || not m.collected || m.shut || nat_le 2 (length (held m.worker s.books.table)) || steal_open_to m.worker s)

-- some worker owes the next step
abbrev pub someone_owes : State → Bool
someone_owes s = list_any (owes s) s.books.members
