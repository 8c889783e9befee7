-- What a worker's death changes in the state of a run. pytest-xdist's DSession: `worker_errordown`, and the schedulers'
-- `remove_node`.
use Rattle.std.specs.Prelude.{ℕ, ◌+◌, ◌==◌, Bool, List, ◌++◌, length, take, drop, Option, Some, None, if◌then◌else◌}
use Rattle.xd_run.specs.Table.{held, retried_item, crash_item, died}
use Rattle.xd_run.specs.Plan.{Plan, UnansweredSteal, is_scope}
use Rattle.xd_run.specs.Units.{units_left, unless_empty}
use Rattle.xd_run.specs.Books.{Books, on_table, marked}
use Rattle.xd_run.specs.Workers.{made_gone}
use Rattle.xd_run.specs.Stops.{or_stop, stopped_by, at_limit, out_of_restarts}
use Rattle.xd_run.specs.Retry.{is_retry}
use Rattle.xd_run.specs.Sharing.{State}

-- the worker is active no more
abbrev pub gone : ℕ → Books → Books
gone worker b = marked (made_gone worker) b

-- a death counts, of a worker that held these items, and a crash item counts as a failure
abbrev pub lost_with : Bool → List ℕ → Books → Books
lost_with retry items b = record b {
  failures = b.failures + length (crash_item retry items);
  deaths = b.deaths + 1;
  lost = b.lost ++ take 1 items;
}

-- the books after the worker's death, before a limit is looked at
abbrev pub buried : ℕ → Bool → Books → Books
buried worker retry b = lost_with retry (held worker b.table) (on_table (died worker retry) b)

-- a death can reach both limits; that on failures comes first
abbrev pub limited : ℕ → Books → Books
limited worker b = stopped_by (or_stop (at_limit b) (out_of_restarts worker b)) b

-- the books after the worker's death
abbrev pub down_books : ℕ → Bool → Books → Books
down_books worker retry b = limited worker (gone worker (buried worker retry b))

-- the open steal, unless it is of the worker
abbrev pub steal_without : ℕ → Option UnansweredSteal → Option UnansweredSteal
steal_without worker None = None
steal_without worker (Some a) = if a.worker == worker then None else Some a

-- an item that is tried again goes to the queue's front as a unit of its own, what is left of the worker's units goes to
-- the queue's end, and its open steal is closed
-- Example: gw1 holds `a::1`, `a::2`, `b::1`, completes the first and dies: whoever replaces gw1 runs `b::1`.
abbrev pub down_plan : ℕ → List ℕ → List ℕ → Plan → Plan
down_plan worker retried rest p = record p {
  queue = if is_scope p.mode then unless_empty retried ++ (p.queue ++ units_left worker rest p.given) else p.queue;
  steal = steal_without worker p.steal;
}

-- the state after the death of a worker, which went down or could not be started
abbrev pub after_down : ℕ → State → State
after_down worker s =
    let retry = is_retry worker s.books in
    let items = held worker s.books.table in
    record s { books = down_books worker retry s.books; plan = down_plan worker (retried_item retry items) (drop 1 items) s.plan }
