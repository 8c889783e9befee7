-- A turn of a mode: the table, the mode's plan, and the outputs so far. Each rule of a mode is a function of a turn.
use Rattle.std.specs.Prelude.{ℕ, List, [], ◌∷◌, ◌++◌, take, if◌then◌else◌}
use Rattle.xd_journal.specs.declared.entry.Entry.{Entry}
use Rattle.xd_journal.specs.declared.entry.Entry.TheVariants.{Run, Shutdown}
use Rattle.xd_run.specs.Table.{Table, seat_shut, workers_of, assigned, shut_down}
use Rattle.xd_run.specs.Plan.{Plan}

-- a worker starts a test when another stands after it, so it needs two, and one that holds fewer is idle: `MIN_PENDING`
abbrev pub enough : ℕ
enough = 2

-- the table and the plan as a rule leaves them, and what was said so far
pub record Turn : Type 0 where
  pub table : Table
  pub plan : Plan
  pub acts : List Entry

-- the worker gets these items in one batch; no batch is empty
abbrev pub give : ℕ → List ℕ → Turn → Turn
give worker [] t = t
give worker (i ∷ is) t = record t { table = assigned worker (i ∷ is) t.table; acts = t.acts ++ Run worker (i ∷ is) ∷ [] }

-- that many from the pool's front, or all that it has
abbrev pub give_front : ℕ → ℕ → Turn → Turn
give_front worker count t = give worker (take count t.table.pool) t

-- a Shutdown, where none was sent
-- Example: two workers hold one test each and the pool is empty: refilling both gives a Shutdown to each, and then no more.
abbrev pub shut : ℕ → Turn → Turn
shut worker t = if seat_shut worker t.table then t else record t { table = shut_down worker t.table; acts = t.acts ++ Shutdown worker ∷ [] }

-- one worker after another
abbrev pub in_turn : (ℕ → Turn → Turn) → List ℕ → Turn → Turn
in_turn step [] t = t
in_turn step (w ∷ ws) t = in_turn step ws (step w t)

-- a Shutdown to each of these workers, in order, where none was sent
abbrev pub shut_each : List ℕ → Turn → Turn
shut_each ws t = in_turn shut ws t

-- everyone is shut down where the pool is empty
abbrev pub shut_where_empty : Turn → Turn
shut_where_empty t = elim t.table.pool [ [] ↦ shut_each (workers_of t.table) t | x ∷ xs ↦ t ]
