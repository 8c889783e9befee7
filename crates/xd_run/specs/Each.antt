-- Mode each: every worker runs every test of its slot. pytest-xdist's EachScheduling; that a worker which replaces
-- another is shut down after the tests that are left of its slot is a choice of this project.
use Rattle.std.specs.Prelude.{ℕ, ◌-◌, List, [], ◌∷◌, ◌++◌, map, filter}
use Rattle.xd_journal.specs.declared.entry.Entry.TheVariants.{Run, RunAll}
use Rattle.xd_run.specs.Numbers.{among}
use Rattle.xd_run.specs.Table.{assigned, workers_of}
use Rattle.xd_run.specs.Plan.{base, slot_items}
use Rattle.xd_run.specs.Turn.{Turn, shut}

-- the worker gets all tests of its slot, and runs them to the last one
abbrev pub give_all : ℕ → ℕ → Turn → Turn
give_all worker slot t = shut worker (record t { table = assigned worker (slot_items slot t.plan) t.table; acts = t.acts ++ RunAll worker ∷ [] })

-- each worker gets all tests of its slot
abbrev pub give_slots : List ℕ → List ℕ → Turn → Turn
give_slots (w ∷ ws) (slot ∷ slots) t = give_slots ws slots (give_all w slot t)
give_slots _ _ t = t

-- the slots are those of the rota's workers, in rota order
abbrev pub each_share : List ℕ → Turn → Turn
each_share slots t = give_slots (workers_of t.table) slots t

-- what waits for a new worker of the slot
abbrev pub remainder : ℕ → Turn → List ℕ
remainder slot t = filter (λ i. among i (slot_items slot t.plan)) t.table.pool

-- the worker gets these items of the slot, named by their places in it
abbrev pub give_of_slot : ℕ → ℕ → List ℕ → Turn → Turn
give_of_slot worker slot [] t = t
give_of_slot worker slot (i ∷ is) t = record t { table = assigned worker (i ∷ is) t.table; acts = t.acts ++ Run worker (map (λ item. item - base slot t.plan) (i ∷ is)) ∷ [] }

-- a worker that joins after the share gets what is left of its slot
-- Example: gw0 completes 0 of three tests and dies in 1: gw2 runs 2.
abbrev pub joins : ℕ → ℕ → Turn → Turn
joins worker slot t = shut worker (give_of_slot worker slot (remainder slot t) t)
