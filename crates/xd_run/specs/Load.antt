-- Mode load: batches from the pool's front that get smaller as it runs out. pytest-xdist's LoadScheduling: `schedule`
-- shares, and `check_schedule` refills a worker.
use Rattle.std.specs.Prelude.{ℕ, ◌-◌, ◌*◌, ◌/◌, min, max, Bool, not, ◌&&◌, nat_lt, nat_le, [], ◌∷◌, ◌++◌, length, if◌then◌else◌}
use Rattle.xd_run.specs.Table.{held, seat_shut, workers_of}
use Rattle.xd_run.specs.Plan.{chunk_of}
use Rattle.xd_run.specs.Turn.{Turn, enough, give_front, shut, in_turn, shut_where_empty}

-- a test that took that many milliseconds, or more, is slow
abbrev pub slow_ms : ℕ
slow_ms = 100

-- a worker is refilled below this part of its even share of the pool
abbrev pub low_part : ℕ
low_part = 4

-- and up to this part
abbrev pub high_part : ℕ
high_part = 2

-- below this many tests a worker gets more: `items_per_node_min`
abbrev pub low : ℕ → ℕ → ℕ
low pool workers = max enough (pool / workers / low_part)

-- and up to this many: `items_per_node_max`
abbrev pub high : ℕ → ℕ → ℕ
high pool workers = max enough (pool / workers / high_part)

-- how many more tests a worker gets, by how many it holds
abbrev pub more : ℕ → ℕ → ℕ → ℕ → ℕ
more pool workers chunk holds = min (high pool workers - holds) (max (enough - holds) chunk)

-- a worker that holds that many gets more; not where its last test was slow and it has enough
abbrev pub is_due : ℕ → ℕ → ℕ → ℕ → Bool
is_due pool workers holds ms = nat_lt holds (low pool workers) && not (nat_le slow_ms ms && nat_le enough holds)

-- the worker gets more tests from the pool's front, where it is due after a test that took `ms` milliseconds
abbrev pub topped_up : ℕ → ℕ → Turn → Turn
topped_up ms worker t =
    let pool = length t.table.pool in
    let workers = length (workers_of t.table) in
    let holds = length (held worker t.table) in
    if is_due pool workers holds ms then give_front worker (more pool workers (chunk_of t.plan) holds) t else t

-- a refill after a test that took `ms` milliseconds; where the pool is empty the worker is shut down
-- Example: after its fourth of 100 tests gw0, one of two workers, gets 24 to 34.
abbrev pub load_refill : ℕ → ℕ → Turn → Turn
load_refill ms worker t =
    if seat_shut worker t.table then t
    else (elim t.table.pool [ [] ↦ shut worker t | x ∷ xs ↦ topped_up ms worker t ])

-- everyone, in rota order
abbrev pub load_refill_all : Turn → Turn
load_refill_all t = in_turn (load_refill 0) (workers_of t.table) t

-- the first batch of each worker: `node_chunksize`
abbrev pub first_batch : ℕ → ℕ → ℕ → ℕ
first_batch tests workers chunk = max (min (tests / workers / low_part) chunk) enough

-- a shut worker gets nothing
abbrev pub give_unless_shut : ℕ → ℕ → Turn → Turn
give_unless_shut count worker t = if seat_shut worker t.table then t else give_front worker count t

-- fewer than two tests a worker are dealt singly, in two rounds at most
abbrev pub dealt_singly : Turn → Turn
dealt_singly t =
    let tests = length t.table.pool in
    let ws = workers_of t.table in
    if nat_lt tests (enough * length ws)
    then in_turn (give_unless_shut 1) (ws ++ ws) t
    else in_turn (give_unless_shut (first_batch tests (length ws) (chunk_of t.plan))) ws t

-- the share of the tests; everyone is shut down where it leaves the pool empty
-- Example: 100 tests on two workers give 0 to 11 and 12 to 23.
abbrev pub load_share : Turn → Turn
load_share t = shut_where_empty (dealt_singly t)
