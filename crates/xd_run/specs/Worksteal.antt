-- Mode worksteal: the pool is dealt evenly, then idle workers get tests that others hold. pytest-xdist's
-- WorkStealingScheduling: one rule, `check_schedule`, runs at each of its calls.
use Rattle.std.specs.Prelude.{ℕ, ◌+◌, ◌-◌, ◌/◌, ◌==◌, min, max, not, ◌&&◌, nat_lt, List, [], ◌∷◌, ◌++◌, length, drop, map, filter, Option, Some, None, if◌then◌else◌}
use Rattle.xd_journal.specs.declared.entry.Entry.TheVariants.{Steal}
use Rattle.xd_run.specs.declared.seat.Seat.{Seat}
use Rattle.xd_run.specs.Table.{Table}
use Rattle.xd_run.specs.Plan.{with_open_steal}
use Rattle.xd_run.specs.Turn.{Turn, enough, give_front, shut_each}

-- a victim keeps at least this part of what it holds
abbrev pub kept_part : ℕ
kept_part = 2

-- the idle workers that may be told, in rota order
abbrev pub idle : Table → List ℕ
idle t = map (λ s. s.worker) (filter (λ s. not s.shut && nat_lt (length s.held) enough) t.rota)

-- the i-th of k idle workers gets the (k - i)-th part of what is then left, i from 0
abbrev pub dealt : List ℕ → Turn → Turn
dealt [] t = t
dealt (w ∷ ws) t = dealt ws (give_front w (length t.table.pool / (length ws + 1)) t)

-- the seats of those that may be told
abbrev pub open_seats : Table → List Seat
open_seats t = filter (λ s. not s.shut) t.rota

-- the most that one of them holds
abbrev pub most : List Seat → ℕ
most [] = 0
most (s ∷ ss) = max (length s.held) (most ss)

-- the first who holds that many
abbrev pub first_with : ℕ → List Seat → Option Seat
first_with n [] = None
first_with n (s ∷ ss) = if length s.held == n then Some s else first_with n ss

-- the worker that is asked: the first of those that hold most
abbrev pub victim : Table → Option Seat
victim t = first_with (most (open_seats t)) (open_seats t)

-- how many it is asked for: `num_steal`
abbrev pub steal_count : Seat → ℕ
steal_count s = min (length s.held / kept_part) (length s.held - enough)

-- it is asked for its last n
abbrev pub asks : Seat → ℕ → Turn → Turn
asks s n t =
    let tests = drop (length s.held - n) s.held in
    record t { plan = with_open_steal s.worker tests t.plan; acts = t.acts ++ Steal s.worker tests ∷ [] }

-- where nothing can be taken the idle workers are shut down
abbrev pub asks_or_shuts : List ℕ → Option Seat → Turn → Turn
asks_or_shuts ws None t = shut_each ws t
asks_or_shuts ws (Some s) t = if steal_count s == 0 then shut_each ws t else asks s (steal_count s) t

-- where someone is idle still and no steal is open, someone is asked
abbrev pub after_dealing : Turn → Turn
after_dealing t =
    elim (idle t.table) [ [] ↦ t | w ∷ ws ↦ (elim t.plan.steal [ None ↦ asks_or_shuts (w ∷ ws) (victim t.table) t | Some a ↦ t ]) ]

-- the rule: the idle workers get the pool, and where some are idle still they get what others hold
-- Example: gw1 holds 5 to 9 and gw0 is idle: gw1 is asked for 8 and 9; it gives none, then gives 9, and gw0 runs 9.
abbrev pub rule : Turn → Turn
rule t = elim (idle t.table) [ [] ↦ t | w ∷ ws ↦ after_dealing (dealt (w ∷ ws) t) ]

-- with no tests nothing is done
abbrev pub steal_share : Turn → Turn
steal_share t = elim t.table.pool [ [] ↦ t | x ∷ xs ↦ rule t ]
