-- The scope modes: one unit after another goes to a worker. pytest-xdist's LoadScopeScheduling: `schedule` shares,
-- `_assign_work_unit` hands out a unit, `_reschedule` refills a worker.
use Rattle.std.specs.Prelude.{ℕ, zero, suc, nat_lt, [], ◌∷◌, ◌++◌, length, take, drop, reverse, if◌then◌else◌}
use Rattle.xd_journal.specs.declared.entry.Entry.TheVariants.{Run}
use Rattle.xd_run.specs.Table.{held, seat_shut, workers_of, assigned}
use Rattle.xd_run.specs.Units.{unit_handed}
use Rattle.xd_run.specs.Turn.{Turn, enough, shut, in_turn, shut_each}

-- the worker gets the unit at the queue's front
abbrev pub give_unit : ℕ → Turn → Turn
give_unit worker t = elim t.plan.queue [
  | [] ↦ t
  | u ∷ us ↦ record {
    table = assigned worker u t.table;
    plan = unit_handed worker u t.plan;
    acts = t.acts ++ Run worker u ∷ [];
  }
]

-- further units while it holds fewer than it needs, at most n: each has a test, so as many as it needs are
-- enough. A choice of this project: no worker waits with one test while units are left.
abbrev pub give_more : ℕ → ℕ → Turn → Turn
give_more zero worker t = t
give_more (suc n) worker t = if nat_lt (length (held worker t.table)) enough then give_more n worker (give_unit worker t) else t

-- a worker that holds at most two tests gets a unit, and more until it has enough; where none waits it is shut down
abbrev pub scope_refill : ℕ → Turn → Turn
scope_refill worker t =
    if seat_shut worker t.table then t
    else (elim t.plan.queue [
      | [] ↦ shut worker t
      | u ∷ us ↦ (if nat_lt enough (length (held worker t.table)) then t else give_more enough worker (give_unit worker t))
    ])

-- everyone, in rota order
abbrev pub scope_refill_all : Turn → Turn
scope_refill_all t = in_turn scope_refill (workers_of t.table) t

-- everyone is shut down where no unit waits
abbrev pub shut_where_spent : Turn → Turn
shut_where_spent t = elim t.plan.queue [ [] ↦ shut_each (workers_of t.table) t | u ∷ us ↦ t ]

-- with fewer units than workers the last workers are shut down, from the end backwards; each other one gets a unit, and
-- then each of these is refilled
abbrev pub scope_share : Turn → Turn
scope_share t = elim t.table.pool [
  | [] ↦ t
  | x ∷ xs ↦
      (let k = length t.plan.queue in
      let ws = workers_of t.table in
      shut_where_spent (in_turn scope_refill (take k ws) (in_turn give_unit (take k ws) (shut_each (reverse (drop k ws)) t))))
]
