-- What a mode's call finds: the plan that the mode stands for fits the table.
use Rattle.std.specs.Prelude.{◌≡◌, ℕ, true, nat_lt, List, [], ◌∷◌, ◌++◌, length, sum}
use Rattle.std.specs.List.{list_all, range_with_len}
use Rattle.xd_run.specs.Numbers.{all_among, all_distinct}
use Rattle.xd_run.specs.Table.{Table, workers_of}
use Rattle.xd_run.specs.Plan.{Plan, is_each, is_scope}
use Rattle.xd_run.specs.Orderly.{not_empty}
use Rattle.xd_run.specs.Modes.{ModeCall}
use Rattle.xd_run.specs.Modes.ModeCall.{Share}

-- the tests of these units
abbrev pub tests_of_units : List (List ℕ) → List ℕ
tests_of_units [] = []
tests_of_units (u ∷ us) = u ++ tests_of_units us

-- the units have tests of the pool alone, each once, and none is empty
-- Example: the unit of 0 and 1 with a pool of 1 alone suits no call.
pub record AreInPool (queue : List (List ℕ)) (pool : List ℕ) : Type 0 where
  pub distinct : all_distinct (tests_of_units queue) ≡ true
  pub within : all_among (tests_of_units queue) pool ≡ true
  pub filled : list_all not_empty queue ≡ true

-- all items are in the pool, in order, and each worker of the rota has a slot of its own
pub record CanShare (slots : List ℕ) (p : Plan) (t : Table) : Type 0 where
  pub pool : t.pool ≡ range_with_len 0 (sum p.sizes)
  pub each_has_one : length slots ≡ length (workers_of t)
  pub distinct : all_distinct slots ≡ true
  pub known : is_each p.mode ≡ true → list_all (λ s. nat_lt s (length p.sizes)) slots ≡ true

-- what a call finds of its own: the share finds tests that can be shared, and any other call nothing
abbrev pub CallSuits : ModeCall → Plan → Table → Type 0
CallSuits (Share slots) p t = CanShare slots p t
CallSuits _ p t = Unit {0}

-- no worker has two seats, no item stands twice in the pool, and where units of tests are handed out those that wait
-- are in the pool
pub record Finds (c : ModeCall) (p : Plan) (t : Table) : Type 0 where
  pub seats : all_distinct (workers_of t) ≡ true
  pub pool : all_distinct t.pool ≡ true
  pub queue : is_scope p.mode ≡ true → AreInPool p.queue t.pool
  pub call : CallSuits c p t

-- the mode stands for some plan that fits at this call, once what brings the call has changed it so
pub record Suits (c : ModeCall) (change : Plan → Plan) (t : Table) (stands : Plan → Type 0) : Type 0 where
  pub plan : Plan
  pub stands_for : stands plan
  pub finds : Finds c (change plan) t
