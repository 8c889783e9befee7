-- Steps of mode load keep the rota's workers.
use Rattle.std.proofs.Common.{◌≡◌, sym, ◌*◌, nat_lt, ℕ, ◌<◌, List, [], ◌∷◌, ◌++◌, take, length, Bool, true, false, refl, ap, ◌∙◌, arith}
use Rattle.std.specs.Prelude.{if◌then◌else◌, Some, None}
use Rattle.std.proofs.lemmas.Bool.Decides.{nat_tests}
use Rattle.xd_run.specs.Table.{workers_of, seat_shut, held}
use Rattle.xd_edge.specs.declared.mode.ModeKind.TheVariants.{Load}
use Rattle.xd_load.specs.Stands.{InChunks}
use Rattle.xd_run.specs.Plan.{Plan, chunk_of}
use Rattle.xd_run.specs.Turn.{Turn, in_turn, give_front, shut}
use Rattle.xd_run.specs.Load.{load_refill, topped_up, more, is_due, give_unless_shut, dealt_singly}
use Rattle.xd_run.proofs.Turns.{workers-give, workers-shut_turn, in_turn-append}

pub workers-topped_up : (ms w : ℕ) (t : Turn) → workers_of (topped_up ms w t).table ≡ workers_of t.table
workers-topped_up ms w t =
    let holds = length (held w t.table) in
    let pool = length t.table.pool in
    let ws = length (workers_of t.table) in
    let n = more pool ws (chunk_of t.plan) holds in
    let P : Bool → Type 0 = λ b. workers_of (if b then give_front w n t else t).table ≡ workers_of t.table in
    elim (is_due pool ws holds ms) as P [ true ↦ workers-give w (take n t.table.pool) t | false ↦ refl ]

pub workers-refill_by : (ms w : ℕ) (t : Turn) (pool : List ℕ) (b : Bool)
    → workers_of (if b then t else (elim pool as (λ _. Turn) [ [] ↦ shut w t | x ∷ xs ↦ topped_up ms w t ])).table ≡ workers_of t.table
workers-refill_by ms w t pool true = refl
workers-refill_by ms w t [] false = workers-shut_turn w t
workers-refill_by ms w t (x ∷ xs) false = workers-topped_up ms w t

pub workers-refill : (ms w : ℕ) (t : Turn) → workers_of (load_refill ms w t).table ≡ workers_of t.table
workers-refill ms w t = workers-refill_by ms w t t.table.pool (seat_shut w t.table)

-- some plan of mode load
abbrev pub load_plan : ℕ → Plan
load_plan chunk = record { mode = Load; chunk = Some chunk; reorder = true; sizes = []; queue = []; given = []; steal = None }

pub load_plan-stands : (chunk : ℕ) → InChunks chunk (load_plan chunk)
load_plan-stands chunk = record { mode = refl; chunk = refl }

pub workers-give_unless_by : (n w : ℕ) (t : Turn) (b : Bool) → workers_of (if b then t else give_front w n t).table ≡ workers_of t.table
workers-give_unless_by n w t true = refl
workers-give_unless_by n w t false = workers-give w (take n t.table.pool) t

pub workers-give_unless : (n w : ℕ) (t : Turn) → workers_of (give_unless_shut n w t).table ≡ workers_of t.table
workers-give_unless n w t = workers-give_unless_by n w t (seat_shut w t.table)

pub dealt-few : (t : Turn) → length t.table.pool < 2 * length (workers_of t.table) → dealt_singly t ≡ in_turn (give_unless_shut 1) (workers_of t.table ++ workers_of t.table) t
dealt-few t h =
    let k : nat_lt (length t.table.pool) (2 * length (workers_of t.table)) ≡ true = grind (arith, nat_tests) in
    rw k

pub dealt-twice : (t u v : Turn) → length t.table.pool < 2 * length (workers_of t.table) → u ≡ in_turn (give_unless_shut 1) (workers_of t.table) t → workers_of u.table ≡ workers_of t.table → v ≡ in_turn (give_unless_shut 1) (workers_of u.table) u → v ≡ dealt_singly t
dealt-twice t u v h a same b =
    let k = in_turn-append (give_unless_shut 1) (workers_of t.table) (workers_of t.table) t in
    let m = dealt-few t h in
    let c : in_turn (give_unless_shut 1) (workers_of u.table) u ≡ in_turn (give_unless_shut 1) (workers_of t.table) u = ap (λ ws. in_turn (give_unless_shut 1) ws u) same in
    let d : in_turn (give_unless_shut 1) (workers_of t.table) u ≡ in_turn (give_unless_shut 1) (workers_of t.table) (in_turn (give_unless_shut 1) (workers_of t.table) t) = ap (in_turn (give_unless_shut 1) (workers_of t.table)) a in
    b ∙ c ∙ d ∙ sym k ∙ sym m
