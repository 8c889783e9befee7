-- The turns of mode load are in order.
use Rattle.std.proofs.Common.{◌≡◌, ℕ, List, [], ◌∷◌, ◌++◌, length, false}
use Rattle.std.specs.Prelude.{nat_lt, ◌*◌}
use Rattle.xd_run.specs.Table.{seat_shut, held, workers_of}
use Rattle.xd_run.specs.Plan.{chunk_of}
use Rattle.xd_run.specs.Turn.{Turn, give_front, shut, in_turn}
use Rattle.xd_run.specs.Load.{is_due, more, topped_up, load_refill, load_refill_all, first_batch, give_unless_shut, dealt_singly, load_share}
use Rattle.xd_run.specs.Turn.{enough}
use Rattle.xd_run.specs.Sharing.{State}
use Rattle.xd_run_laws.proofs.Logic.{in_both}
use Rattle.xd_run_laws.proofs.Counts.{all_among-append}
use Rattle.xd_run_laws.proofs.Turns.{Good, InRota, IsPlain, rota-all, good-give_front, good-shut, good-shut_where_empty, in_turn-keeps}

good-topped_up : (s : State) (ms w : ℕ) (t : Turn) → IsPlain s.plan.mode → InRota s w → Good s t → seat_shut w t.table ≡ false → Good s (topped_up ms w t)
good-topped_up s ms w t plain a g unshut =
    let pool = length t.table.pool in
    let workers = length (workers_of t.table) in
    let holds = length (held w t.table) in
    let n = more pool workers (chunk_of t.plan) holds in
    in_both (Good s) (is_due pool workers holds ms) (give_front w n t) t (λ h. good-give_front s w n t plain a g unshut) (λ h. g)

refill-by : (s : State) (ms w : ℕ) (t : Turn) (pool : List ℕ) → IsPlain s.plan.mode → InRota s w → Good s t → seat_shut w t.table ≡ false
    → Good s (elim pool as (λ _. Turn) [ [] ↦ shut w t | x ∷ xs ↦ topped_up ms w t ])
refill-by s ms w t [] plain a g unshut = good-shut s w t a g
refill-by s ms w t (x ∷ xs) plain a g unshut = good-topped_up s ms w t plain a g unshut

pub good-refill : (s : State) (ms w : ℕ) (t : Turn) → IsPlain s.plan.mode → InRota s w → Good s t → Good s (load_refill ms w t)
good-refill s ms w t plain a g =
    in_both (Good s) (seat_shut w t.table) t (elim t.table.pool as (λ _. Turn) [ [] ↦ shut w t | x ∷ xs ↦ topped_up ms w t ]) (λ h. g) (λ h. refill-by s ms w t t.table.pool plain a g h)

pub good-refill_all : (s : State) (t : Turn) → IsPlain s.plan.mode → Good s t → Good s (load_refill_all t)
good-refill_all s t plain g =
    in_turn-keeps (Good s) (load_refill 0) (workers_of s.books.table) (λ w u a h. good-refill s 0 w u plain a h) (workers_of t.table) t (rota-all s t g) g

pub good-guarded : (s : State) (n w : ℕ) (t : Turn) → IsPlain s.plan.mode → InRota s w → Good s t → Good s (give_unless_shut n w t)
good-guarded s n w t plain a g = in_both (Good s) (seat_shut w t.table) t (give_front w n t) (λ h. g) (λ h. good-give_front s w n t plain a g h)

good-dealt : (s : State) (t : Turn) → IsPlain s.plan.mode → Good s t → Good s (dealt_singly t)
good-dealt s t plain g =
    let tests = length t.table.pool in
    let ws = workers_of t.table in
    let n = first_batch tests (length ws) (chunk_of t.plan) in
    let all = rota-all s t g in
    let step : (k w : ℕ) (u : Turn) → InRota s w → Good s u → Good s (give_unless_shut k w u) = λ k w u a h. good-guarded s k w u plain a h in
    in_both (Good s) (nat_lt tests (enough * length ws)) (in_turn (give_unless_shut 1) (ws ++ ws) t) (in_turn (give_unless_shut n) ws t)
    (λ h. in_turn-keeps (Good s) (give_unless_shut 1) (workers_of s.books.table) (step 1) (ws ++ ws) t (all_among-append ws ws (workers_of s.books.table) all all) g)
    (λ h. in_turn-keeps (Good s) (give_unless_shut n) (workers_of s.books.table) (step n) ws t all g)

pub good-share : (s : State) (t : Turn) → IsPlain s.plan.mode → Good s t → Good s (load_share t)
good-share s t plain g = good-shut_where_empty s (dealt_singly t) (good-dealt s t plain g)
