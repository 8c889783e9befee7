-- Retries of crashed tests, and the plan after a death.
use Rattle.std.proofs.Common.{◌≡◌, ℕ, ◌-◌, List, [], ◌∷◌, ◌++◌, drop, length, refl, ap, sym, ◌∙◌, arith, Bool, true, false, append_assoc, length-append}
use Rattle.xd_run.specs.Books.{Books}
use Rattle.xd_ledger.specs.Calls.{death_plan, last_of}
use Rattle.xd_run.specs.Numbers.{times}
use Rattle.xd_run.specs.Plan.{Plan, total}
use Rattle.xd_run.specs.Retry.{is_retry, retries_first}
use Rattle.xd_run.specs.Sharing.{State}
use Rattle.xd_run.specs.Deaths.{after_down, down_books, down_plan}
use Rattle.xd_run.specs.Table.{all_items, held, retried_item}
use Rattle.xd_run_laws.specs.Called.{Reached}
use Rattle.xd_run_laws.proofs.Calls.{tidy-reached}
use Rattle.xd_run_laws.proofs.Counts.{empty-of_times}
use Rattle.xd_run_laws.proofs.Logic.{differ}
use Rattle.xd_run_laws.proofs.Placed.{due_times}
use Rattle.xd_run_laws.proofs.Places.{held-within, no-retried, times-table}
use Rattle.xd_run_laws.proofs.Unshared.{down-unshared}

-- whoever holds nothing brings no retry
pub no-retry : (w : ℕ) (b : Books) → held w b.table ≡ [] → is_retry w b ≡ false
no-retry w b h = ap (λ (hs : List ℕ). retries_first hs b) h

-- of the pool after a death the first item is the one that was retried, where one was

first-retried : (retry : Bool) (hs ys : List ℕ) → (hs ≡ [] → retry ≡ false) → retried_item retry (retried_item retry hs ++ ys) ≡ retried_item retry hs
first-retried false hs ys h = refl
first-retried true [] ys h = absurd (differ (sym (h refl)))
first-retried true (x ∷ hs) ys h = refl

-- and the last ones are those that came back

drop-front : (xs ys : List ℕ) → drop (length xs) (xs ++ ys) ≡ ys
drop-front [] ys = refl
drop-front (x ∷ xs) ys = drop-front xs ys

last-following : (xs ys : List ℕ) → last_of (length ys) (xs ++ ys) ≡ ys
last-following xs ys =
    let e : length (xs ++ ys) - length ys ≡ length xs = (let l = length-append xs ys in omega (arith, l)) in
    ap (λ n. drop n (xs ++ ys)) e ∙ drop-front xs ys

-- so the plan after it is known by the pool
pub plan-by-pool : (w : ℕ) (retry : Bool) (rest : ℕ) (b : Books) (p : Plan) → retry ≡ is_retry w b → rest ≡ length (drop 1 (held w b.table))
    → death_plan w retry rest (down_books w retry b).table.pool p ≡ down_plan w (retried_item retry (held w b.table)) (drop 1 (held w b.table)) p
plan-by-pool w retry rest b p r n =
    let hs = held w b.table in
    let front = retried_item retry hs in
    let pool = front ++ (b.table.pool ++ drop 1 hs) in
    let first : retried_item retry pool ≡ front = first-retried retry hs (b.table.pool ++ drop 1 hs) (λ e. r ∙ no-retry w b e) in
    let last : last_of rest pool ≡ drop 1 hs =
    ap (λ k. last_of k pool) n ∙ ap (λ (xs : List ℕ). last_of (length (drop 1 hs)) xs) (sym (append_assoc front b.table.pool (drop 1 hs))) ∙ last-following (front ++ b.table.pool) (drop 1 hs) in
    ap (λ xs. down_plan w xs (last_of rest pool) p) first ∙ ap (λ xs. down_plan w front xs p) last

-- before the share nobody holds anything, and a death leaves the plan

none-held : (s : State) (w : ℕ) → Reached s → s.books.shared ≡ false → held w s.books.table ≡ []
none-held s w r h =
    let t = s.books.table in
    let none : (x : ℕ) → times x (all_items t) ≡ 0 = λ x. (tidy-reached s r).placed.whole x ∙ ap (λ q. due_times x q (total s.plan)) h in
    empty-of_times (held w t) (λ x. (let a = none x in let b = times-table x t in let c = held-within x w t.rota in omega (arith, a, b, c)))

pub plan-unshared : (s : State) (w : ℕ) → Reached s → s.books.shared ≡ false → (after_down w s).plan ≡ s.plan
plan-unshared s w r h =
    let retry = is_retry w s.books in
    ap (λ (hs : List ℕ). down_plan w (retried_item retry hs) (drop 1 hs) s.plan) (none-held s w r h) ∙ ap (λ (xs : List ℕ). down_plan w xs [] s.plan) (no-retried retry) ∙ down-unshared s w [] r h
