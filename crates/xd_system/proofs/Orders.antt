-- One order more, to a worker whose line is known.
use Rattle.std.proofs.Common.{◌≡◌, ℕ, ◌+◌, ◌≤◌, ◌<◌, List, [], ◌∷◌, ◌++◌, Bool, true, false, not, ◌&&◌, ◌||◌, refl, ap, sym, ◌∙◌, arith, inl, inr}
use Rattle.std.specs.Prelude.{nat_lt, if◌then◌else◌}
use Rattle.std.specs.List.{list_any, range_with_len}
use Rattle.std.proofs.lemmas.Bool.Decides.{nat_tests}
use Rattle.std.proofs.lemmas.List.Folds.{list_any-append}
use Rattle.xd_commands.specs.declared.order.Order.{Order}
use Rattle.xd_run.specs.declared.seat.Seat.{Seat}
use Rattle.xd_run.specs.Numbers.{among, times}
use Rattle.xd_run.specs.Plan.{total}
use Rattle.xd_run.specs.Sharing.{State}
use Rattle.xd_run.specs.Table.{Table, all_items, at_seat, held, held_in}
use Rattle.xd_run_laws.proofs.Counts.{among-times, times-after_range}
use Rattle.xd_run_laws.proofs.Logic.{and, cases_of, differ, split-and}
use Rattle.xd_run_laws.proofs.Placed.{Placed, at_most_once}
use Rattle.xd_run_laws.proofs.Places.{held-within, times-table}
use Rattle.xd_run_laws.proofs.Rota.{has_seat}
use Rattle.xd_system.specs.LineGiven.{answers_left, are_fair, line_given, is_none_left, is_shutdown, line_after, marks_last, may_be_told}
use Rattle.xd_system.proofs.Lines.{left_of}

-- one order more

pub fair-more : (size : ℕ) (line : List ℕ) (R : List Order) (o : Order) (backs : List (List ℕ))
    → are_fair size line R backs ≡ true → may_be_told size (line_given size line R backs) o (left_of R backs) ≡ true
    → are_fair size line (R ++ o ∷ []) backs ≡ true
fair-more size line [] o backs f h = and h refl
fair-more size line (p ∷ R) o backs f h =
    let q = split-and (may_be_told size line p backs) (are_fair size (line_after size line p backs) R (answers_left p backs)) f in
    and q.0 (fair-more size (line_after size line p backs) R o (answers_left p backs) q.1 h)

pub marks-more : (R : List Order) (o : Order) → list_any is_shutdown R ≡ false → marks_last (R ++ o ∷ []) ≡ true
marks-more [] o h = one (is_shutdown o)
  where
    one : (b : Bool) → ((not b || true) && true) ≡ true
    one true = refl
    one false = refl
marks-more (p ∷ R) o h =
    let none : is_shutdown p ≡ false = first (is_shutdown p) (list_any is_shutdown R) h in
    let rest : list_any is_shutdown R ≡ false = second (is_shutdown p) (list_any is_shutdown R) h in
    and (ap (λ (b : Bool). not b || is_none_left (R ++ o ∷ [])) none) (marks-more R o rest)
  where
    first : (a b : Bool) → (a || b) ≡ false → a ≡ false
    first true b k = absurd (differ (sym k))
    first false b k = refl

    second : (a b : Bool) → (a || b) ≡ false → b ≡ false
    second true b k = absurd (differ (sym k))
    second false b k = k

pub shut-same : (R : List Order) (o : Order) → is_shutdown o ≡ false
    → list_any is_shutdown (R ++ o ∷ []) ≡ list_any is_shutdown R
shut-same R o h = list_any-append is_shutdown R (o ∷ []) ∙ ap (λ (b : Bool). list_any is_shutdown R || (b || false)) h
    ∙ none (list_any is_shutdown R)
  where
    none : (b : Bool) → (b || false) ≡ b
    none true = refl
    none false = refl

-- seats

pub held-grown : (w : ℕ) (items : List ℕ) (ss : List Seat) → has_seat w ss ≡ true
    → held_in w (at_seat w (λ s. record s { held = s.held ++ items }) ss) ≡ held_in w ss ++ items
held-grown w items [] h = absurd (differ h)
held-grown w items (s ∷ ss) h = grind (arith, nat_tests, held-grown w items ss, h)

-- where tests stand

pub in-pool : (x : ℕ) (t : Table) → among x t.pool ≡ true → 1 ≤ times x t.pool
in-pool x t h = among-times x t.pool h

pub apart-pool : (s : State) (w x : ℕ) → Placed s → among x s.books.table.pool ≡ true
    → (among x (held w s.books.table) ≡ false) × (among x s.books.table.reported ≡ false)
apart-pool s w x k h =
    let t = s.books.table in
    let once = at_most_once s k x in
    let here = among-times x t.pool h in
    (none (held w t) (omega (arith, once, here, times-table x t, held-within x w t.rota)), none t.reported (omega (arith, once, here, times-table x t)))
  where
    none : (xs : List ℕ) → times x xs ≡ 0 → among x xs ≡ false
    none xs z = elim (cases_of (among x xs)) [ inl a ↦ absurd (let m = among-times x xs a in omega (arith, m, z)) | inr a ↦ a ]

-- an item of the pool is one of the run
pub low-pool : (s : State) (x : ℕ) → Placed s → s.books.shared ≡ true → among x s.books.table.pool ≡ true
    → x < total s.plan
low-pool s x k shared h = elim (cases_of (nat_lt x (total s.plan))) [
  | inl a ↦ grind (arith, nat_tests, a)
  | inr a ↦ (let e : times x (all_items s.books.table) ≡ times x (range_with_len 0 (total s.plan)) = k.whole x ∙ ap (λ (b : Bool). if b then times x (range_with_len 0 (total s.plan)) else 0) shared in
      let high : 0 + total s.plan ≤ x = grind (arith, nat_tests, a) in
      absurd (omega (arith, e, times-after_range x 0 (total s.plan) high, times-table x s.books.table, among-times x s.books.table.pool h)))
]
