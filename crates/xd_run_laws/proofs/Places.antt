-- Each move of the table keeps every item once.
use Rattle.std.proofs.Common.{◌≡◌, ℕ, ◌+◌, ◌≤◌, List, [], ◌∷◌, ◌++◌, drop, Bool, true, false, refl, ap, arith}
use Rattle.std.proofs.lemmas.Bool.Decides.{nat_tests}
use Rattle.xd_run.specs.declared.seat.Seat.{Seat}
use Rattle.xd_run.specs.Numbers.{among, without, all_distinct, all_among, times}
use Rattle.xd_run.specs.Table.{Table, crash_item, held, held_in, held_by_all, all_items, retried_item, assigned, completed, given_back, left_rota, died, joined, at_seat, without_seat}
use Rattle.xd_run_laws.proofs.Counts.{times-append, times-without, times-distinct, times-cut, among-times, among_of-all_among}
use Rattle.xd_run_laws.proofs.Rota.{seats_of}

-- every item stands in one place at most
abbrev pub AtMostOnce : Table → Type 0
AtMostOnce t = (x : ℕ) → times x (all_items t) ≤ 1

pub times-table : (x : ℕ) (t : Table) → times x (all_items t) ≡ times x t.pool + (times x (held_by_all t.rota) + times x t.reported)
times-table x t = omega (arith, times-append x t.pool (held_by_all t.rota ++ t.reported), times-append x (held_by_all t.rota) t.reported)

held-no_seat : (x w : ℕ) (f : Seat → Seat) (ss : List Seat) → seats_of w ss ≡ 0 → times x (held_by_all (at_seat w f ss)) ≡ times x (held_by_all ss)
held-no_seat x w f [] h = refl
held-no_seat x w f (s ∷ ss) h = grind (arith, nat_tests, held-no_seat x w f ss, times-append x s.held (held_by_all ss), times-append x s.held (held_by_all (at_seat w f ss)))

held-more : (x w : ℕ) (items : List ℕ) (ss : List Seat) → seats_of w ss ≡ 1
    → times x (held_by_all (at_seat w (λ s. record s { held = s.held ++ items }) ss)) ≡ times x (held_by_all ss) + times x items
held-more x w items [] h = absurd (omega arith)
held-more x w items (s ∷ ss) h =
    grind (arith, nat_tests, held-more x w items ss, held-no_seat x w (λ s. record s { held = s.held ++ items }) ss, times-append)

held-fewer : (x w : ℕ) (items : List ℕ) (ss : List Seat) → seats_of w ss ≡ 1
    → times x (held_by_all (at_seat w (λ s. record s { held = without items s.held }) ss)) + times x (held_in w ss) ≡ times x (held_by_all ss) + times x (without items (held_in w ss))
held-fewer x w items [] h = absurd (omega arith)
held-fewer x w items (s ∷ ss) h =
    grind (arith, nat_tests, held-fewer x w items ss, held-no_seat x w (λ s. record s { held = without items s.held }) ss, times-append)

pub held-within : (x w : ℕ) (ss : List Seat) → times x (held_in w ss) ≤ times x (held_by_all ss)
held-within x w [] = omega arith
held-within x w (s ∷ ss) = grind (arith, nat_tests, held-within x w ss, times-append x s.held (held_by_all ss))

held-but_none : (x w : ℕ) (ss : List Seat) → seats_of w ss ≡ 0 → times x (held_by_all (without_seat w ss)) ≡ times x (held_by_all ss)
held-but_none x w [] h = refl
held-but_none x w (s ∷ ss) h = grind (arith, nat_tests, held-but_none x w ss, times-append)

held-but_one : (x w : ℕ) (ss : List Seat) → seats_of w ss ≤ 1 → times x (held_by_all (without_seat w ss)) + times x (held_in w ss) ≡ times x (held_by_all ss)
held-but_one x w [] h = refl
held-but_one x w (s ∷ ss) h = grind (arith, nat_tests, held-but_one x w ss, held-but_none x w ss, times-append)

held-joined : (x : ℕ) (ss : List Seat) (s : Seat) → s.held ≡ [] → times x (held_by_all (ss ++ s ∷ [])) ≡ times x (held_by_all ss)
held-joined x [] s h = grind (arith, nat_tests, times-append x s.held [], h)
held-joined x (y ∷ ss) s h = omega (arith, held-joined x ss s h, times-append x y.held (held_by_all ss), times-append x y.held (held_by_all (ss ++ s ∷ [])))

held-shut : (w : ℕ) (ss : List Seat) → held_by_all (at_seat w (λ s. record s { shut = true }) ss) ≡ held_by_all ss
held-shut w [] = refl
held-shut w (s ∷ ss) = grind (arith, nat_tests, held-shut w ss)

-- the moves

pub assigned-keeps : (x w : ℕ) (items : List ℕ) (t : Table) → AtMostOnce t → seats_of w t.rota ≡ 1 → all_distinct items ≡ true → all_among items t.pool ≡ true
    → times x (all_items (assigned w items t)) ≡ times x (all_items t)
assigned-keeps x w items t once seat distinct within =
    grind (arith, nat_tests, once x, times-table x t, times-table x (assigned w items t), held-more x w items t.rota seat, times-without x items t.pool, times-distinct x items distinct, among_of-all_among x items t.pool within, among-times x t.pool)

pub completed-keeps : (x w item : ℕ) (t : Table) → AtMostOnce t → seats_of w t.rota ≡ 1 → among item (held w t) ≡ true
    → times x (all_items (completed w item t)) ≡ times x (all_items t)
completed-keeps x w item t once seat holds =
    grind (arith, nat_tests, once x, times-table x t, times-table x (completed w item t), held-fewer x w (item ∷ []) t.rota seat, times-without x (item ∷ []) (held w t), times-append x t.reported (item ∷ []), held-within x w t.rota, among-times item (held w t) holds)

pub given_back-keeps : (x w : ℕ) (items : List ℕ) (t : Table) → AtMostOnce t → seats_of w t.rota ≡ 1 → all_distinct items ≡ true → all_among items (held w t) ≡ true
    → times x (all_items (given_back w items t)) ≡ times x (all_items t)
given_back-keeps x w items t once seat distinct within =
    grind (arith, nat_tests, once x, times-table x t, times-table x (given_back w items t), held-fewer x w items t.rota seat, times-without x items (held w t), times-append x t.pool items, held-within x w t.rota, times-distinct x items distinct, among_of-all_among x items (held w t) within, among-times x (held w t))

pub none_back-keeps : (x w : ℕ) (t : Table) → seats_of w t.rota ≡ 0 → times x (all_items (given_back w [] t)) ≡ times x (all_items t)
none_back-keeps x w t h =
    omega (arith, times-table x t, times-table x (given_back w [] t), held-no_seat x w (λ s. record s { held = without [] s.held }) t.rota h, times-append x t.pool [])

-- the items of a worker that goes are the head, which is tried again or is not, and the rest
pub times-apart : (x : ℕ) (retry : Bool) (xs : List ℕ) → times x (retried_item retry xs) + (times x (crash_item retry xs) + times x (drop 1 xs)) ≡ times x xs
times-apart x true xs = omega (arith, times-cut x xs)
times-apart x false xs = omega (arith, times-cut x xs)

-- where nothing is held nothing is tried again, and nothing crashes

pub no-retried : (retry : Bool) → retried_item retry [] ≡ []
no-retried true = refl
no-retried false = refl

pub no-crash : (retry : Bool) → crash_item retry [] ≡ []
no-crash true = refl
no-crash false = refl

pub died-keeps : (x w : ℕ) (retry : Bool) (t : Table) → seats_of w t.rota ≤ 1 → times x (all_items (died w retry t)) ≡ times x (all_items t)
died-keeps x w retry t seat =
    let items = held w t in
    omega (
      arith,
      times-table x t,
      times-table x (died w retry t),
      held-but_one x w t.rota seat,
      times-apart x retry items,
      times-append x (retried_item retry items) (t.pool ++ drop 1 items),
      times-append x t.pool (drop 1 items),
      times-append x t.reported (crash_item retry items),
    )

-- a worker that holds nothing leaves
pub left-keeps : (x w : ℕ) (t : Table) → seats_of w t.rota ≤ 1 → held w t ≡ [] → times x (all_items (left_rota w t)) ≡ times x (all_items t)
left-keeps x w t seat none =
    let z : times x (held_in w t.rota) ≡ 0 = ap (λ (xs : List ℕ). times x xs) none in
    omega (arith, held-but_one x w t.rota seat, z, times-table x t, times-table x (left_rota w t))

pub joined-keeps : (x w : ℕ) (t : Table) → times x (all_items (joined w t)) ≡ times x (all_items t)
joined-keeps x w t =
    let j = held-joined x t.rota (record { worker = w; held = []; shut = false }) refl in
    omega (arith, times-table x t, times-table x (joined w t), j)

pub shut-keeps : (x w : ℕ) (t : Table) → times x (t.pool ++ (held_by_all (at_seat w (λ s. record s { shut = true }) t.rota) ++ t.reported)) ≡ times x (all_items t)
shut-keeps x w t = ap (λ (hs : List ℕ). times x (t.pool ++ (hs ++ t.reported))) (held-shut w t.rota)
