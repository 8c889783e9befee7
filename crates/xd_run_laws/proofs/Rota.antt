-- The seats of a rota as one of them changes, one comes, or one goes.
use Rattle.std.proofs.Common.{◌≡◌, ℕ, ◌+◌, ◌≤◌, List, [], ◌∷◌, ◌++◌, map, Bool, true, false, not, ◌&&◌, ◌||◌, refl, arith}
use Rattle.std.specs.Prelude.{if◌then◌else◌, ◌==◌}
use Rattle.std.specs.List.{list_any}
use Rattle.std.proofs.lemmas.Bool.Decides.{nat_tests}
use Rattle.xd_run.specs.declared.seat.Seat.{Seat}
use Rattle.xd_run.specs.Numbers.{among}
use Rattle.xd_run.specs.Table.{at_seat, without_seat, held_in}

-- how many seats are the worker's
abbrev pub seats_of : ℕ → List Seat → ℕ
seats_of w [] = 0
seats_of w (s ∷ ss) = (if s.worker == w then 1 else 0) + seats_of w ss

abbrev pub has_seat : ℕ → List Seat → Bool
has_seat w ss = list_any (λ s. s.worker == w) ss

abbrev pub is_told : ℕ → List Seat → Bool
is_told w ss = list_any (λ s. if s.worker == w then s.shut else false) ss

pub one-of_seat : (w : ℕ) (ss : List Seat) → has_seat w ss ≡ true → 1 ≤ seats_of w ss
one-of_seat w [] h = cc
one-of_seat w (s ∷ ss) h = grind (arith, nat_tests, one-of_seat w ss)

pub none-of_seat : (w : ℕ) (ss : List Seat) → has_seat w ss ≡ false → seats_of w ss ≡ 0
none-of_seat w [] h = refl
none-of_seat w (s ∷ ss) h = grind (arith, nat_tests, none-of_seat w ss)

pub untold-of_seat : (w : ℕ) (ss : List Seat) → has_seat w ss ≡ false → is_told w ss ≡ false
untold-of_seat w [] h = refl
untold-of_seat w (s ∷ ss) h = grind (arith, nat_tests, untold-of_seat w ss)

-- who holds something has a seat
pub seat-of_held : (w : ℕ) (ss : List Seat) (x : ℕ) → among x (held_in w ss) ≡ true → has_seat w ss ≡ true
seat-of_held w [] x h = cc
seat-of_held w (s ∷ ss) x h = grind (arith, nat_tests, seat-of_held w ss x)

pub seat-among : (w : ℕ) (ss : List Seat) → has_seat w ss ≡ among w (map (λ s. s.worker) ss)
seat-among w [] = refl
seat-among w (s ∷ ss) = grind (arith, nat_tests, seat-among w ss)

-- a seat changes

pub workers-change : (w : ℕ) (f : Seat → Seat) (ss : List Seat) → ((s : Seat) → (f s).worker ≡ s.worker) → map (λ s. s.worker) (at_seat w f ss) ≡ map (λ s. s.worker) ss
workers-change w f [] k = refl
workers-change w f (s ∷ ss) k = grind (arith, nat_tests, workers-change w f ss k, k s)

pub seats-change : (v w : ℕ) (f : Seat → Seat) (ss : List Seat) → ((s : Seat) → (f s).worker ≡ s.worker) → seats_of v (at_seat w f ss) ≡ seats_of v ss
seats-change v w f [] k = refl
seats-change v w f (s ∷ ss) k = grind (arith, nat_tests, seats-change v w f ss k, k s)

pub seat-change : (v w : ℕ) (f : Seat → Seat) (ss : List Seat) → ((s : Seat) → (f s).worker ≡ s.worker) → has_seat v (at_seat w f ss) ≡ has_seat v ss
seat-change v w f [] k = refl
seat-change v w f (s ∷ ss) k = grind (arith, nat_tests, seat-change v w f ss k, k s)

pub told-change : (v w : ℕ) (f : Seat → Seat) (ss : List Seat) → ((s : Seat) → (f s).worker ≡ s.worker) → ((s : Seat) → (f s).shut ≡ s.shut)
    → is_told v (at_seat w f ss) ≡ is_told v ss
told-change v w f [] k l = refl
told-change v w f (s ∷ ss) k l = grind (arith, nat_tests, told-change v w f ss k l, k s, l s)

-- the worker is told, and each other's mark stays
pub told-shut : (v w : ℕ) (ss : List Seat) → is_told v (at_seat w (λ s. record s { shut = true }) ss) ≡ (if v == w then has_seat v ss else is_told v ss)
told-shut v w [] = grind (arith, nat_tests)
told-shut v w (s ∷ ss) = grind (arith, nat_tests, told-shut v w ss)

-- a worker goes

pub seat-left : (v w : ℕ) (ss : List Seat) → has_seat v (without_seat w ss) ≡ (not (v == w) && has_seat v ss)
seat-left v w [] = grind (arith, nat_tests)
seat-left v w (s ∷ ss) = grind (arith, nat_tests, seat-left v w ss)

pub told-left : (v w : ℕ) (ss : List Seat) → (v == w) ≡ false → is_told v (without_seat w ss) ≡ is_told v ss
told-left v w [] h = refl
told-left v w (s ∷ ss) h = grind (arith, nat_tests, told-left v w ss)

pub seats-left : (v w : ℕ) (ss : List Seat) → seats_of v (without_seat w ss) ≤ seats_of v ss
seats-left v w [] = omega arith
seats-left v w (s ∷ ss) = grind (arith, nat_tests, seats-left v w ss)

-- a worker comes

pub seat-joined : (v : ℕ) (ss : List Seat) (s : Seat) → has_seat v (ss ++ s ∷ []) ≡ (has_seat v ss || (s.worker == v))
seat-joined v [] s = grind (arith, nat_tests)
seat-joined v (x ∷ ss) s = grind (arith, nat_tests, seat-joined v ss s)

pub told-joined : (v : ℕ) (ss : List Seat) (s : Seat) → s.shut ≡ false → is_told v (ss ++ s ∷ []) ≡ is_told v ss
told-joined v [] s h = grind (arith, nat_tests, h)
told-joined v (x ∷ ss) s h = grind (arith, nat_tests, told-joined v ss s h)

pub seats-joined : (v : ℕ) (ss : List Seat) (s : Seat) → seats_of v (ss ++ s ∷ []) ≡ seats_of v ss + (if s.worker == v then 1 else 0)
seats-joined v [] s = omega arith
seats-joined v (x ∷ ss) s = omega (arith, seats-joined v ss s)
