-- What the rota tells of the worker at a place.
use Rattle.std.proofs.Common.{◌≡◌, ℕ, zero, suc, ◌+◌, ◌<◌, List, [], ◌∷◌, ◌++◌, append_assoc, drop, length, get_or, map, max, nat_lt, Bool, true, false, not, ◌&&◌, refl, ap, sym, subst, ◌∙◌, arith}
use Rattle.std.specs.Prelude.{if◌then◌else◌, ◌==◌, filter, Option, Some, option_map}
use Rattle.std.specs.List.{list_any}
use Rattle.std.proofs.lemmas.Bool.Decides.{nat_tests}
use Rattle.std.proofs.lemmas.List.{length-map}
use Rattle.xd_run.specs.declared.seat.Seat.{Seat}
use Rattle.xd_run.specs.Numbers.{among, all_among, all_distinct}
use Rattle.xd_run.specs.Table.{Table, workers_of, in_rota, seat_shut, held, held_in}
use Rattle.xd_run.specs.Worksteal.{idle, most, first_with}
use Rattle.xd_run.specs.Turn.{enough}

among-get : (xs : List ℕ) (k : ℕ) → k < length xs → among (get_or xs k 0) xs ≡ true
among-get [] k h = absurd (omega arith)
among-get (x ∷ xs) zero h = grind (arith, nat_tests)
among-get (x ∷ xs) (suc k) h = grind (arith, nat_tests, among-get xs k)

shut-none : (w : ℕ) (ss : List Seat) → among w (map (λ s. s.worker) ss) ≡ false → list_any (λ s. if s.worker == w then s.shut else false) ss ≡ false
shut-none w [] h = refl
shut-none w (s ∷ ss) h = grind (arith, nat_tests, shut-none w ss)

-- the seat at this place is the worker's
pub record SeatAt (w k : ℕ) (ss : List Seat) : Type 0 where
  pub seat : Seat
  pub named : seat.worker ≡ w
  pub follows : drop k ss ≡ seat ∷ drop (k + 1) ss
  pub shut : list_any (λ s. if s.worker == w then s.shut else false) ss ≡ seat.shut
  pub holds : held_in w ss ≡ seat.held

apart : (w v : ℕ) (vs : List ℕ) → among w vs ≡ true → not (among v vs) ≡ true → (v == w) ≡ false
apart w v vs a n = grind (arith, nat_tests)

seat_in : (w k : ℕ) (ss : List Seat) → all_distinct (map (λ s. s.worker) ss) ≡ true → k < length ss → get_or (map (λ s. s.worker) ss) k 0 ≡ w → SeatAt w k ss
seat_in w k [] d h e = absurd (omega arith)
seat_in w zero (s ∷ ss) d h e =
    let none : among w (map (λ s. s.worker) ss) ≡ false = grind (arith, nat_tests) in
    let k = shut-none w ss none in
    record { seat = s; named = e; follows = refl; shut = grind (arith, nat_tests); holds = grind (arith, nat_tests) }
seat_in w (suc k) (s ∷ ss) d h e =
    let ws : List ℕ = map (λ s. s.worker) ss in
    let rest : all_distinct ws ≡ true = grind (arith, nat_tests) in
    let r = seat_in w k ss rest (omega arith) e in
    let lt : k < length ws = omega (arith, length-map ss (λ s. s.worker)) in
    let a : among w ws ≡ true = subst (λ v. among v ws ≡ true) e (among-get ws k lt) in
    let n : not (among s.worker ws) ≡ true = grind (arith, nat_tests) in
    let f : (s.worker == w) ≡ false = apart w s.worker ws a n in
    let j : suc k + 1 ≡ suc (k + 1) = omega arith in
    record {
      seat = r.seat;
      named = r.named;
      follows = r.follows ∙ ap (λ i. r.seat ∷ drop i (s ∷ ss)) (sym j);
      shut = grind (arith, nat_tests, r.shut);
      holds = grind (arith, nat_tests, r.holds);
    }

seat_at : (t : Table) (w k : ℕ) → all_distinct (workers_of t) ≡ true → k < length (workers_of t) → w ≡ get_or (workers_of t) k 0 → SeatAt w k t.rota
seat_at t w k d h e = seat_in w k t.rota d (omega (arith, length-map t.rota (λ s. s.worker))) (sym e)

-- who is idle among these seats
abbrev pub idle_in : List Seat → List ℕ
idle_in ss = map (λ s. s.worker) (filter (λ s. not s.shut && nat_lt (length s.held) enough) ss)

abbrev pub open_in : List Seat → List Seat
open_in ss = filter (λ s. not s.shut) ss

idle-next : (t : Table) (w k : ℕ) → all_distinct (workers_of t) ≡ true → k < length (workers_of t) → w ≡ get_or (workers_of t) k 0
    → idle_in (drop k t.rota) ≡ (if not (seat_shut w t) && nat_lt (length (held w t)) enough then w ∷ idle_in (drop (k + 1) t.rota) else idle_in (drop (k + 1) t.rota))
idle-next t w k d h e =
    let r = seat_at t w k d h e in
    ap idle_in r.follows ∙ (let a = r.shut in let b = r.holds in let c = r.named in grind (arith, nat_tests))

-- a worker more was looked at
pub idle-more : (t : Table) (w k : ℕ) (b : Bool) (old now : List ℕ) → all_distinct (workers_of t) ≡ true → k < length (workers_of t) → w ≡ get_or (workers_of t) k 0
    → b ≡ (not (seat_shut w t) && nat_lt (length (held w t)) enough) → old ++ idle_in (drop k t.rota) ≡ idle t → now ≡ (if b then old ++ w ∷ [] else old)
    → now ++ idle_in (drop (k + 1) t.rota) ≡ idle t
idle-more t w k true old now d h e b i n =
    let r = idle-next t w k d h e ∙ ap (λ (b : Bool). if b then w ∷ idle_in (drop (k + 1) t.rota) else idle_in (drop (k + 1) t.rota)) (sym b) in
    ap (λ xs. xs ++ idle_in (drop (k + 1) t.rota)) n ∙ append_assoc old (w ∷ []) (idle_in (drop (k + 1) t.rota)) ∙ ap (λ xs. old ++ xs) (sym r) ∙ i
idle-more t w k false old now d h e b i n =
    let r = idle-next t w k d h e ∙ ap (λ (b : Bool). if b then w ∷ idle_in (drop (k + 1) t.rota) else idle_in (drop (k + 1) t.rota)) (sym b) in
    ap (λ xs. xs ++ idle_in (drop (k + 1) t.rota)) n ∙ ap (λ xs. old ++ xs) (sym r) ∙ i

most-next : (t : Table) (w k : ℕ) → all_distinct (workers_of t) ≡ true → k < length (workers_of t) → w ≡ get_or (workers_of t) k 0
    → most (open_in (drop k t.rota)) ≡ max (if seat_shut w t then 0 else length (held w t)) (most (open_in (drop (k + 1) t.rota)))
most-next t w k d h e =
    let r = seat_at t w k d h e in
    ap (λ ss. most (open_in ss)) r.follows ∙ (let a = r.shut in let b = r.holds in let c = r.named in grind (arith, nat_tests))

-- who is the first that holds n
abbrev pub first_in : ℕ → List Seat → Option ℕ
first_in n ss = option_map (λ s. s.worker) (first_with n (open_in ss))

first-next : (t : Table) (n w k : ℕ) → all_distinct (workers_of t) ≡ true → k < length (workers_of t) → w ≡ get_or (workers_of t) k 0
    → first_in n (drop k t.rota) ≡ (if not (seat_shut w t) && (length (held w t) == n) then Some w else first_in n (drop (k + 1) t.rota))
first-next t n w k d h e =
    let r = seat_at t w k d h e in
    ap (first_in n) r.follows ∙ (let a = r.shut in let b = r.holds in let c = r.named in grind (arith, nat_tests))

max-swap : (h m r : ℕ) → max (max h m) r ≡ max m (max h r)
max-swap h m r = omega arith

pub most-more : (t : Table) (w k h old now : ℕ) → all_distinct (workers_of t) ≡ true → k < length (workers_of t) → w ≡ get_or (workers_of t) k 0
    → h ≡ (if seat_shut w t then 0 else length (held w t)) → max old (most (open_in (drop k t.rota))) ≡ most (open_in t.rota) → now ≡ max h old
    → max now (most (open_in (drop (k + 1) t.rota))) ≡ most (open_in t.rota)
most-more t w k h old now d lt e is i n =
    let r = most-next t w k d lt e ∙ ap (λ m. max m (most (open_in (drop (k + 1) t.rota)))) (sym is) in
    ap (λ m. max m (most (open_in (drop (k + 1) t.rota)))) n ∙ max-swap h old (most (open_in (drop (k + 1) t.rota))) ∙ ap (max old) (sym r) ∙ i

pub first-more : (t : Table) (n w k : ℕ) (b : Bool) → all_distinct (workers_of t) ≡ true → k < length (workers_of t) → w ≡ get_or (workers_of t) k 0
    → b ≡ (not (seat_shut w t) && (length (held w t) == n)) → first_in n (drop k t.rota) ≡ (if b then Some w else first_in n (drop (k + 1) t.rota))
first-more t n w k b d h e is = first-next t n w k d h e ∙ ap (λ (b : Bool). if b then Some w else first_in n (drop (k + 1) t.rota)) (sym is)

-- idle workers are in the rota

among-later : (x : ℕ) (xs ys : List ℕ) → all_among xs ys ≡ true → all_among xs (x ∷ ys) ≡ true
among-later x [] ys h = refl
among-later x (z ∷ zs) ys h = grind (arith, nat_tests, among-later x zs ys)

idle-among : (ss : List Seat) → all_among (idle_in ss) (map (λ s. s.worker) ss) ≡ true
idle-among [] = refl
idle-among (s ∷ ss) =
    let a = among-later s.worker (idle_in ss) (map (λ s. s.worker) ss) (idle-among ss) in
    grind (arith, nat_tests)

pub idle_seated : (t : Table) → all_among (idle t) (workers_of t) ≡ true
idle_seated t = idle-among t.rota

any-among : (w : ℕ) (ss : List Seat) → among w (map (λ s. s.worker) ss) ≡ true → list_any (λ s. s.worker == w) ss ≡ true
any-among w [] h = cc
any-among w (s ∷ ss) h = grind (arith, nat_tests, any-among w ss)

among-at : (ws vs : List ℕ) (i : ℕ) → all_among ws vs ≡ true → i < length ws → among (get_or ws i 0) vs ≡ true
among-at [] vs i a h = absurd (omega arith)
among-at (w ∷ ws) vs zero a h = grind (arith, nat_tests)
among-at (w ∷ ws) vs (suc i) a h = grind (arith, nat_tests, among-at ws vs i)

pub seated_at : (ws : List ℕ) (t u : Table) (i : ℕ) → all_among ws (workers_of t) ≡ true → workers_of u ≡ workers_of t → i < length ws → in_rota (get_or ws i 0) u ≡ true
seated_at ws t u i a s h = any-among (get_or ws i 0) u.rota (ap (among (get_or ws i 0)) s ∙ among-at ws (workers_of t) i a h)

-- the seat of whoever is first to hold n
pub record FirstIs (w : ℕ) (found : Option Seat) (ss : List Seat) : Type 0 where
  pub seat : Seat
  pub is : found ≡ Some seat
  pub named : seat.worker ≡ w
  pub seated : list_any (λ s. s.worker == w) ss ≡ true
  pub holds : held_in w ss ≡ seat.held

later-among : (w : ℕ) (ss : List Seat) → list_any (λ s. s.worker == w) ss ≡ true → among w (map (λ s. s.worker) ss) ≡ true
later-among w [] h = cc
later-among w (s ∷ ss) h = grind (arith, nat_tests, later-among w ss)

first-later : (w : ℕ) (found : Option Seat) (s : Seat) (ss : List Seat) → all_distinct (map (λ s. s.worker) (s ∷ ss)) ≡ true → FirstIs w found ss → FirstIs w found (s ∷ ss)
first-later w found s ss d r =
    let ws : List ℕ = map (λ s. s.worker) ss in
    let n : not (among s.worker ws) ≡ true = grind (arith, nat_tests) in
    let f : (s.worker == w) ≡ false = apart w s.worker ws (later-among w ss r.seated) n in
    record { seat = r.seat; is = r.is; named = r.named; seated = grind (arith, nat_tests, r.seated); holds = grind (arith, nat_tests, r.holds) }

first-here : (n w : ℕ) (b : Bool) (s : Seat) (ss : List Seat) (rest : Option Seat) → Some w ≡ option_map (λ s. s.worker) (if b then Some s else rest)
    → (Some w ≡ option_map (λ s. s.worker) rest → FirstIs w rest (s ∷ ss)) → FirstIs w (if b then Some s else rest) (s ∷ ss)
first-here n w true s ss rest h f =
    let e : s.worker ≡ w = cc in
    let same : (s.worker == w) ≡ true = grind (arith, nat_tests) in
    record { seat = s; is = refl; named = e; seated = grind (arith, nat_tests); holds = grind (arith, nat_tests) }
first-here n w false s ss rest h f = f h

first_is-by : (n w : ℕ) (b : Bool) (s : Seat) (ss : List Seat) → all_distinct (map (λ s. s.worker) (s ∷ ss)) ≡ true
    → Some w ≡ option_map (λ s. s.worker) (first_with n (if b then s ∷ open_in ss else open_in ss))
    → (Some w ≡ option_map (λ s. s.worker) (first_with n (open_in ss)) → FirstIs w (first_with n (open_in ss)) ss)
    → FirstIs w (first_with n (if b then s ∷ open_in ss else open_in ss)) (s ∷ ss)
first_is-by n w true s ss d h f = first-here n w (length s.held == n) s ss (first_with n (open_in ss)) h (λ k. first-later w (first_with n (open_in ss)) s ss d (f k))
first_is-by n w false s ss d h f = first-later w (first_with n (open_in ss)) s ss d (f h)

pub first_is : (n w : ℕ) (ss : List Seat) → all_distinct (map (λ s. s.worker) ss) ≡ true → Some w ≡ option_map (λ s. s.worker) (first_with n (open_in ss)) → FirstIs w (first_with n (open_in ss)) ss
first_is n w [] d h = absurd (cc)
first_is n w (s ∷ ss) d h =
    let rest : all_distinct (map (λ s. s.worker) ss) ≡ true = grind (arith, nat_tests) in
    first_is-by n w (not s.shut) s ss d h (first_is n w ss rest)
