-- How many items a table has, and in which places.
use Rattle.std.proofs.Common.{◌≡◌, ℕ, zero, suc, ◌+◌, ◌≤◌, ◌<◌, List, [], ◌∷◌, ◌++◌, take, length, length-append, true, false, refl, ap, arith, Some}
use Rattle.std.specs.Prelude.{unwrap_or}
use Rattle.std.specs.List.{range_with_len}
use Rattle.std.proofs.lemmas.Bool.Decides.{nat_tests}
use Rattle.std.proofs.lemmas.Grind.{common_steps}
use Rattle.xd_run.specs.declared.seat.Seat.{Seat}
use Rattle.xd_run.specs.Numbers.{among, times, all_distinct, all_among, first_of}
use Rattle.xd_ledger.specs.Sound.{IsSound}
use Rattle.xd_run.specs.Table.{Table, fresh_table, held_in, held_by_all, all_items}
use Rattle.xd_ledger.proofs.Places.{times-append, times-table}

pub length-table : (t : Table) → length (all_items t) ≡ length t.pool + (length (held_by_all t.rota) + length t.reported)
length-table t = omega (arith, length-append t.pool (held_by_all t.rota ++ t.reported), length-append (held_by_all t.rota) t.reported)

pub length-held : (w : ℕ) (ss : List Seat) → length (held_in w ss) ≤ length (held_by_all ss)
length-held w [] = omega arith
length-held w (s ∷ ss) = grind (arith, nat_tests, length-held w ss, length-append s.held (held_by_all ss))

pub length-among : (x : ℕ) (xs : List ℕ) → among x xs ≡ true → 1 ≤ length xs
length-among x [] h = cc
length-among x (y ∷ xs) h = omega arith

times-take : (z n : ℕ) (xs : List ℕ) → times z (take n xs) ≤ times z xs
times-take z zero xs = omega arith
times-take z (suc n) [] = omega arith
times-take z (suc n) (x ∷ xs) = omega (arith, times-take z n xs)

among-none : (x : ℕ) (xs : List ℕ) → times x xs ≡ 0 → among x xs ≡ false
among-none x [] h = refl
among-none x (y ∷ xs) h = grind (arith, nat_tests, among-none x xs)

distinct-of_times : (xs : List ℕ) → ((z : ℕ) → times z xs ≤ 1) → all_distinct xs ≡ true
distinct-of_times [] h = refl
distinct-of_times (x ∷ xs) h =
    let here = h x in
    let none : times x xs ≡ 0 = grind (arith, nat_tests) in
    let a = among-none x xs none in
    let r = distinct-of_times xs (λ z. (let k = h z in omega arith)) in
    grind (arith, nat_tests)

pub taken_distinct : (n : ℕ) (t : Table) (room : ℕ) → IsSound t room → all_distinct (take n t.pool) ≡ true
taken_distinct n t room s = distinct-of_times (take n t.pool) (λ z. (let o = s.once z in omega (arith, times-take z n t.pool, times-table z t)))

among-more : (y : ℕ) (zs xs : List ℕ) → all_among zs xs ≡ true → all_among zs (y ∷ xs) ≡ true
among-more y [] xs h = refl
among-more y (z ∷ zs) xs h = grind (arith, nat_tests, among-more y zs xs)

pub taken_among : (n : ℕ) (xs : List ℕ) → all_among (take n xs) xs ≡ true
taken_among zero xs = refl
taken_among (suc n) [] = refl
taken_among (suc n) (x ∷ xs) = let k = among-more x (take n xs) xs (taken_among n xs) in grind (arith, nat_tests)

pub head_among : (x : ℕ) (xs : List ℕ) → first_of xs ≡ Some x → among x xs ≡ true
head_among x [] h = cc
head_among x (y ∷ ys) h = let e : y ≡ x = ap (λ o. unwrap_or o 0) h in grind (arith, nat_tests)

times-below : (x a n : ℕ) → x < a → times x (range_with_len a n) ≡ 0
times-below x a zero h = refl
times-below x a (suc n) h = let k = times-below x (a + 1) n (omega arith) in grind (arith, nat_tests)

times-range : (x a n : ℕ) → times x (range_with_len a n) ≤ 1
times-range x a zero = omega arith
times-range x a (suc n) = let k = times-range x (a + 1) n in let b = times-below x (a + 1) n in grind (arith, nat_tests)

length-range : (a n : ℕ) → length (range_with_len a n) ≡ n
length-range a zero = refl
length-range a (suc n) = ap suc (length-range (a + 1) n)

pub fresh_sound : (n room : ℕ) → n ≡ room → n ≤ 1600000 → IsSound (fresh_table (range_with_len 0 n)) room
fresh_sound n room e h = record {
  once = λ x. (let k = times-range x 0 n in omega (arith, times-append x (range_with_len 0 n) []));
  seated_once = λ w. omega arith;
  seated_joined = λ w. omega arith;
  few = omega (arith, length-range 0 n, length-append (range_with_len 0 n) []);
  small = omega arith;
  few_seats = omega arith;
}

pub filled_sound : (n room room_now : ℕ) (t : Table) → IsSound t room → n ≡ room_now → n ≤ 1600000 → all_items t ≡ [] → IsSound (record { pool = range_with_len 0 n; rota = t.rota; reported = []; who_joined = t.who_joined }) room_now
filled_sound n room room_now t s e h none =
    let a : (z : ℕ) → times z (held_by_all t.rota) ≡ 0 = λ z. (let m : times z (all_items t) ≡ 0 = ap (times z) none in omega (arith, times-table z t)) in
    let b : length (held_by_all t.rota) ≡ 0 = (let m : length (all_items t) ≡ 0 = ap length none in omega (arith, length-table t)) in
    record {
      once = λ x. (let k = times-range x 0 n in let z = a x in omega (arith, times-table x (record { pool = range_with_len 0 n; rota = t.rota; reported = []; who_joined = t.who_joined })));
      seated_once = s.seated_once;
      seated_joined = s.seated_joined;
      few = omega (arith, length-range 0 n, length-table (record { pool = range_with_len 0 n; rota = t.rota; reported = []; who_joined = t.who_joined }));
      small = omega arith;
      few_seats = s.few_seats;
    }

pub none_reported : (t : Table) → all_items t ≡ [] → t.reported ≡ []
none_reported t h =
    let m : length (all_items t) ≡ 0 = ap length h in
    let l : length t.reported ≡ 0 = omega (arith, length-table t) in
    grind (arith, common_steps)
