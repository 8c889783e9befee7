-- How often a number stands in a list.
use Rattle.std.proofs.Common.{Bool, ◌&&◌, inl, inr, not, ◌≡◌, ℕ, zero, suc, ◌+◌, ◌≤◌, ◌<◌, List, [], ◌∷◌, ◌++◌, take, drop, map, true, false, refl, arith}
use Rattle.std.specs.Prelude.{◌==◌, filter, if◌then◌else◌}
use Rattle.std.specs.List.{range_with_len}
use Rattle.std.proofs.lemmas.Bool.Decides.{nat_tests}
use Rattle.xd_run.specs.Numbers.{among, without, all_distinct, all_among, times}
use Rattle.xd_run_laws.proofs.Logic.{differ, split-and, split-or, and}

pub times-append : (x : ℕ) (xs ys : List ℕ) → times x (xs ++ ys) ≡ times x xs + times x ys
times-append x [] ys = omega arith
times-append x (y ∷ xs) ys = omega (arith, times-append x xs ys)

pub times-without : (x : ℕ) (those xs : List ℕ) → times x (without those xs) ≡ (if among x those then 0 else times x xs)
times-without x those [] = grind (arith, nat_tests)
times-without x those (y ∷ xs) = grind (arith, nat_tests, times-without x those xs)

pub times-distinct : (x : ℕ) (xs : List ℕ) → all_distinct xs ≡ true → times x xs ≡ (if among x xs then 1 else 0)
times-distinct x [] h = refl
times-distinct x (y ∷ xs) h = grind (arith, nat_tests, times-distinct x xs)

pub times-cut : (x : ℕ) (xs : List ℕ) → times x (take 1 xs) + times x (drop 1 xs) ≡ times x xs
times-cut x [] = refl
times-cut x (y ∷ ys) = omega arith

pub among-times : (x : ℕ) (xs : List ℕ) → among x xs ≡ true → 1 ≤ times x xs
among-times x [] h = cc
among-times x (y ∷ xs) h = grind (arith, nat_tests, among-times x xs)

pub times-among : (x : ℕ) (xs : List ℕ) → 1 ≤ times x xs → among x xs ≡ true
times-among x [] h = absurd (omega (arith, h))
times-among x (y ∷ xs) h = grind (arith, nat_tests, times-among x xs)

pub distinct-of_times : (xs : List ℕ) → ((x : ℕ) → times x xs ≤ 1) → all_distinct xs ≡ true
distinct-of_times [] h = refl
distinct-of_times (y ∷ ys) h =
    let tail : all_distinct ys ≡ true = distinct-of_times ys (λ x. omega (arith, h x)) in
    let none : among y ys ≡ false = grind (arith, nat_tests, h y, among-times y ys) in
    rw (none, tail)

-- parts of a list

pub among_of-all_among : (x : ℕ) (xs ys : List ℕ) → all_among xs ys ≡ true → among x xs ≡ true → among x ys ≡ true
among_of-all_among x [] ys h i = cc
among_of-all_among x (y ∷ xs) ys h i = grind (arith, nat_tests, among_of-all_among x xs ys)

pub all_among-more : (y : ℕ) (xs ys : List ℕ) → all_among xs ys ≡ true → all_among xs (y ∷ ys) ≡ true
all_among-more y [] ys h = refl
all_among-more y (x ∷ xs) ys h = grind (arith, nat_tests, all_among-more y xs ys)

pub all_among-self : (xs : List ℕ) → all_among xs xs ≡ true
all_among-self [] = refl
all_among-self (x ∷ xs) = grind (arith, nat_tests, all_among-self xs, all_among-more x xs xs)

pub all_among-append : (xs ys zs : List ℕ) → all_among xs zs ≡ true → all_among ys zs ≡ true → all_among (xs ++ ys) zs ≡ true
all_among-append [] ys zs a b = b
all_among-append (x ∷ xs) ys zs a b =
    let p = split-and (among x zs) (all_among xs zs) a in
    and p.0 (all_among-append xs ys zs p.1 b)

among-take : (x n : ℕ) (xs : List ℕ) → among x (take n xs) ≡ true → among x xs ≡ true
among-take x zero xs h = cc
among-take x (suc n) [] h = h
among-take x (suc n) (y ∷ xs) h = grind (arith, nat_tests, among-take x n xs)

pub distinct-take : (n : ℕ) (xs : List ℕ) → all_distinct xs ≡ true → all_distinct (take n xs) ≡ true
distinct-take zero xs h = refl
distinct-take (suc n) [] h = refl
distinct-take (suc n) (x ∷ xs) h = grind (arith, nat_tests, distinct-take n xs, among-take x n xs)

pub all_among-take : (n : ℕ) (xs : List ℕ) → all_among (take n xs) xs ≡ true
all_among-take zero xs = refl
all_among-take (suc n) [] = refl
all_among-take (suc n) (x ∷ xs) = grind (arith, nat_tests, all_among-take n xs, all_among-more x (take n xs) xs)

pub among-drop : (x n : ℕ) (xs : List ℕ) → among x (drop n xs) ≡ true → among x xs ≡ true
among-drop x zero xs h = h
among-drop x (suc n) [] h = h
among-drop x (suc n) (y ∷ xs) h = grind (arith, nat_tests, among-drop x n xs)

pub all_among-drop : (n : ℕ) (ys xs : List ℕ) → all_among ys (drop n xs) ≡ true → all_among ys xs ≡ true
all_among-drop n [] xs h = refl
all_among-drop n (y ∷ ys) xs h = grind (arith, nat_tests, all_among-drop n ys xs, among-drop y n xs)

pub distinct-drop : (n : ℕ) (xs : List ℕ) → all_distinct xs ≡ true → all_distinct (drop n xs) ≡ true
distinct-drop zero xs h = h
distinct-drop (suc n) [] h = refl
distinct-drop (suc n) (x ∷ xs) h = distinct-drop n xs (split-and (not (among x xs)) (all_distinct xs) h).1

pub among-filter : (x : ℕ) (test : ℕ → Bool) (xs : List ℕ) → among x (filter test xs) ≡ (test x && among x xs)
among-filter x test [] = grind (arith, nat_tests)
among-filter x test (y ∷ xs) = grind (arith, nat_tests, among-filter x test xs)

pub distinct-filter : (test : ℕ → Bool) (xs : List ℕ) → all_distinct xs ≡ true → all_distinct (filter test xs) ≡ true
distinct-filter test [] h = refl
distinct-filter test (x ∷ xs) h = grind (arith, nat_tests, distinct-filter test xs, among-filter x test xs)

pub all_among-of : (xs ys : List ℕ) → ((x : ℕ) → among x xs ≡ true → among x ys ≡ true) → all_among xs ys ≡ true
all_among-of [] ys h = refl
all_among-of (x ∷ xs) ys h = and (h x (grind (arith, nat_tests))) (all_among-of xs ys (λ y k. h y (grind (arith, nat_tests, k))))

-- what is left after more of a list is left after less of it
pub all_among-drops : (j k : ℕ) (xs : List ℕ) → j ≤ k → all_among (drop k xs) (drop j xs) ≡ true
all_among-drops zero k xs h = all_among-drop k (drop k xs) xs (all_among-self (drop k xs))
all_among-drops (suc j) zero xs h = absurd (omega (arith, h))
all_among-drops (suc j) (suc k) [] h = refl
all_among-drops (suc j) (suc k) (x ∷ xs) h = all_among-drops j k xs (omega (arith, h))

-- numbers moved up by as much

among-plus : (b x : ℕ) (xs : List ℕ) → among (b + x) (map (λ i. b + i) xs) ≡ among x xs
among-plus b x [] = refl
among-plus b x (y ∷ xs) = grind (arith, nat_tests, among-plus b x xs)

pub distinct-plus : (b : ℕ) (xs : List ℕ) → all_distinct xs ≡ true → all_distinct (map (λ i. b + i) xs) ≡ true
distinct-plus b [] h = refl
distinct-plus b (x ∷ xs) h = grind (arith, nat_tests, distinct-plus b xs, among-plus b x xs)

-- ranges

times-range_above : (x a n : ℕ) → x < a → times x (range_with_len a n) ≡ 0
times-range_above x a zero h = refl
times-range_above x a (suc n) h = grind (arith, nat_tests, times-range_above x (a + 1) n)

pub times-range : (x a n : ℕ) → times x (range_with_len a n) ≤ 1
times-range x a zero = omega arith
times-range x a (suc n) = grind (arith, nat_tests, times-range x (a + 1) n, times-range_above x (a + 1) n)

pub distinct-range : (a n : ℕ) → all_distinct (range_with_len a n) ≡ true
distinct-range a n = distinct-of_times (range_with_len a n) (λ x. times-range x a n)

pub among-in_range : (x a n : ℕ) → a ≤ x → x < a + n → among x (range_with_len a n) ≡ true
among-in_range x a zero h k = absurd (omega (arith, h, k))
among-in_range x a (suc n) h k = grind (arith, nat_tests, among-in_range x (a + 1) n)

pub bounds-of_range : (x a n : ℕ) → among x (range_with_len a n) ≡ true → (a ≤ x) × (x < a + n)
bounds-of_range x a zero h = absurd (differ h)
bounds-of_range x a (suc n) h = elim (split-or (x == a) (among x (range_with_len (a + 1) n)) h) [
  | inl k ↦ (let e : x ≡ a = grind (arith, nat_tests, k) in (omega (arith, e), omega (arith, e)))
  | inr k ↦ (let r = bounds-of_range x (a + 1) n k in (omega (arith, r.0), omega (arith, r.1)))
]

pub times-in_range : (x a n : ℕ) → a ≤ x → x < a + n → times x (range_with_len a n) ≡ 1
times-in_range x a zero h k = absurd (omega arith)
times-in_range x a (suc n) h k = grind (arith, nat_tests, times-in_range x (a + 1) n, times-range_above x (a + 1) n)

pub times-after_range : (x a n : ℕ) → a + n ≤ x → times x (range_with_len a n) ≡ 0
times-after_range x a zero h = refl
times-after_range x a (suc n) h = grind (arith, nat_tests, times-after_range x (a + 1) n)

-- a list in which nothing stands is empty
pub empty-of_times : (xs : List ℕ) → ((x : ℕ) → times x xs ≡ 0) → xs ≡ []
empty-of_times [] h = refl
empty-of_times (x ∷ xs) h = absurd (let z : times x (x ∷ xs) ≡ 0 = h x in grind (arith, nat_tests))
