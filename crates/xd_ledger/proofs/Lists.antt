-- Which numbers stand in a list, in a part of it, and in a range.
use Rattle.std.proofs.Common.{◌≡◌, ℕ, zero, suc, ◌+◌, ◌<◌, List, [], ◌∷◌, ◌++◌, take, drop, length, get_or, Bool, true, false, ◌&&◌, nat_lt, nat_le, Some, refl, ap, sym, ◌∙◌, arith}
use Rattle.std.proofs.lemmas.List.{drop_more}
use Rattle.std.specs.Prelude.{◌||◌, ◌==◌, filter}
use Rattle.std.specs.List.{range_with_len}
use Rattle.std.proofs.lemmas.Bool.Decides.{nat_tests}
use Rattle.xd_ledger.specs.Chains.{part_before, part_after, final_of}
use Rattle.xd_run.specs.Numbers.{among, all_among, all_distinct, first_of}

-- parts of a list

pub among-append : (x : ℕ) (xs ys : List ℕ) → among x (xs ++ ys) ≡ (among x xs || among x ys)
among-append x [] ys = refl
among-append x (y ∷ xs) ys = grind (arith, nat_tests, among-append x xs ys)

pub among-filter : (x : ℕ) (test : ℕ → Bool) (xs : List ℕ) → among x (filter test xs) ≡ (test x && among x xs)
among-filter x test [] = grind arith
among-filter x test (y ∷ xs) = grind (arith, nat_tests, among-filter x test xs)

pub all_among-of : (xs ys : List ℕ) → ((x : ℕ) → among x xs ≡ true → among x ys ≡ true) → all_among xs ys ≡ true
all_among-of [] ys h = refl
all_among-of (x ∷ xs) ys h =
    let one : among x ys ≡ true = h x (grind (arith, nat_tests)) in
    let all : all_among xs ys ≡ true = all_among-of xs ys (λ z i. h z (grind (arith, nat_tests))) in
    rw (one, all)

pub distinct-filter : (test : ℕ → Bool) (xs : List ℕ) → all_distinct xs ≡ true → all_distinct (filter test xs) ≡ true
distinct-filter test [] h = refl
distinct-filter test (x ∷ xs) h = grind (arith, nat_tests, distinct-filter test xs, among-filter x test xs)

pub all_among-filter : (test : ℕ → Bool) (xs : List ℕ) → all_among (filter test xs) xs ≡ true
all_among-filter test xs = all_among-of (filter test xs) xs (λ x h. grind (arith, nat_tests, among-filter x test xs))

pub distinct-front : (xs ys : List ℕ) → all_distinct (xs ++ ys) ≡ true → all_distinct xs ≡ true
distinct-front [] ys h = refl
distinct-front (x ∷ xs) ys h = grind (arith, nat_tests, distinct-front xs ys, among-append x xs ys)

pub distinct-back : (xs ys : List ℕ) → all_distinct (xs ++ ys) ≡ true → all_distinct ys ≡ true
distinct-back [] ys h = h
distinct-back (x ∷ xs) ys h = grind (arith, nat_tests, distinct-back xs ys)

pub distinct-drop : (n : ℕ) (xs : List ℕ) → all_distinct xs ≡ true → all_distinct (drop n xs) ≡ true
distinct-drop zero xs h = h
distinct-drop (suc n) [] h = h
distinct-drop (suc n) (x ∷ xs) h = grind (arith, nat_tests, distinct-drop n xs)

pub within-front : (xs ys zs : List ℕ) → all_among (xs ++ ys) zs ≡ true → all_among xs zs ≡ true
within-front [] ys zs h = refl
within-front (x ∷ xs) ys zs h = grind (arith, nat_tests, within-front xs ys zs)

pub within-back : (xs ys zs : List ℕ) → all_among (xs ++ ys) zs ≡ true → all_among ys zs ≡ true
within-back [] ys zs h = h
within-back (x ∷ xs) ys zs h = grind (arith, nat_tests, within-back xs ys zs)

pub apart : (x : ℕ) (xs ys : List ℕ) → all_distinct (xs ++ ys) ≡ true → among x ys ≡ true → among x xs ≡ false
apart x [] ys h i = refl
apart x (y ∷ xs) ys h i = grind (arith, nat_tests, apart x xs ys, among-append y xs ys)

-- a range

pub among-range : (x a n : ℕ) → among x (range_with_len a n) ≡ (nat_le a x && nat_lt x (a + n))
among-range x a zero = grind (arith, nat_tests)
among-range x a (suc n) = grind (arith, nat_tests, among-range x (a + 1) n)

pub distinct-range : (a n : ℕ) → all_distinct (range_with_len a n) ≡ true
distinct-range a zero = refl
distinct-range a (suc n) = grind (arith, nat_tests, distinct-range (a + 1) n, among-range a (a + 1) n)

-- one place after another

pub among-at : (xs : List ℕ) (k : ℕ) → k < length xs → among (get_or xs k 0) xs ≡ true
among-at [] k h = absurd (omega arith)
among-at (x ∷ xs) zero h = grind (arith, nat_tests)
among-at (x ∷ xs) (suc k) h = grind (arith, nat_tests, among-at xs k)

pub first-drop : (xs : List ℕ) (k : ℕ) → k < length xs → first_of (drop k xs) ≡ Some (get_or xs k 0)
first-drop xs k h = ap first_of (drop_more xs k 0 h)

not-first : (x y : ℕ) (xs : List ℕ) → all_distinct (x ∷ xs) ≡ true → among y xs ≡ true → (y == x) ≡ false
not-first x y xs d h = grind (arith, nat_tests)

pub following-at : (xs : List ℕ) (k : ℕ) → k < length xs → all_distinct xs ≡ true → part_after (get_or xs k 0) xs ≡ drop (k + 1) xs
following-at [] k h d = absurd (omega arith)
following-at (x ∷ xs) zero h d = grind (arith, nat_tests)
following-at (x ∷ xs) (suc k) h d =
    let here : among (get_or xs k 0) xs ≡ true = among-at xs k (omega arith) in
    let rest : all_distinct xs ≡ true = grind (arith, nat_tests) in
    let other : (get_or xs k 0 == x) ≡ false = not-first x (get_or xs k 0) xs d here in
    let e : suc k + 1 ≡ suc (k + 1) = omega arith in
    rw (other, e) (following-at xs k (omega arith) rest)

pub preceding-at : (xs : List ℕ) (k : ℕ) → k < length xs → all_distinct xs ≡ true → part_before (get_or xs k 0) xs ≡ take k xs
preceding-at [] k h d = absurd (omega arith)
preceding-at (x ∷ xs) zero h d = grind (arith, nat_tests)
preceding-at (x ∷ xs) (suc k) h d =
    let here : among (get_or xs k 0) xs ≡ true = among-at xs k (omega arith) in
    let rest : all_distinct xs ≡ true = grind (arith, nat_tests) in
    let other : (get_or xs k 0 == x) ≡ false = not-first x (get_or xs k 0) xs d here in
    rw other (ap (λ (ys : List ℕ). x ∷ ys) (preceding-at xs k (omega arith) rest))

pub final-take : (xs : List ℕ) (k : ℕ) → k < length xs → final_of (take (k + 1) xs) ≡ Some (get_or xs k 0)
final-take [] k h = absurd (omega arith)
final-take (x ∷ xs) zero h = refl
final-take (x ∷ []) (suc k) h = absurd (omega arith)
final-take (x ∷ y ∷ xs) (suc k) h =
    let e : suc k + 1 ≡ suc (suc k) = omega arith in
    let f : k + 1 ≡ suc k = omega arith in
    ap (λ (n : ℕ). final_of (take n (x ∷ y ∷ xs))) e ∙ ap (λ (n : ℕ). final_of (take n (y ∷ xs))) (sym f) ∙ final-take (y ∷ xs) k (omega arith)
