-- Lists with the same numbers are of one length.
use Rattle.std.proofs.Common.{◌≡◌, ℕ, zero, suc, ◌+◌, ◌≤◌, List, [], ◌∷◌, length, Bool, nat_lt, ◌++◌, append_assoc, refl, ap, sym, ◌∙◌, arith}
use Rattle.std.specs.Prelude.{if◌then◌else◌, ◌==◌, filter, replicate}
use Rattle.std.specs.List.{range_with_len}
use Rattle.std.proofs.lemmas.Bool.Decides.{nat_tests}
use Rattle.std.proofs.lemmas.Grind.{common_steps}
use Rattle.xd_run.specs.Numbers.{times}

-- a list without the first of these
abbrev but_one : ℕ → List ℕ → List ℕ
but_one x [] = []
but_one x (y ∷ ys) = if x == y then ys else y ∷ but_one x ys

but_one-length : (x : ℕ) (ys : List ℕ) → 1 ≤ times x ys → length ys ≡ length (but_one x ys) + 1
but_one-length x [] h = absurd (omega arith)
but_one-length x (y ∷ ys) h = grind (arith, nat_tests, but_one-length x ys)

but_one-times : (z x : ℕ) (ys : List ℕ) → 1 ≤ times x ys → times z ys ≡ times z (but_one x ys) + (if z == x then 1 else 0)
but_one-times z x [] h = absurd (omega arith)
but_one-times z x (y ∷ ys) h = grind (arith, nat_tests, but_one-times z x ys)

times-none : (ys : List ℕ) → ((z : ℕ) → times z ys ≡ 0) → length ys ≡ 0
times-none [] h = refl
times-none (y ∷ ys) h = let e : times y (y ∷ ys) ≡ 0 = h y in absurd (grind (arith, nat_tests))

pub length-same_times : (xs ys : List ℕ) → ((z : ℕ) → times z ys ≡ times z xs) → length ys ≡ length xs
length-same_times [] ys h = times-none ys h
length-same_times (x ∷ xs) ys h =
    let there : 1 ≤ times x ys = (let e = h x in grind (arith, nat_tests)) in
    let rest : (z : ℕ) → times z (but_one x ys) ≡ times z xs = λ z. (let e = h z in let k = but_one-times z x ys there in omega arith) in
    let n : length (but_one x ys) ≡ length xs = length-same_times xs (but_one x ys) rest in
    omega (arith, but_one-length x ys there)

pub times-range : (x a n : ℕ) → times x (range_with_len a n) ≡ (if nat_lt x a then 0 else if nat_lt x (a + n) then 1 else 0)
times-range x a zero = grind (arith, nat_tests)
times-range x a (suc n) = let k = times-range x (a + 1) n in grind (arith, nat_tests)

times-filter : (p : ℕ → Bool) (x : ℕ) (xs : List ℕ) → times x (filter p xs) ≡ (if p x then times x xs else 0)
times-filter p x [] = grind (arith, nat_tests)
times-filter p x (y ∷ xs) = grind (arith, nat_tests, times-filter p x xs)

length-filter : (p : ℕ → Bool) (xs : List ℕ) → length (filter p xs) ≤ length xs
length-filter p [] = omega arith
length-filter p (x ∷ xs) = grind (arith, nat_tests, length-filter p xs)

length-range : (a n : ℕ) → length (range_with_len a n) ≡ n
length-range a zero = refl
length-range a (suc n) = let k = length-range (a + 1) n in omega arith

-- the numbers below n of one kind are n at most
pub few_of-kind : (p : ℕ → Bool) (n : ℕ) (xs : List ℕ) → ((z : ℕ) → times z xs ≡ (if p z then (if nat_lt z n then 1 else 0) else 0)) → length xs ≤ n
few_of-kind p n xs h =
    let same : (z : ℕ) → times z xs ≡ times z (filter p (range_with_len 0 n)) = λ z. (let a = h z in let b = times-filter p z (range_with_len 0 n) in let c = times-range z 0 n in grind (arith, nat_tests)) in
    let e = length-same_times (filter p (range_with_len 0 n)) xs same in
    omega (arith, length-filter p (range_with_len 0 n), length-range 0 n)

pub range_more : (a n : ℕ) → range_with_len a (n + 1) ≡ range_with_len a n ++ (a + n) ∷ []
range_more a zero = grind (arith, common_steps)
range_more a (suc n) = let k = range_more (a + 1) n in grind (arith, common_steps)

pub range_next : (old mid now : List ℕ) (a n : ℕ) → mid ≡ old ++ range_with_len a n → now ≡ mid ++ (a + n) ∷ [] → now ≡ old ++ range_with_len a (n + 1)
range_next old mid now a n e f = f ∙ ap (λ (xs : List ℕ). xs ++ (a + n) ∷ []) e ∙ append_assoc old (range_with_len a n) ((a + n) ∷ []) ∙ ap (λ (xs : List ℕ). old ++ xs) (sym (range_more a n))

replicate_suc : (n a : ℕ) → replicate n a ++ a ∷ [] ≡ replicate (suc n) a
replicate_suc zero a = refl
replicate_suc (suc n) a = ap (λ (xs : List ℕ). a ∷ xs) (replicate_suc n a)

pub replicate_more : (n a : ℕ) → replicate n a ++ a ∷ [] ≡ replicate (n + 1) a
replicate_more n a = let e : suc n ≡ n + 1 = omega arith in replicate_suc n a ∙ ap (λ i. replicate i a) e
