-- Parts of a list of sizes stand one after another.
use Rattle.std.proofs.Common.{◌≡◌, ℕ, zero, suc, ◌+◌, ◌≤◌, ◌<◌, List, [], ◌∷◌, take, refl, arith}
use Rattle.std.specs.Prelude.{sum, slice_index}
use Rattle.std.proofs.lemmas.List.Sums.{sum_by-cons}

pub sum-more : (x : ℕ) (xs : List ℕ) → sum (x ∷ xs) ≡ x + sum xs
sum-more x xs = sum_by-cons (λ y. y) x xs

none-of_none : (n : ℕ) → sum (take n []) ≡ 0
none-of_none zero = refl
none-of_none (suc n) = refl

pub parts-apart : (a b : ℕ) (sizes : List ℕ) → a < b → sum (take a sizes) + slice_index sizes a ≤ sum (take b sizes)
parts-apart a b [] h = omega (arith, none-of_none a, none-of_none b)
parts-apart a zero (x ∷ xs) h = absurd (omega (arith, h))
parts-apart zero (suc b) (x ∷ xs) h =
    let p : sum (take (suc b) (x ∷ xs)) ≡ x + sum (take b xs) = sum-more x (take b xs) in
    let q : slice_index (x ∷ xs) 0 ≡ x = refl in
    omega (arith, p, q)
parts-apart (suc a) (suc b) (x ∷ xs) h =
    let p : sum (take (suc b) (x ∷ xs)) ≡ x + sum (take b xs) = sum-more x (take b xs) in
    let q : sum (take (suc a) (x ∷ xs)) ≡ x + sum (take a xs) = sum-more x (take a xs) in
    let k : slice_index (x ∷ xs) (suc a) ≡ slice_index xs a = refl in
    let r = parts-apart a b xs (omega (arith, h)) in
    omega (arith, p, q, k, r)

pub parts-within : (a : ℕ) (sizes : List ℕ) → sum (take a sizes) + slice_index sizes a ≤ sum sizes
parts-within a [] = omega (arith, none-of_none a)
parts-within zero (x ∷ xs) =
    let p : sum (x ∷ xs) ≡ x + sum xs = sum-more x xs in
    let q : slice_index (x ∷ xs) 0 ≡ x = refl in
    omega (arith, p, q)
parts-within (suc a) (x ∷ xs) =
    let p : sum (x ∷ xs) ≡ x + sum xs = sum-more x xs in
    let q : sum (take (suc a) (x ∷ xs)) ≡ x + sum (take a xs) = sum-more x (take a xs) in
    let k : slice_index (x ∷ xs) (suc a) ≡ slice_index xs a = refl in
    let r = parts-within a xs in
    omega (arith, p, q, k, r)
