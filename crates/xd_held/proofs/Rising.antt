-- Lists that rise.
use Rattle.std.proofs.Common.{◌≡◌, ℕ, zero, suc, ◌+◌, ◌-◌, ◌<◌, ◌==◌, true, false, List, [], ◌∷◌, ◌++◌, length, take, drop, is_some, unwrap_or, slice_index, get_or, subst, refl, sym, ◌∙◌, ap, arith}
use Rattle.std.specs.List.{All}
use Rattle.std.specs.List.Sorted.{IsStrictlyIncreasing}
use Rattle.std.proofs.lemmas.Bool.{true≢false, eq-eqb, ne_eqb}
use Rattle.std.proofs.lemmas.List.Elements.{All-drop}
use Rattle.std.proofs.lemmas.List.Folds.{list_any_at}
use Rattle.std.proofs.lemmas.List.Kept.{AllPairs-from_increasing}
use Rattle.std.proofs.lemmas.List.{get_or_append_left, length_push}
use Rattle.xd_run.specs.Numbers.{among, first_of, without}

-- a number that is below all others is not among them
without-lower : (x : ℕ) (ys : List ℕ) → All (λ y. x < y) ys → without (x ∷ []) ys ≡ ys
without-lower x [] below = refl
without-lower x (y ∷ ys) below =
    let apart : (y == x) ≡ false = ne_eqb y x (λ e. omega (arith, below zero y (omega arith))) in
    rw (apart, without-lower x ys (λ k d within. below (suc k) d (omega arith))) refl

-- the first of a list that rises stands nowhere after its place
pub without-first : (those xs : List ℕ) → IsStrictlyIncreasing xs → length those ≡ 1 → first_of those ≡ first_of xs → without those xs ≡ drop 1 xs
without-first [] xs rises one same = absurd (omega (arith, one))
without-first (t ∷ []) [] rises one same = absurd (true≢false (ap is_some same))
without-first (t ∷ []) (x ∷ xs) rises one same =
    let is : t ≡ x = ap (λ o. unwrap_or o 0) same in
    let below : All (λ y. t < y) xs = λ k d within. omega (arith, is, AllPairs-from_increasing (x ∷ xs) rises zero (suc k) d (omega arith) (omega arith)) in
    rw (eq-eqb x t (sym is)) (without-lower t xs below)
without-first (t ∷ u ∷ those) xs rises one same = absurd (omega (arith, one))

pub rises-following : (xs : List ℕ) → IsStrictlyIncreasing xs → IsStrictlyIncreasing (drop 1 xs)
rises-following [] rises = rises
rises-following (x ∷ xs) rises = λ k within.
    let at : suc k + 1 ≡ suc (k + 1) = omega arith in
    subst (λ n. slice_index xs k < slice_index (x ∷ xs) n) at (rises (suc k) (omega arith))

-- a number that is below all others is none of them
among-lower : (x : ℕ) (ys : List ℕ) → All (λ y. x < y) ys → among x ys ≡ false
among-lower x [] below = refl
among-lower x (y ∷ ys) below =
    let apart : (x == y) ≡ false = ne_eqb x y (λ e. omega (arith, below zero y (omega arith))) in
    rw (apart, among-lower x ys (λ k d within. below (suc k) d (omega arith))) refl

-- all of a list are among it
without-all : (those xs : List ℕ) → All (λ x. among x those ≡ true) xs → without those xs ≡ []
without-all those [] are = refl
without-all those (x ∷ xs) are = rw (are zero x (omega arith)) (without-all those xs (λ k d within. are (suc k) d (omega arith)))

-- the last of a list that rises stand nowhere before
without-end : (k : ℕ) (xs : List ℕ) → IsStrictlyIncreasing xs → without (drop k xs) xs ≡ take k xs
without-end zero xs rises = without-all xs xs (λ i d within. list_any_at (λ y. get_or xs i d == y) xs i d within (eq-eqb (get_or xs i d) (get_or xs i d) refl))
without-end (suc k) [] rises = refl
without-end (suc k) (x ∷ xs) rises =
    let above : All (λ y. x < y) xs = λ i d within. AllPairs-from_increasing (x ∷ xs) rises zero (suc i) d (omega arith) (omega arith) in
    rw (among-lower x (drop k xs) (All-drop (λ y. x < y) k xs above), without-end k xs (rises-following (x ∷ xs) rises)) refl

-- those that are the end of a list that rises
pub without-those : (those xs : List ℕ) (n : ℕ) → n ≡ length xs → IsStrictlyIncreasing xs → drop (length xs - length those) xs ≡ those → take (n - length those) xs ≡ without those xs
without-those those xs n whole rises is =
    ap (λ m. take (m - length those) xs) whole ∙ sym (without-end (length xs - length those) xs rises) ∙ ap (λ (l : List ℕ). without l xs) is

pub rises-before : (xs : List ℕ) (y : ℕ) → IsStrictlyIncreasing (xs ++ y ∷ []) → IsStrictlyIncreasing xs
rises-before xs y rises k within =
    rw (← get_or_append_left xs (y ∷ []) 0 k (omega arith), ← get_or_append_left xs (y ∷ []) 0 (k + 1) within) (rises k (omega (arith, length_push xs y)))
