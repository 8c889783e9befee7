-- As many numbers below a bound as the bound says, none of them twice, are all of them.
use Rattle.std.proofs.Common.{◌≡◌, ℕ, zero, suc, ◌+◌, ◌≤◌, ◌<◌, List, [], ◌∷◌, length, map, true, false, not, refl, ap, sym, ◌∙◌, arith, inl, inr}
use Rattle.std.specs.Prelude.{◌==◌, nat_lt}
use Rattle.std.proofs.lemmas.Bool.Decides.{nat_tests}
use Rattle.xd_run.specs.Numbers.{among, all_distinct, times}
use Rattle.xd_run_laws.proofs.Counts.{among-times}
use Rattle.xd_run_laws.proofs.Logic.{differ, cases_of, split-and, split-or, not_true}

pub none-among : (x : ℕ) (xs : List ℕ) → among x xs ≡ false → times x xs ≡ 0
none-among x [] h = refl
none-among x (y ∷ xs) h = grind (arith, nat_tests, none-among x xs)

-- how often the numbers below a bound stand there, together
abbrev tally : ℕ → List ℕ → ℕ
tally zero xs = 0
tally (suc n) xs = times n xs + tally n xs

tally-none : (n : ℕ) → tally n [] ≡ 0
tally-none zero = refl
tally-none (suc n) = omega (arith, tally-none n)

tally-above : (n y : ℕ) (ys : List ℕ) → n ≤ y → tally n (y ∷ ys) ≡ tally n ys
tally-above zero y ys h = refl
tally-above (suc n) y ys h = grind (arith, nat_tests, tally-above n y ys)

tally-below : (n y : ℕ) (ys : List ℕ) → y < n → tally n (y ∷ ys) ≡ 1 + tally n ys
tally-below zero y ys h = absurd (omega (arith, h))
tally-below (suc n) y ys h = grind (arith, nat_tests, tally-below n y ys, tally-above n y ys)

tally-all : (n : ℕ) (xs : List ℕ) → ((x : ℕ) → among x xs ≡ true → x < n) → tally n xs ≡ length xs
tally-all n [] h = tally-none n
tally-all n (y ∷ ys) h =
    let low : y < n = h y (grind (arith, nat_tests)) in
    let rest = tally-all n ys (λ x k. h x (grind (arith, nat_tests, k))) in
    omega (arith, tally-below n y ys low, rest)

tally-low : (n : ℕ) (xs : List ℕ) → ((i : ℕ) → times i xs ≤ 1) → tally n xs ≤ n
tally-low zero xs h = omega arith
tally-low (suc n) xs h = omega (arith, h n, tally-low n xs h)

tally-gap : (k n : ℕ) (xs : List ℕ) → ((i : ℕ) → times i xs ≤ 1) → times k xs ≡ 0 → k < n → tally n xs < n
tally-gap k zero xs h z l = absurd (omega (arith, l))
tally-gap k (suc n) xs h z l = elim (cases_of (k == n)) [
  | inl e ↦
      (let same : k ≡ n = grind (arith, nat_tests, e) in
      let none : times n xs ≡ 0 = ap (λ (i : ℕ). times i xs) (sym same) ∙ z in
      omega (arith, none, tally-low n xs h))
  | inr e ↦
      (let less : k < n = grind (arith, nat_tests, e, l) in
      omega (arith, h n, tally-gap k n xs h z less))
]

pub all-taken : (k n : ℕ) (xs : List ℕ) → ((i : ℕ) → times i xs ≤ 1) → ((x : ℕ) → among x xs ≡ true → x < n) → length xs ≡ n → k < n → among k xs ≡ true
all-taken k n xs once low full l = elim (cases_of (among k xs)) [
  | inl h ↦ h
  | inr h ↦ (let gap = tally-gap k n xs once (none-among k xs h) l in absurd (omega (arith, gap, tally-all n xs low, full)))
]

-- a list in which each number below a bound stands is as long as the bound at least

tally-high : (n : ℕ) (xs : List ℕ) → ((k : ℕ) → k < n → among k xs ≡ true) → n ≤ tally n xs
tally-high zero xs h = omega arith
tally-high (suc n) xs h = omega (arith, among-times n xs (h n (omega arith)), tally-high n xs (λ k l. h k (omega (arith, l))))

tally-most : (n : ℕ) (xs : List ℕ) → tally n xs ≤ length xs
tally-most n [] = omega (arith, tally-none n)
tally-most n (y ∷ ys) = elim (cases_of (nat_lt y n)) [
  | inl h ↦ (let low : y < n = grind (arith, nat_tests, h) in omega (arith, tally-below n y ys low, tally-most n ys))
  | inr h ↦ (let high : n ≤ y = grind (arith, nat_tests, h) in omega (arith, tally-above n y ys high, tally-most n ys))
]

pub as-many : (n : ℕ) (xs : List ℕ) → ((k : ℕ) → k < n → among k xs ≡ true) → n ≤ length xs
as-many n xs h = omega (arith, tally-high n xs h, tally-most n xs)

-- images

pub among-image : (f : ℕ → ℕ) (i : ℕ) (ws : List ℕ) → among i (map f ws) ≡ true → (w : ℕ) × (among w ws ≡ true) × (f w ≡ i)
among-image f i [] h = absurd (differ h)
among-image f i (w ∷ ws) h = elim (split-or (i == f w) (among i (map f ws)) h) [
  | inl e ↦ (w, grind (arith, nat_tests), grind (arith, nat_tests, e))
  | inr e ↦ (let r = among-image f i ws e in (r.0, grind (arith, nat_tests, r.1), r.2))
]

pub image-once : (f : ℕ → ℕ) (ws : List ℕ) → all_distinct ws ≡ true → ((v u : ℕ) → among v ws ≡ true → among u ws ≡ true → f v ≡ f u → v ≡ u) → (i : ℕ) → times i (map f ws) ≤ 1
image-once f [] d apart i = omega arith
image-once f (w ∷ ws) d apart i =
    let p = split-and (not (among w ws)) (all_distinct ws) d in
    let rest = image-once f ws p.1 (λ v u a b e. apart v u (grind (arith, nat_tests, a)) (grind (arith, nat_tests, b)) e) i in
    elim (cases_of (i == f w)) [
      | inl e ↦
          (let same : i ≡ f w = grind (arith, nat_tests, e) in
          let away : among i (map f ws) ≡ false = elim (cases_of (among i (map f ws))) [
            | inl a ↦
                (let r = among-image f i ws a in
                let one : r.0 ≡ w = apart r.0 w (grind (arith, nat_tests, r.1)) (grind (arith, nat_tests)) (r.2 ∙ same) in
                absurd (differ (sym (not_true (among w ws) p.0) ∙ ap (λ (v : ℕ). among v ws) (sym one) ∙ r.1)))
            | inr a ↦ a
          ] in
          let none : times i (map f ws) ≡ 0 = none-among i (map f ws) away in
          grind (arith, nat_tests, none, e))
      | inr e ↦ grind (arith, nat_tests, rest, e)
    ]
