-- Numbers linked with their neighbours, after writes.
use Rattle.std.proofs.Common.{◌≡◌, ℕ, suc, ◌+◌, ◌≤◌, List, [], ◌∷◌, ◌++◌, true, false, length, refl, ap, ◌∙◌, arith}
use Rattle.std.specs.Prelude.{◌==◌}
use Rattle.std.proofs.lemmas.Bool.Decides.{nat_tests}
use Rattle.std.proofs.lemmas.Grind.{common_steps}
use Rattle.xd_run.specs.Numbers.{times, among, without}
use Rattle.xd_ledger.specs.Chains.{at, walk, Nexts, Backs, part_before, part_after}

-- the first number of the list; the other one where it is empty
abbrev pub first_or : ℕ → List ℕ → ℕ
first_or other [] = other
first_or other (x ∷ xs) = x

-- the last number of the list; the other one where it is empty
abbrev pub last_or : ℕ → List ℕ → ℕ
last_or other [] = other
last_or other (x ∷ xs) = last_or x xs

-- the two differ at this place at most
abbrev pub SameBut : ℕ → List ℕ → List ℕ → Type 0
SameBut i n m = (x : ℕ) → (i == x) ≡ false → at m x ≡ at n x

pub walked : (n : List ℕ) (u : ℕ) (xs : List ℕ) (e : ℕ) → Nexts n u xs e → walk n (at n u) (length xs) ≡ xs
walked n u [] e h = refl
walked n u (x ∷ xs) e h = ap (λ i. walk n i (suc (length xs))) h.0 ∙ ap (λ (ys : List ℕ). x ∷ ys) (walked n x xs e h.1)

pub unlike : (i u : ℕ) (xs : List ℕ) → times i (u ∷ xs) ≡ 0 → (i == u) ≡ false
unlike i u xs h = grind (arith, nat_tests)

pub later : (i u : ℕ) (xs : List ℕ) → times i (u ∷ xs) ≡ 0 → times i xs ≡ 0
later i u xs h = omega arith

pub swapped : (i j : ℕ) → (i == j) ≡ false → (j == i) ≡ false
swapped i j h = grind (arith, nat_tests)

pub same : (i : ℕ) → (i == i) ≡ true
same i = grind (arith, nat_tests)

pub nexts_else : (n m : List ℕ) (i u : ℕ) (xs : List ℕ) (e : ℕ) → SameBut i n m → times i (u ∷ xs) ≡ 0 → Nexts n u xs e → Nexts m u xs e
nexts_else n m i u [] e s t h = s u (unlike i u [] t) ∙ h
nexts_else n m i u (x ∷ xs) e s t h = (s u (unlike i u (x ∷ xs) t) ∙ h.0, nexts_else n m i x xs e s (later i u (x ∷ xs) t) h.1)

pub backs_else : (p q : List ℕ) (i u : ℕ) (xs : List ℕ) (e : ℕ) → SameBut i p q → times i (e ∷ xs) ≡ 0 → Backs p u xs e → Backs q u xs e
backs_else p q i u [] e s t h = s e (unlike i e [] t) ∙ h
backs_else p q i u (x ∷ xs) e s t h =
    let a : times i (e ∷ xs) ≡ 0 = omega arith in
    let b : (i == x) ≡ false = unlike i x xs (omega arith) in
    (s x b ∙ h.0, backs_else p q i x xs e s a h.1)

absent-other : (x z : ℕ) (xs : List ℕ) → times x xs ≡ 0 → 1 ≤ times z xs → (x == z) ≡ false
absent-other x z [] a b = absurd (omega arith)
absent-other x z (y ∷ ys) a b = grind (arith, nat_tests, absent-other x z ys)

-- where a place leads

pub next-of : (n : List ℕ) (u : ℕ) (xs : List ℕ) (e : ℕ) → Nexts n u xs e → at n u ≡ first_or e xs
next-of n u [] e h = h
next-of n u (x ∷ xs) e h = h.0

pub next-at : (n : List ℕ) (u : ℕ) (hs : List ℕ) (x : ℕ) (ts : List ℕ) (e : ℕ) → Nexts n u (hs ++ x ∷ ts) e → at n x ≡ first_or e ts
next-at n u [] x ts e h = next-of n x ts e h.1
next-at n u (y ∷ hs) x ts e h = next-at n y hs x ts e h.1

pub back-of : (p : List ℕ) (u : ℕ) (xs : List ℕ) (e : ℕ) → Backs p u xs e → at p e ≡ last_or u xs
back-of p u [] e h = h
back-of p u (x ∷ xs) e h = back-of p x xs e h.1

pub back-at : (p : List ℕ) (u : ℕ) (hs : List ℕ) (x : ℕ) (ts : List ℕ) (e : ℕ) → Backs p u (hs ++ x ∷ ts) e → at p x ≡ last_or u hs
back-at p u [] x ts e h = h.0
back-at p u (y ∷ hs) x ts e h = back-at p y hs x ts e h.1

pub times-last : (u : ℕ) (xs : List ℕ) → 1 ≤ times (last_or u xs) (u ∷ xs)
times-last u [] = grind (arith, nat_tests)
times-last u (x ∷ xs) = omega (arith, times-last x xs)

pub times-first : (e : ℕ) (xs : List ℕ) → 1 ≤ times (first_or e xs) (e ∷ xs)
times-first e [] = grind (arith, nat_tests)
times-first e (x ∷ xs) = grind (arith, nat_tests)

-- a place that stands once is not the last of what is after it
apart : (u x : ℕ) (xs : List ℕ) → times u (x ∷ xs) ≡ 0 → (last_or x xs == u) ≡ false
apart u x xs h = let k = times-last x xs in grind (arith, nat_tests)

-- a number goes to the end

pub nexts_put : (n m : List ℕ) (u x : ℕ) (xs : List ℕ) (e : ℕ) → ((z : ℕ) → times z (u ∷ xs) ≤ 1) → times x (u ∷ xs) ≡ 0
    → at m (last_or u xs) ≡ x → at m x ≡ e → ((y : ℕ) → (last_or u xs == y) ≡ false → (x == y) ≡ false → at m y ≡ at n y) → Nexts n u xs e → Nexts m u (xs ++ x ∷ []) e
nexts_put n m u x [] e one new leads ends others h = (leads, ends)
nexts_put n m u x (y ∷ ys) e one new leads ends others h =
    let none : times u (y ∷ ys) ≡ 0 = (let o = one u in grind (arith, nat_tests)) in (
      others u (apart u y ys none) (unlike x u (y ∷ ys) new) ∙ h.0,
      nexts_put n m y x ys e (λ z. (let o = one z in omega arith)) (later x u (y ∷ ys) new) leads ends others h.1,
    )

pub backs_put : (p q : List ℕ) (u x : ℕ) (xs : List ℕ) (e : ℕ) → times x xs ≡ 0 → times e xs ≡ 0
    → at q x ≡ last_or u xs → at q e ≡ x → ((y : ℕ) → (x == y) ≡ false → (e == y) ≡ false → at q y ≡ at p y) → Backs p u xs e → Backs q u (xs ++ x ∷ []) e
backs_put p q u x [] e new end comes ends others h = (comes, ends)
backs_put p q u x (y ∷ ys) e new end comes ends others h =
    (others y (unlike x y ys new) (unlike e y ys end) ∙ h.0, backs_put p q y x ys e (later x y ys new) (later e y ys end) comes ends others h.1)

-- a number goes to the front

pub nexts_same : (n m : List ℕ) (u : ℕ) (xs : List ℕ) (e : ℕ) → ((z : ℕ) → 1 ≤ times z (u ∷ xs) → at m z ≡ at n z) → Nexts n u xs e → Nexts m u xs e
nexts_same n m u [] e s h = s u (let k = same u in grind (arith, nat_tests)) ∙ h
nexts_same n m u (x ∷ xs) e s h = (s u (let k = same u in grind (arith, nat_tests)) ∙ h.0, nexts_same n m x xs e (λ z t. s z (omega arith)) h.1)

pub backs_same : (p q : List ℕ) (u : ℕ) (xs : List ℕ) (e : ℕ) → ((z : ℕ) → 1 ≤ times z (e ∷ xs) → at q z ≡ at p z) → Backs p u xs e → Backs q u xs e
backs_same p q u [] e s h = s e (let k = same e in grind (arith, nat_tests)) ∙ h
backs_same p q u (x ∷ xs) e s h = (s x (let k = same x in grind (arith, nat_tests)) ∙ h.0, backs_same p q x xs e (λ z t. s z (omega arith)) h.1)

pub nexts_first : (n m : List ℕ) (u x : ℕ) (xs : List ℕ) (e : ℕ) → times x xs ≡ 0 → times u xs ≡ 0
    → at m x ≡ first_or e xs → ((y : ℕ) → (u == y) ≡ false → (x == y) ≡ false → at m y ≡ at n y) → Nexts n u xs e → Nexts m x xs e
nexts_first n m u x [] e new start leads others h = leads
nexts_first n m u x (y ∷ ys) e new start leads others h =
    (leads, nexts_same n m y ys e (λ z t. others z (absent-other u z (y ∷ ys) start t) (absent-other x z (y ∷ ys) new t)) h.1)

pub backs_first : (p q : List ℕ) (u x : ℕ) (xs : List ℕ) (e : ℕ) → ((z : ℕ) → times z (e ∷ xs) ≤ 1) → times x (e ∷ xs) ≡ 0
    → at q (first_or e xs) ≡ x → ((y : ℕ) → (x == y) ≡ false → (first_or e xs == y) ≡ false → at q y ≡ at p y) → Backs p u xs e → Backs q x xs e
backs_first p q u x [] e one new comes others h = comes
backs_first p q u x (y ∷ ys) e one new comes others h =
    let none : times y (e ∷ ys) ≡ 0 = (let o = one y in let k = same y in grind (arith, nat_tests)) in
    (comes, backs_same p q y ys e (λ z t. others z (absent-other x z (e ∷ ys) (omega arith) t) (absent-other y z (e ∷ ys) none t)) h.1)

off_first : (y e : ℕ) (ts : List ℕ) → times y (e ∷ ts) ≡ 0 → (first_or e ts == y) ≡ false
off_first y e [] h = grind (arith, nat_tests)
off_first y e (t ∷ ts) h = grind (arith, nat_tests)

pub times-append : (x : ℕ) (xs ys : List ℕ) → times x (xs ++ ys) ≡ times x xs + times x ys
times-append x [] ys = omega arith
times-append x (y ∷ xs) ys = omega (arith, times-append x xs ys)

-- a number leaves; its neighbours are linked with one another

pub nexts_taken : (n m : List ℕ) (u : ℕ) (hs : List ℕ) (x : ℕ) (ts : List ℕ) (e : ℕ) → ((z : ℕ) → times z (u ∷ (hs ++ x ∷ ts)) ≤ 1)
    → at m (last_or u hs) ≡ first_or e ts → SameBut (last_or u hs) n m → Nexts n u (hs ++ x ∷ ts) e → Nexts m u (hs ++ ts) e
nexts_taken n m u [] x [] e one leads others h = leads
nexts_taken n m u [] x (t ∷ ts) e one leads others h =
    let none : times u (t ∷ ts) ≡ 0 = (let o = one u in grind (arith, nat_tests)) in
    (leads, nexts_else n m u t ts e others none h.1.1)
nexts_taken n m u (y ∷ hs) x ts e one leads others h =
    let none : times u (y ∷ hs) ≡ 0 = (let o = one u in let k = times-append u hs (x ∷ ts) in grind (arith, nat_tests)) in
    (others u (apart u y hs none) ∙ h.0, nexts_taken n m y hs x ts e (λ z. (let o = one z in omega arith)) leads others h.1)

pub backs_taken : (p q : List ℕ) (u : ℕ) (hs : List ℕ) (x : ℕ) (ts : List ℕ) (e : ℕ) → ((z : ℕ) → times z (e ∷ (hs ++ x ∷ ts)) ≤ 1)
    → at q (first_or e ts) ≡ last_or u hs → SameBut (first_or e ts) p q → Backs p u (hs ++ x ∷ ts) e → Backs q u (hs ++ ts) e
backs_taken p q u [] x [] e one comes others h = comes
backs_taken p q u [] x (t ∷ ts) e one comes others h =
    let none : times t (e ∷ ts) ≡ 0 = (let o = one t in grind (arith, nat_tests)) in
    (comes, backs_else p q t t ts e others none h.1.1)
backs_taken p q u (y ∷ hs) x ts e one comes others h =
    let d : (first_or e ts == y) ≡ false = (let o = one y in let f = times-first e ts in let k = times-append y hs (x ∷ ts) in off_first y e ts (grind (arith, nat_tests))) in
    (others y d ∙ h.0, backs_taken p q y hs x ts e (λ z. (let o = one z in grind (arith, nat_tests))) comes others h.1)

-- a list around a number of it

pub around : (x : ℕ) (xs : List ℕ) → among x xs ≡ true → xs ≡ part_before x xs ++ x ∷ part_after x xs
around x [] h = cc
around x (y ∷ ys) h = grind (arith, nat_tests, common_steps, around x ys)

without-none : (x : ℕ) (xs : List ℕ) → times x xs ≡ 0 → without (x ∷ []) xs ≡ xs
without-none x [] h = refl
without-none x (y ∷ xs) h = grind (arith, nat_tests, common_steps, without-none x xs)

pub without-around : (x : ℕ) (hs ts : List ℕ) → times x (hs ++ x ∷ ts) ≤ 1 → without (x ∷ []) (hs ++ x ∷ ts) ≡ hs ++ ts
without-around x [] ts h = (let k = without-none x ts in grind (arith, nat_tests))
without-around x (y ∷ hs) ts h = (let k = without-around x hs ts in let l = times-append x hs (x ∷ ts) in grind (arith, nat_tests, common_steps))
