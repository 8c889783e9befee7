-- Lists, and parts of them.
use Rattle.std.proofs.Common.{◌≡◌, ℕ, zero, suc, ◌+◌, ◌≤◌, ◌<◌, List, [], ◌∷◌, ◌++◌, take, drop, length, Bool, true, false, not, refl, ap, sym, ◌∙◌, subst, arith}
use Rattle.std.specs.Prelude.{◌==◌, nat_lt, filter, Some}
use Rattle.std.specs.List.{list_all}
use Rattle.std.proofs.lemmas.Bool.Decides.{nat_tests}
use Rattle.xd_run.specs.Numbers.{all_among, all_distinct, among, without}
use Rattle.xd_worker_tests.specs.declared.line_entry.LineEntry.{LineEntry}
use Rattle.xd_worker_tests.specs.declared.line_entry.LineEntry.TheVariants.{Test, Mark}
use Rattle.xd_worker_tests.specs.Line.{head_test}
use Rattle.xd_run_laws.proofs.Counts.{among-drop, distinct-take, times-distinct}
use Rattle.xd_run_laws.proofs.Logic.{and, differ, split-and}
use Rattle.xd_run_laws.proofs.Pigeons.{all-taken}

pub count-taken : (k : ℕ) (D : List ℕ) → length (take k D) ≡ k → k ≤ length D
count-taken zero D h = omega arith
count-taken (suc k) [] h = absurd (omega (arith, h))
count-taken (suc k) (x ∷ D) h = (let more = count-taken k D (omega (arith, h)) in omega (arith, more))

head-longer : (l m : List LineEntry) (n : ℕ) → head_test l ≡ Some n → head_test (l ++ m) ≡ Some n
head-longer [] m n h = absurd cc
head-longer (Test x ∷ l) m n h = h
head-longer (Mark ∷ l) m n h = absurd cc

pub drop-longer : (k : ℕ) (l m : List LineEntry) (n : ℕ) → head_test (drop k l) ≡ Some n
    → head_test (drop k (l ++ m)) ≡ Some n
drop-longer zero l m n h = head-longer l m n h
drop-longer (suc k) [] m n h = absurd cc
drop-longer (suc k) (p ∷ l) m n h = drop-longer k l m n h

drop-after : {A : Type 0} (k : ℕ) (n : A) (xs more : List A) → drop k xs ≡ n ∷ more → drop (suc k) xs ≡ more
drop-after zero n [] more h = absurd cc
drop-after zero n (x ∷ xs) more h = cc
drop-after (suc k) n [] more h = absurd cc
drop-after (suc k) n (x ∷ xs) more h = drop-after k n xs more h

pub drop-next : {A : Type 0} (k : ℕ) (n : A) (xs more : List A) → drop k xs ≡ n ∷ more → drop (k + 1) xs ≡ more
drop-next k n xs more h =
    (let e : suc k ≡ k + 1 = omega arith in subst (λ (j : ℕ). drop j xs ≡ more) e (drop-after k n xs more h))

take-after : (k n : ℕ) (xs more : List ℕ) → drop k xs ≡ n ∷ more → take (suc k) xs ≡ take k xs ++ n ∷ []
take-after zero n [] more h = absurd cc
take-after zero n (x ∷ xs) more h = (let e : x ≡ n = cc in ap (λ (y : ℕ). y ∷ []) e)
take-after (suc k) n [] more h = absurd cc
take-after (suc k) n (x ∷ xs) more h = ap (λ (l : List ℕ). x ∷ l) (take-after k n xs more h)

pub take-next : (k n : ℕ) (xs more : List ℕ) → drop k xs ≡ n ∷ more → take (k + 1) xs ≡ take k xs ++ n ∷ []
take-next k n xs more h =
    (let e : suc k ≡ k + 1 = omega arith in subst (λ (j : ℕ). take j xs ≡ take k xs ++ n ∷ []) e (take-after k n xs more h))

pub all-append : (test : ℕ → Bool) (xs ys : List ℕ) → list_all test xs ≡ true → list_all test ys ≡ true
    → list_all test (xs ++ ys) ≡ true
all-append test [] ys h k = k
all-append test (x ∷ xs) ys h k =
    (let p = split-and (test x) (list_all test xs) h in rw (p.0, all-append test xs ys p.1 k) refl)

pub few-dropped : {A : Type 0} (n : ℕ) (xs : List A) → drop n xs ≡ [] → length xs ≤ n
few-dropped zero [] h = omega arith
few-dropped zero (x ∷ xs) h = absurd cc
few-dropped (suc n) [] h = omega arith
few-dropped (suc n) (x ∷ xs) h = (let more = few-dropped n xs h in omega (arith, more))

low-among : (n x : ℕ) (xs : List ℕ) → list_all (λ y. nat_lt y n) xs ≡ true → among x xs ≡ true → x < n
low-among n x [] h k = absurd (differ k)
low-among n x (y ∷ xs) h k = grind (arith, nat_tests, low-among n x xs, h, k)

all-taken-low : (n k : ℕ) (xs : List ℕ) → list_all (λ y. nat_lt y n) xs ≡ true
    → list_all (λ y. nat_lt y n) (take k xs) ≡ true
all-taken-low n zero xs h = refl
all-taken-low n (suc k) [] h = refl
all-taken-low n (suc k) (x ∷ xs) h =
    (let p = split-and (nat_lt x n) (list_all (λ y. nat_lt y n) xs) h in rw (p.0, all-taken-low n k xs p.1) refl)

length-taken : (k y : ℕ) (xs rest : List ℕ) → drop k xs ≡ y ∷ rest → length (take k xs) ≡ k
length-taken zero y xs rest h = refl
length-taken (suc k) y [] rest h = absurd cc
length-taken (suc k) y (x ∷ xs) rest h = ap suc (length-taken k y xs rest h)

-- what stands after a part is not in it
pub apart-of : (x n : ℕ) (D : List ℕ) → all_distinct D ≡ true → among x (take n D) ≡ true → among x (drop n D) ≡ true
    → ⊥
apart-of x zero D h p q = differ p
apart-of x (suc n) [] h p q = differ p
apart-of x (suc n) (y ∷ D) h p q =
    let d = split-and (not (among y D)) (all_distinct D) h in
    let later : among x D ≡ true = dropped n D q in
    (elim (x == y) as (λ b. (x == y) ≡ b → ⊥) [
      | true ↦ λ e. (let none : among x D ≡ false = grind (arith, nat_tests, d.0, e) in differ (sym none ∙ later))
      | false ↦ λ e. apart-of x n D d.1 (grind (arith, nat_tests, p, e)) q
    ]) refl
  where
    dropped : (k : ℕ) (E : List ℕ) → among x (drop k E) ≡ true → among x E ≡ true
    dropped zero E r = r
    dropped (suc k) [] r = r
    dropped (suc k) (z ∷ E) r = grind (arith, nat_tests, dropped k E)

-- as many numbers below a bound as it says, none of them twice
pub length-low : (n : ℕ) (xs : List ℕ) → all_distinct xs ≡ true → list_all (λ x. nat_lt x n) xs ≡ true → length xs ≤ n
length-low n xs d low = go (drop n xs) refl
  where
    go : (ys : List ℕ) → drop n xs ≡ ys → length xs ≤ n
    go [] e = few-dropped n xs e
    go (y ∷ ys) e =
        let here : among y (drop n xs) ≡ true = ap (λ (l : List ℕ). among y l) e ∙ grind (arith, nat_tests) in
        let there : among y xs ≡ true = among-drop y n xs here in
        let small : y < n = low-among n y xs low there in
        let count : length (take n xs) ≡ n = length-taken n y xs ys e in
        let front : among y (take n xs) ≡ true = all-taken y n (take n xs) (λ i. (let t = times-distinct i (take n xs) (distinct-take n xs d) in grind (arith, nat_tests, t))) (λ x h. low-among n x (take n xs) (all-taken-low n n xs low) h) count small in
        absurd (apart-of y n xs d front here)

-- what stands in a list stands in a longer one
pub among-longer : (x : ℕ) (xs ys : List ℕ) → among x xs ≡ true → among x (xs ++ ys) ≡ true
among-longer x [] ys h = absurd (differ h)
among-longer x (z ∷ xs) ys h = grind (arith, nat_tests, among-longer x xs ys)

pub all-last : (xs ys zs : List ℕ) → all_among xs ys ≡ true → all_among xs (ys ++ zs) ≡ true
all-last [] ys zs h = refl
all-last (x ∷ xs) ys zs h =
    (let p = split-and (among x ys) (all_among xs ys) h in and (among-longer x ys zs p.0) (all-last xs ys zs p.1))

pub itself-last : (x : ℕ) (ys : List ℕ) → all_among (x ∷ []) (ys ++ x ∷ []) ≡ true
itself-last x [] = grind (arith, nat_tests)
itself-last x (y ∷ ys) = grind (arith, nat_tests, itself-last x ys)

pub without-other : (x : ℕ) (xs : List ℕ) → among x xs ≡ false → without (x ∷ []) xs ≡ xs
without-other x [] h = refl
without-other x (y ∷ xs) h = grind (arith, nat_tests, without-other x xs, h)

pub without-first : (x : ℕ) (xs : List ℕ) → all_distinct (x ∷ xs) ≡ true → without (x ∷ []) (x ∷ xs) ≡ xs
without-first x xs h =
    let d = split-and (not (among x xs)) (all_distinct xs) h in
    let none : among x xs ≡ false = grind (arith, nat_tests, d.0) in
    let rest = without-other x xs none in
    grind (arith, nat_tests, rest)

pub within-dropped : (k : ℕ) (x : List ℕ) (S more : List (List ℕ)) → drop k S ≡ x ∷ more → k + 1 ≤ length S
within-dropped zero x [] more h = absurd cc
within-dropped zero x (y ∷ S) more h = omega arith
within-dropped (suc k) x [] more h = absurd cc
within-dropped (suc k) x (y ∷ S) more h = (let m = within-dropped k x S more h in omega (arith, m))

pub none-filtered : (ns L : List ℕ) → ((x : ℕ) → among x L ≡ true → among x ns ≡ false)
    → filter (λ y. among y ns) L ≡ []
none-filtered ns [] k = refl
none-filtered ns (x ∷ L) k =
    let here : among x ns ≡ false = k x (grind (arith, nat_tests)) in
    rw here (none-filtered ns L (λ y h. k y (grind (arith, nat_tests, h))))

pub dropped-last : (n : ℕ) (backs : List (List ℕ)) (a : List ℕ) → length backs ≡ n → drop n (backs ++ a ∷ []) ≡ a ∷ []
dropped-last zero [] a h = refl
dropped-last (suc n) [] a h = absurd (omega (arith, h))
dropped-last zero (b ∷ backs) a h = absurd (omega (arith, h))
dropped-last (suc n) (b ∷ backs) a h = dropped-last n backs a (omega (arith, h))

pub none-of_length : {A : Type 0} (xs : List A) → length xs ≤ 0 → xs ≡ []
none-of_length [] h = refl
none-of_length (x ∷ xs) h = absurd (omega (arith, h))
