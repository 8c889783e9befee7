-- Walking through a chain.
use Rattle.std.proofs.Common.{◌≡◌, ℕ, zero, suc, take, drop, ◌+◌, ◌-◌, ◌≤◌, ◌<◌, List, [], ◌∷◌, ◌++◌, length, get_or, refl, ap, sym, subst, ◌∙◌, arith}
use Rattle.std.proofs.lemmas.Bool.Decides.{nat_tests}
use Rattle.std.proofs.lemmas.List.{get_or_read}
use Rattle.std.proofs.Math.Seq.{drop-cons, drop-length, take-length}
use Rattle.xd_run.specs.Numbers.{times}
use Rattle.xd_ledger.specs.Chains.{Lists, chain_at, chains_of, at, chain, AreChains, Nexts, Backs}
use Rattle.xd_ledger.proofs.Links.{first_or, last_or, same, next-of, back-of}
use Rattle.xd_ledger.proofs.ChainMoves.{stands-below, chains-long}
use Rattle.xd_ledger.proofs.ChainCalls.{take-next}

first-drop : (e i : ℕ) (xs : List ℕ) → i < length xs → first_or e (drop i xs) ≡ get_or xs i 0
first-drop e i [] h = absurd (omega arith)
first-drop e zero (x ∷ xs) h = refl
first-drop e (suc i) (x ∷ xs) h = first-drop e i xs (omega arith)

next-drop : (n : List ℕ) (u : ℕ) (xs : List ℕ) (e i : ℕ) → Nexts n u xs e → i < length xs → at n (get_or xs i 0) ≡ first_or e (drop (suc i) xs)
next-drop n u [] e i h l = absurd (omega arith)
next-drop n u (x ∷ []) e zero h l = h.1
next-drop n u (x ∷ y ∷ ys) e zero h l = h.1.0
next-drop n u (x ∷ xs) e (suc i) h l = next-drop n x xs e i h.1 (omega arith)

pub record WalksOn (n : List ℕ) (e : ℕ) (xs : List ℕ) (i place : ℕ) : Type 0 where
  pub fits : place < length n
  pub is : place ≡ get_or xs i 0
  pub taken : take i xs ++ place ∷ [] ≡ take (i + 1) xs
  pub onward : (v : ℕ) → v ≡ get_or n place v → v ≡ first_or e (drop (i + 1) xs)

times-get : (xs : List ℕ) (i : ℕ) → i < length xs → 1 ≤ times (get_or xs i 0) xs
times-get [] i h = absurd (omega arith)
times-get (x ∷ xs) zero h = (let t = same x in grind (arith, nat_tests))
times-get (x ∷ xs) (suc i) h = (let k = times-get xs i (omega arith) in omega arith)

pub walks_on : (n p o c : List ℕ) (now : Lists) (k i place : ℕ) → record { next = n; owner = o; counts = c } ≡ now → AreChains n p o c (chain n o c) → k < chains_of now → i < length (chain_at now k) → place ≡ first_or (length o + k) (drop i (chain_at now k)) → WalksOn n (length o + k) (chain_at now k) i place
walks_on n p o c now k i place e s = subst (λ (l : Lists). k < chains_of l → i < length (chain_at l k) → place ≡ first_or (length o + k) (drop i (chain_at l k)) → WalksOn n (length o + k) (chain_at l k) i place) e
    (λ h l r. (let xs : List ℕ = chain n o c k in
    let here = s.stands k h in
    let nf = s.nexts_fit in
    let q : place ≡ get_or xs i 0 = r ∙ first-drop (length o + k) i xs l in
    let b = stands-below n p o (length o) k (at c k) xs here refl (chains-long n p o c (chain n o c) s k h) (get_or xs i 0) (times-get xs i l) in
    let f : place < length n = omega arith in
    record {
      fits = f;
      is = q;
      taken = take-next xs i place 0 l q;
      onward = λ v g. (let j : suc i ≡ i + 1 = omega arith in get_or_read n place v f g 0 ∙ ap (at n) q ∙ next-drop n (length o + k) xs (length o + k) i here.nexts l ∙ ap (λ m. first_or (length o + k) (drop m xs)) j);
    }))

-- the place after the end
pub walk_starts : (n p o c : List ℕ) (now : Lists) (k v : ℕ) → record { next = n; owner = o; counts = c } ≡ now → AreChains n p o c (chain n o c) → k < chains_of now → v ≡ get_or n (length o + k) v → v ≡ first_or (length o + k) (chain_at now k)
walk_starts n p o c now k v e s = subst (λ (l : Lists). k < chains_of l → v ≡ get_or n (length o + k) v → v ≡ first_or (length o + k) (chain_at l k)) e
    (λ h r. (let here = s.stands k h in let nf = s.nexts_fit in let f : length o + k < length n = omega arith in get_or_read n (length o + k) v f r 0 ∙ next-of n (length o + k) (chain n o c k) (length o + k) here.nexts))

-- walking back

pub no_drop : (xs : List ℕ) → drop (length xs - 0) xs ≡ []
no_drop xs = let e : length xs - 0 ≡ length xs = omega arith in ap (λ n. drop n xs) e ∙ drop-length xs

pub whole_take : (xs : List ℕ) → take (length xs - 0) xs ≡ xs
whole_take xs = let e : length xs - 0 ≡ length xs = omega arith in ap (λ n. take n xs) e ∙ take-length xs

last-take : (e i : ℕ) (xs : List ℕ) → i < length xs → last_or e (take (suc i) xs) ≡ get_or xs i 0
last-take e i [] h = absurd (omega arith)
last-take e zero (x ∷ xs) h = refl
last-take e (suc i) (x ∷ xs) h = last-take x i xs (omega arith)

back-take : (p : List ℕ) (u e i : ℕ) (xs : List ℕ) → Backs p u xs e → i < length xs → at p (get_or xs i 0) ≡ last_or u (take i xs)
back-take p u e i [] h l = absurd (omega arith)
back-take p u e zero (x ∷ xs) h l = h.0
back-take p u e (suc i) (x ∷ xs) h l = back-take p x e i xs h.1 (omega arith)

pub record WalksBack (p : List ℕ) (e : ℕ) (xs : List ℕ) (i place : ℕ) : Type 0 where
  pub fits : place < length p
  pub taken : place ∷ drop (length xs - i) xs ≡ drop (length xs - (i + 1)) xs
  pub onward : (v : ℕ) → v ≡ get_or p place v → v ≡ last_or e (take (length xs - (i + 1)) xs)

pub walks_back : (n p o c : List ℕ) (now : Lists) (k i place : ℕ) → record { next = n; owner = o; counts = c } ≡ now → AreChains n p o c (chain n o c) → k < chains_of now → i < length (chain_at now k) → place ≡ last_or (length o + k) (take (length (chain_at now k) - i) (chain_at now k)) → WalksBack p (length o + k) (chain_at now k) i place
walks_back n p o c now k i place e s = subst (λ (l : Lists). k < chains_of l → i < length (chain_at l k) → place ≡ last_or (length o + k) (take (length (chain_at l k) - i) (chain_at l k)) → WalksBack p (length o + k) (chain_at l k) i place) e
    (λ h l r. (let xs : List ℕ = chain n o c k in
    let m = length xs - (i + 1) in
    let low : m < length xs = omega arith in
    let j : length xs - i ≡ suc m = omega arith in
    let here = s.stands k h in
    let bf = s.backs_fit in
    let q : place ≡ get_or xs m 0 = r ∙ ap (λ z. last_or (length o + k) (take z xs)) j ∙ last-take (length o + k) m xs low in
    let b = stands-below n p o (length o) k (at c k) xs here refl (chains-long n p o c (chain n o c) s k h) (get_or xs m 0) (times-get xs m low) in
    let f : place < length p = omega arith in
    record {
      fits = f;
      taken = ap (λ z. place ∷ drop z xs) j ∙ ap (λ z. z ∷ drop (suc m) xs) q ∙ sym (drop-cons xs m 0 low);
      onward = λ v g. get_or_read p place v f g 0 ∙ ap (at p) q ∙ back-take p (length o + k) (length o + k) m xs here.backs low;
    }))

-- the place before the end
pub walk_ends : (n p o c : List ℕ) (now : Lists) (k v : ℕ) → record { next = n; owner = o; counts = c } ≡ now → AreChains n p o c (chain n o c) → k < chains_of now → v ≡ get_or p (length o + k) v → v ≡ last_or (length o + k) (chain_at now k)
walk_ends n p o c now k v e s = subst (λ (l : Lists). k < chains_of l → v ≡ get_or p (length o + k) v → v ≡ last_or (length o + k) (chain_at l k)) e
    (λ h r. (let here = s.stands k h in let bf = s.backs_fit in let f : length o + k < length p = omega arith in get_or_read p (length o + k) v f r 0 ∙ back-of p (length o + k) (chain n o c k) (length o + k) here.backs))
