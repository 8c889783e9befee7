-- A number leaves its chain or goes to an end of one, and each chain stands after it.
use Rattle.std.proofs.Common.{◌≡◌, ℕ, ◌+◌, ◌-◌, ◌≤◌, ◌<◌, List, [], ◌∷◌, ◌++◌, Bool, true, false, length, length-append, get_or, set, nat_lt, refl, ap, sym, subst, ◌∙◌, arith}
use Rattle.std.specs.Prelude.{◌==◌}
use Rattle.std.proofs.lemmas.Bool.Decides.{nat_tests}
use Rattle.std.proofs.lemmas.List.{length-set, get_or_past, get_or-set_same, get_or-set_other}
use Rattle.xd_run.specs.Numbers.{times, among, without}
use Rattle.xd_ledger.specs.Chains.{at, owner_of, no_chain, walk, chain, Nexts, Backs, IsLinkedChain, AreChains, changed, part_before, part_after}
use Rattle.xd_run.proofs.Counts.{few_of-kind}
use Rattle.xd_ledger.proofs.Links.{first_or, last_or, walked, swapped, same, nexts_else, backs_else, nexts_put, backs_put, nexts_first, backs_first, nexts_taken, backs_taken, next-at, back-at, next-of, back-of, around, times-append, times-first, times-last, without-around}

pub by_cases : {P : Type 0} (b : Bool) → (b ≡ true → P) → (b ≡ false → P) → P
by_cases true f g = f refl
by_cases false f g = g refl

pub equals : (i j : ℕ) → (i == j) ≡ true → i ≡ j
equals i j h = grind (arith, nat_tests)

set-here : (xs : List ℕ) (i y d : ℕ) → i < length xs → get_or (set xs i y) i d ≡ y
set-here xs i y d h = get_or-set_same xs i y d h

set-else : (xs : List ℕ) (i y d j : ℕ) → (i == j) ≡ false → get_or (set xs i y) j d ≡ get_or xs j d
set-else xs i y d j h = get_or-set_other xs i j y d (λ e. (let k = same i in grind (arith, nat_tests)))

-- what one chain says of its places

owned-below : (o : List ℕ) (k x : ℕ) → k < 4294967295 → owner_of o x ≡ k → x < length o
owned-below o k x h e = by_cases (nat_lt x (length o)) (λ t. grind (arith, nat_tests)) (λ f. absurd (let p = get_or_past o x no_chain (grind (arith, nat_tests)) in omega arith))

pub stands-below : (n p o : List ℕ) (b k c : ℕ) (xs : List ℕ) → IsLinkedChain n p o (b + k) k c xs → b ≡ length o → k < 4294967295 → (x : ℕ) → 1 ≤ times x xs → x < b
stands-below n p o b k c xs s e h x t = (let w = s.owns x in let d = owned-below o k x h in grind (arith, nat_tests))

-- each place once, the end too
pub stands-once : (n p o : List ℕ) (b k c : ℕ) (xs : List ℕ) → IsLinkedChain n p o (b + k) k c xs → b ≡ length o → k < 4294967295 → (x : ℕ) → times x ((b + k) ∷ xs) ≤ 1
stands-once n p o b k c xs s e h x = (let w = s.owns x in let d = stands-below n p o b k c xs s e h x in grind (arith, nat_tests))

-- a place of one chain is none of another
pub stands-apart : (n p o : List ℕ) (b k c : ℕ) (xs : List ℕ) (j d : ℕ) (ys : List ℕ) → IsLinkedChain n p o (b + k) k c xs → IsLinkedChain n p o (b + j) j d ys → b ≡ length o → k < 4294967295 → j < 4294967295 → (k == j) ≡ false
    → (x : ℕ) → 1 ≤ times x ((b + k) ∷ xs) → times x ((b + j) ∷ ys) ≡ 0
stands-apart n p o b k c xs j d ys s r e h i f x t =
    let w = s.owns x in
    let v = r.owns x in
    let y = stands-below n p o b k c xs s e h x in
    let z = stands-below n p o b j d ys r e i x in
    grind (arith, nat_tests)

pub stands-walk : (n p o : List ℕ) (e k c : ℕ) (xs : List ℕ) → IsLinkedChain n p o e k c xs → walk n (at n e) c ≡ xs
stands-walk n p o e k c xs s = ap (λ i. walk n (at n e) i) (sym s.counted) ∙ walked n e xs e s.nexts

pub stands-few : (n p o : List ℕ) (b k c : ℕ) (xs : List ℕ) → IsLinkedChain n p o (b + k) k c xs → b ≡ length o → k < 4294967295 → length xs ≤ b
stands-few n p o b k c xs s e h =
    few_of-kind (λ z. owner_of o z == k) b xs (λ z. (let w = s.owns z in let y = stands-below n p o b k c xs s e h z in grind (arith, nat_tests)))

-- a number leaves

pub stands_taken : (n p o : List ℕ) (b k c : ℕ) (hs : List ℕ) (x : ℕ) (ts : List ℕ) → IsLinkedChain n p o (b + k) k c (hs ++ x ∷ ts) → b ≡ length o → k < 4294967295 → first_or (b + k) ts < length p → last_or (b + k) hs < length n
    → IsLinkedChain (set n (last_or (b + k) hs) (first_or (b + k) ts)) (set p (first_or (b + k) ts) (last_or (b + k) hs)) (set o x no_chain) (b + k) k (c - 1) (hs ++ ts)
stands_taken n p o b k c hs x ts s e h fp ln =
    let l = last_or (b + k) hs in
    let f = first_or (b + k) ts in
    let once = stands-once n p o b k c (hs ++ x ∷ ts) s e h in
    let in_list : 1 ≤ times x (hs ++ x ∷ ts) = (let a = times-append x hs (x ∷ ts) in grind (arith, nat_tests)) in
    let below : x < length o = (let y = stands-below n p o b k c (hs ++ x ∷ ts) s e h x in omega arith) in
    record {
      nexts = nexts_taken n (set n l f) (b + k) hs x ts (b + k) once (set-here n l f 0 ln) (λ y d. set-else n l f 0 y d) s.nexts;
      backs = backs_taken p (set p f l) (b + k) hs x ts (b + k) once (set-here p f l 0 fp) (λ y d. set-else p f l 0 y d) s.backs;
      owns = λ y. by_cases (x == y)
          (λ t. (let q = equals x y t in let w = once x in let r = set-here o x no_chain no_chain below in let a = times-append x hs (x ∷ ts) in let g = times-append x hs ts in grind (arith, nat_tests)))
          (λ d. (let w = s.owns y in let r = set-else o x no_chain no_chain y d in let a = times-append y hs (x ∷ ts) in let g = times-append y hs ts in let d2 = swapped x y d in grind (arith, nat_tests)));
      counted = (let w = s.counted in omega (arith, length-append hs (x ∷ ts), length-append hs ts));
    }

-- a number goes to the end

pub stands_put : (n p o : List ℕ) (b k c x : ℕ) (xs : List ℕ) → IsLinkedChain n p o (b + k) k c xs → b ≡ length o → k < 4294967295 → x < b → owner_of o x ≡ no_chain → b + k < length n → b + k < length p
    → IsLinkedChain (set (set n (last_or (b + k) xs) x) x (b + k)) (set (set p x (last_or (b + k) xs)) (b + k) x) (set o x k) (b + k) k (c + 1) (xs ++ x ∷ [])
stands_put n p o b k c x xs s e h u v en ep =
    let l = last_or (b + k) xs in
    let once = stands-once n p o b k c xs s e h in
    let none : times x xs ≡ 0 = (let w = s.owns x in grind (arith, nat_tests)) in
    let new : times x ((b + k) ∷ xs) ≡ 0 = grind (arith, nat_tests) in
    let end : times (b + k) xs ≡ 0 = (let w = once (b + k) in grind (arith, nat_tests)) in
    let there = times-last (b + k) xs in
    let ln : l < length n = (let y = stands-below n p o b k c xs s e h l in grind (arith, nat_tests)) in
    let apart_l : (x == l) ≡ false = by_cases (x == l) (λ t. (let q = equals x l t in absurd (let m : times x ((b + k) ∷ xs) ≡ times l ((b + k) ∷ xs) = ap (λ i. times i ((b + k) ∷ xs)) q in omega arith))) (λ f. f) in
    let apart_e : (x == b + k) ≡ false = grind (arith, nat_tests) in
    let xn : x < length (set n l x) = omega (arith, length-set n l x) in
    let xp : x < length p = omega arith in
    let ee : b + k < length (set p x l) = omega (arith, length-set p x l) in
    let xo : x < length o = omega arith in
    record {
      nexts = nexts_put n (set (set n l x) x (b + k)) (b + k) x xs (b + k) once new
          (set-else (set n l x) x (b + k) 0 l apart_l ∙ set-here n l x 0 ln)
          (set-here (set n l x) x (b + k) 0 xn)
          (λ y d f. set-else (set n l x) x (b + k) 0 y f ∙ set-else n l x 0 y d) s.nexts;
      backs = backs_put p (set (set p x l) (b + k) x) (b + k) x xs (b + k) none end
          (set-else (set p x l) (b + k) x 0 x (swapped x (b + k) apart_e) ∙ set-here p x l 0 xp)
          (set-here (set p x l) (b + k) x 0 ee)
          (λ y d f. set-else (set p x l) (b + k) x 0 y f ∙ set-else p x l 0 y d) s.backs;
      owns = λ y. by_cases (x == y)
          (λ t. (let q = equals x y t in let r = set-here o x k no_chain xo in let a = times-append x xs (x ∷ []) in grind (arith, nat_tests)))
          (λ d. (let w = s.owns y in let r = set-else o x k no_chain y d in let a = times-append y xs (x ∷ []) in let d2 = swapped x y d in grind (arith, nat_tests)));
      counted = (let w = s.counted in omega (arith, length-append xs (x ∷ [])));
    }

-- a number goes to the front

pub stands_first : (n p o : List ℕ) (b k c x : ℕ) (xs : List ℕ) → IsLinkedChain n p o (b + k) k c xs → b ≡ length o → k < 4294967295 → x < b → owner_of o x ≡ no_chain → b + k < length n → b + k < length p → x < length n → first_or (b + k) xs < length p
    → IsLinkedChain (set (set n (b + k) x) x (first_or (b + k) xs)) (set (set p x (b + k)) (first_or (b + k) xs) x) (set o x k) (b + k) k (c + 1) (x ∷ xs)
stands_first n p o b k c x xs s e h u v en ep xn fp =
    let f = first_or (b + k) xs in
    let once = stands-once n p o b k c xs s e h in
    let none : times x xs ≡ 0 = (let w = s.owns x in grind (arith, nat_tests)) in
    let new : times x ((b + k) ∷ xs) ≡ 0 = grind (arith, nat_tests) in
    let end : times (b + k) xs ≡ 0 = (let w = once (b + k) in grind (arith, nat_tests)) in
    let there = times-first (b + k) xs in
    let apart_f : (x == f) ≡ false = by_cases (x == f) (λ t. (let q = equals x f t in absurd (let m : times x ((b + k) ∷ xs) ≡ times f ((b + k) ∷ xs) = ap (λ i. times i ((b + k) ∷ xs)) q in omega arith))) (λ g. g) in
    let apart_e : (x == b + k) ≡ false = grind (arith, nat_tests) in
    let xn2 : x < length (set n (b + k) x) = omega (arith, length-set n (b + k) x) in
    let xp : x < length p = omega arith in
    let ff : f < length (set p x (b + k)) = omega (arith, length-set p x (b + k)) in
    let xo : x < length o = omega arith in
    record {
      nexts = (
        set-else (set n (b + k) x) x f 0 (b + k) apart_e ∙ set-here n (b + k) x 0 en,
        nexts_first n (set (set n (b + k) x) x f) (b + k) x xs (b + k) none end
            (set-here (set n (b + k) x) x f 0 xn2)
            (λ y d g. set-else (set n (b + k) x) x f 0 y g ∙ set-else n (b + k) x 0 y d) s.nexts,
      );
      backs = (
        set-else (set p x (b + k)) f x 0 x (swapped x f apart_f) ∙ set-here p x (b + k) 0 xp,
        backs_first p (set (set p x (b + k)) f x) (b + k) x xs (b + k) once new
            (set-here (set p x (b + k)) f x 0 ff)
            (λ y d g. set-else (set p x (b + k)) f x 0 y g ∙ set-else p x (b + k) 0 y d) s.backs,
      );
      owns = λ y. by_cases (x == y)
          (λ t. (let q = equals x y t in let r = set-here o x k no_chain xo in grind (arith, nat_tests)))
          (λ d. (let w = s.owns y in let r = set-else o x k no_chain y d in let d2 = swapped x y d in grind (arith, nat_tests)));
      counted = (let w = s.counted in omega arith);
    }

-- the other chains

pub stands_else : (n p o : List ℕ) (e j c : ℕ) (ys : List ℕ) (i v f w : ℕ) → times i (e ∷ ys) ≡ 0 → times f (e ∷ ys) ≡ 0 → IsLinkedChain n p o e j c ys → IsLinkedChain (set n i v) (set p f w) o e j c ys
stands_else n p o e j c ys i v f w a b s = record {
  nexts = nexts_else n (set n i v) i e ys e (λ y d. set-else n i v 0 y d) a s.nexts;
  backs = backs_else p (set p f w) f e ys e (λ y d. set-else p f w 0 y d) b s.backs;
  owns = s.owns;
  counted = s.counted;
}

pub stands_owner : (n p o : List ℕ) (e j c : ℕ) (ys : List ℕ) (x z : ℕ) → times x ys ≡ 0 → (z == j) ≡ false → x < length o → IsLinkedChain n p o e j c ys → IsLinkedChain n p (set o x z) e j c ys
stands_owner n p o e j c ys x z a d h s = record {
  nexts = s.nexts;
  backs = s.backs;
  owns = λ y. by_cases (x == y)
      (λ t. (let q = equals x y t in let r = set-here o x z no_chain h in grind (arith, nat_tests)))
      (λ f. (let w = s.owns y in let r = set-else o x z no_chain y f in grind (arith, nat_tests)));
  counted = s.counted;
}

-- all chains

pub chain-past : (n o c : List ℕ) (j : ℕ) → length c ≤ j → chain n o c j ≡ []
chain-past n o c j h = ap (walk n (at n (length o + j))) (get_or_past c j 0 h)

pub chains-walk : (n p o c : List ℕ) (lists : ℕ → List ℕ) → AreChains n p o c lists → ((j : ℕ) → length c ≤ j → lists j ≡ []) → (j : ℕ) → chain n o c j ≡ lists j
chains-walk n p o c lists s past j = by_cases (nat_lt j (length c))
    (λ t. stands-walk n p o (length o + j) j (at c j) (lists j) (s.stands j (grind (arith, nat_tests))))
    (λ f. (let h : length c ≤ j = grind (arith, nat_tests) in chain-past n o c j h ∙ sym (past j h)))

pub chains-same : (n p o c : List ℕ) (lists now : ℕ → List ℕ) → AreChains n p o c lists → ((j : ℕ) → lists j ≡ now j) → AreChains n p o c now
chains-same n p o c lists now s e = record {
  nexts_fit = s.nexts_fit;
  backs_fit = s.backs_fit;
  few = s.few;
  few_chains = s.few_chains;
  owned = s.owned;
  stands = λ k h. subst (λ xs. IsLinkedChain n p o (length o + k) k (at c k) xs) (e k) (s.stands k h);
}

pub chains-long : (n p o c : List ℕ) (lists : ℕ → List ℕ) → AreChains n p o c lists → (k : ℕ) → k < length c → k < 4294967295
chains-long n p o c lists s k h = (let f = s.few_chains in omega arith)

-- the place of an end, or of a number that stands in a chain, is one of the places
pub place-fits : (n p o c : List ℕ) (lists : ℕ → List ℕ) → AreChains n p o c lists → (k : ℕ) → k < length c → (x : ℕ) → 1 ≤ times x ((length o + k) ∷ lists k) → x < length o + length c
place-fits n p o c lists s k h x t =
    let y = stands-below n p o (length o) k (at c k) (lists k) (s.stands k h) refl (chains-long n p o c lists s k h) x in
    grind (arith, nat_tests)

pub among-once : (x : ℕ) (xs : List ℕ) → among x xs ≡ true → 1 ≤ times x xs
among-once x [] h = cc
among-once x (y ∷ xs) h = grind (arith, nat_tests, among-once x xs)

-- what leads from a number of a chain, and back
pub record Around (n p o : List ℕ) (e x : ℕ) (xs : List ℕ) : Type 0 where
  pub split : xs ≡ part_before x xs ++ x ∷ part_after x xs
  pub next_is : at n x ≡ first_or e (part_after x xs)
  pub back_is : at p x ≡ last_or e (part_before x xs)
  pub next_there : 1 ≤ times (at n x) (e ∷ xs)
  pub back_there : 1 ≤ times (at p x) (e ∷ xs)

pub stands-around : (n p o : List ℕ) (e k c x : ℕ) (xs : List ℕ) → IsLinkedChain n p o e k c xs → among x xs ≡ true → Around n p o e x xs
stands-around n p o e k c x xs s a =
    let hs = part_before x xs in
    let ts = part_after x xs in
    let w : xs ≡ hs ++ x ∷ ts = around x xs a in
    let nx : at n x ≡ first_or e ts = next-at n e hs x ts e (subst (λ ys. Nexts n e ys e) w s.nexts) in
    let bx : at p x ≡ last_or e hs = back-at p e hs x ts e (subst (λ ys. Backs p e ys e) w s.backs) in
    let counts : (z : ℕ) → times z xs ≡ times z hs + times z (x ∷ ts) = λ z. ap (times z) w ∙ times-append z hs (x ∷ ts) in
    record {
      split = w;
      next_is = nx;
      back_is = bx;
      next_there = subst (λ i. 1 ≤ times i (e ∷ xs)) (sym nx) (let f = times-first e ts in let g = counts (first_or e ts) in omega arith);
      back_there = subst (λ i. 1 ≤ times i (e ∷ xs)) (sym bx) (let f = times-last e hs in let g = counts (last_or e hs) in omega arith);
    }

pub changed-here : (k : ℕ) (xs : List ℕ) (lists : ℕ → List ℕ) (j : ℕ) → (k == j) ≡ true → changed k xs lists j ≡ xs
changed-here k xs lists j h = grind (arith, nat_tests)

pub changed-else : (k : ℕ) (xs : List ℕ) (lists : ℕ → List ℕ) (j : ℕ) → (k == j) ≡ false → changed k xs lists j ≡ lists j
changed-else k xs lists j h = grind (arith, nat_tests)

pub taken_are : (n p o c : List ℕ) (lists : ℕ → List ℕ) (k x : ℕ) → AreChains n p o c lists → k < length c → among x (lists k) ≡ true
    → AreChains (set n (at p x) (at n x)) (set p (at n x) (at p x)) (set o x no_chain) (set c k (at c k - 1)) (changed k (without (x ∷ []) (lists k)) lists)
taken_are n p o c lists k x s h a =
    let b = length o in
    let e = b + k in
    let xs = lists k in
    let hs = part_before x xs in
    let ts = part_after x xs in
    let long = chains-long n p o c lists s k h in
    let here = s.stands k h in
    let w = stands-around n p o e k (at c k) x xs here a in
    let m = set n (at p x) (at n x) in
    let q = set p (at n x) (at p x) in
    let u = set o x no_chain in
    let d = set c k (at c k - 1) in
    let below : x < b = stands-below n p o b k (at c k) xs here refl long x (among-once x xs a) in
    let lu : length u ≡ b = length-set o x no_chain in
    let ld : length d ≡ length c = length-set c k (at c k - 1) in
    let bn : at p x < length n = (let y = place-fits n p o c lists s k h (at p x) w.back_there in let z = s.nexts_fit in omega arith) in
    let fp : at n x < length p = (let y = place-fits n p o c lists s k h (at n x) w.next_there in let z = s.backs_fit in omega arith) in
    let one : times x (hs ++ x ∷ ts) ≤ 1 = (let o1 = stands-once n p o b k (at c k) xs here refl long x in let g : times x xs ≡ times x (hs ++ x ∷ ts) = ap (times x) w.split in omega arith) in
    let cut : without (x ∷ []) xs ≡ hs ++ ts = ap (without (x ∷ [])) w.split ∙ without-around x hs ts one in
    let bn2 : last_or e hs < length n = subst (λ i. i < length n) w.back_is bn in
    let fp2 : first_or e ts < length p = subst (λ i. i < length p) w.next_is fp in
    let there : IsLinkedChain (set n (last_or e hs) (first_or e ts)) (set p (first_or e ts) (last_or e hs)) u e k (at c k - 1) (hs ++ ts) = stands_taken n p o b k (at c k) hs x ts (subst (λ ys. IsLinkedChain n p o e k (at c k) ys) w.split here) refl long fp2 bn2 in
    let left : IsLinkedChain m q u e k (at c k - 1) (without (x ∷ []) xs) =
    subst (λ ys. IsLinkedChain m q u e k (at c k - 1) ys) (sym cut) (subst (λ i. IsLinkedChain (set n i (at n x)) (set p (at n x) i) u e k (at c k - 1) (hs ++ ts)) (sym w.back_is) (subst (λ i. IsLinkedChain (set n (last_or e hs) i) (set p i (last_or e hs)) u e k (at c k - 1) (hs ++ ts)) (sym w.next_is) there)) in
    let other : (j : ℕ) → j < length c → (k == j) ≡ false → IsLinkedChain m q u (b + j) j (at c j) (lists j) = λ j i f.
    (let long2 = chains-long n p o c lists s j i in
    let r = s.stands j i in
    let off = stands-apart n p o b k (at c k) xs j (at c j) (lists j) here r refl long long2 f in
    let offx : times x (lists j) ≡ 0 = (let g = off x (let t = among-once x xs a in omega arith) in omega arith) in
    stands_owner m q o (b + j) j (at c j) (lists j) x no_chain offx (grind (arith, nat_tests)) below
    (stands_else n p o (b + j) j (at c j) (lists j) (at p x) (at n x) (at n x) (at p x) (off (at p x) w.back_there) (off (at n x) w.next_there) r)) in
    record {
      nexts_fit = (let y = s.nexts_fit in omega (arith, length-set n (at p x) (at n x)));
      backs_fit = (let y = s.backs_fit in omega (arith, length-set p (at n x) (at p x)));
      few = (let y = s.few in omega arith);
      few_chains = (let y = s.few_chains in omega arith);
      owned = λ y f. by_cases (x == y)
          (λ t. (let g = equals x y t in let r = set-here o x no_chain no_chain below in grind (arith, nat_tests)))
          (λ f2. (let r = set-else o x no_chain no_chain y f2 in let w2 = s.owned y in grind (arith, nat_tests)));
      stands = λ j i. (let i2 : j < length c = omega arith in subst (λ z. IsLinkedChain m q u (z + j) j (at d j) (changed k (without (x ∷ []) xs) lists j)) (sym lu)
          (by_cases (k == j)
          (λ t. (let g = equals k j t in subst (λ ys. IsLinkedChain m q u (b + j) j (at d j) ys) (sym (changed-here k (without (x ∷ []) xs) lists j t)) (subst (λ i3. IsLinkedChain m q u (b + i3) i3 (at d i3) (without (x ∷ []) xs)) g (subst (λ z. IsLinkedChain m q u e k z (without (x ∷ []) xs)) (sym (set-here c k (at c k - 1) 0 h)) left))))
          (λ f. subst (λ ys. IsLinkedChain m q u (b + j) j (at d j) ys) (sym (changed-else k (without (x ∷ []) xs) lists j f)) (subst (λ z. IsLinkedChain m q u (b + j) j z (lists j)) (sym (set-else c k (at c k - 1) 0 j f)) (other j i2 f)))));
    }

-- a free number that is linked between two places of chain k, which has it then
pub linked_are : (n p o c : List ℕ) (lists : ℕ → List ℕ) (k x l f : ℕ) (now : List ℕ) → AreChains n p o c lists → k < length c → x < length o → (owner_of o x == no_chain) ≡ true
    → 1 ≤ times l ((length o + k) ∷ lists k) → 1 ≤ times f ((length o + k) ∷ lists k)
    → IsLinkedChain (set (set n l x) x f) (set (set p x l) f x) (set o x k) (length o + k) k (at c k + 1) now
    → AreChains (set (set n l x) x f) (set (set p x l) f x) (set o x k) (set c k (at c k + 1)) (changed k now lists)
linked_are n p o c lists k x l f now s h below free l_there f_there put =
    let b = length o in
    let e = b + k in
    let xs = lists k in
    let here = s.stands k h in
    let m = set (set n l x) x f in
    let q = set (set p x l) f x in
    let u = set o x k in
    let d = set c k (at c k + 1) in
    let none = equals (owner_of o x) no_chain free in
    let long = chains-long n p o c lists s k h in
    let lu : length u ≡ b = length-set o x k in
    let ld : length d ≡ length c = length-set c k (at c k + 1) in
    let other : (j : ℕ) → j < length c → (k == j) ≡ false → IsLinkedChain m q u (b + j) j (at c j) (lists j) = λ j i g.
    (let long2 = chains-long n p o c lists s j i in
    let r = s.stands j i in
    let off = stands-apart n p o b k (at c k) xs j (at c j) (lists j) here r refl long long2 g in
    let offx : times x (lists j) ≡ 0 = (let w = r.owns x in grind (arith, nat_tests)) in
    let offx2 : times x ((b + j) ∷ lists j) ≡ 0 = grind (arith, nat_tests) in
    let first = stands_else n p o (b + j) j (at c j) (lists j) l x x l (off l l_there) offx2 r in
    stands_owner m q o (b + j) j (at c j) (lists j) x k offx g below
    (stands_else (set n l x) (set p x l) o (b + j) j (at c j) (lists j) x f f x offx2 (off f f_there) first)) in
    record {
      nexts_fit = (let y = s.nexts_fit in omega (arith, length-set n l x, length-set (set n l x) x f));
      backs_fit = (let y = s.backs_fit in omega (arith, length-set p x l, length-set (set p x l) f x));
      few = (let y = s.few in omega arith);
      few_chains = (let y = s.few_chains in omega arith);
      owned = λ y g. by_cases (x == y)
          (λ t. (let w = equals x y t in let r = set-here o x k no_chain below in grind (arith, nat_tests)))
          (λ f2. (let r = set-else o x k no_chain y f2 in let w2 = s.owned y in grind (arith, nat_tests)));
      stands = λ j i. (let i2 : j < length c = omega arith in subst (λ z. IsLinkedChain m q u (z + j) j (at d j) (changed k now lists j)) (sym lu)
          (by_cases (k == j)
          (λ t. (let g = equals k j t in subst (λ ys. IsLinkedChain m q u (b + j) j (at d j) ys) (sym (changed-here k now lists j t)) (subst (λ i3. IsLinkedChain m q u (b + i3) i3 (at d i3) now) g (subst (λ z. IsLinkedChain m q u e k z now) (sym (set-here c k (at c k + 1) 0 h)) put))))
          (λ g. subst (λ ys. IsLinkedChain m q u (b + j) j (at d j) ys) (sym (changed-else k now lists j g)) (subst (λ z. IsLinkedChain m q u (b + j) j z (lists j)) (sym (set-else c k (at c k + 1) 0 j g)) (other j i2 g)))));
    }

pub put_are : (n p o c : List ℕ) (lists : ℕ → List ℕ) (k x : ℕ) → AreChains n p o c lists → k < length c → x < length o → (owner_of o x == no_chain) ≡ true
    → AreChains (set (set n (at p (length o + k)) x) x (length o + k)) (set (set p x (at p (length o + k))) (length o + k) x) (set o x k) (set c k (at c k + 1)) (changed k (lists k ++ x ∷ []) lists)
put_are n p o c lists k x s h below free =
    let b = length o in
    let e = b + k in
    let xs = lists k in
    let here = s.stands k h in
    let en : e < length n = (let z = s.nexts_fit in omega arith) in
    let ep : e < length p = (let z = s.backs_fit in omega arith) in
    let last : at p e ≡ last_or e xs = back-of p e xs e here.backs in
    let e_there : 1 ≤ times e (e ∷ xs) = grind (arith, nat_tests) in
    let put = stands_put n p o b k (at c k) x xs here refl (chains-long n p o c lists s k h) below (equals (owner_of o x) no_chain free) en ep in
    linked_are n p o c lists k x (at p e) e (xs ++ x ∷ []) s h below free
    (subst (λ i. 1 ≤ times i (e ∷ xs)) (sym last) (times-last e xs)) e_there
    (subst (λ i. IsLinkedChain (set (set n i x) x e) (set (set p x i) e x) (set o x k) e k (at c k + 1) (xs ++ x ∷ [])) (sym last) put)

pub put_first_are : (n p o c : List ℕ) (lists : ℕ → List ℕ) (k x : ℕ) → AreChains n p o c lists → k < length c → x < length o → (owner_of o x == no_chain) ≡ true
    → AreChains (set (set n (length o + k) x) x (at n (length o + k))) (set (set p x (length o + k)) (at n (length o + k)) x) (set o x k) (set c k (at c k + 1)) (changed k (x ∷ lists k) lists)
put_first_are n p o c lists k x s h below free =
    let b = length o in
    let e = b + k in
    let xs = lists k in
    let here = s.stands k h in
    let en : e < length n = (let z = s.nexts_fit in omega arith) in
    let ep : e < length p = (let z = s.backs_fit in omega arith) in
    let xn : x < length n = omega arith in
    let first : at n e ≡ first_or e xs = next-of n e xs e here.nexts in
    let e_there : 1 ≤ times e (e ∷ xs) = grind (arith, nat_tests) in
    let f_there : 1 ≤ times (at n e) (e ∷ xs) = subst (λ i. 1 ≤ times i (e ∷ xs)) (sym first) (times-first e xs) in
    let fp : first_or e xs < length p = (let y = place-fits n p o c lists s k h (first_or e xs) (times-first e xs) in let z = s.backs_fit in omega arith) in
    let put = stands_first n p o b k (at c k) x xs here refl (chains-long n p o c lists s k h) below (equals (owner_of o x) no_chain free) en ep xn fp in
    linked_are n p o c lists k x e (at n e) (x ∷ xs) s h below free e_there f_there
    (subst (λ i. IsLinkedChain (set (set n e x) x i) (set (set p x e) i x) (set o x k) e k (at c k + 1) (x ∷ xs)) (sym first) put)

-- the chains after the writes are these lists, and they stand
pub record Gives (n p o c : List ℕ) (lists : ℕ → List ℕ) : Type 0 where
  pub stand : AreChains n p o c (chain n o c)
  pub are : (j : ℕ) → chain n o c j ≡ lists j

pub gives : (n p o c : List ℕ) (lists : ℕ → List ℕ) → AreChains n p o c lists → ((j : ℕ) → length c ≤ j → lists j ≡ []) → Gives n p o c lists
gives n p o c lists s past =
    let w = chains-walk n p o c lists s past in
    record { stand = chains-same n p o c lists (chain n o c) s (λ j. sym (w j)); are = w }

past-changed : (n o c : List ℕ) (k : ℕ) (xs : List ℕ) (v j : ℕ) → k < length c → length (set c k v) ≤ j → changed k xs (chain n o c) j ≡ []
past-changed n o c k xs v j h i =
    let l = length-set c k v in
    let e : changed k xs (chain n o c) j ≡ chain n o c j = changed-else k xs (chain n o c) j (grind (arith, nat_tests)) in
    e ∙ chain-past n o c j (omega arith)

pub take_gives : (n p o c : List ℕ) (k x : ℕ) → AreChains n p o c (chain n o c) → k < length c → among x (chain n o c k) ≡ true
    → Gives (set n (at p x) (at n x)) (set p (at n x) (at p x)) (set o x no_chain) (set c k (at c k - 1)) (changed k (without (x ∷ []) (chain n o c k)) (chain n o c))
take_gives n p o c k x s h a = gives _ _ _ _ _ (taken_are n p o c (chain n o c) k x s h a) (λ j i. past-changed n o c k (without (x ∷ []) (chain n o c k)) (at c k - 1) j h i)

pub put_gives : (n p o c : List ℕ) (k x : ℕ) → AreChains n p o c (chain n o c) → k < length c → x < length o → (owner_of o x == no_chain) ≡ true
    → Gives (set (set n (at p (length o + k)) x) x (length o + k)) (set (set p x (at p (length o + k))) (length o + k) x) (set o x k) (set c k (at c k + 1)) (changed k (chain n o c k ++ x ∷ []) (chain n o c))
put_gives n p o c k x s h b f = gives _ _ _ _ _ (put_are n p o c (chain n o c) k x s h b f) (λ j i. past-changed n o c k (chain n o c k ++ x ∷ []) (at c k + 1) j h i)

pub put_first_gives : (n p o c : List ℕ) (k x : ℕ) → AreChains n p o c (chain n o c) → k < length c → x < length o → (owner_of o x == no_chain) ≡ true
    → Gives (set (set n (length o + k) x) x (at n (length o + k))) (set (set p x (length o + k)) (at n (length o + k)) x) (set o x k) (set c k (at c k + 1)) (changed k (x ∷ chain n o c k) (chain n o c))
put_first_gives n p o c k x s h b f = gives _ _ _ _ _ (put_first_are n p o c (chain n o c) k x s h b f) (λ j i. past-changed n o c k (x ∷ chain n o c k) (at c k + 1) j h i)
