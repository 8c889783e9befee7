-- New chains stand.
use Rattle.std.proofs.Common.{◌≡◌, ℕ, zero, suc, ◌+◌, ◌≤◌, ◌<◌, List, [], ◌∷◌, ◌++◌, false, length, length-append, nat_lt, refl, ap, sym, subst, ◌∙◌, arith}
use Rattle.std.specs.Prelude.{◌==◌, if◌then◌else◌, replicate}
use Rattle.std.specs.List.{range_with_len}
use Rattle.std.proofs.lemmas.Bool.Decides.{nat_tests}
use Rattle.std.proofs.lemmas.List.{get_or_append_left, get_or_push, get_or_past, get_or-replicate, length-replicate}
use Rattle.std.proofs.lemmas.List.FromFn.{length-range_with_len, get_or-range_with_len}
use Rattle.xd_run.specs.Numbers.{times}
use Rattle.xd_ledger.specs.Chains.{at, owner_of, no_chain, chain, Nexts, Backs, IsLinkedChain, AreChains, changed}
use Rattle.xd_run.proofs.Counts.{times-range}
use Rattle.xd_ledger.proofs.Links.{same}
use Rattle.xd_ledger.proofs.ChainMoves.{by_cases, equals, changed-here, changed-else, Gives, chain-past, chains-long, stands-below, stands-walk, gives}

nexts_same : (n m : List ℕ) (u : ℕ) (xs : List ℕ) (e : ℕ) → ((y : ℕ) → 1 ≤ times y (u ∷ xs) → at m y ≡ at n y) → Nexts n u xs e → Nexts m u xs e
nexts_same n m u [] e s h = (let t = same u in let k : 1 ≤ times u (u ∷ []) = grind (arith, nat_tests) in s u k ∙ h)
nexts_same n m u (x ∷ xs) e s h = (let t = same u in let k : 1 ≤ times u (u ∷ x ∷ xs) = grind (arith, nat_tests) in (s u k ∙ h.0, nexts_same n m x xs e (λ y i. s y (omega arith)) h.1))

backs_same : (p q : List ℕ) (u : ℕ) (xs : List ℕ) (e : ℕ) → ((y : ℕ) → 1 ≤ times y (e ∷ xs) → at q y ≡ at p y) → Backs p u xs e → Backs q u xs e
backs_same p q u [] e s h = (let t = same e in let k : 1 ≤ times e (e ∷ []) = grind (arith, nat_tests) in s e k ∙ h)
backs_same p q u (x ∷ xs) e s h = (let t = same x in let k : 1 ≤ times x (e ∷ x ∷ xs) = grind (arith, nat_tests) in (s x k ∙ h.0, backs_same p q x xs e (λ y i. s y (omega arith)) h.1))

unowned : (v k n : ℕ) → ((v == no_chain) ≡ false → v < n) → n ≤ k → k < 4294967295 → ◌≡◌ {A = ℕ} 0 (if v == k then 1 else 0)
unowned v k n w h l = by_cases (v == no_chain)
    (λ t. (let e = equals v no_chain t in grind (arith, nat_tests)))
    (λ f. (let b = w f in grind (arith, nat_tests)))

-- one more, an empty one
pub add_are : (n p o c : List ℕ) (end : ℕ) → AreChains n p o c (chain n o c) → length c < 4000000000 → end ≡ length n → AreChains (n ++ end ∷ []) (p ++ end ∷ []) o (c ++ 0 ∷ []) (chain n o c)
add_are n p o c end s room e =
    let nf = s.nexts_fit in
    let bf = s.backs_fit in
    let m = n ++ end ∷ [] in
    let q = p ++ end ∷ [] in
    let d = c ++ 0 ∷ [] in
    let ld : length d ≡ length c + 1 = omega (arith, length-append c (0 ∷ [])) in
    let place : end ≡ length o + length c = omega arith in
    let pn : length n ≡ end = omega arith in
    let pp : length p ≡ end = omega arith in
    record {
      nexts_fit = omega (arith, length-append n (end ∷ []));
      backs_fit = omega (arith, length-append p (end ∷ []));
      few = s.few;
      few_chains = omega arith;
      owned = λ x f. (let w = s.owned x f in omega arith);
      stands = λ k h. by_cases (nat_lt k (length c))
          (λ t. (let i : k < length c = grind (arith, nat_tests) in
          let r = s.stands k i in
          let below : (y : ℕ) → 1 ≤ times y ((length o + k) ∷ chain n o c k) → y < end = λ y g. (let v = stands-below n p o (length o) k (at c k) (chain n o c k) r refl (chains-long n p o c (chain n o c) s k i) y in grind (arith, nat_tests)) in
          let same_count : at c k ≡ at d k = sym (get_or_append_left c (0 ∷ []) 0 k i) in
          subst (λ z. IsLinkedChain m q o (length o + k) k z (chain n o c k)) same_count
          (record {
            nexts = nexts_same n m (length o + k) (chain n o c k) (length o + k) (λ y g. (let b : y < length n = (let v = below y g in omega arith) in get_or_append_left n (end ∷ []) 0 y b)) r.nexts;
            backs = backs_same p q (length o + k) (chain n o c k) (length o + k) (λ y g. (let b : y < length p = (let v = below y g in omega arith) in get_or_append_left p (end ∷ []) 0 y b)) r.backs;
            owns = r.owns;
            counted = r.counted;
          })))
          (λ f. (let i : k ≡ length c = grind (arith, nat_tests) in
          let j : length c ≤ k = omega arith in
          let none : chain n o c k ≡ [] = chain-past n o c k j in
          let pl : length o + k ≡ end = omega arith in
          let np : length n ≡ length o + k = omega arith in
          let bp : length p ≡ length o + k = omega arith in
          let cp : length c ≡ k = omega arith in
          subst (λ xs. IsLinkedChain m q o (length o + k) k (at d k) xs) (sym none)
          (record {
            nexts = get_or_push n end 0 (length o + k) np ∙ sym pl;
            backs = get_or_push p end 0 (length o + k) bp ∙ sym pl;
            owns = λ x. (let w = s.owned x in let fc = s.few_chains in unowned (owner_of o x) k (length c) w j (omega arith));
            counted = sym (get_or_push c 0 0 k cp);
          })));
    }

pub add_gives : (n p o c : List ℕ) (end : ℕ) → AreChains n p o c (chain n o c) → length c < 4000000000 → end ≡ length n → Gives (n ++ end ∷ []) (p ++ end ∷ []) o (c ++ 0 ∷ []) (chain n o c)
add_gives n p o c end s room e = gives _ _ _ _ _ (add_are n p o c end s room e) (λ j h. (let l = length-append c (0 ∷ []) in let i : length c ≤ j = omega arith in chain-past n o c j i))

-- a single one with n numbers

nexts_range : (n : List ℕ) (a m end : ℕ) → ((i : ℕ) → i < end → at n i ≡ i + 1) → a + m + 1 ≡ end → Nexts n a (range_with_len (a + 1) m) end
nexts_range n a zero end f h = (let i : a < end = omega arith in let j : a + 1 ≡ end = omega arith in f a i ∙ j)
nexts_range n a (suc m) end f h = (let i : a < end = omega arith in let j : (a + 1) + m + 1 ≡ end = omega arith in (f a i, nexts_range n (a + 1) m end f j))

backs_range : (p : List ℕ) (a m end : ℕ) → ((i : ℕ) → i < end → at p (i + 1) ≡ i) → a + m + 1 ≡ end → Backs p a (range_with_len (a + 1) m) end
backs_range p a zero end f h = (let i : a < end = omega arith in let j : a + 1 ≡ end = omega arith in ap (at p) (sym j) ∙ f a i)
backs_range p a (suc m) end f h = (let i : a < end = omega arith in let j : (a + 1) + m + 1 ≡ end = omega arith in (f a i, backs_range p (a + 1) m end f j))

nexts_all : (n : List ℕ) (len : ℕ) → ((i : ℕ) → i < len → at n i ≡ i + 1) → at n len ≡ 0 → Nexts n len (range_with_len 0 len) len
nexts_all n zero f z = z
nexts_all n (suc m) f z = (z, nexts_range n 0 m (suc m) f (omega arith))

backs_all : (p : List ℕ) (len : ℕ) → ((i : ℕ) → i < len → at p (i + 1) ≡ i) → at p 0 ≡ len → Backs p len (range_with_len 0 len) len
backs_all p zero f z = z
backs_all p (suc m) f z = (z, backs_range p 0 m (suc m) f (omega arith))

-- what the owners of n numbers say
owner-new : (len x : ℕ) → owner_of (replicate len 0) x ≡ (if nat_lt x len then 0 else no_chain)
owner-new len x = by_cases (nat_lt x len)
    (λ t. (let i : x < len = grind (arith, nat_tests) in get_or-replicate len x 0 no_chain i ∙ sym (ap (λ b. if b then 0 else no_chain) t)))
    (λ f. (let l : length {A = ℕ} (replicate len 0) ≡ len = length-replicate len 0 in let i : length {A = ℕ} (replicate len 0) ≤ x = grind (arith, nat_tests) in get_or_past (replicate len 0) x no_chain i ∙ sym (ap (λ b. if b then 0 else no_chain) f)))

first_stands : (len : ℕ) → IsLinkedChain (range_with_len 1 len ++ 0 ∷ []) (len ∷ range_with_len 0 len) (replicate len 0) len 0 len (range_with_len 0 len)
first_stands len =
    let ln = length-range_with_len 1 len in
    record {
      nexts = nexts_all (range_with_len 1 len ++ 0 ∷ []) len
          (λ i h. (let b : i < length (range_with_len 1 len) = omega arith in let v : 1 + i ≡ i + 1 = omega arith in get_or_append_left (range_with_len 1 len) (0 ∷ []) 0 i b ∙ get_or-range_with_len 1 len i 0 h ∙ v))
          (get_or_push (range_with_len 1 len) 0 0 len ln);
      backs = backs_all (len ∷ range_with_len 0 len) len
          (λ i h. (let e : suc i ≡ i + 1 = omega arith in let z : 0 + i ≡ i = omega arith in ap (at (len ∷ range_with_len 0 len)) (sym e) ∙ get_or-range_with_len 0 len i 0 h ∙ z))
          refl;
      owns = λ x. (let a = times-range x 0 len in let b = owner-new len x in grind (arith, nat_tests));
      counted = length-range_with_len 0 len;
    }

pub record IsNew (n p o c : List ℕ) (len : ℕ) : Type 0 where
  pub stand : AreChains n p o c (chain n o c)
  pub first : chain n o c 0 ≡ range_with_len 0 len
  pub items : length o ≡ len
  pub one : length c ≡ 1

new_is : (len : ℕ) → len ≤ 1600000 → IsNew (range_with_len 1 len ++ 0 ∷ []) (len ∷ range_with_len 0 len) (replicate len 0) (len ∷ []) len
new_is len h =
    let n : List ℕ = range_with_len 1 len ++ 0 ∷ [] in
    let p : List ℕ = len ∷ range_with_len 0 len in
    let o : List ℕ = replicate len 0 in
    let c : List ℕ = len ∷ [] in
    let lo : length o ≡ len = length-replicate len 0 in
    let end : len ≡ length o + 0 = omega arith in
    let here : IsLinkedChain n p o (length o + 0) 0 len (range_with_len 0 len) = subst (λ e. IsLinkedChain n p o e 0 len (range_with_len 0 len)) end (first_stands len) in
    let walks : chain n o c 0 ≡ range_with_len 0 len = stands-walk n p o (length o + 0) 0 len (range_with_len 0 len) here in
    record {
      stand = record {
        nexts_fit = (let a = length-range_with_len 1 len in omega (arith, length-append (range_with_len 1 len) (0 ∷ [])));
        backs_fit = (let a = length-range_with_len 0 len in omega arith);
        few = omega arith;
        few_chains = omega arith;
        owned = λ x f. (let b = owner-new len x in grind (arith, nat_tests));
        stands = λ k i. (let z : 0 ≡ k = omega arith in subst (λ j. IsLinkedChain n p o (length o + j) j (at c j) (chain n o c j)) z (subst (λ xs. IsLinkedChain n p o (length o + 0) 0 len xs) (sym walks) here));
      };
      first = walks;
      items = lo;
      one = refl;
    }

pub new_gives : (n p o c : List ℕ) (len : ℕ) → len ≤ 1600000 → n ≡ range_with_len 1 len ++ 0 ∷ [] → p ≡ len ∷ range_with_len 0 len → o ≡ replicate len 0 → c ≡ len ∷ [] → IsNew n p o c len
new_gives n p o c len h en ep eo ec =
    subst (λ i. IsNew n p o i len) (sym ec) (subst (λ i. IsNew n p i (len ∷ []) len) (sym eo) (subst (λ i. IsNew n i (replicate len 0) (len ∷ []) len) (sym ep) (subst (λ i. IsNew i (len ∷ range_with_len 0 len) (replicate len 0) (len ∷ []) len) (sym en) (new_is len h))))

pub added : (n p o c n2 p2 c2 : List ℕ) (end : ℕ) → AreChains n p o c (chain n o c) → length c < 4000000000 → end ≡ length n → n2 ≡ n ++ end ∷ [] → p2 ≡ p ++ end ∷ [] → c2 ≡ c ++ 0 ∷ [] → Gives n2 p2 o c2 (chain n o c)
added n p o c n2 p2 c2 end s room e en ep ec =
    subst (λ i. Gives i p2 o c2 (chain n o c)) (sym en) (subst (λ i. Gives (n ++ end ∷ []) i o c2 (chain n o c)) (sym ep) (subst (λ i. Gives (n ++ end ∷ []) (p ++ end ∷ []) o i (chain n o c)) (sym ec) (add_gives n p o c end s room e)))

-- the first list and the others
pub one_list : (xs : List ℕ) (lists : ℕ → List ℕ) → lists 0 ≡ xs → ((j : ℕ) → (0 == j) ≡ false → lists j ≡ []) → (j : ℕ) → lists j ≡ changed 0 xs (λ _. []) j
one_list xs lists a b j = by_cases (0 == j)
    (λ t. (let e = equals 0 j t in ap lists (sym e) ∙ a ∙ sym (changed-here 0 xs (λ _. []) j t)))
    (λ f. b j f ∙ sym (changed-else 0 xs (λ _. []) j f))
