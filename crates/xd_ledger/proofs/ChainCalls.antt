-- What the calls of the chains read is within the vectors, and what they write is what they promise.
use Rattle.std.proofs.Common.{◌≡◌, ℕ, zero, suc, append_assoc, take, drop, length-drop, ◌+◌, ◌-◌, ◌≤◌, ◌<◌, List, [], ◌∷◌, ◌++◌, true, false, length, get_or, set, nat_lt, Some, None, refl, ap, sym, subst, ◌∙◌, arith}
use Rattle.std.specs.Prelude.{◌==◌, ◌||◌, if◌then◌else◌}
use Rattle.std.proofs.lemmas.Bool.Decides.{nat_tests}
use Rattle.std.proofs.lemmas.List.{get_or_read, get_or_past, take_more}
use Rattle.xd_run.specs.Numbers.{times, among, without, all_among, all_distinct, first_of}
use Rattle.xd_ledger.specs.Chains.{Lists, chain_at, chains_of, number_count, is_unchained, at, owner_of, no_chain, chain, AreChains, changed, shifted, poured, final_of, part_before, part_after}
use Rattle.xd_ledger.proofs.Links.{last_or, first_or, same, swapped, without-around, back-of, next-of, times-last, times-first, times-append}
use Rattle.xd_ledger.proofs.ChainMoves.{Gives, by_cases, equals, changed-here, changed-else, stands-once, take_gives, put_gives, put_first_gives, place-fits, stands-few, stands-around, stands-below, chains-long, among-once}

among-length : (x : ℕ) (xs : List ℕ) → among x xs ≡ true → 1 ≤ length xs
among-length x [] h = cc
among-length x (y ∷ xs) h = omega arith

pub record TakeRoom (n p o c : List ℕ) (k x : ℕ) : Type 0 where
  pub next_fits : x < length n
  pub back_fits : x < length p
  pub owner_fits : x < length o
  pub to_back : (v : ℕ) → v ≡ get_or p x v → v < length n
  pub to_next : (v : ℕ) → v ≡ get_or n x v → v < length p
  pub chain_fits : k < length c
  pub some : (v : ℕ) → v ≡ get_or c k v → 1 ≤ v

pub take_room : (n p o c : List ℕ) (k x : ℕ) → AreChains n p o c (chain n o c) → k < length c → among x (chain n o c k) ≡ true → TakeRoom n p o c k x
take_room n p o c k x s h a =
    let here = s.stands k h in
    let w = stands-around n p o (length o + k) k (at c k) x (chain n o c k) here a in
    let below : x < length o = stands-below n p o (length o) k (at c k) (chain n o c k) here refl (chains-long n p o c (chain n o c) s k h) x (among-once x (chain n o c k) a) in
    let nf = s.nexts_fit in
    let bf = s.backs_fit in
    let xn : x < length n = omega arith in
    let xp : x < length p = omega arith in
    record {
      next_fits = xn;
      back_fits = xp;
      owner_fits = below;
      to_back = λ v e. (let f = place-fits n p o c (chain n o c) s k h (at p x) w.back_there in let g : v ≡ at p x = get_or_read p x v xp e 0 in omega arith);
      to_next = λ v e. (let f = place-fits n p o c (chain n o c) s k h (at n x) w.next_there in let g : v ≡ at n x = get_or_read n x v xn e 0 in omega arith);
      chain_fits = h;
      some = λ v e. (let g : v ≡ at c k = get_or_read c k v h e 0 in let l = here.counted in let m = among-length x (chain n o c k) a in omega arith);
    }

pub take_room_at : (n p o c : List ℕ) (now : Lists) (k x : ℕ) → record { next = n; owner = o; counts = c } ≡ now → AreChains n p o c (chain n o c) → k < chains_of now → among x (chain_at now k) ≡ true → TakeRoom n p o c k x
take_room_at n p o c now k x e s = subst (λ (l : Lists). k < chains_of l → among x (chain_at l k) ≡ true → TakeRoom n p o c k x) e (take_room n p o c k x s)

pub take_done : (n p o c : List ℕ) (now : Lists) (k x nx bx ck : ℕ) → record { next = n; owner = o; counts = c } ≡ now → AreChains n p o c (chain n o c) → k < chains_of now → among x (chain_at now k) ≡ true
    → nx ≡ get_or n x nx → bx ≡ get_or p x bx → ck ≡ get_or c k ck → Gives (set n bx nx) (set p nx bx) (set o x 4294967295) (set c k (ck - 1)) (changed k (without (x ∷ []) (chain_at now k)) (chain_at now))
take_done n p o c now k x nx bx ck e s h a en ep ec =
    let r = take_room_at n p o c now k x e s h a in
    let gn : at n x ≡ nx = sym (get_or_read n x nx r.next_fits en 0) in
    let gp : at p x ≡ bx = sym (get_or_read p x bx r.back_fits ep 0) in
    let gc : at c k ≡ ck = sym (get_or_read c k ck r.chain_fits ec 0) in
    let body : k < length c → among x (chain n o c k) ≡ true → Gives (set n bx nx) (set p nx bx) (set o x 4294967295) (set c k (ck - 1)) (changed k (without (x ∷ []) (chain n o c k)) (chain n o c)) =
    λ h2 a2. subst (λ i. Gives (set n bx nx) (set p nx bx) (set o x 4294967295) (set c k (i - 1)) (changed k (without (x ∷ []) (chain n o c k)) (chain n o c))) gc
    (subst (λ i. Gives (set n i nx) (set p nx i) (set o x 4294967295) (set c k (at c k - 1)) (changed k (without (x ∷ []) (chain n o c k)) (chain n o c))) gp
    (subst (λ i. Gives (set n (at p x) i) (set p i (at p x)) (set o x 4294967295) (set c k (at c k - 1)) (changed k (without (x ∷ []) (chain n o c k)) (chain n o c))) gn (take_gives n p o c k x s h2 a2))) in
    subst (λ (l : Lists). k < chains_of l → among x (chain_at l k) ≡ true → Gives (set n bx nx) (set p nx bx) (set o x 4294967295) (set c k (ck - 1)) (changed k (without (x ∷ []) (chain_at l k)) (chain_at l))) e body h a

-- the call `put`

pub record PutRoom (n p o c : List ℕ) (k x : ℕ) : Type 0 where
  pub end_next : length o + k < length n
  pub end_back : length o + k < length p
  pub small : length o + k < 4294967295
  pub to_last : (v : ℕ) → v ≡ get_or p (length o + k) v → v < length n
  pub to_first : (v : ℕ) → v ≡ get_or n (length o + k) v → v < length p
  pub next_fits : x < length n
  pub back_fits : x < length p
  pub owner_fits : x < length o
  pub chain_fits : k < length c
  pub few : (v : ℕ) → v ≡ get_or c k v → v ≤ 1600000

pub put_room : (n p o c : List ℕ) (k x : ℕ) → AreChains n p o c (chain n o c) → k < length c → x < length o → PutRoom n p o c k x
put_room n p o c k x s h below =
    let here = s.stands k h in
    let nf = s.nexts_fit in
    let bf = s.backs_fit in
    let f1 = s.few in
    let f2 = s.few_chains in
    let ep : length o + k < length p = omega arith in
    let en : length o + k < length n = omega arith in
    record {
      end_next = en;
      end_back = ep;
      small = omega arith;
      to_last = λ v e. (let g : v ≡ at p (length o + k) = get_or_read p (length o + k) v ep e 0 in
          let l = back-of p (length o + k) (chain n o c k) (length o + k) here.backs in
          let t = times-last (length o + k) (chain n o c k) in
          let f = place-fits n p o c (chain n o c) s k h (last_or (length o + k) (chain n o c k)) t in omega arith);
      to_first = λ v e. (let g : v ≡ at n (length o + k) = get_or_read n (length o + k) v en e 0 in
          let l = next-of n (length o + k) (chain n o c k) (length o + k) here.nexts in
          let t = times-first (length o + k) (chain n o c k) in
          let f = place-fits n p o c (chain n o c) s k h (first_or (length o + k) (chain n o c k)) t in omega arith);
      next_fits = omega arith;
      back_fits = omega arith;
      owner_fits = below;
      chain_fits = h;
      few = λ v e. (let g : v ≡ at c k = get_or_read c k v h e 0 in let l = here.counted in
          let m = stands-few n p o (length o) k (at c k) (chain n o c k) here refl (chains-long n p o c (chain n o c) s k h) in omega arith);
    }

pub put_room_at : (n p o c : List ℕ) (now : Lists) (k x : ℕ) → record { next = n; owner = o; counts = c } ≡ now → AreChains n p o c (chain n o c) → k < chains_of now → x < number_count now → PutRoom n p o c k x
put_room_at n p o c now k x e s = subst (λ (l : Lists). k < chains_of l → x < number_count l → PutRoom n p o c k x) e (put_room n p o c k x s)

pub put_done : (n p o c : List ℕ) (now : Lists) (k x end last ck : ℕ) → record { next = n; owner = o; counts = c } ≡ now → AreChains n p o c (chain n o c) → k < chains_of now → x < number_count now → is_unchained x now ≡ true
    → end ≡ length o + k → last ≡ get_or p end last → ck ≡ get_or c k ck
    → Gives (set (set n last x) x end) (set (set p x last) end x) (set o x k) (set c k (ck + 1)) (changed k (chain_at now k ++ x ∷ []) (chain_at now))
put_done n p o c now k x end last ck e s h b f ee el ec =
    let r = put_room_at n p o c now k x e s h b in
    let ge : length o + k ≡ end = sym ee in
    let le : last ≡ get_or p (length o + k) last = el ∙ ap (λ i. get_or p i last) ee in
    let gl : at p (length o + k) ≡ last = sym (get_or_read p (length o + k) last r.end_back le 0) in
    let gc : at c k ≡ ck = sym (get_or_read c k ck r.chain_fits ec 0) in
    let body : k < length c → x < length o → (owner_of o x == no_chain) ≡ true → Gives (set (set n last x) x end) (set (set p x last) end x) (set o x k) (set c k (ck + 1)) (changed k (chain n o c k ++ x ∷ []) (chain n o c)) =
    λ h2 b2 f2. subst (λ i. Gives (set (set n last x) x end) (set (set p x last) end x) (set o x k) (set c k (i + 1)) (changed k (chain n o c k ++ x ∷ []) (chain n o c))) gc
    (subst (λ i. Gives (set (set n last x) x i) (set (set p x last) i x) (set o x k) (set c k (at c k + 1)) (changed k (chain n o c k ++ x ∷ []) (chain n o c))) ge
    (subst (λ i. Gives (set (set n i x) x (length o + k)) (set (set p x i) (length o + k) x) (set o x k) (set c k (at c k + 1)) (changed k (chain n o c k ++ x ∷ []) (chain n o c))) gl (put_gives n p o c k x s h2 b2 f2))) in
    subst (λ (l : Lists). k < chains_of l → x < number_count l → is_unchained x l ≡ true → Gives (set (set n last x) x end) (set (set p x last) end x) (set o x k) (set c k (ck + 1)) (changed k (chain_at l k ++ x ∷ []) (chain_at l))) e body h b f

pub put_first_done : (n p o c : List ℕ) (now : Lists) (k x end first ck : ℕ) → record { next = n; owner = o; counts = c } ≡ now → AreChains n p o c (chain n o c) → k < chains_of now → x < number_count now → is_unchained x now ≡ true
    → end ≡ length o + k → first ≡ get_or n end first → ck ≡ get_or c k ck
    → Gives (set (set n end x) x first) (set (set p x end) first x) (set o x k) (set c k (ck + 1)) (changed k (x ∷ chain_at now k) (chain_at now))
put_first_done n p o c now k x end first ck e s h b f ee ef ec =
    let r = put_room_at n p o c now k x e s h b in
    let ge : length o + k ≡ end = sym ee in
    let fe : first ≡ get_or n (length o + k) first = ef ∙ ap (λ i. get_or n i first) ee in
    let gf : at n (length o + k) ≡ first = sym (get_or_read n (length o + k) first r.end_next fe 0) in
    let gc : at c k ≡ ck = sym (get_or_read c k ck r.chain_fits ec 0) in
    let body : k < length c → x < length o → (owner_of o x == no_chain) ≡ true → Gives (set (set n end x) x first) (set (set p x end) first x) (set o x k) (set c k (ck + 1)) (changed k (x ∷ chain n o c k) (chain n o c)) =
    λ h2 b2 f2. subst (λ i. Gives (set (set n end x) x first) (set (set p x end) first x) (set o x k) (set c k (i + 1)) (changed k (x ∷ chain n o c k) (chain n o c))) gc
    (subst (λ i. Gives (set (set n i x) x first) (set (set p x i) first x) (set o x k) (set c k (at c k + 1)) (changed k (x ∷ chain n o c k) (chain n o c))) ge
    (subst (λ i. Gives (set (set n (length o + k) x) x i) (set (set p x (length o + k)) i x) (set o x k) (set c k (at c k + 1)) (changed k (x ∷ chain n o c k) (chain n o c))) gf (put_first_gives n p o c k x s h2 b2 f2))) in
    subst (λ (l : Lists). k < chains_of l → x < number_count l → is_unchained x l ≡ true → Gives (set (set n end x) x first) (set (set p x end) first x) (set o x k) (set c k (ck + 1)) (changed k (x ∷ chain_at l k) (chain_at l))) e body h b f

-- lists after two changes

pub shift_two : (from to x : ℕ) (old mid now : ℕ → List ℕ) → (from == to) ≡ false → ((j : ℕ) → mid j ≡ changed from (without (x ∷ []) (old from)) old j) → ((j : ℕ) → now j ≡ changed to (mid to ++ x ∷ []) mid j)
    → (j : ℕ) → now j ≡ shifted from to (x ∷ []) old j
shift_two from to x old mid now f a b j = by_cases (to == j)
    (λ t. b j ∙ changed-here to (mid to ++ x ∷ []) mid j t ∙ ap (λ (ys : List ℕ). ys ++ x ∷ []) (a to ∙ changed-else from (without (x ∷ []) (old from)) old to f) ∙ sym (changed-here to (old to ++ x ∷ []) (changed from (without (x ∷ []) (old from)) old) j t))
    (λ d. b j ∙ changed-else to (mid to ++ x ∷ []) mid j d ∙ a j ∙ sym (changed-else to (old to ++ x ∷ []) (changed from (without (x ∷ []) (old from)) old) j d))

among-append : (x : ℕ) (xs ys : List ℕ) → among x (xs ++ ys) ≡ (among x xs || among x ys)
among-append x [] ys = grind (arith, nat_tests)
among-append x (y ∷ xs) ys = grind (arith, nat_tests, among-append x xs ys)

without-more : (x : ℕ) (those xs : List ℕ) → without (x ∷ []) (without those xs) ≡ without (those ++ x ∷ []) xs
without-more x those [] = refl
without-more x those (y ∷ xs) = (let k = without-more x those xs in let a = among-append y those (x ∷ []) in grind (arith, nat_tests))

without-nothing : (xs : List ℕ) → without [] xs ≡ xs
without-nothing [] = refl
without-nothing (x ∷ xs) = grind (arith, nat_tests, without-nothing xs)

pub shifted-to : (from to : ℕ) (items : List ℕ) (lists : ℕ → List ℕ) (j : ℕ) → (to == j) ≡ true → shifted from to items lists j ≡ lists to ++ items
shifted-to from to items lists j t = changed-here to (lists to ++ items) (changed from (without items (lists from)) lists) j t

pub shifted-from : (from to : ℕ) (items : List ℕ) (lists : ℕ → List ℕ) (j : ℕ) → (to == j) ≡ false → (from == j) ≡ true → shifted from to items lists j ≡ without items (lists from)
shifted-from from to items lists j d t = changed-else to (lists to ++ items) (changed from (without items (lists from)) lists) j d ∙ changed-here from (without items (lists from)) lists j t

pub shifted-else : (from to : ℕ) (items : List ℕ) (lists : ℕ → List ℕ) (j : ℕ) → (to == j) ≡ false → (from == j) ≡ false → shifted from to items lists j ≡ lists j
shifted-else from to items lists j d f = changed-else to (lists to ++ items) (changed from (without items (lists from)) lists) j d ∙ changed-else from (without items (lists from)) lists j f

append-nil : (xs : List ℕ) → xs ++ [] ≡ xs
append-nil [] = refl
append-nil (x ∷ xs) = ap (λ (ys : List ℕ). x ∷ ys) (append-nil xs)

pub shift_none : (from to : ℕ) (lists : ℕ → List ℕ) (j : ℕ) → lists j ≡ shifted from to [] lists j
shift_none from to lists j = by_cases (to == j)
    (λ t. (let e = equals to j t in let g = shifted-to from to [] lists j t in let h : lists to ++ [] ≡ lists to = append-nil (lists to) in ap lists (sym e) ∙ sym h ∙ sym g))
    (λ d. by_cases (from == j)
    (λ t. (let e = equals from j t in ap lists (sym e) ∙ sym (without-nothing (lists from)) ∙ sym (shifted-from from to [] lists j d t)))
    (λ f. sym (shifted-else from to [] lists j d f)))

pub shift_more : (from to x : ℕ) (those : List ℕ) (old mid now : ℕ → List ℕ) → (from == to) ≡ false → ((j : ℕ) → mid j ≡ shifted from to those old j) → ((j : ℕ) → now j ≡ shifted from to (x ∷ []) mid j)
    → (j : ℕ) → now j ≡ shifted from to (those ++ x ∷ []) old j
shift_more from to x those old mid now f a b j = by_cases (to == j)
    (λ t. b j ∙ shifted-to from to (x ∷ []) mid j t ∙ ap (λ (ys : List ℕ). ys ++ x ∷ []) (a to ∙ shifted-to from to those old to (same to)) ∙ append_assoc (old to) those (x ∷ []) ∙ sym (shifted-to from to (those ++ x ∷ []) old j t))
    (λ d. by_cases (from == j)
    (λ t. b j ∙ shifted-from from to (x ∷ []) mid j d t ∙ ap (without (x ∷ [])) (a from ∙ shifted-from from to those old from (swapped from to f) (same from)) ∙ without-more x those (old from) ∙ sym (shifted-from from to (those ++ x ∷ []) old j d t))
    (λ g. b j ∙ shifted-else from to (x ∷ []) mid j d g ∙ a j ∙ shifted-else from to those old j d g ∙ sym (shifted-else from to (those ++ x ∷ []) old j d g)))

among-without : (x : ℕ) (those xs : List ℕ) → among x those ≡ false → among x xs ≡ true → among x (without those xs) ≡ true
among-without x those [] f h = cc
among-without x those (y ∷ xs) f h = grind (arith, nat_tests, among-without x those xs)

among-get : (xs : List ℕ) (i d : ℕ) → i < length xs → among (get_or xs i d) xs ≡ true
among-get [] i d h = absurd (omega arith)
among-get (x ∷ xs) zero d h = grind (arith, nat_tests)
among-get (x ∷ xs) (suc i) d h = (let k = among-get xs i d (omega arith) in grind (arith, nat_tests))

other_than : (x y : ℕ) (xs : List ℕ) → among x xs ≡ false → among y xs ≡ true → (y == x) ≡ false
other_than x y xs f t = by_cases (y == x) (λ e. absurd (let g = equals y x e in let h : among y xs ≡ among x xs = ap (λ z. among z xs) g in cc)) (λ n. n)

distinct-fresh : (xs : List ℕ) (i d : ℕ) → all_distinct xs ≡ true → i < length xs → among (get_or xs i d) (take i xs) ≡ false
distinct-fresh [] i d h l = absurd (omega arith)
distinct-fresh (x ∷ xs) zero d h l = refl
distinct-fresh (x ∷ xs) (suc i) d h l = (let k = distinct-fresh xs i d in let m = among-get xs i d (omega arith) in let n = other_than x (get_or xs i d) xs in grind (arith, nat_tests))

all-among-get : (xs ys : List ℕ) (i d : ℕ) → all_among xs ys ≡ true → i < length xs → among (get_or xs i d) ys ≡ true
all-among-get [] ys i d h l = absurd (omega arith)
all-among-get (x ∷ xs) ys zero d h l = grind arith
all-among-get (x ∷ xs) ys (suc i) d h l = (let k = all-among-get xs ys i d in grind (arith, nat_tests))

-- the next of these numbers has not gone yet
pub still_there : (from to : ℕ) (items : List ℕ) (old mid : ℕ → List ℕ) (i x d : ℕ) → (from == to) ≡ false → all_distinct items ≡ true → all_among items (old from) ≡ true → i < length items → x ≡ get_or items i d
    → ((j : ℕ) → mid j ≡ shifted from to (take i items) old j) → among x (mid from) ≡ true
still_there from to items old mid i x z f d w l e a =
    let m : mid from ≡ without (take i items) (old from) = a from ∙ shifted-from from to (take i items) old from (swapped from to f) (same from) in
    let n : among x (take i items) ≡ false = ap (λ y. among y (take i items)) e ∙ distinct-fresh items i z d l in
    let p : among x (old from) ≡ true = ap (λ y. among y (old from)) e ∙ all-among-get items (old from) i z w l in
    ap (among x) m ∙ among-without x (take i items) (old from) n p

pub take-next : (xs : List ℕ) (i x d : ℕ) → i < length xs → x ≡ get_or xs i d → take i xs ++ x ∷ [] ≡ take (i + 1) xs
take-next xs i x d l e = ap (λ (z : ℕ). take i xs ++ z ∷ []) e ∙ sym (take_more xs i d l)

pub take-whole : (xs : List ℕ) (i : ℕ) → length xs ≤ i → take i xs ≡ xs
take-whole [] zero h = refl
take-whole [] (suc i) h = refl
take-whole (x ∷ xs) zero h = absurd (omega arith)
take-whole (x ∷ xs) (suc i) h = ap (λ (ys : List ℕ). x ∷ ys) (take-whole xs i (omega arith))

-- pouring

pub poured-to : (n from to : ℕ) (lists : ℕ → List ℕ) (j : ℕ) → (to == j) ≡ true → poured n from to lists j ≡ lists to ++ take n (lists from)
poured-to n from to lists j t = changed-here to (lists to ++ take n (lists from)) (changed from (drop n (lists from)) lists) j t

pub poured-from : (n from to : ℕ) (lists : ℕ → List ℕ) (j : ℕ) → (to == j) ≡ false → (from == j) ≡ true → poured n from to lists j ≡ drop n (lists from)
poured-from n from to lists j d t = changed-else to (lists to ++ take n (lists from)) (changed from (drop n (lists from)) lists) j d ∙ changed-here from (drop n (lists from)) lists j t

pub poured-else : (n from to : ℕ) (lists : ℕ → List ℕ) (j : ℕ) → (to == j) ≡ false → (from == j) ≡ false → poured n from to lists j ≡ lists j
poured-else n from to lists j d f = changed-else to (lists to ++ take n (lists from)) (changed from (drop n (lists from)) lists) j d ∙ changed-else from (drop n (lists from)) lists j f

pub pour_none : (from to : ℕ) (lists : ℕ → List ℕ) (j : ℕ) → lists j ≡ poured 0 from to lists j
pour_none from to lists j = by_cases (to == j)
    (λ t. (let e = equals to j t in ap lists (sym e) ∙ sym (append-nil (lists to)) ∙ sym (poured-to 0 from to lists j t)))
    (λ d. by_cases (from == j)
    (λ t. (let e = equals from j t in ap lists (sym e) ∙ sym (poured-from 0 from to lists j d t)))
    (λ f. sym (poured-else 0 from to lists j d f)))

take_suc : (i : ℕ) (xs : List ℕ) → take i xs ++ take 1 (drop i xs) ≡ take (suc i) xs
take_suc zero [] = refl
take_suc zero (x ∷ xs) = refl
take_suc (suc i) [] = refl
take_suc (suc i) (x ∷ xs) = ap (λ (ys : List ℕ). x ∷ ys) (take_suc i xs)

take_add : (i : ℕ) (xs : List ℕ) → take i xs ++ take 1 (drop i xs) ≡ take (i + 1) xs
take_add i xs = let e : suc i ≡ i + 1 = omega arith in take_suc i xs ∙ ap (λ (n : ℕ). take n xs) e

drop_suc : (i : ℕ) (xs : List ℕ) → drop 1 (drop i xs) ≡ drop (suc i) xs
drop_suc zero [] = refl
drop_suc zero (x ∷ xs) = refl
drop_suc (suc i) [] = refl
drop_suc (suc i) (x ∷ xs) = drop_suc i xs

drop_add : (i : ℕ) (xs : List ℕ) → drop 1 (drop i xs) ≡ drop (i + 1) xs
drop_add i xs = let e : suc i ≡ i + 1 = omega arith in drop_suc i xs ∙ ap (λ (n : ℕ). drop n xs) e

pub pour_more : (i from to : ℕ) (old mid now : ℕ → List ℕ) → (from == to) ≡ false → ((j : ℕ) → mid j ≡ poured i from to old j) → ((j : ℕ) → now j ≡ poured 1 from to mid j)
    → (j : ℕ) → now j ≡ poured (i + 1) from to old j
pour_more i from to old mid now f a b j =
    let m : mid from ≡ drop i (old from) = a from ∙ poured-from i from to old from (swapped from to f) (same from) in
    by_cases (to == j)
    (λ t. b j ∙ poured-to 1 from to mid j t ∙ ap (λ (ys : List ℕ). ys ++ take 1 (mid from)) (a to ∙ poured-to i from to old to (same to)) ∙ ap (λ (ys : List ℕ). (old to ++ take i (old from)) ++ take 1 ys) m
    ∙ append_assoc (old to) (take i (old from)) (take 1 (drop i (old from))) ∙ ap (λ (ys : List ℕ). old to ++ ys) (take_add i (old from)) ∙ sym (poured-to (i + 1) from to old j t))
    (λ d. by_cases (from == j)
    (λ t. b j ∙ poured-from 1 from to mid j d t ∙ ap (drop 1) m ∙ drop_add i (old from) ∙ sym (poured-from (i + 1) from to old j d t))
    (λ g. b j ∙ poured-else 1 from to mid j d g ∙ a j ∙ poured-else i from to old j d g ∙ sym (poured-else (i + 1) from to old j d g)))

-- one is left to pour
pub pour_some : (i from to : ℕ) (old mid : ℕ → List ℕ) → (from == to) ≡ false → ((j : ℕ) → mid j ≡ poured i from to old j) → i < length (old from) → 0 < length (mid from)
pour_some i from to old mid f a h =
    let m : length (mid from) ≡ length (drop i (old from)) = ap length (a from ∙ poured-from i from to old from (swapped from to f) (same from)) in
    omega (arith, length-drop i (old from))

-- the first number of a list, as the place after its end
pub record FirstIs (x : ℕ) (xs : List ℕ) : Type 0 where
  pub one : take 1 xs ≡ x ∷ []
  pub rest : without (x ∷ []) xs ≡ drop 1 xs
  pub there : among x xs ≡ true

cut_first : (e x : ℕ) (xs : List ℕ) → 0 < length xs → x ≡ first_or e xs → times x xs ≤ 1 → FirstIs x xs
cut_first e x [] l h o = absurd (omega arith)
cut_first e x (y ∷ ys) l h o = record {
  one = ap (λ z. z ∷ []) (sym h);
  rest = subst (λ z. times z (y ∷ ys) ≤ 1 → without (z ∷ []) (y ∷ ys) ≡ ys) (sym h) (λ k. without-around y [] ys k) o;
  there = (let t = same y in subst (λ z. among z (y ∷ ys) ≡ true) (sym h) (grind (arith, nat_tests)));
}

pub first_is : (n p o c : List ℕ) (k x : ℕ) → AreChains n p o c (chain n o c) → k < length c → 0 < length (chain n o c k) → x ≡ get_or n (length o + k) x → FirstIs x (chain n o c k)
first_is n p o c k x s h some r =
    let here = s.stands k h in
    let nf = s.nexts_fit in
    let fits : length o + k < length n = omega arith in
    let g : x ≡ at n (length o + k) = get_or_read n (length o + k) x fits r 0 in
    let m = next-of n (length o + k) (chain n o c k) (length o + k) here.nexts in
    let one : times x (chain n o c k) ≤ 1 = (let w = stands-once n p o (length o) k (at c k) (chain n o c k) here refl (chains-long n p o c (chain n o c) s k h) x in omega arith) in
    cut_first (length o + k) x (chain n o c k) some (g ∙ m) one

pub first_is_at : (n p o c : List ℕ) (now : Lists) (k x : ℕ) → record { next = n; owner = o; counts = c } ≡ now → AreChains n p o c (chain n o c) → k < chains_of now → 0 < length (chain_at now k) → x ≡ get_or n (length o + k) x → FirstIs x (chain_at now k)
first_is_at n p o c now k x e s = subst (λ (l : Lists). k < chains_of l → 0 < length (chain_at l k) → x ≡ get_or n (length o + k) x → FirstIs x (chain_at l k)) e (first_is n p o c k x s)

-- where the first number of a list goes, the rest is left
pub first_shifted : (n p o c : List ℕ) (old : Lists) (now : ℕ → List ℕ) (from to x : ℕ) → record { next = n; owner = o; counts = c } ≡ old → AreChains n p o c (chain n o c) → from < chains_of old → 0 < length (chain_at old from)
    → x ≡ get_or n (length o + from) x → ((j : ℕ) → now j ≡ shifted from to (x ∷ []) (chain_at old) j) → (j : ℕ) → now j ≡ poured 1 from to (chain_at old) j
first_shifted n p o c old now from to x e s =
    subst (λ (l : Lists). from < chains_of l → 0 < length (chain_at l from) → x ≡ get_or n (length o + from) x → ((j : ℕ) → now j ≡ shifted from to (x ∷ []) (chain_at l) j) → (j : ℕ) → now j ≡ poured 1 from to (chain_at l) j) e
    (λ h some r a j.
    (let w = first_is n p o c from x s h some r in
    a j ∙ by_cases (to == j)
    (λ t. shifted-to from to (x ∷ []) (chain n o c) j t ∙ ap (λ (ys : List ℕ). chain n o c to ++ ys) (sym w.one) ∙ sym (poured-to 1 from to (chain n o c) j t))
    (λ d. by_cases (from == j)
    (λ t. shifted-from from to (x ∷ []) (chain n o c) j d t ∙ w.rest ∙ sym (poured-from 1 from to (chain n o c) j d t))
    (λ g. shifted-else from to (x ∷ []) (chain n o c) j d g ∙ sym (poured-else 1 from to (chain n o c) j d g)))))

-- the queries

place_first : (b e v : ℕ) (ys : List ℕ) → v ≡ first_or e ys → b ≤ e → ((z : ℕ) → 1 ≤ times z ys → z < b) → (if nat_lt v b then Some v else None) ≡ first_of ys
place_first b e v [] h l f = grind (arith, nat_tests)
place_first b e v (y ∷ ys) h l f = (let k = f y in let t = same y in grind (arith, nat_tests))

final-last : (x : ℕ) (xs : List ℕ) → final_of (x ∷ xs) ≡ Some (last_or x xs)
final-last x [] = refl
final-last x (y ∷ ys) = final-last y ys

place_last : (b e v : ℕ) (ys : List ℕ) → v ≡ last_or e ys → b ≤ e → ((z : ℕ) → 1 ≤ times z ys → z < b) → (if nat_lt v b then Some v else None) ≡ final_of ys
place_last b e v [] h l f = grind (arith, nat_tests)
place_last b e v (y ∷ ys) h l f =
    let k = f (last_or y ys) (times-last y ys) in
    let t : nat_lt v b ≡ true = grind (arith, nat_tests) in
    ap (λ u. if u then Some v else None) t ∙ ap Some h ∙ sym (final-last y ys)

pub first_at : (n p o c : List ℕ) (now : Lists) (k v : ℕ) → record { next = n; owner = o; counts = c } ≡ now → AreChains n p o c (chain n o c) → k < chains_of now → v ≡ get_or n (length o + k) v → (if nat_lt v (number_count now) then Some v else None) ≡ first_of (chain_at now k)
first_at n p o c now k v e s = subst (λ (l : Lists). k < chains_of l → v ≡ get_or n (length o + k) v → (if nat_lt v (number_count l) then Some v else None) ≡ first_of (chain_at l k)) e
    (λ h r. (let here = s.stands k h in let nf = s.nexts_fit in let fits : length o + k < length n = omega arith in
    let g : v ≡ at n (length o + k) = get_or_read n (length o + k) v fits r 0 in
    let up : length o ≤ length o + k = omega arith in
    place_first (length o) (length o + k) v (chain n o c k) (g ∙ next-of n (length o + k) (chain n o c k) (length o + k) here.nexts) up
    (stands-below n p o (length o) k (at c k) (chain n o c k) here refl (chains-long n p o c (chain n o c) s k h))))

pub last_at : (n p o c : List ℕ) (now : Lists) (k v : ℕ) → record { next = n; owner = o; counts = c } ≡ now → AreChains n p o c (chain n o c) → k < chains_of now → v ≡ get_or p (length o + k) v → (if nat_lt v (number_count now) then Some v else None) ≡ final_of (chain_at now k)
last_at n p o c now k v e s = subst (λ (l : Lists). k < chains_of l → v ≡ get_or p (length o + k) v → (if nat_lt v (number_count l) then Some v else None) ≡ final_of (chain_at l k)) e
    (λ h r. (let here = s.stands k h in let bf = s.backs_fit in let fits : length o + k < length p = omega arith in
    let g : v ≡ at p (length o + k) = get_or_read p (length o + k) v fits r 0 in
    let up : length o ≤ length o + k = omega arith in
    place_last (length o) (length o + k) v (chain n o c k) (g ∙ back-of p (length o + k) (chain n o c k) (length o + k) here.backs) up
    (stands-below n p o (length o) k (at c k) (chain n o c k) here refl (chains-long n p o c (chain n o c) s k h))))

part-below : (b : ℕ) (hs : List ℕ) (x : ℕ) (ts xs : List ℕ) → xs ≡ hs ++ x ∷ ts → ((z : ℕ) → 1 ≤ times z xs → z < b) → (z : ℕ) → 1 ≤ times z hs + times z ts → z < b
part-below b hs x ts xs e f z h = (let m : times z xs ≡ times z (hs ++ x ∷ ts) = ap (times z) e in let a = times-append z hs (x ∷ ts) in f z (omega arith))

pub next_is_at : (n p o c : List ℕ) (now : Lists) (x v k : ℕ) → record { next = n; owner = o; counts = c } ≡ now → AreChains n p o c (chain n o c) → x < number_count now → v ≡ get_or n x v → k < chains_of now → among x (chain_at now k) ≡ true → (if nat_lt v (number_count now) then Some v else None) ≡ first_of (part_after x (chain_at now k))
next_is_at n p o c now x v k e s = subst (λ (l : Lists). x < number_count l → v ≡ get_or n x v → k < chains_of l → among x (chain_at l k) ≡ true → (if nat_lt v (number_count l) then Some v else None) ≡ first_of (part_after x (chain_at l k))) e
    (λ b r h a. (let here = s.stands k h in let nf = s.nexts_fit in let fits : x < length n = omega arith in
    let g : v ≡ at n x = get_or_read n x v fits r 0 in
    let w = stands-around n p o (length o + k) k (at c k) x (chain n o c k) here a in
    let up : length o ≤ length o + k = omega arith in
    let f = part-below (length o) (part_before x (chain n o c k)) x (part_after x (chain n o c k)) (chain n o c k) w.split (stands-below n p o (length o) k (at c k) (chain n o c k) here refl (chains-long n p o c (chain n o c) s k h)) in
    place_first (length o) (length o + k) v (part_after x (chain n o c k)) (g ∙ w.next_is) up (λ z t. f z (omega arith))))

pub back_is_at : (n p o c : List ℕ) (now : Lists) (x v k : ℕ) → record { next = n; owner = o; counts = c } ≡ now → AreChains n p o c (chain n o c) → x < number_count now → v ≡ get_or p x v → k < chains_of now → among x (chain_at now k) ≡ true → (if nat_lt v (number_count now) then Some v else None) ≡ final_of (part_before x (chain_at now k))
back_is_at n p o c now x v k e s = subst (λ (l : Lists). x < number_count l → v ≡ get_or p x v → k < chains_of l → among x (chain_at l k) ≡ true → (if nat_lt v (number_count l) then Some v else None) ≡ final_of (part_before x (chain_at l k))) e
    (λ b r h a. (let here = s.stands k h in let bf = s.backs_fit in let fits : x < length p = omega arith in
    let g : v ≡ at p x = get_or_read p x v fits r 0 in
    let w = stands-around n p o (length o + k) k (at c k) x (chain n o c k) here a in
    let up : length o ≤ length o + k = omega arith in
    let f = part-below (length o) (part_before x (chain n o c k)) x (part_after x (chain n o c k)) (chain n o c k) w.split (stands-below n p o (length o) k (at c k) (chain n o c k) here refl (chains-long n p o c (chain n o c) s k h)) in
    place_last (length o) (length o + k) v (part_before x (chain n o c k)) (g ∙ w.back_is) up (λ z t. f z (omega arith))))

among-times : (x : ℕ) (xs : List ℕ) → among x xs ≡ nat_lt 0 (times x xs)
among-times x [] = grind (arith, nat_tests)
among-times x (y ∷ ys) = grind (arith, nat_tests, among-times x ys)

pub owner_tells : (n p o c : List ℕ) (now : Lists) (k x : ℕ) → record { next = n; owner = o; counts = c } ≡ now → AreChains n p o c (chain n o c) → k < chains_of now → among x (chain_at now k) ≡ (owner_of o x == k)
owner_tells n p o c now k x e s = subst (λ (l : Lists). k < chains_of l → among x (chain_at l k) ≡ (owner_of o x == k)) e
    (λ h. (let w = (s.stands k h).owns x in let a = among-times x (chain n o c k) in grind (arith, nat_tests)))

pub count_tells : (n p o c : List ℕ) (now : Lists) (k v : ℕ) → record { next = n; owner = o; counts = c } ≡ now → AreChains n p o c (chain n o c) → k < chains_of now → v ≡ get_or c k v → v ≡ length (chain_at now k)
count_tells n p o c now k v e s = subst (λ (l : Lists). k < chains_of l → v ≡ get_or c k v → v ≡ length (chain_at l k)) e
    (λ h r. get_or_read c k v h r 0 ∙ sym ((s.stands k h).counted))

pub not_owned : (n p o c : List ℕ) (now : Lists) (k x : ℕ) → record { next = n; owner = o; counts = c } ≡ now → AreChains n p o c (chain n o c) → k < chains_of now → length o ≤ x → among x (chain_at now k) ≡ false
not_owned n p o c now k x e s h l =
    let f = s.few_chains in
    let g : chains_of now ≡ length c = ap chains_of (sym e) in
    let v : owner_of o x ≡ no_chain = get_or_past o x no_chain l in
    owner_tells n p o c now k x e s h ∙ (let u : (owner_of o x == k) ≡ false = grind (arith, nat_tests) in u)
