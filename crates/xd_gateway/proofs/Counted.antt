-- How many numbers are in a table: there is one such count.
use Rattle.std.proofs.Common.{◌≡◌, ℕ, suc, ◌<◌, List, [], ◌∷◌, length, Bool, true, false, refl, sym, ap, subst, ◌∙◌, arith}
use Rattle.std.specs.Prelude.{◌==◌, ◌||◌, nat_lt}
use Rattle.std.specs.Ordering.{nat_cmp}
use Rattle.std.specs.declared.cmp.Ordering.TheVariants.{Less}
use Rattle.std.specs.List.{AllByRecursion}
use Rattle.std.specs.List.Sorted.{IsStrictlySortedBy}
use Rattle.std.proofs.lemmas.Bool.{eqb-true, eq-eqb}
use Rattle.std.proofs.lemmas.Bool.Decides.{nat_tests}
use Rattle.std.proofs.lemmas.Map.Keys.{sorted_head, sorted_tail}
use Rattle.xd_value.specs.Tree.{Tree}
use Rattle.xd_factory.specs.Numbers.{is_in}
use Rattle.xd_factory.specs.Slot.{Slot}
use Rattle.xd_factory.specs.SideTable.{Counts}

apart : (a x : ℕ) → nat_cmp a x ≡ Less → (x == a) ≡ false
apart a x h = grind (arith, nat_tests)

less_is : (a b : ℕ) → a < b → nat_cmp a b ≡ Less
less_is a b h = grind (arith, nat_tests)

less_on : (a b x : ℕ) → a < b → nat_cmp b x ≡ Less → nat_cmp a x ≡ Less
less_on a b x h k = grind (arith, nat_tests)

-- a number below each of a list is none of it
not_in : (a : ℕ) (xs : List ℕ) → AllByRecursion (λ y. nat_cmp a y ≡ Less) xs → is_in a xs ≡ false
not_in a [] h = refl
not_in a (x ∷ xs) h = rw (apart a x h.0, not_in a xs h.1) refl

lower : (a b : ℕ) (xs : List ℕ) → a < b → AllByRecursion (λ y. nat_cmp b y ≡ Less) xs → AllByRecursion (λ y. nat_cmp a y ≡ Less) xs
lower a b [] l h = tt
lower a b (x ∷ xs) l h = (less_on a b x l h.0, lower a b xs l h.1)

-- what is below the first of a rising list is none of it
below_first : (a b : ℕ) (bs : List ℕ) → a < b → IsStrictlySortedBy nat_cmp (b ∷ bs) → is_in a (b ∷ bs) ≡ false
below_first a b bs l s = not_in a (b ∷ bs) (less_is a b l, lower a b bs l (sorted_head nat_cmp b bs s))

in_first : (a : ℕ) (xs : List ℕ) → is_in a (a ∷ xs) ≡ true
in_first a xs = rw (eq-eqb a a refl) refl

same_first : (a b : ℕ) (xs ys : List ℕ) → IsStrictlySortedBy nat_cmp (a ∷ xs) → IsStrictlySortedBy nat_cmp (b ∷ ys) → ((c : ℕ) → is_in c (a ∷ xs) ≡ is_in c (b ∷ ys)) → a ≡ b
same_first a b xs ys s t e = by_order (nat_lt a b) (nat_lt b a) refl refl
  where
    lt_is : (m n : ℕ) → nat_lt m n ≡ true → m < n
    lt_is m n h = grind (arith, nat_tests)

    neither : (m n : ℕ) → nat_lt m n ≡ false → nat_lt n m ≡ false → m ≡ n
    neither m n h k = grind (arith, nat_tests)

    by_order : (p q : Bool) → nat_lt a b ≡ p → nat_lt b a ≡ q → a ≡ b
    by_order true q h k = absurd (let z : true ≡ false = sym (in_first a xs) ∙ e a ∙ below_first a b ys (lt_is a b h) t in cc)
    by_order false true h k = absurd (let z : true ≡ false = sym (in_first b ys) ∙ sym (e b) ∙ below_first b a xs (lt_is b a k) s in cc)
    by_order false false h k = neither a b h k

same_rest : (a : ℕ) (xs ys : List ℕ) → IsStrictlySortedBy nat_cmp (a ∷ xs) → IsStrictlySortedBy nat_cmp (a ∷ ys) → ((c : ℕ) → is_in c (a ∷ xs) ≡ is_in c (a ∷ ys)) → (c : ℕ) → is_in c xs ≡ is_in c ys
same_rest a xs ys s t e c = by_test (a == c) refl
  where
    by_test : (b : Bool) → (a == c) ≡ b → is_in c xs ≡ is_in c ys
    by_test true h =
        let q : a ≡ c = eqb-true a c h in
        subst (λ (x : ℕ). is_in x xs ≡ is_in x ys) q (not_in a xs (sorted_head nat_cmp a xs s) ∙ sym (not_in a ys (sorted_head nat_cmp a ys t)))
    by_test false h = let k : ((a == c) || is_in c xs) ≡ ((a == c) || is_in c ys) = e c in rw h at k

-- two rising lists of the same numbers are equally long
same_length : (xs ys : List ℕ) → IsStrictlySortedBy nat_cmp xs → IsStrictlySortedBy nat_cmp ys → ((c : ℕ) → is_in c xs ≡ is_in c ys) → length xs ≡ length ys
same_length [] [] s t e = refl
same_length [] (y ∷ ys) s t e = absurd (let z : false ≡ true = e y ∙ in_first y ys in cc)
same_length (x ∷ xs) [] s t e = absurd (let z : true ≡ false = sym (in_first x xs) ∙ e x in cc)
same_length (x ∷ xs) (y ∷ ys) s t e =
    let q : y ≡ x = sym (same_first x y xs ys s t e) in
    ap suc (same_length xs ys (sorted_tail nat_cmp x xs s) (sorted_tail nat_cmp y ys t) (same_rest x xs ys s (subst (λ (n : ℕ). IsStrictlySortedBy nat_cmp (n ∷ ys)) q t) (subst (λ (n : ℕ). (c : ℕ) → is_in c (x ∷ xs) ≡ is_in c (n ∷ ys)) q e)))

pub one_count : (slot : ℕ → Slot Tree) (n k : ℕ) → Counts slot n → Counts slot k → n ≡ k
one_count slot n k p q = p.count ∙ same_length p.numbers q.numbers p.rising q.rising (λ c. sym (p.here c) ∙ q.here c) ∙ sym q.count
