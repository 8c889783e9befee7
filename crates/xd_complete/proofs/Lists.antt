-- Lists, and facts that a list of news keeps.
use Rattle.std.proofs.Common.{◌≡◌, ◌⊎◌, List, [], ◌∷◌, ◌++◌, Bool, true, false, ◌||◌, refl, ap, sym, ◌∙◌, subst, append_assoc, append-nil, inl, inr}
use Rattle.std.specs.List.{list_any}
use Rattle.xd_run_laws.proofs.Logic.{cases_of, differ}
use Rattle.xd_system.specs.Moment.{IsFirstPart}

-- what holds of no news, and of one more wherever it holds, holds of all
pub forward : {A : Type 0} (P : List A → Type 0) → P [] → ((xs : List A) (x : A) → P xs → P (xs ++ x ∷ []))
    → (xs : List A) → P xs
forward {A} P none more xs = go [] xs none
  where
    go : (pre post : List A) → P pre → P (pre ++ post)
    go pre [] k = subst P (sym (append-nil pre)) k
    go pre (x ∷ post) k = subst P (append_assoc pre (x ∷ []) post) (go (pre ++ x ∷ []) post (more pre x k))

pub without_last : {A : Type 0} (xs ys all : List A) → IsFirstPart (xs ++ ys) all → IsFirstPart xs all
without_last xs ys all p = (ys ++ p.0, p.1 ∙ append_assoc xs ys p.0)

pub first_or : (a b : Bool) → (a || b) ≡ false → a ≡ false
first_or true b h = absurd (differ (sym h))
first_or false b h = refl

pub second_or : (a b : Bool) → (a || b) ≡ false → b ≡ false
second_or true b h = absurd (differ (sym h))
second_or false b h = h

pub not_so : (b : Bool) → (b ≡ true → ⊥) → b ≡ false
not_so b h = elim (cases_of b) [ inl k ↦ absurd (h k) | inr k ↦ k ]

-- what is of none of some is of none of its first part
pub part_has_none : {A : Type 0} (p : A → Bool) (xs ys : List A) → list_any p (xs ++ ys) ≡ false → list_any p xs ≡ false
part_has_none p [] ys h = refl
part_has_none p (x ∷ xs) ys h = go (p x) (part_has_none p xs ys) h
  where
    go : (b : Bool) → (list_any p (xs ++ ys) ≡ false → list_any p xs ≡ false) → (b || list_any p (xs ++ ys)) ≡ false
        → (b || list_any p xs) ≡ false
    go true k e = absurd (differ (sym e))
    go false k e = k e

-- the element stands in the list
abbrev pub IsIn : {A : Type 0} → A → List A → Type 0
IsIn {A} x xs = (before : List A) × (after : List A) × (xs ≡ before ++ x ∷ after)

pub in_join : {A : Type 0} (x : A) (xs ys : List A) → IsIn x (xs ++ ys) → IsIn x xs ⊎ IsIn x ys
in_join {A} x xs ys p = go xs p.0 p.1 p.2
  where
    go : (l before after : List A) → l ++ ys ≡ before ++ x ∷ after → IsIn x l ⊎ IsIn x ys
    go [] before after e = inr (before, after, e)
    go (z ∷ l) [] after e = inl ([], l, ap (λ (y : A). y ∷ l) (let q : z ≡ x = cc in q))
    go (z ∷ l) (b ∷ before) after e = by_rest (go l before after (let q : l ++ ys ≡ before ++ x ∷ after = cc in q)) (let q : z ≡ b = cc in q)
      where
        by_rest : IsIn x l ⊎ IsIn x ys → z ≡ b → IsIn x (z ∷ l) ⊎ IsIn x ys
        by_rest (inl k) q = inl (z ∷ k.0, k.1, ap (λ (t : List A). z ∷ t) k.2)
        by_rest (inr k) q = inr k

pub in_first : {A : Type 0} (x : A) (xs ys : List A) → IsIn x xs → IsIn x (xs ++ ys)
in_first {A} x xs ys p = (p.0, p.1 ++ ys, ap (λ (l : List A). l ++ ys) p.2 ∙ append_assoc p.0 (x ∷ p.1) ys)

pub in_last : {A : Type 0} (x : A) (xs : List A) → IsIn x (xs ++ x ∷ [])
in_last x xs = (xs, [], refl)

pub in_any : {A : Type 0} (p : A → Bool) (x : A) (xs : List A) → IsIn x xs → list_any p xs ≡ false → p x ≡ false
in_any {A} p x xs k h = go k.0 (ap (list_any p) (sym k.2) ∙ h)
  where
    go : (before : List A) → list_any p (before ++ x ∷ k.1) ≡ false → p x ≡ false
    go [] e = first_or (p x) (list_any p k.1) e
    go (b ∷ before) e = go before (second_or (p b) (list_any p (before ++ x ∷ k.1)) e)
