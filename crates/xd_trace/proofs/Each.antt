-- One more, and its moment.
use Rattle.std.proofs.Common.{◌≡◌, List, [], ◌∷◌, ◌++◌, map, length, length-append, refl, sym, ◌∙◌, ap, arith, inl, inr}
use Rattle.std.specs.Prelude.{◌⊎◌}
use Rattle.std.specs.List.{Any}
use Rattle.std.proofs.lemmas.List.{get_or_append_left, map-append}
use Rattle.std.proofs.lemmas.List.Quantifiers.{Any-push}
use Rattle.xd_trace.specs.Each.{EachHasMoment}
use Rattle.xd_trace.specs.Noted.{moments}
use Rattle.xd_trace.specs.declared.moments.Moments.{Moments}

pub no-split : {A : Type 0} (before : List A) (m : A) (after : List A) → [] ≡ before ++ m ∷ after → ⊥
no-split [] m after h = cc
no-split (y ∷ before) m after h = cc

-- a split of a list that ends with this
pub last-split : {A : Type 0} (xs : List A) (n : A) (before : List A) (m : A) (after : List A) → xs ++ n ∷ [] ≡ before ++ m ∷ after → ((before ≡ xs) × (m ≡ n)) ⊎ ((rest : List A) × (xs ≡ before ++ m ∷ rest))
last-split [] n [] m after h = (let e : n ≡ m = cc in inl (refl, sym e))
last-split [] n (y ∷ before) m after h = (let e : [] ≡ before ++ m ∷ after = cc in absurd (no-split before m after e))
last-split {A} (x ∷ xs) n [] m after h = (let e : x ≡ m = cc in inr (xs, ap (λ (y : A). y ∷ xs) e))
last-split {A} (x ∷ xs) n (y ∷ before) m after h =
    let e : x ≡ y = cc in
    let rest : xs ++ n ∷ [] ≡ before ++ m ∷ after = cc in
    elim (last-split xs n before m after rest) [
      | inl k ↦ inl (ap (λ (z : A). z ∷ before) (sym e) ∙ ap (λ (bs : List A). x ∷ bs) k.0, k.1)
      | inr k ↦ inr (k.0, ap (λ (z : A). z ∷ xs) e ∙ ap (λ (bs : List A). y ∷ bs) k.1)
    ]

any-kept : {A : Type 0} (P : A → Type 0) (xs : List A) (y : A) → Any P xs → Any P (xs ++ y ∷ [])
any-kept P xs y a = (a.0, a.1, omega (arith, a.2, length-append xs (y ∷ [])), get_or_append_left xs (y ∷ []) a.1 a.0 a.2 ∙ a.3, a.4)

module _ {A M : Type 0} (P : List A → A → M → Type 0) where
  pub each-none : (ms : List M) → EachHasMoment P [] ms
  each-none ms = λ before x after h. absurd (no-split before x after h)

  pub each-more : (xs : List A) (x : A) (ms : List M) (m : M) → EachHasMoment P xs ms → P xs x m → EachHasMoment P (xs ++ x ∷ []) (ms ++ m ∷ [])
  each-more xs x ms m each here = λ before k after h. elim (last-split xs x before k after h) [
    | inl is ↦ Any-push (P before k) ms m (rw (is.0, is.1) here)
    | inr is ↦ any-kept (P before k) ms m (each before k is.0 is.1)
  ]

-- what was seen, with one moment more
pub seen-more : {A B C : Type 0} (f : A × B → C) (before after : Moments A B) (a : A) (b : B) → moments after ≡ moments before ++ (a, b) ∷ [] → map f (moments after) ≡ map f (moments before) ++ f (a, b) ∷ []
seen-more f before after a b is = ap (map f) is ∙ map-append f (moments before) ((a, b) ∷ [])
