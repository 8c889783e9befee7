-- Where a text is cut.
use Rattle.std.proofs.Common.{◌≡◌, ◌≢◌, ℕ, zero, suc, ◌+◌, ◌<◌, ◌≤◌, true, false, ◌&&◌, ◌==◌, List, [], ◌∷◌, ◌++◌, length, get_or, take, drop, refl, sym, ap, ◌∙◌, arith}
use Rattle.std.proofs.lemmas.Bool.Decides.{nat_tests}
use Rattle.std.proofs.lemmas.Grind.{common_steps}
use Rattle.std.proofs.lemmas.List.{take-append-drop}
use Rattle.std.proofs.lemmas.Str.Pattern.{NoCharPasses-char, drop_at_char}
use Rattle.std.specs.Borrow.{Bor}
use Rattle.std.specs.Prelude.{MatchOption, Option, Some, None, option_map}
use Rattle.std.specs.Str.Pattern.{FindsText, LacksTextAt, RFindsChar}
use Rattle.xd_spec.specs.Spec.{last_cut, spec_parts}

-- ---- parts

-- where `//` does not stand at the front, the first byte belongs to the first part
not_cut : (b c : ℕ) (rest : List ℕ) → LacksTextAt (47 ∷ 47 ∷ []) (b ∷ c ∷ rest) 0 → (b == 47 && c == 47) ≡ false
not_cut b c rest lacks = elim (b == 47 && c == 47) as (λ t. (b == 47 && c == 47) ≡ t → t ≡ false) [
  | true ↦ λ e. let f : b ≡ 47 = grind (arith, nat_tests) in let s : c ≡ 47 = grind (arith, nat_tests) in absurd (lacks rest (λ i. f i ∷ s i ∷ rest))
  | false ↦ λ e. refl
] refl

pub parts_none : (s : List ℕ) → ((i : ℕ) → i ≤ length s → LacksTextAt (47 ∷ 47 ∷ []) s i) → spec_parts s ≡ s ∷ []
parts_none [] lacks = refl
parts_none (b ∷ []) lacks = refl
parts_none (b ∷ c ∷ rest) lacks =
    rw (not_cut b c rest (lacks 0 (omega arith)), parts_none (c ∷ rest) (λ i le. lacks (suc i) (omega (arith, le)))) refl

pub parts_some : (s : List ℕ) (i : ℕ) (rest : List ℕ) → ((k : ℕ) → k < i → LacksTextAt (47 ∷ 47 ∷ []) s k) → drop i s ≡ 47 ∷ 47 ∷ rest → spec_parts s ≡ take i s ∷ spec_parts rest
parts_some s zero rest lacks e = ap spec_parts e
parts_some [] (suc i) rest lacks e = let short : 0 ≡ suc (suc (length rest)) = ap length e in absurd (omega (arith, short))
parts_some (b ∷ []) (suc zero) rest lacks e = let short : 0 ≡ suc (suc (length rest)) = ap length e in absurd (omega (arith, short))
parts_some (b ∷ []) (suc (suc i)) rest lacks e = let short : 0 ≡ suc (suc (length rest)) = ap length e in absurd (omega (arith, short))
parts_some (b ∷ c ∷ more) (suc i) rest lacks e =
    rw (not_cut b c more (lacks 0 (omega arith)), parts_some (c ∷ more) i rest (λ k l. lacks (suc k) (omega (arith, l))) e) refl

pub cut_part_is : (s : List ℕ) (r : Option (Bor (List ℕ) × Bor (List ℕ)))
    → MatchOption r (FindsText (47 ∷ 47 ∷ []) s None) (λ x. (i : ℕ) × (j : ℕ) × FindsText (47 ∷ 47 ∷ []) s (Some (i, j)) × (x.0.now ≡ take i s) × (x.1.now ≡ drop j s) × (i ≤ j) × (length x.0.now ≡ i) × (length x.1.now + j ≡ length s))
    → MatchOption r (spec_parts s ≡ s ∷ []) (λ p. spec_parts s ≡ p.0.now ∷ spec_parts p.1.now)
cut_part_is s None h = parts_none s h
cut_part_is s (Some x) h = parts_some s h.0 (drop h.1 s) h.2.0 h.2.1.split ∙ (λ t. sym h.3 t ∷ spec_parts (sym h.4 t))

-- ---- the last mark

abbrev pub Lacks : ℕ → List ℕ → Type 0
Lacks c xs = (i : ℕ) → i < length xs → get_or xs i 0 ≢ c

differs : (c x : ℕ) (xs : List ℕ) → Lacks c (x ∷ xs) → (x == c) ≡ false
differs c x xs h = let ne : x ≢ c = h 0 (grind (arith, common_steps)) in grind (arith, nat_tests)

lacks_rest : (c x : ℕ) (xs : List ℕ) → Lacks c (x ∷ xs) → Lacks c xs
lacks_rest c x xs h i lt = let k = h (i + 1) (grind (arith, common_steps)) in grind (arith, common_steps)

last_none : (c : ℕ) (s : List ℕ) → Lacks c s → last_cut c s ≡ None
last_none c [] h = refl
last_none c (x ∷ xs) h = rw (last_none c xs (lacks_rest c x xs h), differs c x xs h) refl

same : (c : ℕ) → (c == c) ≡ true
same c = grind (arith, nat_tests)

last_some : (c : ℕ) (front back : List ℕ) → Lacks c back → last_cut c (front ++ c ∷ back) ≡ Some (front, back)
last_some c [] back h = rw (last_none c back h, same c) refl
last_some c (x ∷ front) back h = rw (last_some c front back h) refl

pub last_cut_is : (c : ℕ) (s : List ℕ) (r : Option (Bor (List ℕ) × Bor (List ℕ)))
    → MatchOption r (RFindsChar c s None) (λ x. (i : ℕ) × (j : ℕ) × RFindsChar c s (Some (i, j)) × (x.0.now ≡ take i s) × (x.1.now ≡ drop j s) × (i ≤ j) × (length x.0.now ≡ i) × (length x.1.now + j ≡ length s))
    → c < 128 → option_map (λ x. (x.0.now, x.1.now)) r ≡ last_cut c s
last_cut_is c s None h low = sym (last_none c s (λ i l. NoCharPasses-char c s i h low l))
last_cut_is c s (Some x) h low =
    let whole : take h.0 s ++ (c ∷ drop h.1 s) ≡ s = ap (λ l. take h.0 s ++ l) (sym (drop_at_char c s h.0 h.1 h.2.1 low)) ∙ take-append-drop h.0 s in
    (λ t. Some (h.3 t, h.4 t)) ∙ sym (ap (last_cut c) (sym whole) ∙ last_some c (take h.0 s) (drop h.1 s) (λ i l. NoCharPasses-char c (drop h.1 s) i h.2.0 low l))
