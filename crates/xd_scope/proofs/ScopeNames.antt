-- Where a text is cut by its bytes is where its characters are.
use Rattle.std.proofs.Common.{◌≡◌, ℕ, zero, suc, ◌+◌, ◌<◌, ◌≤◌, List, [], ◌∷◌, ◌++◌, take, drop, length, get_or, Bool, true, false, ◌&&◌, refl, ap, sym, subst, ◌∙◌, arith, append_assoc, inl, inr, length-append}
use Rattle.std.specs.Prelude.{◌==◌, Some, None}
use Rattle.std.specs.Str.{chars, IsCharBoundary, IsUtf8, encode_utf8_all, NonePass, NoCharPasses}
use Rattle.std.specs.Str.Pattern.{FindsText, RFindsText, FindsChar, RFindsChar, HasCharAt, SplitsAroundMatch, LacksTextAt}
use Rattle.std.proofs.lemmas.Bool.{cases_Bool}
use Rattle.std.proofs.lemmas.Bool.Decides.{nat_tests}
use Rattle.std.proofs.lemmas.List.{take-append-drop, drop_at, length-take-le}
use Rattle.std.proofs.lemmas.Str.{chars-append, chars_from_encodes, encodes-append, encodes-chars, encode_ascii, IsUtf8-take, IsUtf8-drop, IsCharBoundary-before_ascii}
use Rattle.xd_run.specs.Scopes.{before_first, before_last, group_in, has_character, has_colons}

abbrev pub colons : List ℕ
colons = 58 ∷ 58 ∷ []

-- characters

pub colons-at : (cs : List ℕ) → has_colons cs ≡ true → (us : List ℕ) × (vs : List ℕ) × (cs ≡ us ++ (58 ∷ 58 ∷ vs))
colons-at [] h = absurd (cc)
colons-at (x ∷ []) h = absurd (cc)
colons-at (x ∷ y ∷ ys) h = elim (cases_Bool (x == 58 && y == 58)) [
  | inl k ↦ (let a : x ≡ 58 = grind (arith, nat_tests) in let b : y ≡ 58 = grind (arith, nat_tests) in ([], ys, rw (a, b)))
  | inr k ↦ (let rest : has_colons (y ∷ ys) ≡ true = grind (arith, nat_tests) in let r = colons-at (y ∷ ys) rest in (x ∷ r.0, r.1, ap (λ (zs : List ℕ). x ∷ zs) r.2))
]

has-at : (xs ys : List ℕ) → has_colons (xs ++ (58 ∷ 58 ∷ ys)) ≡ true
has-at [] ys = refl
has-at (x ∷ []) ys = grind (arith, nat_tests)
has-at (x ∷ y ∷ xs) ys = grind (arith, nat_tests, has-at (y ∷ xs) ys)

first-none : (cs : List ℕ) → has_colons cs ≡ false → before_first cs ≡ cs
first-none [] h = refl
first-none (x ∷ []) h = refl
first-none (x ∷ y ∷ ys) h =
    let a : (x == 58 && y == 58) ≡ false = grind (arith, nat_tests) in
    let b : has_colons (y ∷ ys) ≡ false = grind (arith, nat_tests) in
    rw a (ap (λ (zs : List ℕ). x ∷ zs) (first-none (y ∷ ys) b))

first-at : (xs ys : List ℕ) → has_colons (xs ++ 58 ∷ []) ≡ false → before_first (xs ++ (58 ∷ 58 ∷ ys)) ≡ xs
first-at [] ys h = refl
first-at (x ∷ []) ys h =
    let a : (x == 58) ≡ false = grind (arith, nat_tests) in
    rw a
first-at (x ∷ y ∷ xs) ys h =
    let a : (x == 58 && y == 58) ≡ false = grind (arith, nat_tests) in
    let b : has_colons ((y ∷ xs) ++ 58 ∷ []) ≡ false = grind (arith, nat_tests) in
    rw a (ap (λ (zs : List ℕ). x ∷ zs) (first-at (y ∷ xs) ys b))

last-none : (cs : List ℕ) → has_colons cs ≡ false → before_last cs ≡ cs
last-none [] h = refl
last-none (x ∷ []) h = refl
last-none (x ∷ y ∷ ys) h =
    let a : (x == 58 && y == 58) ≡ false = grind (arith, nat_tests) in
    let b : has_colons (y ∷ ys) ≡ false = grind (arith, nat_tests) in
    rw (b, a)

last-at : (xs ys : List ℕ) → has_colons (58 ∷ ys) ≡ false → before_last (xs ++ (58 ∷ 58 ∷ ys)) ≡ xs
last-at [] ys h = rw h
last-at (x ∷ []) ys h = ap (λ (zs : List ℕ). x ∷ zs) (last-at [] ys h)
last-at (x ∷ y ∷ xs) ys h = rw (has-at (y ∷ xs) ys) (ap (λ (zs : List ℕ). x ∷ zs) (last-at (y ∷ xs) ys h))

-- bytes

pub chars-colon : (bs : List ℕ) → chars (58 ∷ bs) ≡ 58 ∷ chars bs
unfolding chars
chars-colon [] = refl
chars-colon (b ∷ bs) = refl

chars-bracket : (bs : List ℕ) → chars (93 ∷ bs) ≡ 93 ∷ chars bs
unfolding chars
chars-bracket [] = refl
chars-bracket (b ∷ bs) = refl

pub chars-at_sign : (bs : List ℕ) → chars (64 ∷ bs) ≡ 64 ∷ chars bs
unfolding chars
chars-at_sign [] = refl
chars-at_sign (b ∷ bs) = refl

encodes-colon : (cs : List ℕ) → encode_utf8_all (58 ∷ cs) ≡ 58 ∷ encode_utf8_all cs
encodes-colon cs = ap (λ (z : List ℕ). z ++ encode_utf8_all cs) (encode_ascii 58 (omega arith))

at-head : (bs rest : List ℕ) (i c : ℕ) → drop i bs ≡ c ∷ rest → (i < length bs) × (get_or bs i 0 ≡ c)
at-head [] rest zero c h = absurd (cc)
at-head [] rest (suc i) c h = absurd (cc)
at-head (b ∷ bs) rest zero c h = (omega arith, cc)
at-head (b ∷ bs) rest (suc i) c h = let r = at-head bs rest i c h in (omega (arith, r.0), r.1)

cut-before : (bs rest : List ℕ) (i c : ℕ) → c < 128 → IsUtf8 bs → drop i bs ≡ c ∷ rest → chars bs ≡ chars (take i bs) ++ chars (c ∷ rest)
cut-before bs rest i c small u h =
    let at = at-head bs rest i c h in
    let lt : i < length bs = at.0 in
    let byte : get_or bs i 0 < 128 = omega (arith, at.1) in
    let front = IsUtf8-take bs i u (IsCharBoundary-before_ascii bs i lt byte) in
    ap chars (sym (take-append-drop i bs) ∙ ap (λ (z : List ℕ). take i bs ++ z) h) ∙ chars-append (take i bs) (c ∷ rest) front

cut : (bs rest : List ℕ) (i : ℕ) → IsUtf8 bs → drop i bs ≡ 58 ∷ 58 ∷ rest → chars bs ≡ chars (take i bs) ++ (58 ∷ 58 ∷ chars rest)
cut bs rest i u h = cut-before bs (58 ∷ rest) i 58 (omega arith) u h ∙ ap (λ (z : List ℕ). chars (take i bs) ++ z) (chars-colon (58 ∷ rest) ∙ ap (λ (z : List ℕ). 58 ∷ z) (chars-colon rest))

in-bytes : (bs us vs : List ℕ) → IsUtf8 bs → chars bs ≡ us ++ (58 ∷ 58 ∷ vs) → bs ≡ encode_utf8_all us ++ (58 ∷ 58 ∷ encode_utf8_all vs)
in-bytes bs us vs u e =
    sym (encodes-chars bs u) ∙ ap encode_utf8_all e ∙ encodes-append us (58 ∷ 58 ∷ vs)
    ∙ ap (λ (z : List ℕ). encode_utf8_all us ++ z) (encodes-colon (58 ∷ vs) ∙ ap (λ (z : List ℕ). 58 ∷ z) (encodes-colon vs))

-- so the bytes have them there
not-lacking : (bs us vs : List ℕ) (n : ℕ) → IsUtf8 bs → chars bs ≡ us ++ (58 ∷ 58 ∷ vs) → n ≡ length (encode_utf8_all us) → LacksTextAt colons bs n → ⊥
not-lacking bs us vs n u e k lack =
    lack (encode_utf8_all vs) (ap (drop n) (in-bytes bs us vs u e) ∙ drop_at (encode_utf8_all us) (58 ∷ 58 ∷ encode_utf8_all vs) n (sym k))

within : (bs us vs : List ℕ) → IsUtf8 bs → chars bs ≡ us ++ (58 ∷ 58 ∷ vs) → length (encode_utf8_all us) + 2 ≤ length bs
within bs us vs u e = omega (arith, ap length (in-bytes bs us vs u e), length-append (encode_utf8_all us) (58 ∷ 58 ∷ encode_utf8_all vs))

none-in : (bs : List ℕ) → IsUtf8 bs → ((i : ℕ) → i ≤ length bs → LacksTextAt colons bs i) → has_colons (chars bs) ≡ false
none-in bs u lack = elim (cases_Bool (has_colons (chars bs))) [
  | inr h ↦ h
  | inl h ↦
      (let r = colons-at (chars bs) h in
      let w = within bs r.0 r.1 u r.2 in
      absurd (not-lacking bs r.0 r.1 (length (encode_utf8_all r.0)) u r.2 refl (lack (length (encode_utf8_all r.0)) (omega (arith, w)))))
]

-- none stands before the first
none-preceding : (bs rest : List ℕ) (i : ℕ) → IsUtf8 bs → IsUtf8 (take i bs) → length (take i bs) ≡ i → drop i bs ≡ 58 ∷ 58 ∷ rest → ((k : ℕ) → k < i → LacksTextAt colons bs k) → has_colons (chars (take i bs) ++ 58 ∷ []) ≡ false
none-preceding bs rest i u f n h lack = elim (cases_Bool (has_colons (chars (take i bs) ++ 58 ∷ []))) [
  | inr k ↦ k
  | inl k ↦
      (let xs = chars (take i bs) in
      let r = colons-at (xs ++ 58 ∷ []) k in
      let e : chars bs ≡ r.0 ++ (58 ∷ 58 ∷ (r.1 ++ 58 ∷ chars rest)) =
      cut bs rest i u h ∙ sym (append_assoc xs (58 ∷ []) (58 ∷ chars rest)) ∙ ap (λ (z : List ℕ). z ++ 58 ∷ chars rest) r.2 ∙ append_assoc r.0 (58 ∷ 58 ∷ r.1) (58 ∷ chars rest) in
      let a : length (encode_utf8_all (xs ++ 58 ∷ [])) ≡ i + 1 =
      ap length (encodes-append xs (58 ∷ [])) ∙ length-append (encode_utf8_all xs) (encode_utf8_all (58 ∷ [])) ∙ (let p : length (encode_utf8_all xs) ≡ i = ap length (encodes-chars (take i bs) f) ∙ n in let q : length (encode_utf8_all (58 ∷ [])) ≡ 1 = ap length (encodes-colon []) in omega (arith, p, q)) in
      let b : length (encode_utf8_all (xs ++ 58 ∷ [])) ≡ length (encode_utf8_all r.0) + length (encode_utf8_all (58 ∷ 58 ∷ r.1)) =
      ap (λ (z : List ℕ). length (encode_utf8_all z)) r.2 ∙ ap length (encodes-append r.0 (58 ∷ 58 ∷ r.1)) ∙ length-append (encode_utf8_all r.0) (encode_utf8_all (58 ∷ 58 ∷ r.1)) in
      let d : length (encode_utf8_all (58 ∷ 58 ∷ r.1)) ≡ suc (suc (length (encode_utf8_all r.1))) = ap length (encodes-colon (58 ∷ r.1) ∙ ap (λ (z : List ℕ). 58 ∷ z) (encodes-colon r.1)) in
      absurd (not-lacking bs r.0 (r.1 ++ 58 ∷ chars rest) (length (encode_utf8_all r.0)) u e refl (lack (length (encode_utf8_all r.0)) (omega (arith, a, b, d)))))
]

-- none stands after the last
none-following : (bs rest : List ℕ) (i : ℕ) → IsUtf8 bs → IsUtf8 (take i bs) → length (take i bs) ≡ i → drop i bs ≡ 58 ∷ 58 ∷ rest → ((k : ℕ) → i < k → k ≤ length bs → LacksTextAt colons bs k) → has_colons (58 ∷ chars rest) ≡ false
none-following bs rest i u f n h lack = elim (cases_Bool (has_colons (58 ∷ chars rest))) [
  | inr k ↦ k
  | inl k ↦
      (let xs = chars (take i bs) in
      let r = colons-at (58 ∷ chars rest) k in
      let us = xs ++ 58 ∷ r.0 in
      let e : chars bs ≡ us ++ (58 ∷ 58 ∷ r.1) = cut bs rest i u h ∙ ap (λ (z : List ℕ). xs ++ 58 ∷ z) r.2 ∙ sym (append_assoc xs (58 ∷ r.0) (58 ∷ 58 ∷ r.1)) in
      let a : length (encode_utf8_all us) ≡ i + length (encode_utf8_all (58 ∷ r.0)) =
      ap length (encodes-append xs (58 ∷ r.0)) ∙ length-append (encode_utf8_all xs) (encode_utf8_all (58 ∷ r.0)) ∙ ap (λ (m : ℕ). m + length (encode_utf8_all (58 ∷ r.0))) (ap length (encodes-chars (take i bs) f) ∙ n) in
      let d : length (encode_utf8_all (58 ∷ r.0)) ≡ suc (length (encode_utf8_all r.0)) = ap length (encodes-colon r.0) in
      let w = within bs us r.1 u e in
      absurd (not-lacking bs us r.1 (length (encode_utf8_all us)) u e refl (lack (length (encode_utf8_all us)) (omega (arith, a, d)) (omega (arith, w)))))
]

-- what the calls of `str` find

utf8-front : (bs rest : List ℕ) (i : ℕ) → IsUtf8 bs → drop i bs ≡ 58 ∷ 58 ∷ rest → IsUtf8 (take i bs) × (length (take i bs) ≡ i)
utf8-front bs rest i u h =
    let at = at-head bs (58 ∷ rest) i 58 h in
    let lt : i < length bs = at.0 in
    let byte : get_or bs i 0 < 128 = omega (arith, at.1) in
    (IsUtf8-take bs i u (IsCharBoundary-before_ascii bs i lt byte), length-take-le i bs (omega arith))

pub first-found : (bs front back : List ℕ) → IsUtf8 bs → SplitsAroundMatch (FindsText colons) bs front back → chars front ≡ before_first (chars bs)
first-found bs front back u m =
    let i = m.0 in
    let j = m.1 in
    let at = m.2.1 in
    let p = utf8-front bs (drop j bs) i u at.split in
    let none = none-preceding bs (drop j bs) i u p.0 p.1 at.split m.2.0 in
    ap chars m.3 ∙ sym (ap before_first (cut bs (drop j bs) i u at.split) ∙ first-at (chars (take i bs)) (chars (drop j bs)) none)

pub first-missing : (bs : List ℕ) → IsUtf8 bs → FindsText colons bs None → chars bs ≡ before_first (chars bs)
first-missing bs u lack = sym (first-none (chars bs) (none-in bs u lack))

pub last-found : (bs front back : List ℕ) → IsUtf8 bs → SplitsAroundMatch (RFindsText colons) bs front back → chars front ≡ before_last (chars bs)
last-found bs front back u m =
    let i = m.0 in
    let j = m.1 in
    let at = m.2.1 in
    let p = utf8-front bs (drop j bs) i u at.split in
    let none = none-following bs (drop j bs) i u p.0 p.1 at.split m.2.0 in
    ap chars m.3 ∙ sym (ap before_last (cut bs (drop j bs) i u at.split) ∙ last-at (chars (take i bs)) (chars (drop j bs)) none)

pub last-missing : (bs : List ℕ) → IsUtf8 bs → RFindsText colons bs None → chars bs ≡ before_last (chars bs)
last-missing bs u lack = sym (last-none (chars bs) (none-in bs u lack))

-- the group

bool-and-false : (b : Bool) → (b && false) ≡ false
bool-and-false true = refl
bool-and-false false = refl

has-none : (c : ℕ) (cs : List ℕ) → NonePass (λ d. d == c) cs → has_character c cs ≡ false
has-none c [] h = refl
has-none c (x ∷ cs) h = rw (h.0, has-none c cs h.1)

has-in : (c : ℕ) (us vs : List ℕ) → has_character c (us ++ c ∷ vs) ≡ true
has-in c [] vs = grind (arith, nat_tests)
has-in c (x ∷ us) vs = grind (arith, nat_tests, has-in c us vs)

group-none : (whole cs : List ℕ) → has_character 64 cs ≡ false → group_in whole cs ≡ whole
group-none whole [] h = refl
group-none whole (x ∷ cs) h =
    let a : (x == 64) ≡ false = grind (arith, nat_tests) in
    let b : has_character 64 cs ≡ false = grind (arith, nat_tests) in
    rw a (group-none whole cs b)

group-following : (whole xs ys : List ℕ) → has_character 64 ys ≡ false → has_character 93 ys ≡ false → group_in whole (xs ++ 64 ∷ ys) ≡ ys
group-following whole [] ys h k = rw (h, k)
group-following whole (x ∷ xs) ys h k = rw (has-in 64 xs ys, bool-and-false (x == 64)) (group-following whole xs ys h k)

group-whole : (whole xs ys : List ℕ) → has_character 64 ys ≡ false → has_character 93 ys ≡ true → group_in whole (xs ++ 64 ∷ ys) ≡ whole
group-whole whole [] ys h k = rw (h, k) (group-none whole ys h)
group-whole whole (x ∷ xs) ys h k = rw (has-in 64 xs ys, bool-and-false (x == 64)) (group-whole whole xs ys h k)

none-of : (c : ℕ) (bs : List ℕ) → IsUtf8 bs → NoCharPasses (λ d. d == c) bs → has_character c (chars bs) ≡ false
none-of c bs u m = ap (has_character c) (sym (chars_from_encodes m.0 bs u m.1)) ∙ has-none c m.0 m.2

some-of : (bs : List ℕ) (i j : ℕ) → IsUtf8 bs → HasCharAt 93 bs i j → has_character 93 (chars bs) ≡ true
some-of bs i j u at =
    let here : drop i bs ≡ 93 ∷ drop j bs = at.split ∙ ap (λ (z : List ℕ). z ++ drop j bs) (encode_ascii 93 (omega arith)) in
    ap (has_character 93) (cut-before bs (drop j bs) i 93 (omega arith) u here ∙ ap (λ (z : List ℕ). chars (take i bs) ++ z) (chars-bracket (drop j bs))) ∙ has-in 93 (chars (take i bs)) (chars (drop j bs))

-- the text is cut at its last '@'
record IsCut (bs following : List ℕ) : Type 0 where
  front : List ℕ
  whole : chars bs ≡ front ++ 64 ∷ chars following
  last : has_character 64 (chars following) ≡ false

utf8-following : (bs front back : List ℕ) → IsUtf8 bs → SplitsAroundMatch (RFindsChar 64) bs front back → IsUtf8 back
utf8-following bs front back u m =
    let at = m.2.1 in
    let edge = subst (λ (k : ℕ). IsCharBoundary bs k) (sym at.ends) at.after in
    subst (λ (z : List ℕ). IsUtf8 z) (sym m.4) (IsUtf8-drop bs m.1 u edge)

cut-last : (bs front back : List ℕ) → IsUtf8 bs → SplitsAroundMatch (RFindsChar 64) bs front back → IsCut bs back
cut-last bs front back u m =
    let v = utf8-following bs front back u m in
    let i = m.0 in
    let j = m.1 in
    let at = m.2.1 in
    let here : drop i bs ≡ 64 ∷ drop j bs = at.split ∙ ap (λ (z : List ℕ). z ++ drop j bs) (encode_ascii 64 (omega arith)) in
    record {
      front = chars (take i bs);
      whole = cut-before bs (drop j bs) i 64 (omega arith) u here ∙ ap (λ (z : List ℕ). chars (take i bs) ++ z) (chars-at_sign (drop j bs)) ∙ ap (λ (z : List ℕ). chars (take i bs) ++ 64 ∷ chars z) (sym m.4);
      last = none-of 64 back v (subst (λ (z : List ℕ). NoCharPasses (λ d. d == 64) z) (sym m.4) m.2.0);
    }

pub group-missing : (bs : List ℕ) → IsUtf8 bs → RFindsChar 64 bs None → chars bs ≡ group_in (chars bs) (chars bs)
group-missing bs u m = sym (group-none (chars bs) (chars bs) (none-of 64 bs u m))

pub group-found : (bs front back : List ℕ) → IsUtf8 bs → SplitsAroundMatch (RFindsChar 64) bs front back → FindsChar 93 back None → chars back ≡ group_in (chars bs) (chars bs)
group-found bs front back u m none =
    let v = utf8-following bs front back u m in
    let k = cut-last bs front back u m in
    sym (ap (group_in (chars bs)) k.whole ∙ group-following (chars bs) k.front (chars back) k.last (none-of 93 back v none))

pub group-refused : (bs front back : List ℕ) (i j : ℕ) → IsUtf8 bs → SplitsAroundMatch (RFindsChar 64) bs front back → FindsChar 93 back (Some (i, j)) → chars bs ≡ group_in (chars bs) (chars bs)
group-refused bs front back i j u m some =
    let v = utf8-following bs front back u m in
    let k = cut-last bs front back u m in
    sym (ap (group_in (chars bs)) k.whole ∙ group-whole (chars bs) k.front (chars back) k.last (some-of back i j v some.1))
