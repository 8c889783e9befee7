-- What is added to a text.
use Rattle.std.proofs.Common.{◌≡◌, ℕ, zero, suc, arith, true, List, [], ◌∷◌, ◌++◌, length, refl, sym, ap, ap₂, ◌∙◌, append-nil, append_assoc}
use Rattle.std.specs.Prelude.{IsTrue, codes}
use Rattle.std.specs.List.{list_all}
use Rattle.std.specs.Char.{is_ascii, encode_utf8, IsScalar}
use Rattle.std.specs.Str.{IsUtf8, IsAscii, all_scalars, chars, encode_utf8_all}
use Rattle.std.proofs.lemmas.Bool.{and_parts, and_from, lt-ltb, ltb-true, ne_eqb}
use Rattle.std.proofs.lemmas.Str.{chars-encodes, encodes-append, chars-IsAscii, IsUtf8-from_ascii, IsUtf8-encode}
use Rattle.xd_value_show.specs.Show.{tuple_end, shown_set, between}
use Rattle.xd_value.specs.Tree.{count}
use Rattle.xd_value.specs.View.{views}
use Rattle.xd_value.specs.declared.value.Value.{Value}
use Rattle.xd_value.proofs.Cells.{count_views}

scalars_append : (a b : List ℕ) → all_scalars a ≡ true → all_scalars b ≡ true → all_scalars (a ++ b) ≡ true
scalars_append [] b p q = q
scalars_append (c ∷ a) b p q = let h = and_parts _ (all_scalars a) p in and_from _ (all_scalars (a ++ b)) h.0 (scalars_append a b h.1 q)

pub chars_append : (a b : List ℕ) → IsUtf8 a → IsUtf8 b → chars (a ++ b) ≡ chars a ++ chars b
chars_append a b u v =
    let one : chars a ≡ u.0 = ap chars (sym u.1.1) ∙ chars-encodes u.0 u.1.0 in
    let two : chars b ≡ v.0 = ap chars (sym v.1.1) ∙ chars-encodes v.0 v.1.0 in
    let joined : encode_utf8_all (u.0 ++ v.0) ≡ a ++ b = encodes-append u.0 v.0 ∙ ap₂ (λ (x y : List ℕ). x ++ y) u.1.1 v.1.1 in
    ap chars (sym joined) ∙ chars-encodes (u.0 ++ v.0) (scalars_append u.0 v.0 u.1.0 v.1.0) ∙ ap₂ (λ (x y : List ℕ). x ++ y) (sym one) (sym two)

pub is_ascii_all : (w : List ℕ) → list_all is_ascii w ≡ true → IsAscii w
is_ascii_all [] h i = omega arith
is_ascii_all (b ∷ w) h zero = ltb-true b 128 (and_parts (is_ascii b) (list_all is_ascii w) h).0
is_ascii_all (b ∷ w) h (suc i) = is_ascii_all w (and_parts (is_ascii b) (list_all is_ascii w) h).1 i

pub all_ascii : (w : List ℕ) → IsAscii w → list_all is_ascii w ≡ true
all_ascii [] h = refl
all_ascii (b ∷ w) h = and_from (is_ascii b) (list_all is_ascii w) (lt-ltb b 128 (h 0)) (all_ascii w (λ i. h (suc i)))

pub pushed_words : (a new w : List ℕ) → IsUtf8 a → IsTrue (list_all is_ascii w) → new ≡ a ++ w → chars new ≡ chars a ++ w
pushed_words a new w u ascii e =
    let plain = is_ascii_all w ascii in
    ap chars e ∙ chars_append a w u (IsUtf8-from_ascii w plain) ∙ ap (λ (x : List ℕ). chars a ++ x) (chars-IsAscii w plain)

one_char : (c : ℕ) → IsScalar c → all_scalars (c ∷ []) ≡ true
one_char c s = and_from _ true s refl

char_of : (c : ℕ) → IsScalar c → chars (encode_utf8 c) ≡ c ∷ []
char_of c s = ap chars (sym (append-nil (encode_utf8 c))) ∙ chars-encodes (c ∷ []) (one_char c s)

pub pushed_char : (a new : List ℕ) (c : ℕ) → IsUtf8 a → IsScalar c → new ≡ a ++ encode_utf8 c → chars new ≡ chars a ++ c ∷ []
pushed_char a new c u s e = ap chars e ∙ chars_append a (encode_utf8 c) u (IsUtf8-encode c s) ∙ ap (λ (x : List ℕ). chars a ++ x) (char_of c s)

-- three parts, added one after the other
pub in_turn : (out first inner last : List ℕ) → ((out ++ first) ++ inner) ++ last ≡ out ++ between first inner last
in_turn out first inner last = append_assoc (out ++ first) inner last ∙ append_assoc out first (inner ++ last)

-- words before and after what stands between two marks belong to these marks
pub with_words : (out words first inner last end : List ℕ) → ((out ++ words) ++ between first inner last) ++ end ≡ out ++ between (words ++ first) inner (last ++ end)
with_words out words first inner last end =
    let after : between first inner last ++ end ≡ first ++ (inner ++ (last ++ end)) =
    append_assoc first (inner ++ last) end ∙ ap (λ (x : List ℕ). first ++ x) (append_assoc inner last end) in
    append_assoc (out ++ words) (between first inner last) end ∙ append_assoc out words (between first inner last ++ end)
    ∙ ap (λ (x : List ℕ). out ++ (words ++ x)) after
    ∙ ap (λ (x : List ℕ). out ++ x) (sym (append_assoc words first (inner ++ (last ++ end))))

pub tuple_end_one : (xs : List Value) → length xs ≡ 1 → tuple_end (count (views xs)) ≡ codes ",)"
tuple_end_one xs e = rw (count_views xs, e) refl

pub tuple_end_other : (xs : List Value) → (length xs ≡ 1 → ⊥) → tuple_end (count (views xs)) ≡ codes ")"
tuple_end_other xs h = rw (count_views xs, ne_eqb (length xs) 1 h) refl

pub set_without : (xs : List Value) (empty first inner last : List ℕ) → length xs ≡ 0 → shown_set empty first inner last (count (views xs)) ≡ empty
set_without xs empty first inner last e = rw (count_views xs, e) refl

pub set_with : (xs : List Value) (empty first inner last : List ℕ) → (length xs ≡ 0 → ⊥) → shown_set empty first inner last (count (views xs)) ≡ between first inner last
set_with xs empty first inner last h = rw (count_views xs, ne_eqb (length xs) 0 h) refl
