-- Texts by their bytes and by their characters.
use Rattle.std.proofs.Common.{◌≡◌, ℕ, List, ◌∷◌, ◌++◌, sym, ◌∙◌, ap, arith}
use Rattle.std.specs.Str.{chars, IsUtf8, encode_utf8_all}
use Rattle.std.proofs.lemmas.Str.{chars_from_encodes, encode_ascii, encodes-append}

-- two texts with `@` between them
pub joined : (id group bytes : List ℕ) → IsUtf8 bytes → bytes ≡ encode_utf8_all id ++ 64 ∷ encode_utf8_all group → chars bytes ≡ id ++ 64 ∷ group
joined id group bytes utf8 is = sym (chars_from_encodes (id ++ 64 ∷ group) bytes utf8 (encodes-append id (64 ∷ group) ∙ ap (λ (l : List ℕ). encode_utf8_all id ++ (l ++ encode_utf8_all group)) (encode_ascii 64 (omega arith)) ∙ sym is))
