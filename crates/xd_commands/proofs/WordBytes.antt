-- Words of ASCII characters are their own bytes.
use Rattle.std.proofs.Common.{◌≡◌, ℕ, zero, suc, arith, List, [], ◌∷◌, sym, ap, ◌∙◌}
use Rattle.std.specs.List.{list_all}
use Rattle.std.specs.Char.{is_ascii}
use Rattle.std.specs.Str.{chars, bytes_eq, IsUtf8, IsAscii, encode_utf8_all}
use Rattle.std.proofs.lemmas.Bool.{and_parts, ltb-true}
use Rattle.std.proofs.lemmas.Str.{encodes-chars, chars-IsAscii, IsUtf8-from_ascii}
use Rattle.std.proofs.lemmas.Slice.Eq.{bytes_eq-Decides}
use Rattle.std.proofs.lemmas.Bool.Decides.{same_from_decides}
use Rattle.xd_commands.specs.Words.{IsWord}

word_ascii : (w : List ℕ) → IsWord w → IsAscii w
word_ascii [] h i = omega arith
word_ascii (b ∷ w) h zero = ltb-true b 128 (and_parts (is_ascii b) (list_all is_ascii w) h).0
word_ascii (b ∷ w) h (suc i) = word_ascii w (and_parts (is_ascii b) (list_all is_ascii w) h).1 i

pub chars_word : (w : List ℕ) → IsWord w → chars w ≡ w
chars_word w h = chars-IsAscii w (word_ascii w h)

-- a text has the bytes of a word where it has its characters
pub word_same : (x y : List ℕ) → IsUtf8 x → IsWord y → bytes_eq x y ≡ bytes_eq (chars x) y
word_same x y u h =
    let utf8 = IsUtf8-from_ascii y (word_ascii y h) in
    let back : chars x ≡ y → x ≡ y = λ e. sym (encodes-chars x u) ∙ ap encode_utf8_all (e ∙ sym (chars_word y h)) ∙ encodes-chars y utf8 in
    let there : x ≡ y → chars x ≡ y = λ e. ap chars e ∙ chars_word y h in
    let bytes = bytes_eq-Decides x y in
    same_from_decides (bytes_eq x y) (bytes_eq (chars x) y) (λ is. there (bytes.0 is), λ is. bytes.1 (back is)) (bytes_eq-Decides (chars x) y)
