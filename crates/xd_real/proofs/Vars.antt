-- What setters make of variables.
use Rattle.std.proofs.Common.{◌≡◌, ◌≢◌, ℕ, ◌+◌, ◌<◌, Bool, true, false, cond, List, [], ◌∷◌, ◌++◌, length, take, get_or, Option, Some, bytes_eq, refl, sym, ap, ◌∙◌, true≢false}
use Rattle.std.proofs.lemmas.List.{take_more}
use Rattle.std.proofs.lemmas.List.Sums.{fold_push}
use Rattle.std.proofs.lemmas.Slice.Eq.{bytes_eq-Decides}
use Rattle.std.specs.Str.{encode_utf8_all}
use Rattle.xd_real.specs.Worker.{var_set}

-- a setter says its value of its own variable, and of another one what was said
set_one : (now said : Option (Option (List ℕ))) (k v name : List ℕ) → (name ≡ k → now ≡ Some (Some v)) → (name ≢ k → now ≡ said)
    → now ≡ cond (bytes_eq k name) (Some (Some v)) said
set_one now said k v name set others = by (bytes_eq k name) refl
  where
    by : (r : Bool) → bytes_eq k name ≡ r → now ≡ cond (bytes_eq k name) (Some (Some v)) said
    by true e = set (sym ((bytes_eq-Decides k name).0 e)) ∙ ap (λ y. cond y (Some (Some v)) said) (sym e)
    by false e = others (λ same. true≢false (sym ((bytes_eq-Decides k name).1 (sym same)) ∙ e)) ∙ ap (λ y. cond y (Some (Some v)) said) (sym e)

-- one pair more
pub set_more : (pairs : List (List ℕ × List ℕ)) (i : ℕ) (p : List ℕ × List ℕ) (name : List ℕ) (before said now : Option (Option (List ℕ)))
    → i < length pairs → p ≡ get_or pairs i p
    → said ≡ var_set (take i pairs) name before
    → (name ≡ encode_utf8_all p.0 → now ≡ Some (Some (encode_utf8_all p.1)))
    → (name ≢ encode_utf8_all p.0 → now ≡ said)
    → now ≡ var_set (take (i + 1) pairs) name before
set_more pairs i p name before said now within at known set others =
    set_one now said (encode_utf8_all p.0) (encode_utf8_all p.1) name set others
    ∙ ap (cond (bytes_eq (encode_utf8_all p.0) name) (Some (Some (encode_utf8_all p.1)))) known
    ∙ sym (fold_push _ before (take i pairs) p)
    ∙ ap (λ (ps : List (List ℕ × List ℕ)). var_set ps name before) (sym (take_more pairs i p within ∙ ap (λ (q : List ℕ × List ℕ). take i pairs ++ q ∷ []) (sym at)))
