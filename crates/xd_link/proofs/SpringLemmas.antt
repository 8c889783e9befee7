-- What a source gave, one read after another, up to its end.
use Rattle.std.proofs.Common.{◌≡◌, ℕ, ◌+◌, ◌<◌, List, [], ◌++◌, length, take, drop, length-append, Bool, true, false, ◌||◌, Option, Some, None, refl, ap, sym, ◌∙◌, subst, arith, append_assoc}
use Rattle.std.specs.Prelude.{option_map, IfSome, nat_lt}
use Rattle.std.proofs.lemmas.Bool.Decides.{nat_tests}
use Rattle.std.proofs.lemmas.List.{append-nil, drop-drop}
use Rattle.std.proofs.Math.Seq.{take-add}
use Rattle.xd_link.specs.Source.{Gave, Supply, is_end_of_input, with_given}
use Rattle.xd_link.specs.Spring.{ReadToEnd, spring}

pub gave_none : (old : Option Supply) → Gave [] old old
gave_none None = (refl, tt)
gave_none (Some s) = (ap Some (ap (λ (g : List ℕ). record { given = g; left = s.left }) (sym (append-nil s.given))), refl)

-- bytes that were given after others
pub gave_more : (a b : List ℕ) (old mid new : Option Supply) → Gave a old mid → Gave b mid new → Gave (a ++ b) old new
gave_more a b None mid new x y = (y.0 ∙ ap (option_map (with_given (length b))) x.0, tt)
gave_more a b (Some s) mid new x y =
    let size : length (a ++ b) ≡ length a + length b = length-append a b in
    let given : take (length (a ++ b)) s.left ≡ take (length a) s.left ++ take (length b) (drop (length a) s.left) = ap (λ (n : ℕ). take n s.left) size ∙ take-add (length a) (length b) s.left in
    let later : drop (length b) (drop (length a) s.left) ≡ drop (length (a ++ b)) s.left = drop-drop (length b) (length a) s.left ∙ ap (λ (n : ℕ). drop n s.left) (sym size) in
    let told : IfSome (Some (with_given (length a) s)) (λ t. take (length b) t.left ≡ b) = subst (λ (o : Option Supply). IfSome o (λ t. take (length b) t.left ≡ b)) x.0 y.1 in
    let bytes : (s.given ++ take (length a) s.left) ++ take (length b) (drop (length a) s.left) ≡ s.given ++ take (length (a ++ b)) s.left = append_assoc s.given (take (length a) s.left) (take (length b) (drop (length a) s.left)) ∙ ap (λ (l : List ℕ). s.given ++ l) (sym given) in (
      y.0 ∙ (ap (option_map (with_given (length b))) x.0 ∙ ap Some (ap (λ (g : List ℕ). record { given = g; left = drop (length b) (drop (length a) s.left) }) bytes ∙ ap (λ (l : List ℕ). record { given = s.given ++ take (length (a ++ b)) s.left; left = l }) later)),
      given ∙ (ap (λ (l : List ℕ). l ++ take (length b) (drop (length a) s.left)) x.1 ∙ ap (λ (l : List ℕ). a ++ l) told),
    )

-- the end was met: none is left
pub none_left : (old new : Option Supply) → Gave [] old new → IfSome old (λ s. s.left ≡ []) → IfSome new (λ s. s.left ≡ [])
none_left None new g n = subst (λ (o : Option Supply). IfSome o (λ s. s.left ≡ [])) (sym g.0) tt
none_left (Some s) new g n = subst (λ (o : Option Supply). IfSome o (λ t. t.left ≡ [])) (sym g.0) n

pub met_end : (n size : ℕ) (into : List ℕ) (old new : Option Supply) (ended0 ended1 : Bool) (faults : ℕ) → n ≡ 0 → 0 < size → Gave (take n into) old new → (is_end_of_input n size ≡ true → IfSome old (λ s. s.left ≡ [])) → ended1 ≡ (ended0 || is_end_of_input n size) → ReadToEnd (spring new ended1 faults)
met_end n size into old new ended0 ended1 faults z some gave left ends =
    let end : is_end_of_input n size ≡ true = ap (λ (k : ℕ). is_end_of_input k size) z ∙ lower size some in
    record {
      ended = ends ∙ (ap (λ (b : Bool). ended0 || b) end ∙ or_true ended0);
      none_left = none_left old new (subst (λ (k : ℕ). Gave (take k into) old new) z gave) (left end);
    }
  where
    or_true : (b : Bool) → (b || true) ≡ true
    or_true true = refl
    or_true false = refl

    lower : (k : ℕ) → 0 < k → nat_lt 0 k ≡ true
    lower k h = grind (arith, nat_tests)
