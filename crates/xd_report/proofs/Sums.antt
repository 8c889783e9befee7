-- Sums of numbers.
use Rattle.std.proofs.Common.{◌≡◌, ℕ, zero, suc, ◌==◌, false, List, [], ◌∷◌, sum, refl, sym, ◌∙◌, ap, arith}
use Rattle.std.specs.List.{list_all}
use Rattle.std.specs.Prelude.{◌&&◌}
use Rattle.std.proofs.lemmas.Bool.{ne_eqb}
use Rattle.std.proofs.lemmas.List.Sums.{sum_by-cons}

-- all are 0 exactly where their sum is
pub none_in_sum : (xs : List ℕ) → list_all (λ n. n == 0) xs ≡ (sum xs == 0)
none_in_sum [] = refl
none_in_sum (zero ∷ xs) =
    let same : sum (zero ∷ xs) ≡ sum xs = omega (sum_by-cons (λ n. n) zero xs, arith) in
    none_in_sum xs ∙ ap (λ n. n == 0) (sym same)
none_in_sum (suc x ∷ xs) =
    let more : (sum (suc x ∷ xs) == 0) ≡ false = ne_eqb (sum (suc x ∷ xs)) 0 (λ e. omega (e, sum_by-cons (λ n. n) (suc x) xs, arith)) in
    ap (λ b. b && list_all (λ n. n == 0) xs) (ne_eqb (suc x) 0 (λ e. omega (e, arith))) ∙ sym more
