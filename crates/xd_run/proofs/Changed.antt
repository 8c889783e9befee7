-- Loops that change one item of a list after another, and two lists that are gone through side by side.
use Rattle.std.proofs.Common.{◌≡◌, ◌≢◌, ℕ, zero, suc, ◌+◌, ◌-◌, ◌<◌, ◌==◌, min, cond, if◌then◌else◌, List, [], ◌∷◌, ◌++◌, length, take, drop, map, count_by, Some, option_map, refl, sym, ◌∙◌, ap, arith, get_or, add-one, add-zero, append_assoc}
use Rattle.std.proofs.lemmas.List.{take_more, map-append, set_at, length-map, length-take-le}
use Rattle.std.proofs.lemmas.List.Sums.{sum_by-cons}
use Rattle.std.proofs.Math.Seq.{drop-cons, get_or-append_right}
use Rattle.std.proofs.Math.ListN.{set}
use Rattle.xd_run.specs.Collections.{differ_at}
use Rattle.xd_run.specs.Numbers.{times}

-- the first items are changed, and so is the next one
pub one_changed : {X : Type 0} → (f : X → X) (xs ys : List X) (i : ℕ) (x y d : X) → ys ≡ map f (take i xs) ++ drop i xs → i < length xs → x ≡ get_or ys i d → y ≡ f x → set ys i y ≡ map f (take (i + 1) xs) ++ drop (i + 1) xs
one_changed f xs ys i x y d e lt at is =
    let front = map f (take i xs) in
    let long : length front ≡ i = length-map (take i xs) f ∙ length-take-le i xs (omega arith) in
    let rest : drop i xs ≡ get_or xs i d ∷ drop (i + 1) xs = drop-cons xs i d lt ∙ ap (λ n. get_or xs i d ∷ drop n xs) (sym (add-one i)) in
    let split : ys ≡ front ++ get_or xs i d ∷ drop (i + 1) xs = e ∙ ap (λ l. front ++ l) rest in
    let none : i - length front ≡ 0 = omega arith in
    let x_is : x ≡ get_or xs i d = at ∙ ap (λ l. get_or l i d) split ∙ get_or-append_right front (get_or xs i d ∷ drop (i + 1) xs) i d (omega arith) ∙ ap (λ n. get_or (get_or xs i d ∷ drop (i + 1) xs) n d) none in
    let y_is : y ≡ f (get_or xs i d) = is ∙ ap f x_is in
    ap (λ l. set l i y) split ∙ set_at front (get_or xs i d) (drop (i + 1) xs) y i long
    ∙ ap (λ z. front ++ z ∷ drop (i + 1) xs) y_is
    ∙ sym (append_assoc front (f (get_or xs i d) ∷ []) (drop (i + 1) xs))
    ∙ ap (λ l. l ++ drop (i + 1) xs) (sym (ap (map f) (take_more xs i d lt) ∙ map-append f (take i xs) (get_or xs i d ∷ [])))

same_length : {X : Type 0} → (f : X → X) (xs : List X) (i : ℕ) → length (map f (take i xs) ++ drop i xs) ≡ length xs
same_length f [] zero = refl
same_length f [] (suc i) = refl
same_length f (x ∷ xs) zero = refl
same_length f (x ∷ xs) (suc i) = ap suc (same_length f xs i)

-- the same where the place is one of the changed list
pub next_changed : {X : Type 0} → (f : X → X) (xs ys : List X) (i : ℕ) (x y d : X) → i < length ys → ys ≡ map f (take i xs) ++ drop i xs → x ≡ get_or ys i d → y ≡ f x → set ys i y ≡ map f (take (i + 1) xs) ++ drop (i + 1) xs
next_changed f xs ys i x y d lt e at is =
    let within : i < length xs = (let same = ap length e in let long = same_length f xs i in omega arith) in
    one_changed f xs ys i x y d e within at is

-- one of two lists is at its end
pub end_differs : (xs ys : List (List ℕ)) (i : ℕ) → length xs ≢ length ys → min (length xs) (length ys) ≡ 0 → option_map (λ n. i + n) (differ_at xs ys) ≡ Some i
end_differs [] [] i ne none = absurd (ne refl)
end_differs [] (y ∷ ys) i ne none = ap Some (add-zero i)
end_differs (x ∷ xs) [] i ne none = ap Some (add-zero i)
end_differs (x ∷ xs) (y ∷ ys) i ne none = absurd (omega (arith, none))

-- how often a number stands among others, counted
pub times_counted : (x : ℕ) (ys : List ℕ) → count_by (λ y. x == y) ys ≡ times x ys
times_counted x [] = refl
times_counted x (y ∷ ys) = sum_by-cons (λ z. cond (x == z) 1 0) y ys ∙ ap (λ n. (if x == y then 1 else 0) + n) (times_counted x ys)
