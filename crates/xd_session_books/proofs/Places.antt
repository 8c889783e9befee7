-- Where the log of a worker stands, and changes of it.
use Rattle.std.proofs.Common.{◌≡◌, ℕ, zero, suc, ◌+◌, ◌<◌, ◌≤◌, List, [], ◌∷◌, drop, length, get_or, set, ◌++◌, take, ◌-◌, min, refl, ap, sym, ◌∙◌, arith, Bool, true, false}
use Rattle.std.specs.Prelude.{if◌then◌else◌, ◌==◌, Option, Some, None}
use Rattle.std.proofs.lemmas.List.{take_min}
use Rattle.xd_run_laws.proofs.Logic.{in_both}
use Rattle.std.proofs.lemmas.Bool.Decides.{nat_tests}
use Rattle.xd_journal.specs.declared.news.What.TheVariants as what
use Rattle.xd_run.specs.Meaning.{Log, with_news}
use Rattle.xd_session_books.specs.declared.logs.WorkerLog.{WorkerLog}
use Rattle.xd_session_books.specs.Kept.{place_of, log_of_item, log_in, shortened}

choose-yes : {A : Type 0} (b : Bool) (x y : A) → b ≡ true → x ≡ (if b then x else y)
choose-yes true x y h = refl
choose-yes false x y h = cc

choose-no : {A : Type 0} (b : Bool) (x y : A) → b ≡ false → y ≡ (if b then x else y)
choose-no true x y h = cc
choose-no false x y h = refl

pub place-more : (w : ℕ) (ls : List WorkerLog) (i : ℕ) (d : WorkerLog) → i < length ls → ((get_or ls i d).worker ≡ w → ⊥) → place_of w (drop i ls) ≡ suc (place_of w (drop (i + 1) ls))
place-more w [] i d h e = absurd (omega arith)
place-more w (l ∷ ls) zero d h e = grind (arith, nat_tests)
place-more w (l ∷ ls) (suc i) d h e =
    let z : suc i + 1 ≡ suc (i + 1) = omega arith in
    place-more w ls i d (omega arith) e ∙ ap (λ n. suc (place_of w (drop n (l ∷ ls)))) (sym z)

pub place-here : (w : ℕ) (ls : List WorkerLog) (i : ℕ) (d : WorkerLog) → i < length ls → (get_or ls i d).worker ≡ w → place_of w (drop i ls) ≡ 0
place-here w [] i d h e = absurd (omega arith)
place-here w (l ∷ ls) zero d h e = grind (arith, nat_tests)
place-here w (l ∷ ls) (suc i) d h e = place-here w ls i d (omega arith) e

pub place-end : (w : ℕ) (ls : List WorkerLog) (i : ℕ) → length ls ≤ i → place_of w (drop i ls) ≡ 0
place-end w [] zero h = refl
place-end w [] (suc i) h = refl
place-end w (l ∷ ls) zero h = absurd (omega arith)
place-end w (l ∷ ls) (suc i) h = place-end w ls i (omega arith)

pub log-at : (w : ℕ) (ls : List WorkerLog) (d : WorkerLog) → place_of w ls < length ls → log_in w ls ≡ Some (log_of_item (get_or ls (place_of w ls) d))
log-at w [] d h = absurd (omega arith)
log-at w (l ∷ ls) d h = grind (arith, nat_tests, log-at w ls d)

pub log-none : (w : ℕ) (ls : List WorkerLog) → length ls ≤ place_of w ls → log_in w ls ≡ None
log-none w [] h = refl
log-none w (l ∷ ls) h = grind (arith, nat_tests, log-none w ls)

pub log-found : (w p : ℕ) (ls now : List WorkerLog) (x : WorkerLog) → ls ≡ now → p ≡ place_of w ls → p < length ls → x ≡ get_or ls p x → log_in w now ≡ Some (log_of_item x)
log-found w p ls now x e k h g =
    let q : place_of w ls < length ls = omega arith in
    ap (log_in w) (sym e) ∙ log-at w ls x q ∙ ap (λ n. Some (log_of_item (get_or ls n x))) (sym k) ∙ ap (λ y. Some (log_of_item y)) (sym g)

pub log-missing : (w p : ℕ) (ls now : List WorkerLog) → ls ≡ now → p ≡ place_of w ls → length ls ≤ p → log_in w now ≡ None
log-missing w p ls now e k h =
    let q : length ls ≤ place_of w ls = omega arith in
    ap (log_in w) (sym e) ∙ log-none w ls q

pub log-set : (v w p : ℕ) (ls : List WorkerLog) (y : WorkerLog) → p ≡ place_of w ls → p < length ls → y.worker ≡ w → log_in v (set ls p y) ≡ (if v == w then Some (log_of_item y) else log_in v ls)
log-set v w p [] y e h k = absurd (omega arith)
log-set v w zero (l ∷ ls) y e h k = grind (arith, nat_tests)
log-set v w (suc p) (l ∷ ls) y e h k = grind (arith, nat_tests, log-set v w p ls y)

pub log-push : (v w : ℕ) (ls : List WorkerLog) (y : WorkerLog) → length ls ≤ place_of w ls → y.worker ≡ w → log_in v (ls ++ y ∷ []) ≡ (if v == w then Some (log_of_item y) else log_in v ls)
log-push v w [] y h k = grind (arith, nat_tests)
log-push v w (l ∷ ls) y h k = grind (arith, nat_tests, log-push v w ls y)

pub place-worker : (w : ℕ) (ls : List WorkerLog) (d : WorkerLog) → place_of w ls < length ls → (get_or ls (place_of w ls) d).worker ≡ w
place-worker w [] d h = absurd (omega arith)
place-worker w (l ∷ ls) d h = grind (arith, nat_tests, place-worker w ls d)

-- a change of the worker's log
pub log-changed : (f : Option Log → Option Log) (v w p : ℕ) (ls now : List WorkerLog) (x y : WorkerLog) → ls ≡ now → p ≡ place_of w ls → p < length ls → x ≡ get_or ls p x → y.worker ≡ x.worker
    → f (Some (log_of_item x)) ≡ Some (log_of_item y) → log_in v (set ls p y) ≡ (if v == w then f (log_in v now) else log_in v now)
log-changed f v w p ls now x y e k h g m r =
    let q : place_of w ls < length ls = omega arith in
    let own : y.worker ≡ w = m ∙ ap (λ (l : WorkerLog). l.worker) g ∙ ap (λ n. (get_or ls n x).worker) k ∙ place-worker w ls x q in
    log-set v w p ls y k h own ∙ in_both (λ o. o ≡ (if v == w then f (log_in v now) else log_in v now)) (v == w) (Some (log_of_item y)) (log_in v ls)
    (λ b. (let same : v ≡ w = grind (arith, nat_tests, b) in
    sym r ∙ ap f (sym (log-found w p ls now x e k h g)) ∙ ap (λ u. f (log_in u now)) (sym same) ∙ choose-yes (v == w) (f (log_in v now)) (log_in v now) b))
    (λ b. ap (log_in v) e ∙ choose-no (v == w) (f (log_in v now)) (log_in v now) b)

pub log-kept : (f : Option Log → Option Log) (v w p : ℕ) (ls now : List WorkerLog) → ls ≡ now → p ≡ place_of w ls → length ls ≤ p → f None ≡ None
    → log_in v now ≡ (if v == w then f (log_in v now) else log_in v now)
log-kept f v w p ls now e k h r =
    let none = log-missing w p ls now e k h in
    in_both (λ o. log_in v now ≡ o) (v == w) (f (log_in v now)) (log_in v now)
    (λ b. (let same : v ≡ w = grind (arith, nat_tests, b) in
    let here : log_in v now ≡ None = ap (λ u. log_in u now) same ∙ none in
    here ∙ sym r ∙ ap f (sym here)))
    (λ b. refl)

pub log-pushed : (v w p : ℕ) (ls now : List WorkerLog) (y : WorkerLog) → ls ≡ now → p ≡ place_of w ls → length ls ≤ p → y.worker ≡ w → log_in v (ls ++ y ∷ []) ≡ (if v == w then Some (log_of_item y) else log_in v now)
log-pushed v w p ls now y e k h m = log-push v w ls y (omega (arith, k, h)) m ∙ ap (λ us. if v == w then Some (log_of_item y) else log_in v us) e

pub log-placed : (v w p : ℕ) (ls now : List WorkerLog) (y : WorkerLog) → ls ≡ now → p ≡ place_of w ls → p < length ls → y.worker ≡ w → log_in v (set ls p y) ≡ (if v == w then Some (log_of_item y) else log_in v now)
log-placed v w p ls now y e k h m = log-set v w p ls y k h m ∙ ap (λ us. if v == w then Some (log_of_item y) else log_in v us) e

take-twice : (n : ℕ) (xs : List ℕ) → take n (take n xs) ≡ take n xs
take-twice zero xs = refl
take-twice (suc n) [] = refl
take-twice (suc n) (x ∷ xs) = ap (λ zs. x ∷ zs) (take-twice n xs)

take-front : (n : ℕ) (xs ys : List ℕ) → take n (xs ++ take (min (n - length xs) (length ys)) ys) ≡ take n (xs ++ ys)
take-front n [] ys =
    let k : n - 0 ≡ n = omega arith in
    ap (λ m. take n (take (min m (length ys)) ys)) k ∙ ap (take n) (take_min n ys) ∙ take-twice n ys
take-front zero (x ∷ xs) ys = refl
take-front (suc n) (x ∷ xs) ys =
    let k : suc n - suc (length xs) ≡ n - length xs = omega arith in
    ap (λ zs. x ∷ zs) (ap (λ m. take n (xs ++ take (min m (length ys)) ys)) k ∙ take-front n xs ys)

pub first-added : (n room count : ℕ) (xs ys all cut : List ℕ) → room ≡ n - length xs → count ≡ min room (length ys) → all ≡ xs ++ take count ys → cut ≡ take n all → cut ≡ take n (xs ++ ys)
first-added n room count xs ys all cut a b e k =
    let q : count ≡ min (n - length xs) (length ys) = b ∙ ap (λ m. min m (length ys)) a in
    k ∙ ap (take n) (e ∙ ap (λ m. xs ++ take m ys) q) ∙ take-front n xs ys

-- a log that is closed is no longer than it was

closed-short : (l : Option Log) (n : ℕ) → with_news (shortened l) (what.LogClosed n) ≡ shortened (with_news l (what.LogClosed n))
closed-short None n = refl
closed-short (Some x) n = refl

pub closed-where : (b : Bool) (l : Option Log) (n : ℕ) → l ≡ shortened l → (if b then with_news l (what.LogClosed n) else l) ≡ (if b then shortened (with_news l (what.LogClosed n)) else l)
closed-where true l n h = ap (λ o. with_news o (what.LogClosed n)) h ∙ closed-short l n
closed-where false l n h = refl
