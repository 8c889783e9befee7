-- What comes back from a worker that died: what is left of its units, one after another, and the test that is tried again.
use Rattle.std.proofs.Common.{◌≡◌, ℕ, ◌+◌, ◌-◌, ◌<◌, min, List, [], ◌∷◌, ◌++◌, take, drop, length, get_or, filter, Bool, true, false, Option, Some, None, refl, ap, sym, ◌∙◌, arith, append_assoc, append-nil, cond}
use Rattle.std.specs.Prelude.{◌==◌, ◌||◌}
use Rattle.std.specs.BTreeSet.{BTreeSet, contains}
use Rattle.std.specs.BTreeMap.{is_at}
use Rattle.std.specs.Ordering.{is_eq, nat_cmp}
use Rattle.std.proofs.lemmas.Bool.Decides.{nat_tests}
use Rattle.std.proofs.lemmas.List.{drop_more, take_more}
use Rattle.xd_ledger.specs.Calls.{last_of}
use Rattle.xd_ledger.specs.Chains.{part_before, final_of}
use Rattle.xd_run.specs.Numbers.{all_distinct, among, first_of}
use Rattle.xd_run.specs.Plan.{Handed}
use Rattle.xd_run.specs.Table.{retried_item}
use Rattle.xd_run.specs.Units.{unless_empty, units_left}
use Rattle.xd_ledger.proofs.Lists.{preceding-at, among-at, among-append, final-take}
use Rattle.xd_scope.specs.Stands.{IsSetOf, left_of, left_of_each, units_of}

-- the set of the last items

eq-cmp : (x y : ℕ) → is_eq (nat_cmp x y) ≡ (x == y)
eq-cmp x y = grind (arith, nat_tests)

flip-eq : (x y : ℕ) → (x == y) ≡ (y == x)
flip-eq x y = grind (arith, nat_tests)

either : (a b : Bool) → cond a true b ≡ (a || b)
either true b = refl
either false b = refl

pub set-more : (xs : List ℕ) (k item : ℕ) (s t : BTreeSet ℕ) → k < length xs → item ≡ get_or xs k 0 → IsSetOf (drop (k + 1) xs) s
    → ((q : ℕ) → contains nat_cmp t q ≡ cond (is_at (nat_cmp item) q) true (contains nat_cmp s q)) → IsSetOf (drop k xs) t
set-more xs k item s t h at old new = λ x.
    (new x ∙ ap (λ (b : Bool). cond b true (contains nat_cmp s x)) (eq-cmp item x ∙ flip-eq item x ∙ ap (λ (y : ℕ). x == y) at)
    ∙ ap (λ (b : Bool). cond (x == get_or xs k 0) true b) (old x) ∙ either (x == get_or xs k 0) (among x (drop (k + 1) xs))
    ∙ sym (ap (among x) (drop_more xs k 0 h)))

pub last-at : (xs : List ℕ) (k x : ℕ) → k < length xs → Some x ≡ final_of (take (k + 1) xs) → x ≡ get_or xs k 0
last-at xs k x h e = let f = final-take xs k h in cc

pub in-pool : (xs ys : List ℕ) (k x : ℕ) → k < length xs → x ≡ get_or xs k 0 → among x (xs ++ ys) ≡ true
in-pool xs ys k x h at =
    let a : among x xs ≡ true = ap (λ (z : ℕ). among z xs) at ∙ among-at xs k h in
    among-append x xs ys ∙ rw a

pub previous-at : (xs : List ℕ) (k x : ℕ) (next : Option ℕ) → k < length xs → all_distinct xs ≡ true → x ≡ get_or xs k 0 → next ≡ final_of (part_before x xs) → next ≡ final_of (take k xs)
previous-at xs k x next h d at e = e ∙ ap (λ (z : ℕ). final_of (part_before z xs)) at ∙ ap final_of (preceding-at xs k h d)

pub none-yet : (xs : List ℕ) (x : ℕ) → among x (drop (length xs) xs) ≡ false
none-yet [] x = refl
none-yet (y ∷ xs) x = none-yet xs x

pub last-capped : (n : ℕ) (xs : List ℕ) → last_of (min n (length xs)) xs ≡ last_of n xs
last-capped n xs = ap (λ (k : ℕ). drop k xs) (let e : length xs - min n (length xs) ≡ length xs - n = omega arith in e)

-- tests that pass

pub filter-more : (test : ℕ → Bool) (xs ys : List ℕ) → filter test (xs ++ ys) ≡ filter test xs ++ filter test ys
filter-more test [] ys = refl
filter-more test (x ∷ xs) ys = grind (arith, nat_tests, filter-more test xs ys)

pub filter-one_more : (test : ℕ → Bool) (xs : List ℕ) (k x : ℕ) (old new : List ℕ) → k < length xs → x ≡ get_or xs k 0 → old ≡ filter test (take k xs) → new ≡ old ++ filter test (x ∷ []) → new ≡ filter test (take (k + 1) xs)
filter-one_more test xs k x old new h at a b =
    let e = take_more xs k 0 h in
    let f = filter-more test (take k xs) (get_or xs k 0 ∷ []) in
    let g : new ≡ filter test (take k xs) ++ filter test (get_or xs k 0 ∷ []) = b ∙ ap (λ (zs : List ℕ). zs ++ filter test (x ∷ [])) a ∙ ap (λ (z : ℕ). filter test (take k xs) ++ filter test (z ∷ [])) at in
    g ∙ sym f ∙ ap (filter test) (sym e)

pub filter-same : (p q : ℕ → Bool) (xs : List ℕ) → ((x : ℕ) → p x ≡ q x) → filter p xs ≡ filter q xs
filter-same p q [] h = refl
filter-same p q (x ∷ xs) h = let e = filter-same p q xs h in let f = h x in grind (arith, nat_tests)

unless-none : (ts : List ℕ) → length ts ≡ 0 → unless_empty ts ≡ []
unless-none [] h = refl
unless-none (t ∷ ts) h = absurd (omega arith)

unless-some : (ts : List ℕ) → (length ts ≡ 0 → ⊥) → unless_empty ts ≡ ts ∷ []
unless-some [] h = absurd (h refl)
unless-some (t ∷ ts) h = refl

-- one unit after another

left-is : (rest : List ℕ) (s : BTreeSet ℕ) (tests ts : List ℕ) → IsSetOf rest s → ts ≡ filter (λ t. contains nat_cmp s t) tests → left_of rest tests ≡ unless_empty ts
left-is rest s tests ts h e =
    ap unless_empty (filter-same (λ t. among t rest) (λ t. contains nat_cmp s t) tests (λ x. sym (h x)) ∙ sym e)

-- nothing is left of the unit
pub left-none : (rest : List ℕ) (s : BTreeSet ℕ) (tests ts : List ℕ) (queue : List (List ℕ)) → IsSetOf rest s → ts ≡ filter (λ t. contains nat_cmp s t) tests → length ts ≡ 0 → queue ≡ queue ++ left_of rest tests
left-none rest s tests ts queue h e z = sym (ap (λ (us : List (List ℕ)). queue ++ us) (left-is rest s tests ts h e ∙ unless-none ts z) ∙ append-nil queue)

-- what is left of the unit goes to the end
pub left-some : (rest : List ℕ) (s : BTreeSet ℕ) (tests ts : List ℕ) (queue now : List (List ℕ)) → IsSetOf rest s → ts ≡ filter (λ t. contains nat_cmp s t) tests → (length ts ≡ 0 → ⊥) → now ≡ queue ++ ts ∷ [] → now ≡ queue ++ left_of rest tests
left-some rest s tests ts queue now h e z a = a ∙ ap (λ (us : List (List ℕ)). queue ++ us) (sym (left-is rest s tests ts h e ∙ unless-some ts z))

pub left-one_more : (rest : List ℕ) (units : List (List ℕ)) (i : ℕ) (u : List ℕ) (left now all : List (List ℕ))
    → i < length units → u ≡ get_or units i u → now ≡ left ++ left_of rest u → left ++ left_of_each rest (drop i units) ≡ all
    → now ++ left_of_each rest (drop (i + 1) units) ≡ all
left-one_more rest units i u left now all h e a b =
    ap (λ (xs : List (List ℕ)). xs ++ left_of_each rest (drop (i + 1) units)) a
    ∙ append_assoc left (left_of rest u) (left_of_each rest (drop (i + 1) units))
    ∙ ap (λ (xs : List (List ℕ)). left ++ xs) (ap (λ (v : List ℕ). left_of rest v ++ left_of_each rest (drop (i + 1) units)) e ∙ sym (ap (left_of_each rest) (drop_more units i u h)))
    ∙ b

units-left-by : (w : ℕ) (rest : List ℕ) (u : Handed) (us : List Handed) (b : Bool) → (u.worker == w) ≡ b → units_left w rest us ≡ left_of_each rest (units_of w us) → units_left w rest (u ∷ us) ≡ left_of_each rest (units_of w (u ∷ us))
units-left-by w rest u us true h e = rw h (ap (λ (xs : List (List ℕ)). left_of rest u.tests ++ xs) e)
units-left-by w rest u us false h e = rw h e

-- the worker's units alone count
pub units-left : (w : ℕ) (rest : List ℕ) (given : List Handed) → units_left w rest given ≡ left_of_each rest (units_of w given)
units-left w rest [] = refl
units-left w rest (u ∷ us) = units-left-by w rest u us (u.worker == w) refl (units-left w rest us)

-- the test that is tried again

again-some : (pool : List ℕ) (x : ℕ) → Some x ≡ first_of pool → take 1 pool ≡ x ∷ []
again-some [] x h = absurd (cc)
again-some (y ∷ pool) x h = let e : x ≡ y = cc in ap (λ (z : ℕ). z ∷ []) (sym e)

again-none : (pool : List ℕ) → None ≡ first_of pool → take 1 pool ≡ []
again-none [] h = refl
again-none (y ∷ pool) h = absurd (cc)

-- it stands in front
pub again-first : (pool : List ℕ) (x : ℕ) (b : Bool) (queue now : List (List ℕ)) → b ≡ true → Some x ≡ first_of pool → now ≡ (x ∷ []) ∷ queue → now ≡ unless_empty (retried_item b pool) ++ queue
again-first pool x b queue now e h a = a ∙ sym (rw e (ap (λ (ts : List ℕ). unless_empty ts ++ queue) (again-some pool x h)))

-- there is none
pub again-empty : (pool : List ℕ) (b : Bool) (queue : List (List ℕ)) → b ≡ true → None ≡ first_of pool → queue ≡ unless_empty (retried_item b pool) ++ queue
again-empty pool b queue e h = sym (rw e (ap (λ (ts : List ℕ). unless_empty ts ++ queue) (again-none pool h)))
