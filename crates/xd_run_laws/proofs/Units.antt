-- The units of a collection have each of its tests once, and none is empty.
use Rattle.std.proofs.Common.{◌≡◌, ℕ, ◌+◌, List, [], ◌∷◌, ◌++◌, length, map, Bool, true, false, refl, ap, sym, ◌∙◌, arith, append_assoc}
use Rattle.std.proofs.lemmas.List.{append-nil}
use Rattle.std.specs.Prelude.{if◌then◌else◌, ◌==◌, nat_le, filter}
use Rattle.std.specs.List.{list_all, range_with_len}
use Rattle.std.specs.Str.{bytes_eq}
use Rattle.std.proofs.lemmas.Bool.Decides.{nat_tests}
use Rattle.xd_edge.specs.declared.mode.ModeKind.{ModeKind}
use Rattle.xd_run.specs.Numbers.{among, times}
use Rattle.xd_run.specs.Plan.{Handed}
use Rattle.xd_run.specs.Scopes.{scope_of}
use Rattle.xd_run.specs.Units.{Group, added, grouped, put_unit, largest_first, units, unless_empty, units_left}
use Rattle.xd_run.specs.Orderly.{not_empty}
use Rattle.xd_run.specs.Suits.{tests_of_units}
use Rattle.xd_run_laws.proofs.Logic.{split-and, and, in_both}
use Rattle.xd_run_laws.proofs.Counts.{times-append}

abbrev pub none_empty : List (List ℕ) → Bool
none_empty us = list_all not_empty us

pub tests-append : (x : ℕ) (us vs : List (List ℕ)) → times x (tests_of_units (us ++ vs)) ≡ times x (tests_of_units us) + times x (tests_of_units vs)
tests-append x [] vs = omega arith
tests-append x (u ∷ us) vs = omega (arith, tests-append x us vs, times-append x u (tests_of_units us), times-append x u (tests_of_units (us ++ vs)))

pub none_empty-append : (us vs : List (List ℕ)) → none_empty us ≡ true → none_empty vs ≡ true → none_empty (us ++ vs) ≡ true
none_empty-append [] vs h k = k
none_empty-append (u ∷ us) vs h k = grind (arith, nat_tests, none_empty-append us vs)

-- units by scope

abbrev units_in : List Group → List (List ℕ)
units_in gs = map (λ g. g.tests) gs

tests-added : (x : ℕ) (scope : List ℕ) (test : ℕ) (gs : List Group) → times x (tests_of_units (units_in (added scope test gs))) ≡ times x (tests_of_units (units_in gs)) + (if x == test then 1 else 0)
tests-added x scope test [] = grind (arith, nat_tests)
tests-added x scope test (g ∷ gs) =
    let a = times-append x g.tests (tests_of_units (units_in gs)) in
    let b = times-append x (g.tests ++ test ∷ []) (tests_of_units (units_in gs)) in
    let c = times-append x g.tests (test ∷ []) in
    let d = times-append x g.tests (tests_of_units (units_in (added scope test gs))) in
    let r = tests-added x scope test gs in
    elim (bytes_eq g.scope scope) as (λ q. times x (tests_of_units (units_in (if q then record g { tests = g.tests ++ test ∷ [] } ∷ gs else g ∷ added scope test gs))) ≡ times x (tests_of_units (units_in (g ∷ gs))) + (if x == test then 1 else 0))
    [ true ↦ omega (arith, a, b, c) | false ↦ omega (arith, a, d, r) ]

not_empty-more : (xs : List ℕ) (x : ℕ) → not_empty (xs ++ x ∷ []) ≡ true
not_empty-more [] x = refl
not_empty-more (y ∷ xs) x = refl

none_empty-added : (scope : List ℕ) (test : ℕ) (gs : List Group) → none_empty (units_in gs) ≡ true → none_empty (units_in (added scope test gs)) ≡ true
none_empty-added scope test [] h = refl
none_empty-added scope test (g ∷ gs) h =
    let a = not_empty-more g.tests test in
    let r = none_empty-added scope test gs in
    elim (bytes_eq g.scope scope) as (λ q. none_empty (units_in (if q then record g { tests = g.tests ++ test ∷ [] } ∷ gs else g ∷ added scope test gs)) ≡ true)
    [ true ↦ grind (arith, nat_tests, a, h) | false ↦ grind (arith, nat_tests, r, h) ]

tests-grouped : (x : ℕ) (mode : ModeKind) (k : ℕ) (ids : List (List ℕ)) (gs : List Group)
    → times x (tests_of_units (units_in (grouped mode k ids gs))) ≡ times x (tests_of_units (units_in gs)) + times x (range_with_len k (length ids))
tests-grouped x mode k [] gs = omega arith
tests-grouped x mode k (id ∷ ids) gs = omega (arith, tests-grouped x mode (k + 1) ids (added (scope_of mode id) k gs), tests-added x (scope_of mode id) k gs)

none_empty-grouped : (mode : ModeKind) (k : ℕ) (ids : List (List ℕ)) (gs : List Group) → none_empty (units_in gs) ≡ true → none_empty (units_in (grouped mode k ids gs)) ≡ true
none_empty-grouped mode k [] gs h = h
none_empty-grouped mode k (id ∷ ids) gs h = none_empty-grouped mode (k + 1) ids (added (scope_of mode id) k gs) (none_empty-added (scope_of mode id) k gs h)

-- their order

tests-put : (x : ℕ) (u : List ℕ) (us : List (List ℕ)) → times x (tests_of_units (put_unit u us)) ≡ times x u + times x (tests_of_units us)
tests-put x u [] = times-append x u []
tests-put x u (v ∷ vs) =
    let a = times-append x u (v ++ tests_of_units vs) in
    let b = times-append x v (tests_of_units vs) in
    let c = times-append x v (tests_of_units (put_unit u vs)) in
    let r = tests-put x u vs in
    elim (nat_le (length v) (length u)) as (λ q. times x (tests_of_units (if q then u ∷ v ∷ vs else v ∷ put_unit u vs)) ≡ times x u + times x (tests_of_units (v ∷ vs)))
    [ true ↦ a | false ↦ omega (arith, b, c, r) ]

none_empty-put : (u : List ℕ) (us : List (List ℕ)) → not_empty u ≡ true → none_empty us ≡ true → none_empty (put_unit u us) ≡ true
none_empty-put u [] h k = and h refl
none_empty-put u (v ∷ vs) h k =
    let r = none_empty-put u vs h in
    elim (nat_le (length v) (length u)) as (λ q. none_empty (if q then u ∷ v ∷ vs else v ∷ put_unit u vs) ≡ true) [ true ↦ and h k | false ↦ grind (arith, nat_tests, r, k) ]

tests-sorted : (x : ℕ) (us : List (List ℕ)) → times x (tests_of_units (largest_first us)) ≡ times x (tests_of_units us)
tests-sorted x [] = refl
tests-sorted x (u ∷ us) = omega (arith, tests-put x u (largest_first us), tests-sorted x us, times-append x u (tests_of_units us))

none_empty-sorted : (us : List (List ℕ)) → none_empty us ≡ true → none_empty (largest_first us) ≡ true
none_empty-sorted [] h = refl
none_empty-sorted (u ∷ us) h =
    let p = split-and (not_empty u) (none_empty us) h in
    none_empty-put u (largest_first us) p.0 (none_empty-sorted us p.1)

pub tests-units : (x : ℕ) (mode : ModeKind) (reorder : Bool) (ids : List (List ℕ)) → times x (tests_of_units (units mode reorder ids)) ≡ times x (range_with_len 0 (length ids))
tests-units x mode reorder ids =
    let us = units_in (grouped mode 0 ids []) in
    let all : times x (tests_of_units us) ≡ times x (range_with_len 0 (length ids)) = tests-grouped x mode 0 ids [] ∙ omega arith in
    in_both (λ (vs : List (List ℕ)). times x (tests_of_units vs) ≡ times x (range_with_len 0 (length ids))) reorder (largest_first us) us (λ h. tests-sorted x us ∙ all) (λ h. all)

pub none_empty-units : (mode : ModeKind) (reorder : Bool) (ids : List (List ℕ)) → none_empty (units mode reorder ids) ≡ true
none_empty-units mode reorder ids =
    let us = units_in (grouped mode 0 ids []) in
    let all = none_empty-grouped mode 0 ids [] refl in
    in_both (λ (vs : List (List ℕ)). none_empty vs ≡ true) reorder (largest_first us) us (λ h. none_empty-sorted us all) (λ h. all)

-- what was handed to a worker, and what is left of it

abbrev pub given_to : ℕ → List Handed → List ℕ
given_to w [] = []
given_to w (u ∷ us) = (if u.worker == w then u.tests else []) ++ given_to w us

pub given-more : (w : ℕ) (us : List Handed) (u : Handed) → given_to w (us ++ u ∷ []) ≡ given_to w us ++ (if u.worker == w then u.tests else [])
given-more w [] u = append-nil (if u.worker == w then u.tests else [])
given-more w (v ∷ us) u = ap (λ (xs : List ℕ). (if v.worker == w then v.tests else []) ++ xs) (given-more w us u) ∙ sym (append_assoc (if v.worker == w then v.tests else []) (given_to w us) (if u.worker == w then u.tests else []))

pub times-unless_empty : (x : ℕ) (ts : List ℕ) → times x (tests_of_units (unless_empty ts)) ≡ times x ts
times-unless_empty x [] = refl
times-unless_empty x (t ∷ ts) = ap (λ (xs : List ℕ). times x xs) (append-nil (t ∷ ts))

times-some : (x : ℕ) (test : ℕ → Bool) (xs : List ℕ) → times x (filter test xs) ≡ (if test x then times x xs else 0)
times-some x test [] = grind (arith, nat_tests)
times-some x test (y ∷ xs) = grind (arith, nat_tests, times-some x test xs)

left-of : (x : ℕ) (b : Bool) (rest tests : List ℕ) → times x (tests_of_units (if b then unless_empty (filter (λ t. among t rest) tests) else [])) ≡ (if among x rest then times x (if b then tests else []) else 0)
left-of x true rest tests = times-unless_empty x (filter (λ t. among t rest) tests) ∙ times-some x (λ t. among t rest) tests
left-of x false rest tests = grind (arith, nat_tests)

-- the tests that are among the rest
pub tests-left : (x w : ℕ) (rest : List ℕ) (us : List Handed) → times x (tests_of_units (units_left w rest us)) ≡ (if among x rest then times x (given_to w us) else 0)
tests-left x w rest [] = grind (arith, nat_tests)
tests-left x w rest (u ∷ us) =
    let a = tests-append x (if u.worker == w then unless_empty (filter (λ t. among t rest) u.tests) else []) (units_left w rest us) in
    let b = left-of x (u.worker == w) rest u.tests in
    let c = times-append x (if u.worker == w then u.tests else []) (given_to w us) in
    let r = tests-left x w rest us in
    grind (arith, nat_tests, a, b, c, r)

pub none_empty-unless : (ts : List ℕ) → none_empty (unless_empty ts) ≡ true
none_empty-unless [] = refl
none_empty-unless (t ∷ ts) = refl

pub none_empty-left : (w : ℕ) (rest : List ℕ) (us : List Handed) → none_empty (units_left w rest us) ≡ true
none_empty-left w rest [] = refl
none_empty-left w rest (u ∷ us) =
    let some = unless_empty (filter (λ t. among t rest) u.tests) in
    none_empty-append (if u.worker == w then some else []) (units_left w rest us)
    (in_both (λ (vs : List (List ℕ)). none_empty vs ≡ true) (u.worker == w) some [] (λ h. none_empty-unless (filter (λ t. among t rest) u.tests)) (λ h. refl)) (none_empty-left w rest us)
