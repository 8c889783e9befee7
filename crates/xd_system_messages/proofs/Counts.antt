-- How many tests a steal gives back.
use Rattle.std.proofs.Common.{◌≡◌, ℕ, ◌<◌, ◌≤◌, List, [], ◌∷◌, ◌++◌, length, Bool, true, false, ◌&&◌, ◌||◌, not, refl, ap, ◌∙◌, arith}
use Rattle.std.specs.Prelude.{nat_lt, ◌==◌, if◌then◌else◌}
use Rattle.std.specs.List.{list_all}
use Rattle.std.proofs.lemmas.Bool.{and_parts, ltb-true}
use Rattle.std.proofs.lemmas.Bool.Decides.{nat_tests}
use Rattle.xd_edge.specs.Limits.{most_tests}
use Rattle.xd_run.specs.Numbers.{all_distinct, among}
use Rattle.xd_commands.specs.Kwargs.{AreIndices}
use Rattle.xd_worker_tests.specs.declared.line_entry.LineEntry.{LineEntry}
use Rattle.xd_worker_tests.specs.declared.line_entry.LineEntry.TheVariants.{Test, Mark}
use Rattle.xd_worker_tests.specs.Line.{has_test, is_among, stolen_tests, tests_in_line}
use Rattle.xd_worker_tests.specs.inner.Stands.{once}
use Rattle.xd_worker_tests.proofs.Within.{within}
use Rattle.xd_system.proofs.Lists.{length-low}

flipped : (n m : ℕ) → (n == m) ≡ (m == n)
flipped n m = grind (arith, nat_tests)

among_line : (n : ℕ) (l : List LineEntry) → among n (tests_in_line l) ≡ has_test n l
among_line n [] = refl
among_line n (Test m ∷ l) = ap (λ (b : Bool). b || among n (tests_in_line l)) (flipped n m) ∙ ap (λ (b : Bool). (m == n) || b) (among_line n l)
among_line n (Mark ∷ l) = among_line n l

distinct_line : (l : List LineEntry) → all_distinct (tests_in_line l) ≡ once l
distinct_line [] = refl
distinct_line (Test m ∷ l) = rw (among_line m l, distinct_line l) refl
distinct_line (Mark ∷ l) = distinct_line l

low_line : (size : ℕ) (l : List LineEntry) → list_all (λ x. nat_lt x size) (tests_in_line l) ≡ within size l
low_line size [] = refl
low_line size (Test m ∷ l) = ap (λ (b : Bool). nat_lt m size && b) (low_line size l)
low_line size (Mark ∷ l) = low_line size l

stolen_fewer : (ns : List ℕ) (q : List LineEntry) → length (stolen_tests ns q) ≤ length (tests_in_line q)
stolen_fewer ns [] = omega arith
stolen_fewer ns (Test m ∷ q) = go (is_among m ns) (stolen_fewer ns q)
  where
    go : (b : Bool) → length (stolen_tests ns q) ≤ length (tests_in_line q) → length (if b then m ∷ stolen_tests ns q else stolen_tests ns q) ≤ length (tests_in_line (Test m ∷ q))
    go true h = omega (arith, h)
    go false h = omega (arith, h)
stolen_fewer ns (Mark ∷ q) = stolen_fewer ns q

last_once : (a q : List LineEntry) → once (a ++ q) ≡ true → once q ≡ true
last_once [] q h = h
last_once (Test m ∷ a) q h = last_once a q (and_parts (not (has_test m (a ++ q))) (once (a ++ q)) h).1
last_once (Mark ∷ a) q h = last_once a q h

last_within : (size : ℕ) (a q : List LineEntry) → within size (a ++ q) ≡ true → within size q ≡ true
last_within size [] q h = h
last_within size (Test m ∷ a) q h = last_within size a q (and_parts (nat_lt m size) (within size (a ++ q)) h).1
last_within size (Mark ∷ a) q h = last_within size a q h

stolen_below : (ns : List ℕ) (size : ℕ) (q : List LineEntry) → size ≤ most_tests → within size q ≡ true → AreIndices (stolen_tests ns q)
stolen_below ns size [] small h = tt
stolen_below ns size (Test m ∷ q) small h =
    let p = and_parts (nat_lt m size) (within size q) h in
    let low = ltb-true m size p.0 in
    go (is_among m ns) (omega (arith, low, small)) (stolen_below ns size q small p.1)
  where
    go : (b : Bool) → m < 4294967296 → AreIndices (stolen_tests ns q) → AreIndices (if b then m ∷ stolen_tests ns q else stolen_tests ns q)
    go true low h = (low, h)
    go false low h = h
stolen_below ns size (Mark ∷ q) small h = stolen_below ns size q small h

-- They are numbers of tests, and no more than a suite has.
pub stolen_few : (ns : List ℕ) (size : ℕ) (a q : List LineEntry) → size ≤ most_tests → within size (a ++ q) ≡ true → once (a ++ q) ≡ true
    → AreIndices (stolen_tests ns q) × (length (stolen_tests ns q) ≤ most_tests)
stolen_few ns size a q small w o =
    let inside = last_within size a q w in
    let few = length-low size (tests_in_line q) (distinct_line q ∙ last_once a q o) (low_line size q ∙ inside) in
    (stolen_below ns size q small inside, omega (arith, few, stolen_fewer ns q, small))
