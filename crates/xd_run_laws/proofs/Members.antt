-- The marks of the workers as one of them changes, or one is started.
use Rattle.std.proofs.Common.{◌≡◌, ℕ, ◌+◌, ◌≤◌, List, [], ◌∷◌, ◌++◌, length, map, Bool, true, false, not, ◌&&◌, ◌||◌, refl, ap, sym, ◌∙◌, arith, length-append, zero-add, map-id}
use Rattle.std.proofs.lemmas.List.FromFn.{map-range_with_len_more}
use Rattle.std.specs.Prelude.{if◌then◌else◌, ◌==◌}
use Rattle.std.specs.List.{list_any, range_with_len}
use Rattle.std.proofs.lemmas.Bool.Decides.{nat_tests}
use Rattle.xd_run.specs.declared.member.Member.{Member}
use Rattle.xd_run.specs.Numbers.{all_distinct}
use Rattle.xd_run_laws.proofs.Counts.{distinct-range}

-- the worker was started, and this is so of it
abbrev pub has : ℕ → (Member → Bool) → List Member → Bool
has w test ms = list_any (λ m. m.worker == w && test m) ms

abbrev pub is_member : ℕ → List Member → Bool
is_member w ms = has w (λ m. true) ms

pub has-member : (v : ℕ) (test : Member → Bool) (ms : List Member) → has v test ms ≡ true → is_member v ms ≡ true
has-member v test [] h = h
has-member v test (m ∷ ms) h = grind (arith, nat_tests, has-member v test ms)

-- a change that this does not ask for
pub has-same : (v : ℕ) (test : Member → Bool) (change : Member → Member) (ms : List Member)
    → ((m : Member) → (change m).worker ≡ m.worker) → ((m : Member) → test (change m) ≡ test m)
    → has v test (map change ms) ≡ has v test ms
has-same v test change [] a b = refl
has-same v test change (m ∷ ms) a b = grind (arith, nat_tests, has-same v test change ms a b, a m, b m)

-- the mark is set for one worker
pub has-set : (v w : ℕ) (test : Member → Bool) (change : Member → Member) (ms : List Member)
    → ((m : Member) → (change m).worker ≡ m.worker) → ((m : Member) → test (change m) ≡ (test m || (m.worker == w)))
    → has v test (map change ms) ≡ (if v == w then is_member v ms else has v test ms)
has-set v w test change [] a b = grind (arith, nat_tests)
has-set v w test change (m ∷ ms) a b = grind (arith, nat_tests, has-set v w test change ms a b, a m, b m)

-- it stays where it was set
pub has-kept : (v w : ℕ) (test : Member → Bool) (change : Member → Member) (ms : List Member)
    → ((m : Member) → (change m).worker ≡ m.worker) → ((m : Member) → test (change m) ≡ (test m || (m.worker == w)))
    → has v test ms ≡ true → has v test (map change ms) ≡ true
has-kept v w test change ms a b h =
    has-set v w test change ms a b ∙ (elim (v == w) as (λ q. (if q then is_member v ms else has v test ms) ≡ true) [ true ↦ has-member v test ms h | false ↦ h ])

-- the mark is taken from one worker
pub has-cleared : (v w : ℕ) (test : Member → Bool) (change : Member → Member) (ms : List Member)
    → ((m : Member) → (change m).worker ≡ m.worker) → ((m : Member) → test (change m) ≡ (test m && not (m.worker == w)))
    → has v test (map change ms) ≡ (not (v == w) && has v test ms)
has-cleared v w test change [] a b = grind (arith, nat_tests)
has-cleared v w test change (m ∷ ms) a b = grind (arith, nat_tests, has-cleared v w test change ms a b, a m, b m)

-- a worker is started
pub has-more : (v : ℕ) (test : Member → Bool) (ms : List Member) (m : Member) → has v test (ms ++ m ∷ []) ≡ (has v test ms || (m.worker == v && test m))
has-more v test [] m = grind (arith, nat_tests)
has-more v test (x ∷ ms) m = grind (arith, nat_tests, has-more v test ms m)

-- numbers

abbrev pub numbers : List Member → List ℕ
numbers ms = map (λ (m : Member). m.worker) ms

-- workers are numbered from 0 on, in order
abbrev pub Numbered : List Member → Type 0
Numbered ms = numbers ms ≡ range_with_len 0 (length ms)

pub numbers-marked : (change : Member → Member) (ms : List Member) → ((m : Member) → (change m).worker ≡ m.worker) → numbers (map change ms) ≡ numbers ms
numbers-marked change [] k = refl
numbers-marked change (m ∷ ms) k = grind (arith, nat_tests, numbers-marked change ms k, k m)

pub length-numbers : (ms : List Member) → length (numbers ms) ≡ length ms
length-numbers [] = refl
length-numbers (m ∷ ms) = grind (arith, nat_tests, length-numbers ms)

pub numbered-same : (ms ns : List Member) → numbers ns ≡ numbers ms → Numbered ms → Numbered ns
numbered-same ms ns e h =
    let l : length ns ≡ length ms = sym (length-numbers ns) ∙ ap length e ∙ length-numbers ms in
    e ∙ h ∙ ap (λ (n : ℕ). range_with_len 0 n) (sym l)

range-more : (a n : ℕ) → range_with_len a (n + 1) ≡ range_with_len a n ++ (a + n) ∷ []
range-more a n = sym (map-id (range_with_len a (n + 1))) ∙ map-range_with_len_more (λ x. x) a n (a + n) refl ∙ ap (λ (xs : List ℕ). xs ++ (a + n) ∷ []) (map-id (range_with_len a n))

numbers-more : (ms : List Member) (m : Member) → numbers (ms ++ m ∷ []) ≡ numbers ms ++ m.worker ∷ []
numbers-more [] m = refl
numbers-more (x ∷ ms) m = grind (arith, nat_tests, numbers-more ms m)

pub numbered-more : (ms : List Member) (m : Member) → m.worker ≡ length ms → Numbered ms → Numbered (ms ++ m ∷ [])
numbered-more ms m e h =
    numbers-more ms m ∙ ap (λ (ns : List ℕ). ns ++ m.worker ∷ []) h ∙ ap (λ (w : ℕ). range_with_len 0 (length ms) ++ w ∷ []) (e ∙ sym (zero-add (length ms)))
    ∙ sym (range-more 0 (length ms)) ∙ ap (λ (n : ℕ). range_with_len 0 n) (sym (length-append ms (m ∷ [])))

pub distinct-numbered : (ms : List Member) → Numbered ms → all_distinct (numbers ms) ≡ true
distinct-numbered ms h = ap all_distinct h ∙ distinct-range 0 (length ms)

none-from : (ms : List Member) (w a : ℕ) → numbers ms ≡ range_with_len a (length ms) → a + length ms ≤ w → is_member w ms ≡ false
none-from [] w a e h = refl
none-from (m ∷ ms) w a e h =
    let head : m.worker ≡ a = cc in
    let tail : numbers ms ≡ range_with_len (a + 1) (length ms) = cc in
    let rest = none-from ms w (a + 1) tail (omega arith) in
    let other : (m.worker == w) ≡ false = grind (arith, nat_tests) in
    rw (other, rest)

-- the next number is no one's
pub none-next : (ms : List Member) → Numbered ms → is_member (length ms) ms ≡ false
none-next ms h = none-from ms (length ms) 0 h (omega arith)
