-- The reason why a suite file is refused is a text that a message can hold.
use Rattle.std.proofs.Common.{◌≡◌, ℕ, zero, suc, ◌+◌, ◌/◌, ◌<◌, ◌≤◌, nat_lt, List, [], ◌∷◌, ◌++◌, length, length-append, Bool, true, false, not, Option, Some, None, refl, ap, sym, subst, ◌∙◌, arith, inl, inr}
use Rattle.std.specs.Prelude.{codes, cond, nat_le, option_map, if◌then◌else◌}
use Rattle.std.specs.Char.{is_ascii}
use Rattle.std.specs.Fmt.{decimal}
use Rattle.std.specs.Int.{w32, to_be_bytes}
use Rattle.std.specs.List.{list_all, list_any}
use Rattle.std.specs.Option.{option_or}
use Rattle.std.specs.Str.{IsAscii, all_scalars, bytes_eq, encode_utf8_all}
use Rattle.std.proofs.lemmas.Bool.{and_parts, le-ltb, leb-true, ltb-true}
use Rattle.std.proofs.lemmas.Fmt.{IsAscii-decimal, length-decimal-le}
use Rattle.std.proofs.lemmas.List.{length-map}
use Rattle.std.proofs.lemmas.Option.{same_Some}
use lib.Utf8.{encode, low_scalar, next, scalar}
use Rattle.toml.specs.Data.{Items, no_items, item}
use Rattle.xd_edge.specs.Limits.{most_tests}
use Rattle.xd_edge.specs.declared.mode.ModeKind.{ModeKind}
use Rattle.xd_edge.specs.declared.mode.ModeKind.TheVariants.{Load, LoadGroup}
use Rattle.xd_value.specs.Canonical.{canonical, form}
use Rattle.xd_value.specs.Tree as tree
use Rattle.xd_suite.specs.FaultText.{blamed_text, fault_text, what_text}
use Rattle.xd_suite.specs.Faults.{count_items, earlier, fault_of_ids, fault_of_test, fault_of_tests, has_only_keys, has_test_kind, is_suite_key, of_file, of_test, repeat_from, repeat_of}
use Rattle.xd_suite.specs.Suite.{IsFaulty}
use Rattle.xd_suite.specs.Tests.{id_by_mode, ids_by_mode, members_of, test_items, tests_of}
use Rattle.xd_suite.specs.declared.fault.SuiteFault.{SuiteFault}
use Rattle.xd_suite.specs.declared.fault.SuiteWhat.{SuiteWhat}
use Rattle.xd_suite.specs.declared.fault.SuiteWhat.TheVariants.{TooLarge, NotToml, UnknownKey, WrongKind, TooMany, Missing, BadId, Repeated}
use Rattle.xd_worker_tests.proofs.Once.{and_both}
use Rattle.xd_worker.specs.History.{IsFaultText}
use Rattle.xd_system_messages.proofs.Asks.{IsErrorText}

-- ---- texts of ASCII

abbrev AreLow : List ℕ → Type 0
AreLow [] = Unit {0}
AreLow (b ∷ bs) = (b < 128) × AreLow bs

low_word : (bs : List ℕ) → list_all is_ascii bs ≡ true → AreLow bs
low_word [] h = tt
low_word (b ∷ bs) h = (let p = and_parts (is_ascii b) (list_all is_ascii bs) h in (ltb-true b 128 p.0, low_word bs p.1))

low_ascii : (bs : List ℕ) → IsAscii bs → AreLow bs
low_ascii [] h = tt
low_ascii (b ∷ bs) h = (h zero, low_ascii bs (λ i. h (suc i)))

low_more : (a b : List ℕ) → AreLow a → AreLow b → AreLow (a ++ b)
low_more [] b h k = k
low_more (x ∷ a) b h k = (h.0, low_more a b h.1 k)

low_first : (c : ℕ) (rest : List ℕ) → AreLow (encode c ++ rest) → (c < 128) × AreLow rest
unfolding encode
low_first c rest h = go (nat_lt c 128) refl (nat_lt c 2048) (nat_lt c 65536) h
  where
    go : (b : Bool) → nat_lt c 128 ≡ b → (d e : Bool)
        → AreLow (cond b (c ∷ []) (cond d ((192 + c / 64) ∷ next c ∷ []) (cond e ((224 + c / 4096) ∷ next (c / 64) ∷ next c ∷ []) ((240 + c / 262144) ∷ next (c / 4096) ∷ next (c / 64) ∷ next c ∷ []))) ++ rest)
        → (c < 128) × AreLow rest
    go true q d e k = (ltb-true c 128 q, k.1)
    go false q true e k = absurd (let z = k.0 in omega (arith, z))
    go false q false true k = absurd (let z = k.0 in omega (arith, z))
    go false q false false k = absurd (let z = k.0 in omega (arith, z))

scalars_low : (cs : List ℕ) → AreLow (encode_utf8_all cs) → all_scalars cs ≡ true
scalars_low [] h = refl
scalars_low (c ∷ cs) h =
    let p = low_first c (encode_utf8_all cs) h in
    let small = p.0 in
    and_both (scalar c) (all_scalars cs) (low_scalar c (omega (arith, small))) (scalars_low cs p.1)

-- ---- the number of a test

same_number : (m n : ℕ) (f : SuiteFault) (what : SuiteWhat) → Some (of_test m what) ≡ Some f → f.test ≡ Some n → m ≡ n
same_number m n f what e q = same_Some _ _ (ap (λ (g : SuiteFault). g.test) (same_Some _ _ e) ∙ q)

tests_small : (number : ℕ) (ds : Items) (f : SuiteFault) (n : ℕ) → fault_of_tests number ds ≡ Some f → f.test ≡ Some n → n < number + count_items ds
tests_small number no_items f n e q = absurd cc
tests_small number (item d ds) f n e q = go (fault_of_test (members_of d)) e (tests_small (number + 1) ds f n)
  where
    go : (o : Option SuiteWhat) → option_or (option_map (of_test number) o) (fault_of_tests (number + 1) ds) ≡ Some f
        → (fault_of_tests (number + 1) ds ≡ Some f → f.test ≡ Some n → n < (number + 1) + count_items ds) → n < number + count_items (item d ds)
    go None r more = (let z = more r q in omega (arith, z))
    go (Some what) r more = (let z = same_number number n f what r q in omega (arith, z))

repeat_small : (number k : ℕ) (before texts : List (List ℕ)) → repeat_from number before texts ≡ Some k → k < number + length texts
repeat_small number k before [] e = absurd cc
repeat_small number k before (t ∷ texts) e = go (list_any (bytes_eq t) before) e (repeat_small (number + 1) k (before ++ t ∷ []) texts)
  where
    go : (b : Bool) → (if b then Some number else repeat_from (number + 1) (before ++ t ∷ []) texts) ≡ Some k
        → (repeat_from (number + 1) (before ++ t ∷ []) texts ≡ Some k → k < (number + 1) + length texts) → k < number + length (t ∷ texts)
    go true r more = (let z = same_Some _ _ r in omega (arith, z))
    go false r more = (let z = more r in omega (arith, z))

earlier_small : (limit k : ℕ) (a b : Option ℕ) → ((m : ℕ) → a ≡ Some m → m < limit) → ((m : ℕ) → b ≡ Some m → m < limit) → earlier a b ≡ Some k → k < limit
earlier_small limit k None b h g e = g k e
earlier_small limit k (Some m) None h g e = h k e
earlier_small limit k (Some m) (Some n) h g e = go (nat_le m n) e
  where
    go : (c : Bool) → Some (if c then m else n) ≡ Some k → k < limit
    go true r = h k r
    go false r = g k r

count_tests : (ds : Items) → length (tests_of ds) ≡ count_items ds
count_tests no_items = refl
count_tests (item d ds) = (let rest = count_tests ds in omega (arith, rest))

count_ids : (mode : ModeKind) (ds : Items) → length (ids_by_mode mode (tests_of ds)) ≡ count_items ds
count_ids mode ds = length-map (tests_of ds) (id_by_mode mode) ∙ count_tests ds

ids_few : (mode : ModeKind) (ds : Items) (m : ℕ) → repeat_of (ids_by_mode mode (tests_of ds)) ≡ Some m → m < count_items ds
ids_few mode ds m r = (let z = repeat_small 0 m [] (ids_by_mode mode (tests_of ds)) r in let c = count_ids mode ds in omega (arith, z, c))

ids_small : (ds : Items) (f : SuiteFault) (n : ℕ) → fault_of_ids (tests_of ds) ≡ Some f → f.test ≡ Some n → n < count_items ds
ids_small ds f n e q = go (earlier (repeat_of (ids_by_mode Load (tests_of ds))) (repeat_of (ids_by_mode LoadGroup (tests_of ds)))) refl e
  where
    go : (o : Option ℕ) → earlier (repeat_of (ids_by_mode Load (tests_of ds))) (repeat_of (ids_by_mode LoadGroup (tests_of ds))) ≡ o → option_map (λ m. of_test m Repeated) o ≡ Some f → n < count_items ds
    go None r s = absurd cc
    go (Some m) r s =
        let same = same_number m n f Repeated s q in
        let low = earlier_small (count_items ds) m (repeat_of (ids_by_mode Load (tests_of ds))) (repeat_of (ids_by_mode LoadGroup (tests_of ds))) (ids_few Load ds) (ids_few LoadGroup ds) r in
        omega (arith, same, low)

-- what a file is refused for
rule_small : (a b c : Bool) (ds : Items) (f : SuiteFault) (n : ℕ) → (c ≡ true → count_items ds ≤ most_tests)
    → (if not a then Some (of_file UnknownKey) else if not b then Some (of_file WrongKind) else if not c then Some (of_file TooMany) else option_or (fault_of_tests 0 ds) (fault_of_ids (tests_of ds))) ≡ Some f
    → f.test ≡ Some n → n < most_tests
rule_small false b c ds f n few e q = absurd (no_number UnknownKey f n e q)
  where
    no_number : (what : SuiteWhat) (g : SuiteFault) (m : ℕ) → Some (of_file what) ≡ Some g → g.test ≡ Some m → ⊥
    no_number what g m r s = let z : None ≡ Some m = ap (λ (x : SuiteFault). x.test) (same_Some _ _ r) ∙ s in cc
rule_small true false c ds f n few e q = absurd (no_number WrongKind f n e q)
  where
    no_number : (what : SuiteWhat) (g : SuiteFault) (m : ℕ) → Some (of_file what) ≡ Some g → g.test ≡ Some m → ⊥
    no_number what g m r s = let z : None ≡ Some m = ap (λ (x : SuiteFault). x.test) (same_Some _ _ r) ∙ s in cc
rule_small true true false ds f n few e q = absurd (no_number TooMany f n e q)
  where
    no_number : (what : SuiteWhat) (g : SuiteFault) (m : ℕ) → Some (of_file what) ≡ Some g → g.test ≡ Some m → ⊥
    no_number what g m r s = let z : None ≡ Some m = ap (λ (x : SuiteFault). x.test) (same_Some _ _ r) ∙ s in cc
rule_small true true true ds f n few e q = go (fault_of_tests 0 ds) refl e
  where
    go : (o : Option SuiteFault) → fault_of_tests 0 ds ≡ o → option_or o (fault_of_ids (tests_of ds)) ≡ Some f → n < most_tests
    go None r s = (let z = ids_small ds f n s q in let k = few refl in omega (arith, z, k))
    go (Some g) r s = (let z = tests_small 0 ds f n (r ∙ s) q in let k = few refl in omega (arith, z, k))

fault_small : (bytes : List ℕ) (f : SuiteFault) (n : ℕ) → IsFaulty bytes f → f.test ≡ Some n → n < most_tests
fault_small bytes f n (inl p) q = absurd (let z : None ≡ Some n = sym (ap (λ (x : SuiteFault). x.test) p.1) ∙ q in cc)
fault_small bytes f n (inr (inl p)) q = absurd (let z : None ≡ Some n = sym (ap (λ (x : SuiteFault). x.test) p.1) ∙ q in cc)
fault_small bytes f n (inr (inr h)) q =
    let ms = h.members in
    rule_small (has_only_keys is_suite_key ms) (has_test_kind ms) (nat_le (count_items (test_items ms)) most_tests) (test_items ms) f n (λ z. leb-true (count_items (test_items ms)) most_tests z) h.first q

-- ---- the text

record IsShortWord (bs : List ℕ) : Type 0 where
  low : AreLow bs
  short : length bs ≤ 100

short_join : (a b : List ℕ) → AreLow a → AreLow b → length a + length b ≤ 100 → IsShortWord (a ++ b)
short_join a b h k few = record { low = low_more a b h k; short = (let z = length-append a b in omega (arith, z, few)) }

what_word : (what : SuiteWhat) → list_all is_ascii (what_text what) ≡ true
what_word TooLarge = refl
what_word NotToml = refl
what_word UnknownKey = refl
what_word WrongKind = refl
what_word TooMany = refl
what_word Missing = refl
what_word BadId = refl
what_word Repeated = refl

what_short : (what : SuiteWhat) → length (what_text what) ≤ 40
what_short TooLarge = omega arith
what_short NotToml = omega arith
what_short UnknownKey = omega arith
what_short WrongKind = omega arith
what_short TooMany = omega arith
what_short Missing = omega arith
what_short BadId = omega arith
what_short Repeated = omega arith

file_word : (what : SuiteWhat) → (list_all is_ascii (blamed_text None what) ≡ true) × (length (blamed_text None what) ≤ 40)
unfolding blamed_text
file_word TooLarge = (refl, omega arith)
file_word NotToml = (refl, omega arith)
file_word UnknownKey = (refl, omega arith)
file_word WrongKind = (refl, omega arith)
file_word TooMany = (refl, omega arith)
file_word Missing = (refl, omega arith)
file_word BadId = (refl, omega arith)
file_word Repeated = (refl, omega arith)

test_word : (n : ℕ) (what : SuiteWhat) → n < most_tests → AreLow (blamed_text (Some n) what) × (length (blamed_text (Some n) what) ≤ 40)
unfolding blamed_text
test_word n what h =
    let digits = decimal n in
    let few = length-decimal-le 10 n (omega arith) (omega (arith, h)) (omega (arith, h)) in
    let tail = codes ": " in (
      low_more (codes "test ") (digits ++ tail) (low_word (codes "test ") refl) (low_more digits tail (low_ascii digits (IsAscii-decimal n (omega (arith, h)))) (low_word tail refl)),
      (let a = length-append (codes "test ") (digits ++ tail) in let b = length-append digits tail in omega (arith, a, b, few)),
    )

blamed_word : (o : Option ℕ) (what : SuiteWhat) → ((n : ℕ) → o ≡ Some n → n < most_tests) → AreLow (blamed_text o what) × (length (blamed_text o what) ≤ 40)
blamed_word None what h = (let p = file_word what in (low_word (blamed_text None what) p.0, p.1))
blamed_word (Some n) what h = test_word n what (h n refl)

fault_word : (f : SuiteFault) → ((n : ℕ) → f.test ≡ Some n → n < most_tests) → IsShortWord (fault_text f)
fault_word f h =
    let p = blamed_word f.test f.what h in
    let few = p.1 in
    short_join (blamed_text f.test f.what) (what_text f.what) p.0 (low_word (what_text f.what) (what_word f.what)) (let z = what_short f.what in omega (arith, z, few))

text_length : (cs : List ℕ) → length (canonical (tree.text cs)) ≡ length (encode_utf8_all cs) + 6
text_length cs =
    let enc = encode_utf8_all cs in
    omega (arith, length-append (form (tree.text cs)) (81 ∷ []), length-append (to_be_bytes w32 (length enc)) enc)

-- The reason why a suite file is refused is a text that a message can hold.
pub reason_text : (bytes text : List ℕ) → IsFaultText bytes text → IsErrorText text
reason_text bytes reason h =
    let word = fault_word h.0 (λ n q. fault_small bytes h.0 n h.1 q) in
    let is : encode_utf8_all reason ≡ fault_text h.0 = h.2 in
    let short : length (encode_utf8_all reason) ≤ 100 = subst (λ (bs : List ℕ). length bs ≤ 100) (sym is) word.short in (
      scalars_low reason (subst AreLow (sym is) word.low),
      le-ltb 16777216 (length (canonical (tree.text reason))) (let z = text_length reason in omega (arith, z, short)),
    )
