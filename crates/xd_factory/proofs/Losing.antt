-- The entries that are lost, one number after another.
use Rattle.std.proofs.Common.{◌≡◌, ℕ, zero, suc, ◌+◌, ◌<◌, ◌≤◌, List, [], ◌∷◌, ◌++◌, length, take, get_or, Bool, true, false, Option, None, refl, sym, ap, subst, ◌∙◌, arith, add-one, append_assoc}
use Rattle.std.specs.Prelude.{◌==◌, ◌||◌, if◌then◌else◌}
use Rattle.std.specs.Ordering.{nat_cmp}
use Rattle.std.specs.List.Sorted.{IsStrictlySortedBy}
use Rattle.std.specs.Ordering.{eq_by_cmp}
use Rattle.std.specs.Map.{keys_of, lookup}
use Rattle.std.specs.BTreeMap.{is_at, keys}
use Rattle.xd_channel.specs.State.{EndState}
use Rattle.xd_factory.specs.declared.side.Side.{Side}
use Rattle.xd_value.specs.declared.value.Value.{Value}
use Rattle.xd_value.specs.Tree.{Tree}
use Rattle.xd_factory.specs.View.{slot_of_number, slot_at}
use Rattle.std.proofs.lemmas.Map.Keys.{IsDistinct-from_sorted, apart_from_distinct}
use Rattle.std.proofs.lemmas.List.{take_more, append-nil}
use Rattle.std.proofs.lemmas.Bool.{eqb-true}
use Rattle.std.proofs.lemmas.Bool.Decides.{nat_tests}
use Rattle.std.proofs.lemmas.Grind.{common_steps}
use Rattle.xd_channel.specs.declared.end.End.{End}
use Rattle.xd_factory.specs.Trees.{trees_at}
use Rattle.xd_factory.specs.Numbers.{is_in, is_known}
use Rattle.xd_factory.specs.Slot.{Slot, lost_slot, lost_gives}
use Rattle.xd_factory.specs.Table.{owed_at, owed_of}
use Rattle.xd_factory.proofs.Naming.{is_in_more}

by_cases : (b : Bool) (P : Type 0) → (b ≡ true → P) → (b ≡ false → P) → P
by_cases true P f g = f refl
by_cases false P f g = g refl

pub lost_step : (t b : Bool) (s0 s1 s2 : Slot Tree) → (b ≡ true → t ≡ false) → s1 ≡ (if t then lost_slot s0 else s0) → s2 ≡ (if b then lost_slot s1 else s1) → s2 ≡ (if t || b then lost_slot s0 else s0)
lost_step true true s0 s1 s2 a h k = absurd (let z = a refl in cc)
lost_step true false s0 s1 s2 a h k = k ∙ h
lost_step false true s0 s1 s2 a h k = k ∙ ap lost_slot h
lost_step false false s0 s1 s2 a h k = k ∙ h

owed-append : (slot : ℕ → Slot Tree) (xs ys : List ℕ) → owed_of slot (xs ++ ys) ≡ owed_of slot xs ++ owed_of slot ys
owed-append slot [] ys = refl
owed-append slot (x ∷ xs) ys = ap (λ (t : List (ℕ × End)). owed_at x (lost_gives (slot x)) ++ t) (owed-append slot xs ys) ∙ sym (append_assoc (owed_at x (lost_gives (slot x))) (owed_of slot xs) (owed_of slot ys))

pub owed_more : (slot : ℕ → Slot Tree) (xs : List ℕ) (i : ℕ) → i < length xs → owed_of slot (take (i + 1) xs) ≡ owed_of slot (take i xs) ++ owed_at (get_or xs i 0) (lost_gives (slot (get_or xs i 0)))
owed_more slot xs i h = ap (owed_of slot) (take_more xs i 0 h) ∙ owed-append slot (take i xs) (get_or xs i 0 ∷ []) ∙ ap (λ (t : List (ℕ × End)). owed_of slot (take i xs) ++ t) (append-nil (owed_at (get_or xs i 0) (lost_gives (slot (get_or xs i 0)))))

differ_by_cmp : (a b : ℕ) → eq_by_cmp nat_cmp a b ≡ false → (a == b) ≡ false
differ_by_cmp a b h = grind (arith, nat_tests)

not_among : (x : ℕ) (xs : List ℕ) (k : ℕ) → ((j : ℕ) → j < k → (get_or xs j 0 == x) ≡ false) → k ≤ length xs → is_in x (take k xs) ≡ false
not_among x xs zero h l = refl
not_among x xs (suc k) h l = rw (← add-one) (is_in_more x xs k (omega arith) ∙ rw (not_among x xs k (λ j q. h j (omega arith)) (omega arith), h k (omega arith)) refl)

pub comes_once : (xs : List ℕ) (i : ℕ) → IsStrictlySortedBy nat_cmp xs → i < length xs → is_in (get_or xs i 0) (take i xs) ≡ false
comes_once xs i s h = not_among (get_or xs i 0) xs i (λ j q. differ_by_cmp (get_or xs j 0) (get_or xs i 0) (apart_from_distinct (eq_by_cmp nat_cmp) xs j i 0 (IsDistinct-from_sorted nat_cmp xs s) q h)) (omega arith)

or_both : (a b : Bool) → a || b ≡ false → (a ≡ false) × (b ≡ false)
or_both true b h = absurd (let z = h in cc)
or_both false b h = (refl, h)

at_false : (q n : ℕ) → (n == q) ≡ false → is_at (nat_cmp q) n ≡ false
at_false q n h = grind (arith, nat_tests)

pub absent : {X : Type 0} (es : List (ℕ × X)) (q : ℕ) → is_in q (keys_of es) ≡ false → lookup (is_at (nat_cmp q)) es ≡ None
absent [] q h = refl
absent (e ∷ es) q h = let r = or_both (e.0 == q) (is_in q (keys_of es)) h in rw (at_false q e.0 r.0) (absent es q r.1)

pub slots_more : (s0 s1 s2 : ℕ → Slot Tree) (xs : List ℕ) (i q : ℕ) → IsStrictlySortedBy nat_cmp xs → i < length xs
    → ((c : ℕ) → s1 c ≡ (if is_in c (take i xs) then lost_slot (s0 c) else s0 c)) → s2 q ≡ (if get_or xs i 0 == q then lost_slot (s1 q) else s1 q)
    → s2 q ≡ (if is_in q (take (i + 1) xs) then lost_slot (s0 q) else s0 q)
slots_more s0 s1 s2 xs i q s h k l =
    lost_step (is_in q (take i xs)) (get_or xs i 0 == q) (s0 q) (s1 q) (s2 q) (λ e. subst (λ (x : ℕ). is_in x (take i xs) ≡ false) (eqb-true (get_or xs i 0) q e) (comes_once xs i s h)) (k q) l
    ∙ ap (λ (b : Bool). if b then lost_slot (s0 q) else s0 q) (sym (is_in_more q xs i h))

pub owed_next : (s0 s1 : ℕ → Slot Tree) (xs : List ℕ) (i : ℕ) → IsStrictlySortedBy nat_cmp xs → i < length xs
    → ((c : ℕ) → s1 c ≡ (if is_in c (take i xs) then lost_slot (s0 c) else s0 c)) → (owed : List (ℕ × End)) → owed ≡ owed_of s0 (take i xs)
    → owed ++ owed_at (get_or xs i 0) (lost_gives (s1 (get_or xs i 0))) ≡ owed_of s0 (take (i + 1) xs)
owed_next s0 s1 xs i s h k owed e =
    let same : s1 (get_or xs i 0) ≡ s0 (get_or xs i 0) = k (get_or xs i 0) ∙ ap (λ (b : Bool). if b then lost_slot (s0 (get_or xs i 0)) else s0 (get_or xs i 0)) (comes_once xs i s h) in
    ap (λ (t : List (ℕ × End)). t ++ owed_at (get_or xs i 0) (lost_gives (s1 (get_or xs i 0)))) e
    ∙ ap (λ (x : Slot Tree). owed_of s0 (take i xs) ++ owed_at (get_or xs i 0) (lost_gives x)) same
    ∙ sym (owed_more s0 xs i h)

none_lost : (b : Bool) → lost_slot (slot_at {V = Tree} None b) ≡ slot_at None b
none_lost true = refl
none_lost false = refl

pub unheld : (s : Side) (q : ℕ) → is_in q (keys s.ends) ≡ false → lost_slot (slot_of_number s q) ≡ slot_of_number s q
unheld s q h = subst (λ (x : Option (EndState Value)). lost_slot (slot_at (trees_at x) (is_known s.parity s.next s.seen q)) ≡ slot_at (trees_at x) (is_known s.parity s.next s.seen q)) (sym (absent s.ends.entries q h)) (none_lost (is_known s.parity s.next s.seen q))

pub all_lost : (s0 s1 : Slot Tree) (xs : List ℕ) (i q : ℕ) → length xs ≤ i → s1 ≡ (if is_in q (take i xs) then lost_slot s0 else s0) → (is_in q xs ≡ false → lost_slot s0 ≡ s0) → s1 ≡ lost_slot s0
all_lost s0 s1 xs i q l h f =
    let whole : is_in q (take i xs) ≡ is_in q xs = ap (is_in q) (take_all i xs l) in
    h ∙ ap (λ (b : Bool). if b then lost_slot s0 else s0) whole ∙ by_cases (is_in q xs) ((if is_in q xs then lost_slot s0 else s0) ≡ lost_slot s0)
    (λ e. ap (λ (b : Bool). if b then lost_slot s0 else s0) e) (λ e. ap (λ (b : Bool). if b then lost_slot s0 else s0) e ∙ sym (f e))
  where
    take_all : (i : ℕ) (xs : List ℕ) → length xs ≤ i → take i xs ≡ xs
    take_all i xs l = grind (arith, common_steps)
