-- Numbers that a message names open, one after another.
use Rattle.std.proofs.Common.{◌≡◌, ℕ, zero, suc, ◌+◌, ◌<◌, List, [], ◌∷◌, ◌++◌, length, take, drop, get_or, Bool, true, false, refl, sym, ap, ◌∙◌, arith, add-one, inl, inr}
use Rattle.std.specs.Prelude.{◌==◌, ◌||◌, ◌&&◌, not, if◌then◌else◌}
use Rattle.std.proofs.lemmas.List.{take_more}
use Rattle.std.proofs.lemmas.Bool.{eqb-true}
use Rattle.std.proofs.lemmas.Bool.Decides.{nat_tests}
use Rattle.std.proofs.lemmas.Grind.{common_steps}
use Rattle.std.proofs.Math.Seq.{drop-cons}
use Rattle.xd_value.specs.Tree.{Tree}
use Rattle.xd_factory.specs.declared.parity.Parity.{Parity}
use Rattle.xd_factory.specs.declared.faults.SideFault.{SideFault}
use Rattle.xd_factory.specs.declared.faults.SideFault.TheVariants as fault
use Rattle.xd_factory.specs.Numbers.{is_in, is_mine}
use Rattle.xd_value.specs.Channels.{channels}
use Rattle.xd_factory.specs.Said.{names_in}
use Rattle.xd_factory.specs.Slot.{Slot, Unseen, Here, Gone, is_new, named_slot}
use Rattle.xd_factory.specs.Table.{named_in, opened_count, OpensAtMost, IsNameFault, IsHearFault}
use Rattle.xd_factory.proofs.Bounds.{is_in-append}

or_false : (a : Bool) → a || false ≡ a
or_false true = refl
or_false false = refl

pub is_in_more : (c : ℕ) (xs : List ℕ) (i : ℕ) → i < length xs → is_in c (take (i + 1) xs) ≡ is_in c (take i xs) || (get_or xs i 0 == c)
is_in_more c xs i h = ap (is_in c) (take_more xs i 0 h) ∙ is_in-append c (take i xs) (get_or xs i 0 ∷ []) ∙ ap (λ b. is_in c (take i xs) || b) (or_false (get_or xs i 0 == c))

or_left_false : (a b : Bool) → a || b ≡ false → a ≡ false
or_left_false true b h = h
or_left_false false b h = refl

take_drop : (xs : List ℕ) (i : ℕ) → take i xs ++ drop i xs ≡ xs
take_drop xs i = grind (arith, common_steps)

pub is_in_take : (c : ℕ) (xs : List ℕ) (i : ℕ) → is_in c xs ≡ false → is_in c (take i xs) ≡ false
is_in_take c xs i h = or_left_false (is_in c (take i xs)) (is_in c (drop i xs)) (sym (is_in-append c (take i xs) (drop i xs)) ∙ ap (is_in c) (take_drop xs i) ∙ h)

eqb-same : (n : ℕ) → (n == n) ≡ true
eqb-same n = grind (arith, nat_tests)

pub is_in_one : (n : ℕ) → is_in n (n ∷ []) ≡ true
is_in_one n = ap (λ b. b || false) (eqb-same n)

or_right : (a b : Bool) → b ≡ true → a || b ≡ true
or_right true b h = refl
or_right false b h = h

-- the number at an index is one of the list
pub is_in_at : (xs : List ℕ) (i : ℕ) → i < length xs → is_in (get_or xs i 0) xs ≡ true
is_in_at [] i h = absurd (omega arith)
is_in_at (x ∷ xs) zero h = same x
  where
    same : (n : ℕ) → (n == n) || is_in n xs ≡ true
    same n = rw (eqb-same n) refl
is_in_at (x ∷ xs) (suc i) h = or_right (x == get_or xs i 0) (is_in (get_or xs i 0) xs) (is_in_at xs i (omega arith))

-- an item names its own number
pub own_named : (n : ℕ) (v : Tree) → is_in n (names_in n v) ≡ true
own_named n v = is_in-append n (channels v) (n ∷ []) ∙ or_right (is_in n (channels v)) (is_in n (n ∷ [])) (is_in_one n)

twice : (m : Bool) (s : Slot Tree) → named_slot m (named_slot m s) ≡ named_slot m s
twice true Unseen = refl
twice false Unseen = refl
twice m (Here s) = refl
twice m Gone = refl

-- one number more opens
pub named_more : (t b m : Bool) (s0 s1 s2 : Slot Tree) → s1 ≡ named_in m t s0 → s2 ≡ (if b then named_slot m s1 else s1) → s2 ≡ named_in m (t || b) s0
named_more true true m s0 s1 s2 h k = k ∙ ap (named_slot m) h ∙ twice m s0
named_more true false m s0 s1 s2 h k = k ∙ h
named_more false true m s0 s1 s2 h k = k ∙ ap (named_slot m) h
named_more false false m s0 s1 s2 h k = k ∙ h

-- what was named may be open, and what was not is as it was
pub at_most : (m named : Bool) (old new : Slot Tree) → new ≡ named_in m named old → OpensAtMost m old new
at_most m true old new h = inr h
at_most m false old new h = inl h

pub unnamed : (m named : Bool) (old new : Slot Tree) → new ≡ named_in m named old → named ≡ false → new ≡ old
unnamed m true old new h e = absurd (let z = e in cc)
unnamed m false old new h e = h

by_test : (a b : Bool) {x y u v : ℕ} → a ≡ b → x ≡ y → u ≡ v → (if a then suc x else u) ≡ (if b then suc y else v)
by_test true true e h k = ap suc h
by_test false false e h k = k
by_test true false e h k = absurd (let z = e in cc)
by_test false true e h k = absurd (let z = e in cc)

-- how many open: tests that agree count the same
count_same : (f g : ℕ → Bool) (ns : List ℕ) → ((c : ℕ) → f c ≡ g c) → opened_count f ns ≡ opened_count g ns
count_same f g [] h = refl
count_same f g (n ∷ ns) h = by_test (f n) (g n) (h n)
    (count_same (λ c. f c && not (n == c)) (λ c. g c && not (n == c)) ns (λ c. ap (λ b. b && not (n == c)) (h c))) (count_same f g ns h)

-- what is new once a number opened
new_step : (m n_is : Bool) (s t : Slot Tree) → t ≡ (if n_is then named_slot m s else s) → is_new m t ≡ (is_new m s && not n_is)
new_step m true s t h = ap (is_new m) h ∙ none m s
  where
    none : (m : Bool) (s : Slot Tree) → is_new m (named_slot m s) ≡ (is_new m s && false)
    none true Unseen = refl
    none false Unseen = refl
    none m (Here s) = refl
    none m Gone = refl
new_step m false s t h = ap (is_new m) h ∙ all (is_new m s)
  where
    all : (b : Bool) → b ≡ (b && true)
    all true = refl
    all false = refl

and_all : (b : Bool) → (b && true) ≡ b
and_all true = refl
and_all false = refl

not_new : (new : ℕ → Bool) (n c : ℕ) → new n ≡ false → (new c && not (n == c)) ≡ new c
not_new new n c h = cases (n == c) (eqb-true n c)
  where
    cases : (b : Bool) → (b ≡ true → n ≡ c) → (new c && not b) ≡ new c
    cases true k = let e : new c ≡ false = sym (ap new (k refl)) ∙ h in rw e refl
    cases false k = and_all (new c)

-- the numbers left open as many as before, less the one that opened
pub count_step : (old new : ℕ → Bool) (n : ℕ) (ns : List ℕ) → ((c : ℕ) → new c ≡ (old c && not (n == c))) → (if old n then 1 else 0) + opened_count new ns ≡ opened_count old (n ∷ ns)
count_step old new n ns h = cases (old n) refl
  where
    cases : (b : Bool) → old n ≡ b → (if b then 1 else 0) + opened_count new ns ≡ (if b then suc (opened_count (λ c. old c && not (n == c)) ns) else opened_count old ns)
    cases true e = omega (arith, count_same new (λ c. old c && not (n == c)) ns h)
    cases false e = omega (arith, count_same new old ns (λ c. h c ∙ not_new old n c e))

pub news : (parity : Parity) (n : ℕ) (s0 s1 : ℕ → Slot Tree) → ((c : ℕ) → s1 c ≡ (if n == c then named_slot (is_mine parity c) (s0 c) else s0 c))
    → (c : ℕ) → is_new (is_mine parity c) (s1 c) ≡ (is_new (is_mine parity c) (s0 c) && not (n == c))
news parity n s0 s1 h c = new_step (is_mine parity c) (n == c) (s0 c) (s1 c) (h c)

pub drop_more : (xs : List ℕ) (i : ℕ) → i < length xs → drop i xs ≡ get_or xs i 0 ∷ drop (i + 1) xs
drop_more xs i h = rw (add-one) (drop-cons xs i 0 h)

-- the first number left is new, and the table is full
pub too_many : (entries before : ℕ) (new : ℕ → Bool) (n : ℕ) (ns : List ℕ) (f : SideFault) → entries + opened_count new (n ∷ ns) ≡ before → IsNameFault entries (new n) f → IsHearFault before f
too_many entries before new n ns fault.TooManyOpen h k = full (new n) k.1 h
  where
    full : (b : Bool) → b ≡ true → entries + (if b then suc (opened_count (λ c. new c && not (n == c)) ns) else opened_count new ns) ≡ before → 4096 < before
    full true e h = let z = k.0 in omega arith
    full false e h = absurd (let z = e in cc)
too_many entries before new n ns fault.OutOfMemory h k = tt
too_many entries before new n ns fault.Finished h k = k
too_many entries before new n ns fault.BadNumber h k = k
too_many entries before new n ns fault.Unsupported h k = k
too_many entries before new n ns (fault.BadPayload what) h k = k
too_many entries before new n ns fault.NotText h k = k
