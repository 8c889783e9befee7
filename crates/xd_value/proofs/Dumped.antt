-- What is dumped of a value that can be written is a payload of it.
use Rattle.std.proofs.Common.{◌≡◌, ℕ, suc, ◌+◌, ◌<◌, ◌≤◌, ◌&&◌, ℤ, pos, negsuc, Bool, true, false, not, ltb-true, List, [], ◌∷◌, ◌++◌, length, length-append, Ok, FitsSigned, refl, sym, arith, inl, inr, append-nil}
use Rattle.std.specs.Int.{w128, w32, to_be_bytes}
use Rattle.std.proofs.lemmas.Bool.{and_parts, cases_Bool}
use Rattle.std.proofs.lemmas.Bool.Decides.{nat_tests}
use Rattle.std.proofs.lemmas.Grind.{common_steps}
use Rattle.xd_value.specs.Tree.{Tree, Trees, Pairs, none, truth, int, bytes, text, list, tuple, set, frozenset, dict, channel, no_trees, tree, no_pairs, pair, count, depth, hashable, has_key}
use Rattle.xd_value.specs.Reading.{snoc_pair}
use Rattle.xd_value.specs.Spelling.{SpellsInteger, Spelled, ItemsSpelled, PartsSpelled, PairsSpelled}
use Rattle.xd_value.specs.Payload.{IsPayload}
use Rattle.xd_value.specs.Canonical.{Test, Hashable, Distinct, Channels, passes, all_pass, trees_pass, pairs_pass, keys_hashable, new_keys, is_short_int, int_form, form, item_forms, forms, pair_forms, canonical, dumped}
use Rattle.xd_value.specs.Writable.{Writable, AllWritable, PairsWritable}
use Rattle.xd_value.proofs.CanonicalSpelling.{InRange, short_fits, short_form, long_form}
use Rattle.xd_value.proofs.OneAnswer.{one_payload}

-- ---- integers

in_range : (z : ℤ) → FitsSigned w128 z → InRange z
in_range (pos n) h = omega arith
in_range (negsuc n) h = omega arith

int_spelled : (z : ℤ) → FitsSigned w128 z → SpellsInteger z (int_form z)
int_spelled z h = elim (cases_Bool (is_short_int z)) [
  | inl t ↦ inl (short_form z (short_fits z t))
  | inr f ↦ inr (long_form z (in_range z h) f)
]

index_fits : (i : ℕ) → i ≤ 16777216 → FitsSigned w128 (pos i)
index_fits i h = record { sfits = omega arith }

-- ---- each part takes a byte at least

int_some : (z : ℤ) → 0 < length (int_form z)
int_some z = elim (cases_Bool (is_short_int z)) [
  | inl t ↦ rw t (omega arith)
  | inr f ↦ rw f (omega arith)
]

form_some : (t : Tree) → 0 < length (form t)
form_some none = omega arith
form_some (truth b) = omega arith
form_some (int z) = int_some z
form_some (bytes bs) = omega arith
form_some (text cs) = omega arith
form_some (list ts) = omega arith
form_some (tuple ts) = omega (arith, length-append (forms ts) (64 ∷ to_be_bytes w32 (count ts)))
form_some (set ts) = omega (arith, length-append (forms ts) (79 ∷ to_be_bytes w32 (count ts)))
form_some (frozenset ts) = omega (arith, length-append (forms ts) (69 ∷ to_be_bytes w32 (count ts)))
form_some (dict ps) = omega arith
form_some (channel n) = omega arith

count_forms : (ts : Trees) → count ts ≤ length (forms ts)
count_forms no_trees = omega arith
count_forms (tree t ts) = omega (arith, form_some t, count_forms ts, length-append (form t) (forms ts))

count_items : (i : ℕ) (ts : Trees) → count ts ≤ length (item_forms i ts)
count_items i no_trees = omega arith
count_items i (tree t ts) =
    omega (arith, form_some t, count_items (suc i) ts, length-append (int_form (pos i)) (form t ++ (80 ∷ item_forms (suc i) ts)), length-append (form t) (80 ∷ item_forms (suc i) ts))

-- ---- the form spells the value

-- each test passes
abbrev Passes : (Test → Bool) → Type 0
Passes p = (x : Test) → p x ≡ true

itself : (t : Tree) (rest : Test → Bool) → Passes (λ x. passes x t && rest x) → Passes (λ x. passes x t)
itself t rest h = λ x. (and_parts (passes x t) (rest x) (h x)).0

parts_pass : (t : Tree) (rest : Test → Bool) → Passes (λ x. passes x t && rest x) → Passes rest
parts_pass t rest h = λ x. (and_parts (passes x t) (rest x) (h x)).1

not_true : (b : Bool) → not b ≡ true → b ≡ false
not_true true e = absurd cc
not_true false e = refl

mutual
  form_spelled : (t : Tree) → Writable t → Passes (λ x. all_pass x t) → length (form t) ≤ 16777216 → Spelled t (form t)
  form_spelled none w p le = refl
  form_spelled (truth b) w p le = refl
  form_spelled (int z) w p le = int_spelled z w
  form_spelled (bytes bs) w p le = record { fits = omega arith; spelled = refl }
  form_spelled (text cs) w p le = inl (record { scalars = w; fits = omega arith; opcode = 78; is_opcode = inl refl; spelled = refl })
  form_spelled (list ts) w p le =
      let some = count_items 0 ts in
      (omega (arith, le, some), item_forms 0 ts, refl, items_spelled 0 ts w (parts_pass (list ts) (λ x. trees_pass x ts) p) (omega (arith, le, some)) (omega arith))
  form_spelled (tuple ts) w p le =
      let size = length-append (forms ts) (64 ∷ to_be_bytes w32 (count ts)) in
      (omega (arith, le, size, count_forms ts), forms ts, refl, forms_spelled ts w (parts_pass (tuple ts) (λ x. trees_pass x ts) p) (omega (arith, le, size)))
  form_spelled (set ts) w p le =
      let size = length-append (forms ts) (79 ∷ to_be_bytes w32 (count ts)) in
      let own = itself (set ts) (λ x. trees_pass x ts) p in (
        omega (arith, le, size, count_forms ts),
        forms ts,
        refl,
        forms_spelled ts w (parts_pass (set ts) (λ x. trees_pass x ts) p) (omega (arith, le, size)),
        record { hashable_items = own Hashable; apart = own Distinct },
      )
  form_spelled (frozenset ts) w p le =
      let size = length-append (forms ts) (69 ∷ to_be_bytes w32 (count ts)) in
      let own = itself (frozenset ts) (λ x. trees_pass x ts) p in (
        omega (arith, le, size, count_forms ts),
        forms ts,
        refl,
        forms_spelled ts w (parts_pass (frozenset ts) (λ x. trees_pass x ts) p) (omega (arith, le, size)),
        record { hashable_items = own Hashable; apart = own Distinct },
      )
  form_spelled (dict ps) w p le =
      let own = itself (dict ps) (λ x. pairs_pass x ps) p in
      (pair_forms ps, refl, pairs_spelled no_pairs ps w (parts_pass (dict ps) (λ x. pairs_pass x ps) p) (own Hashable) (own Distinct) (omega arith))
  form_spelled (channel n) w p le =
      let in_range = and_parts _ _ (p Channels) in
      (ltb-true 0 n in_range.0, ltb-true n 2147483648 in_range.1, refl)

  items_spelled : (i : ℕ) (ts : Trees) → AllWritable ts → Passes (λ x. trees_pass x ts) → i + count ts ≤ 16777216 → length (item_forms i ts) ≤ 16777216 → ItemsSpelled i ts (item_forms i ts)
  items_spelled i no_trees w p few le = refl
  items_spelled i (tree t ts) w p few le =
      let one = length-append (int_form (pos i)) (form t ++ (80 ∷ item_forms (suc i) ts)) in
      let two = length-append (form t) (80 ∷ item_forms (suc i) ts) in (
        int_form (pos i),
        form t,
        item_forms (suc i) ts,
        refl,
        int_spelled (pos i) (index_fits i (omega arith)),
        form_spelled t w.0 (λ x. (and_parts (all_pass x t) (trees_pass x ts) (p x)).0) (omega (arith, le, one, two)),
        items_spelled (suc i) ts w.1 (λ x. (and_parts (all_pass x t) (trees_pass x ts) (p x)).1) (omega arith) (omega (arith, le, one, two)),
      )

  forms_spelled : (ts : Trees) → AllWritable ts → Passes (λ x. trees_pass x ts) → length (forms ts) ≤ 16777216 → PartsSpelled ts (forms ts)
  forms_spelled no_trees w p le = refl
  forms_spelled (tree t ts) w p le =
      let one = length-append (form t) (forms ts) in (
        form t,
        forms ts,
        refl,
        form_spelled t w.0 (λ x. (and_parts (all_pass x t) (trees_pass x ts) (p x)).0) (omega (arith, le, one)),
        forms_spelled ts w.1 (λ x. (and_parts (all_pass x t) (trees_pass x ts) (p x)).1) (omega (arith, le, one)),
      )

  pairs_spelled : (seen ps : Pairs) → PairsWritable ps → Passes (λ x. pairs_pass x ps) → keys_hashable ps ≡ true → new_keys seen ps ≡ true → length (pair_forms ps) ≤ 16777216 → PairsSpelled seen ps (pair_forms ps)
  pairs_spelled seen no_pairs w p hashed fresh le = refl
  pairs_spelled seen (pair k v ps) w p hashed fresh le =
      let one = length-append (form k) (form v ++ (80 ∷ pair_forms ps)) in
      let two = length-append (form v) (80 ∷ pair_forms ps) in
      let both : Passes (λ x. all_pass x k && all_pass x v) = λ x. (and_parts (all_pass x k && all_pass x v) (pairs_pass x ps) (p x)).0 in
      let keys = and_parts (hashable k) (keys_hashable ps) hashed in
      let apart = and_parts (not (has_key k seen)) (new_keys (snoc_pair seen k v) ps) fresh in (
        form k,
        form v,
        pair_forms ps,
        refl,
        record { hashable_key = keys.0; fresh = not_true (has_key k seen) apart.0 },
        form_spelled k w.0.0 (λ x. (and_parts (all_pass x k) (all_pass x v) (both x)).0) (omega (arith, le, one, two)),
        form_spelled v w.0.1 (λ x. (and_parts (all_pass x k) (all_pass x v) (both x)).1) (omega (arith, le, one, two)),
        pairs_spelled (snoc_pair seen k v) ps w.1 (λ x. (and_parts (all_pass x k && all_pass x v) (pairs_pass x ps) (p x)).1) keys.1 apart.1 (omega (arith, le, one, two)),
      )

-- ---- what is dumped

record Accepted (t : Tree) (b : List ℕ) : Type 0 where
  shallow : depth t ≤ 64
  hashed : all_pass Hashable t ≡ true
  apart : all_pass Distinct t ≡ true
  channels : all_pass Channels t ≡ true
  short : length (canonical t) ≤ 16777216
  is : b ≡ canonical t

accepted : (t : Tree) (b : List ℕ) → dumped t ≡ Ok b → Accepted t b
unfolding dumped
accepted t b h = record {
  shallow = grind (arith, nat_tests, common_steps);
  hashed = grind (arith, nat_tests, common_steps);
  apart = grind (arith, nat_tests, common_steps);
  channels = grind (arith, nat_tests, common_steps);
  short = grind (arith, nat_tests, common_steps);
  is = grind (arith, nat_tests, common_steps);
}

all_passed : (t : Tree) (b : List ℕ) → Accepted t b → Passes (λ x. all_pass x t)
all_passed t b a Hashable = a.hashed
all_passed t b a Distinct = a.apart
all_passed t b a Channels = a.channels

pub dumped_payload : (t : Tree) (b : List ℕ) → Writable t → dumped t ≡ Ok b → IsPayload t b
dumped_payload t b w h =
    let a = accepted t b h in
    record {
      shallow = a.shallow;
      spelling = form t;
      spelled = form_spelled t w (all_passed t b a) (omega (arith, a.short, length-append (form t) (81 ∷ [])));
      stops = a.is;
    }

pub dumped_once : (t : Tree) (b : List ℕ) → Writable t → dumped t ≡ Ok b → IsPayload t b × ((u : Tree) → IsPayload u b → u ≡ t)
dumped_once t b w h =
    let p = dumped_payload t b w h in
    (p, λ u q. (one_payload u t b b [] q p (sym (append-nil b))).0)
