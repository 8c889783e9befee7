-- The channel numbers in a value that has a payload are at most 2,147,483,647.
use Rattle.std.proofs.Common.{◌≡◌, ℕ, suc, ◌≤◌, ◌<◌, List, [], ◌∷◌, ◌++◌, Bool, true, false, refl, sym, ap, ◌∙◌, arith}
use Rattle.std.specs.Prelude.{◌||◌, ◌==◌}
use Rattle.std.proofs.lemmas.Bool.{eqb-true}
use Rattle.xd_value.specs.Tree.{Tree, Trees, Pairs, none, truth, int, bytes, text, list, tuple, set, frozenset, dict, channel, no_trees, tree, no_pairs, pair}
use Rattle.xd_value.specs.Channels.{channels, all_channels, pair_channels}
use Rattle.xd_value.specs.Spelling.{Spelled, ItemsSpelled, PartsSpelled, PairsSpelled}
use Rattle.xd_value.specs.Reading.{snoc_pair}
use Rattle.xd_value.specs.Payload.{IsPayload}
use Rattle.xd_factory.specs.Numbers.{is_in}

or_assoc : (a b c : Bool) → (a || b) || c ≡ a || (b || c)
or_assoc true b c = refl
or_assoc false b c = refl

pub is_in-append : (c : ℕ) (xs ys : List ℕ) → is_in c (xs ++ ys) ≡ is_in c xs || is_in c ys
is_in-append c [] ys = refl
is_in-append c (x ∷ xs) ys = ap (λ b. (x == c) || b) (is_in-append c xs ys) ∙ sym (or_assoc (x == c) (is_in c xs) (is_in c ys))

-- each number of the list is a channel's
abbrev pub Small : List ℕ → Type 0
Small xs = (c : ℕ) → is_in c xs ≡ true → c ≤ 2147483647

either : (a b : Bool) (P : Type 0) → a || b ≡ true → (a ≡ true → P) → (b ≡ true → P) → P
either true b P h f g = f refl
either false b P h f g = g h

none_small : Small []
none_small c h = absurd (let z = h in cc)

pub both_small : (xs ys : List ℕ) → Small xs → Small ys → Small (xs ++ ys)
both_small xs ys h k c q = either (is_in c xs) (is_in c ys) (c ≤ 2147483647) (sym (is_in-append c xs ys) ∙ q) (h c) (k c)

pub one_small : (n : ℕ) → n ≤ 2147483647 → Small (n ∷ [])
one_small n h c q = either (n == c) false (c ≤ 2147483647) q (λ e. let z = eqb-true n c e in omega arith) (λ e. absurd (let z = e in cc))

mutual
  value_small : (v : Tree) (b : List ℕ) → Spelled v b → Small (channels v)
  value_small none b h = none_small
  value_small (truth t) b h = none_small
  value_small (int z) b h = none_small
  value_small (bytes bs) b h = none_small
  value_small (text cs) b h = none_small
  value_small (list ts) b h = items_small 0 ts h.1 h.3
  value_small (tuple ts) b h = parts_small ts h.1 h.3
  value_small (set ts) b h = parts_small ts h.1 h.3
  value_small (frozenset ts) b h = parts_small ts h.1 h.3
  value_small (dict ps) b h = pairs_small no_pairs ps h.0 h.2
  value_small (channel n) b h = one_small n (let z : n < 2147483648 = h.1 in omega arith)

  items_small : (i : ℕ) (ts : Trees) (b : List ℕ) → ItemsSpelled i ts b → Small (all_channels ts)
  items_small i no_trees b h = none_small
  items_small i (tree t ts) b h = both_small (channels t) (all_channels ts) (value_small t h.1 h.5) (items_small (suc i) ts h.2 h.6)

  parts_small : (ts : Trees) (b : List ℕ) → PartsSpelled ts b → Small (all_channels ts)
  parts_small no_trees b h = none_small
  parts_small (tree t ts) b h = both_small (channels t) (all_channels ts) (value_small t h.0 h.3) (parts_small ts h.1 h.4)

  pairs_small : (seen ps : Pairs) (b : List ℕ) → PairsSpelled seen ps b → Small (pair_channels ps)
  pairs_small seen no_pairs b h = none_small
  pairs_small seen (pair k v ps) b h =
      both_small (channels k) (channels v ++ pair_channels ps) (value_small k h.0 h.5)
      (both_small (channels v) (pair_channels ps) (value_small v h.1 h.6) (pairs_small (snoc_pair seen k v) ps h.2 h.7))

pub payload_small : (v : Tree) (b : List ℕ) → IsPayload v b → Small (channels v)
payload_small v b h = value_small v h.spelling h.spelled
