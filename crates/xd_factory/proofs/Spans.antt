-- Runs as a map from the first number of each to its last, and what joining a number to them changes.
use Rattle.std.proofs.Common.{◌≡◌, ℕ, ◌+◌, ◌<◌, ◌≤◌, inl, inr, Bool, true, false, Option, Some, None, refl, sym, ap, subst, ◌∙◌, arith}
use Rattle.std.specs.Prelude.{◌&&◌, nat_le}
use Rattle.std.specs.Option.{IsSome, is_some}
use Rattle.std.specs.Ordering.{nat_cmp}
use Rattle.std.specs.Cmp.{nat_cmp_total}
use Rattle.std.specs.List.{list_any}
use Rattle.std.specs.BTreeMap.{BTreeMap, get, is_at, IsOrdered}
use Rattle.std.proofs.lemmas.Bool.{cases_order, cases_Bool}
use Rattle.std.proofs.lemmas.Bool.Decides.{nat_tests}
use Rattle.std.proofs.lemmas.List.Folds.{Any-from_list_any}
use Rattle.std.proofs.lemmas.Map.Entries.{place_from_lookup}
use Rattle.std.proofs.lemmas.Map.Keys.{any_passes_from_place}
use Rattle.std.proofs.lemmas.Map.Views.{All-found}
use Rattle.xd_factory.specs.inner.Runs.{is_between}

abbrev pub Forward : (ℕ → Option ℕ) → Type 0
Forward f = (a : ℕ) → (b : ℕ) → f a ≡ Some b → a ≤ b

abbrev pub Apart : (ℕ → Option ℕ) → Type 0
Apart f = (a : ℕ) → (b : ℕ) → (c : ℕ) → f a ≡ Some b → a < c → IsSome (f c) → b + 1 < c

-- a run has the number
abbrev pub Covers : (ℕ → Option ℕ) → ℕ → Type 0
Covers f c = (a : ℕ) × (b : ℕ) × (f a ≡ Some b) × (a ≤ c) × (c ≤ b)

pub some_of : (o : Option ℕ) → IsSome o → (x : ℕ) × (o ≡ Some x)
some_of None h = absurd (let z = h in cc)
some_of (Some x) h = (x, refl)

pub one_value : (o : Option ℕ) (x y : ℕ) → o ≡ Some x → o ≡ Some y → x ≡ y
one_value o x y h k = let z : Some x ≡ Some y = sym h ∙ k in cc

-- ---- the numbers of the entries of a map
both : (a b c : ℕ) → nat_le a c && nat_le c b ≡ true → (a ≤ c) × (c ≤ b)
both a b c h = grind (arith, nat_tests)

between : (a b c : ℕ) → a ≤ c → c ≤ b → nat_le a c && nat_le c b ≡ true
between a b c h k = grind (arith, nat_tests)

at_self : (a k : ℕ) → is_at (nat_cmp a) k ≡ true → a ≡ k
at_self a k h = grind (arith, nat_tests)

pub covered : (m : BTreeMap ℕ ℕ) (c : ℕ) → IsOrdered nat_cmp m → list_any (is_between c) m.entries ≡ true → Covers (get nat_cmp m) c
covered m c o h =
    let at = Any-from_list_any (is_between c) m.entries h in
    let found = subst (λ (e : ℕ × ℕ). get nat_cmp m e.0 ≡ Some e.1) at.3 (All-found nat_cmp_total m o at.0 at.1 at.2) in
    let in_it = both at.1.0 at.1.1 c at.4 in
    (at.1.0, at.1.1, found, in_it.0, in_it.1)

pub covering : (m : BTreeMap ℕ ℕ) (c : ℕ) → Covers (get nat_cmp m) c → list_any (is_between c) m.entries ≡ true
covering m c h =
    let at = place_from_lookup (is_at (nat_cmp h.0)) m.entries h.1 h.2 in
    let first : h.0 ≡ at.1 = at_self h.0 at.1 at.3 in
    any_passes_from_place (is_between c) m.entries at.0 (at.1, h.1) at.2 (between at.1 h.1 c (subst (λ (x : ℕ). x ≤ c) first h.3) h.4)

-- ---- the last run that starts at a number or before it
pub none_covers : (f : ℕ → Option ℕ) (n : ℕ) → ((q : ℕ) → q ≤ n → f q ≡ None) → Covers f n → ⊥
none_covers f n none h = let z : Some h.1 ≡ None = sym h.2 ∙ none h.0 h.3 in absurd cc

module _ (f : ℕ → Option ℕ) (apart : Apart f) (n a b : ℕ) (at : f a ≡ Some b) (before : a ≤ n) (greatest : (q : ℕ) → q ≤ n → IsSome (f q) → q ≤ a) where
  pub misses : b < n → Covers f n → ⊥
  misses lt h = elim (cases_order h.0 a) [
    | inl same ↦ absurd (let z = one_value (f a) h.1 b (subst (λ (x : ℕ). f x ≡ Some h.1) same h.2) at in let y = h.4 in omega arith)
    | inr (inl less) ↦ absurd (let z = apart h.0 h.1 a h.2 less (ap is_some at) in let y = h.4 in omega arith)
    | inr (inr more) ↦ absurd (let z = greatest h.0 h.3 (ap is_some h.2) in omega arith)
  ]

-- ---- what the entries of a map have
pub has_is : (m : BTreeMap ℕ ℕ) (c : ℕ) (b : Bool) → IsOrdered nat_cmp m → (b ≡ true → Covers (get nat_cmp m) c) → (b ≡ false → Covers (get nat_cmp m) c → ⊥) → b ≡ list_any (is_between c) m.entries
has_is m c true o in_it not_in = sym (covering m c (in_it refl))
has_is m c false o in_it not_in = elim (cases_Bool (list_any (is_between c) m.entries)) [
  | inl is ↦ absurd (not_in refl (covered m c o is))
  | inr is_not ↦ sym is_not
]

leb_true : (a b : ℕ) → nat_le a b ≡ true → a ≤ b
leb_true a b h = grind (arith, nat_tests)

leb_false : (a b : ℕ) → nat_le a b ≡ false → b < a
leb_false a b h = grind (arith, nat_tests)

pub has_at : (m : BTreeMap ℕ ℕ) (n a b : ℕ) → IsOrdered nat_cmp m → Apart (get nat_cmp m) → get nat_cmp m a ≡ Some b → a ≤ n → ((q : ℕ) → q ≤ n → IsSome (get nat_cmp m q) → q ≤ a)
    → nat_le n b ≡ list_any (is_between n) m.entries
has_at m n a b o apart at before greatest =
    has_is m n (nat_le n b) o (λ le. (a, b, at, before, leb_true n b le)) (λ gt. misses (get nat_cmp m) apart n a b at before greatest (leb_false n b gt))

pub has_none : (m : BTreeMap ℕ ℕ) (n : ℕ) → IsOrdered nat_cmp m → ((q : ℕ) → q ≤ n → get nat_cmp m q ≡ None) → false ≡ list_any (is_between n) m.entries
has_none m n o none = has_is m n false o (λ e. absurd (let z = e in cc)) (λ e. none_covers (get nat_cmp m) n none)
