-- Counts of what is excepted.
use Rattle.std.proofs.Common.{◌≡◌, ℕ, ◌+◌, List, [], ◌∷◌, ◌++◌, length, Bool, true, refl, sym, ◌∙◌, ap, subst, arith, length-append}
use Rattle.std.specs.Prelude.{filter}
use Rattle.std.proofs.lemmas.List.Elements.{filter-append}
use Rattle.xd_edge.specs.Faults.{Counted}
use Rattle.xd_group.specs.Fates.{has_link, is_linked, is_refused}
use Rattle.xd_group.specs.Few.{RoseFor, count_with}
use Rattle.xd_group.specs.declared.fate.Fate.{Fate}
use Rattle.xd_group.specs.declared.fate.Fate.TheVariants as fate

count_more : (which : Fate → Bool) (fates fs : List Fate) (f : Fate) → fs ≡ fates ++ f ∷ [] → count_with which fs ≡ count_with which fates + count_with which (f ∷ [])
count_more which fates fs f is = ap (count_with which) is ∙ (ap length (filter-append which fates (f ∷ [])) ∙ length-append (filter which fates) (filter which (f ∷ [])))

rose_first : (a : ℕ) → RoseFor 0 a a
rose_first a = record { rose = λ h. omega arith; still = λ e. refl }

pub few_first : (fates : List Fate) (a : ℕ) → fates ≡ [] → RoseFor (count_with is_refused fates) a a
few_first fates a is = subst (λ (l : List Fate). RoseFor (count_with is_refused l) a a) (sym is) (rose_first a)

same_count : (m n a b c : ℕ) → m ≡ n → c ≡ b → RoseFor n a b → RoseFor m a c
same_count m n a b c e f r = rw (e, f) r

-- a link was opened, or its reader refused
pub few_opened : (fates fs : List Fate) (f : Fate) (b : Bool) (a x y : ℕ) → fs ≡ fates ++ f ∷ [] → is_linked f ≡ b → has_link f ≡ true → Counted b x y → RoseFor (count_with is_refused fates) a x → RoseFor (count_with is_refused fs) a y
few_opened fates fs fate.Unlinked b a x y is h s c r = absurd (cc s)
few_opened fates fs fate.Linked b a x y is h s c r = same_count (count_with is_refused fs) (count_with is_refused fates) a x y (omega (arith, count_more is_refused fates fs fate.Linked is)) (c.still (sym h)) r
few_opened fates fs fate.Refused b a x y is h s c r =
    let more = count_more is_refused fates fs fate.Refused is in
    record { rose = λ top. omega (arith, more, c.later, c.rose (sym h) top, r.rose (omega (arith, c.later, top))); still = λ e. absurd (omega (arith, more, e)) }

-- there was no link
pub few_skipped : (fates fs : List Fate) (a x : ℕ) → fs ≡ fates ++ fate.Unlinked ∷ [] → RoseFor (count_with is_refused fates) a x → RoseFor (count_with is_refused fs) a x
few_skipped fates fs a x is r = same_count (count_with is_refused fs) (count_with is_refused fates) a x x (omega (arith, count_more is_refused fates fs fate.Unlinked is)) refl r
