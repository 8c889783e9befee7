-- How the cut of a line changes.
use Rattle.std.proofs.Common.{◌≡◌, ℕ, ◌<◌, ◌≢◌, List, [], ◌∷◌, ◌++◌, length, drop, get_or, Bool, true, false, ◌||◌, Option, Some, None, refl, ap, sym, subst, ◌∙◌, append_assoc, arith, get_or-set_same, get_or-set_other}
use Rattle.std.specs.Prelude.{◌==◌, option_to_list, slice_index_or, slice_set}
use borrow.Author.Tests.{eqb-true, eqb-false}
use Rattle.std.proofs.Math.ListN.{length-set}
use Rattle.std.proofs.lemmas.Grind.{common_steps}
use Rattle.xd_worker_tests.specs.declared.line_entry.LineEntry.{LineEntry}
use Rattle.xd_worker_tests.specs.declared.line_entry.LineEntry.TheVariants.{Test, Mark}
use Rattle.xd_worker_tests.specs.declared.line_entry.Standing.{Standing}
use Rattle.xd_worker_tests.specs.declared.line_entry.Standing.TheVariants.{Free, Passed}
use Rattle.xd_worker_tests.specs.declared.run_tests.Running.{Running}
use Rattle.xd_worker_tests.specs.Line.{has_test}
use Rattle.xd_worker_tests.specs.inner.Stands.{EachStandsAt, IsCut, standing_of, standing_by, passing, passing_some, running_places}

pub has_test-append : (n : ℕ) (a b : List LineEntry) → has_test n (a ++ b) ≡ (has_test n a || has_test n b)
has_test-append n [] b = refl
has_test-append n (Test m ∷ a) b = elim (m == n) as (λ (v : Bool). (v || has_test n (a ++ b)) ≡ ((v || has_test n a) || has_test n b)) [ true ↦ refl | false ↦ has_test-append n a b ]
has_test-append n (Mark ∷ a) b = has_test-append n a b

or_none : (a : Bool) → a ≡ (a || false)
or_none true = refl
or_none false = refl

or_last : (a : Bool) → (a || true) ≡ true
or_last true = refl
or_last false = refl

same_by : (a b c d : Bool) (s : Standing) → s ≡ standing_by a b → a ≡ c → b ≡ d → s ≡ standing_by c d
same_by a b c d s e h k = rw (← h, ← k) e

other_passes : (n : ℕ) (preceding q : List LineEntry) (m : ℕ) (t : Bool) (s : Standing) → (m == n) ≡ t → t ≡ false → s ≡ standing_by (has_test n preceding) (t || has_test n q) → s ≡ standing_of n (preceding ++ Test m ∷ []) q
other_passes n preceding q m true s e z h = cc
other_passes n preceding q m false s e z h = same_by (has_test n preceding) (has_test n q) _ _ s h (or_none _ ∙ ap (λ (v : Bool). has_test n preceding || (v || false)) (sym e) ∙ sym (has_test-append n preceding (Test m ∷ []))) refl

pub passed_one : (stands : List Standing) (preceding q : List LineEntry) (p : LineEntry) → EachStandsAt stands preceding (p ∷ q) → EachStandsAt (passing stands p) (preceding ++ p ∷ []) q
passed_one stands preceding q (Test m) h = record { at = λ n lt. go n (rw length-set at lt) (m == n) refl }
  where
    go : (n : ℕ) → n < length stands → (t : Bool) → (m == n) ≡ t → slice_index_or (slice_set stands m Passed) n Free ≡ standing_of n (preceding ++ Test m ∷ []) q
    go n lt true e =
        let same : m ≡ n = eqb-true m n e in
        let here : has_test n (preceding ++ Test m ∷ []) ≡ true = has_test-append n preceding (Test m ∷ []) ∙ ap (λ (v : Bool). has_test n preceding || (v || false)) e ∙ or_last _ in
        subst (λ (i : ℕ). get_or (slice_set stands i Passed) n Free ≡ standing_of n (preceding ++ Test m ∷ []) q) (sym same) (get_or-set_same stands n Passed Free lt ∙ ap (λ (v : Bool). standing_by v (has_test n q)) (sym here))
    go n lt false e =
        let ne : n ≢ m = λ z. eqb-false m n e (sym z) in
        get_or-set_other stands m n Passed Free ne ∙ other_passes n preceding q m (m == n) (get_or stands n Free) refl e (h.at n lt)
passed_one stands preceding q Mark h = record { at = λ n lt. same_by (has_test n preceding) (has_test n q) _ _ _ (h.at n lt) (or_none _ ∙ sym (has_test-append n preceding (Mark ∷ []))) refl }

pub cut_next : (next : Option LineEntry) (queue rest : List LineEntry) (stands : List Standing) (line : List LineEntry) (ended : ℕ) → IsCut None None queue stands line ended → queue ≡ option_to_list next ++ rest → (next ≡ None → rest ≡ []) → IsCut None next rest (passing_some stands next) line ended
cut_next None queue rest stands line ended h e z = subst (λ (r : List LineEntry). IsCut None None r stands line ended) e h
cut_next (Some p) queue rest stands line ended h e z = record {
  done = h.done;
  count = h.count;
  line_is = h.line_is ∙ ap (λ (r : List LineEntry). (h.done ++ []) ++ r) e ∙ shift h.done p rest;
  idle = λ n. cc;
  standing = subst (λ (a : List LineEntry). EachStandsAt (passing stands p) a rest) (ap (λ (a : List LineEntry). a ++ p ∷ []) (no_more h.done)) (passed_one stands (h.done ++ []) rest p (subst (λ (r : List LineEntry). EachStandsAt stands (h.done ++ []) r) e h.standing));
}
  where
    no_more : (a : List LineEntry) → a ++ [] ≡ a
    no_more a = grind (arith, common_steps)

    shift : (a : List LineEntry) (p : LineEntry) (rest : List LineEntry) → (a ++ []) ++ (p ∷ rest) ≡ (a ++ p ∷ []) ++ rest
    shift a p rest = grind (arith, common_steps)

pub cut_start : (n log : ℕ) (p : LineEntry) (q : List LineEntry) (stands : List Standing) (line : List LineEntry) (ended : ℕ) → IsCut None (Some (Test n)) (p ∷ q) stands line ended → IsCut (Some (record { test = n; log = log })) (Some p) q (passing stands p) line ended
cut_start n log p q stands line ended h = record {
  done = h.done;
  count = h.count;
  line_is = h.line_is ∙ shift h.done (Test n) p q;
  idle = λ n. cc;
  standing = subst (λ (a : List LineEntry). EachStandsAt (passing stands p) a q) (joined h.done (Test n) p) (passed_one stands (h.done ++ Test n ∷ []) q p h.standing);
}
  where
    joined : (a : List LineEntry) (x y : LineEntry) → (a ++ x ∷ []) ++ y ∷ [] ≡ a ++ (x ∷ y ∷ [])
    joined a x y = append_assoc a (x ∷ []) (y ∷ [])

    shift : (a : List LineEntry) (x y : LineEntry) (q : List LineEntry) → (a ++ x ∷ []) ++ (y ∷ q) ≡ (a ++ (x ∷ y ∷ [])) ++ q
    shift a x y q = grind (arith, common_steps)

-- what is left of the line
pub cut_left : (running : Option Running) (next : Option LineEntry) (queue : List LineEntry) (stands : List Standing) (line : List LineEntry) (ended : ℕ) → IsCut running next queue stands line ended → drop ended line ≡ running_places running ++ (option_to_list next ++ queue)
cut_left running next queue stands line ended h =
    rw (h.line_is) (following h.done (running_places running) (option_to_list next) queue ended h.count)
  where
    following : (a b c d : List LineEntry) (n : ℕ) → length a ≡ n → drop n ((a ++ (b ++ c)) ++ d) ≡ b ++ (c ++ d)
    following a b c d n e = grind (arith, common_steps)
