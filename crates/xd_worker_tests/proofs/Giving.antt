-- Tests that are put after the queue.
use Rattle.std.proofs.Common.{◌≡◌, ℕ, ◌+◌, ◌<◌, ◌≤◌, ◌≢◌, List, [], ◌∷◌, ◌++◌, length, take, drop, get_or, Bool, true, false, ◌||◌, ◌&&◌, Some, None, refl, ap, sym, subst, ◌∙◌, append_assoc, arith, get_or-set_same, get_or-set_other}
use Rattle.std.specs.Prelude.{◌==◌, slice_index_or, slice_set, map, nat_lt, not}
use borrow.Author.Tests.{eqb-true, eqb-false}
use Rattle.std.proofs.Math.ListN.{length-set}
use Rattle.std.proofs.lemmas.Bool.Decides.{nat_tests}
use Rattle.std.proofs.lemmas.Grind.{common_steps}
use Rattle.std.proofs.lemmas.List.{take_more, get_or_default}
use Rattle.xd_worker_tests.specs.declared.line_entry.LineEntry.{LineEntry}
use Rattle.xd_worker_tests.specs.declared.line_entry.LineEntry.TheVariants.{Test}
use Rattle.xd_worker_tests.specs.declared.line_entry.Standing.{Standing}
use Rattle.xd_worker_tests.specs.declared.line_entry.Standing.TheVariants.{Free, Queued, Passed}
use Rattle.xd_worker_tests.specs.Line.{has_test, can_give}
use Rattle.xd_worker_tests.specs.inner.Stands.{EachStandsAt, standing_of, standing_by, Appends, free_at, is_free}
use Rattle.std.proofs.lemmas.Option.{slice_get_cases}
use Rattle.std.proofs.lemmas.Bool.{lt-ltb}
use Rattle.std.specs.Prelude.{◌⊎◌, slice_get}
use Rattle.std.proofs.Common.{inl, inr}
use Rattle.xd_worker_tests.proofs.Cut.{has_test-append}

-- a test is free exactly where it does not stand
pub free_is : (a b : Bool) → Free ≡ standing_by a b → (a || b) ≡ false
free_is true b e = cc
free_is false true e = cc
free_is false false e = refl

pub not_free_is : (a b : Bool) → (Free ≡ standing_by a b → ⊥) → (a || b) ≡ true
not_free_is true b h = refl
not_free_is false true h = refl
not_free_is false false h = absurd (h refl)

or_none : (a : Bool) → a ≡ (a || false)
or_none true = refl
or_none false = refl

or_last : (a : Bool) → (a || true) ≡ true
or_last true = refl
or_last false = refl

same_by : (a b c d : Bool) (s : Standing) → s ≡ standing_by a b → a ≡ c → b ≡ d → s ≡ standing_by c d
same_by a b c d s e h k = rw (← h, ← k) e

right_false : (a b : Bool) → (a || b) ≡ false → a ≡ false
right_false true b e = e
right_false false b e = refl

-- a free test is put after the queue
pub queued_one : (stands : List Standing) (preceding q : List LineEntry) (m : ℕ) → m < length stands → get_or stands m Free ≡ Free → EachStandsAt stands preceding q → EachStandsAt (slice_set stands m Queued) preceding (q ++ Test m ∷ [])
queued_one stands preceding q m in_suite free h = record { at = λ n lt. go n (rw length-set at lt) (m == n) refl }
  where
    go : (n : ℕ) → n < length stands → (t : Bool) → (m == n) ≡ t → slice_index_or (slice_set stands m Queued) n Free ≡ standing_of n preceding (q ++ Test m ∷ [])
    go n lt true e =
        let same : m ≡ n = eqb-true m n e in
        let was : Free ≡ standing_of n preceding q = subst (λ (i : ℕ). Free ≡ standing_of i preceding q) same (sym free ∙ h.at m in_suite) in
        let not_preceding : has_test n preceding ≡ false = right_false _ _ (free_is _ _ was) in
        let here : has_test n (q ++ Test m ∷ []) ≡ true = has_test-append n q (Test m ∷ []) ∙ ap (λ (v : Bool). has_test n q || (v || false)) e ∙ or_last _ in
        subst (λ (i : ℕ). get_or (slice_set stands i Queued) n Free ≡ standing_of n preceding (q ++ Test m ∷ [])) (sym same)
        (get_or-set_same stands n Queued Free lt ∙ same_by false true _ _ Queued refl (sym not_preceding) (sym here))
    go n lt false e =
        let ne : n ≢ m = λ z. eqb-false m n e (sym z) in
        get_or-set_other stands m n Queued Free ne ∙ same_by (has_test n preceding) (has_test n q) _ _ _ (h.at n lt) refl (or_none _ ∙ ap (λ (v : Bool). has_test n q || (v || false)) (sym e) ∙ sym (has_test-append n q (Test m ∷ [])))

can_give-append : (size : ℕ) (line : List LineEntry) (a b : List ℕ) → can_give size line (a ++ b) ≡ (can_give size line a && can_give size (line ++ map Test a) b)
can_give-append size line [] b = ap (λ (l : List LineEntry). can_give size l b) (sym (no_more line))
  where
    no_more : (a : List LineEntry) → a ++ [] ≡ a
    no_more a = grind (arith, common_steps)
can_give-append size line (n ∷ a) b =
    ap (λ (v : Bool). (nat_lt n size && not (has_test n line)) && v) (can_give-append size (line ++ Test n ∷ []) a b
    ∙ ap (λ (l : List LineEntry). can_give size (line ++ Test n ∷ []) a && can_give size l b) (append_assoc line (Test n ∷ []) (map Test a)))
    ∙ sym (and_assoc (nat_lt n size && not (has_test n line)) (can_give size (line ++ Test n ∷ []) a) _)
  where
    and_assoc : (a b c : Bool) → ((a && b) && c) ≡ (a && (b && c))
    and_assoc true b c = refl
    and_assoc false b c = refl

pub appends_both : (s s1 s2 : List Standing) (q q1 q2 : List LineEntry) (a b : List ℕ) (v : Bool) → Appends s q s1 q1 a true → Appends s1 q1 s2 q2 b v → Appends s q s2 q2 (a ++ b) v
appends_both s s1 s2 q q1 q2 a b v f g = record {
  size = g.size ∙ f.size;
  gives = λ preceding h.
      g.gives preceding (f.standing preceding refl h)
      ∙ ap (λ (n : ℕ). can_give n (preceding ++ q1) b) f.size
      ∙ ap (λ (l : List LineEntry). can_give (length s) l b) (ap (λ (l : List LineEntry). preceding ++ l) (f.queue_is refl) ∙ sym (append_assoc preceding q (map Test a)))
      ∙ sym (can_give-append (length s) (preceding ++ q) a b ∙ ap (λ (x : Bool). x && can_give (length s) ((preceding ++ q) ++ map Test a) b) (sym (f.gives preceding h)));
  queue_is = λ e. g.queue_is e ∙ ap (λ (l : List LineEntry). l ++ map Test b) (f.queue_is refl) ∙ joined q a b;
  standing = λ preceding e h. g.standing preceding e (f.standing preceding refl h);
}
  where
    joined : (q : List LineEntry) (a b : List ℕ) → (q ++ map Test a) ++ map Test b ≡ q ++ map Test (a ++ b)
    joined q a b = grind (arith, common_steps)

pub appends_stop : (s s1 : List Standing) (q q1 : List LineEntry) (a b : List ℕ) → Appends s q s1 q1 a false → Appends s q s1 q1 (a ++ b) false
appends_stop s s1 q q1 a b f = record {
  size = f.size;
  gives = λ preceding h. sym (can_give-append (length s) (preceding ++ q) a b ∙ ap (λ (x : Bool). x && can_give (length s) ((preceding ++ q) ++ map Test a) b) (sym (f.gives preceding h)));
  queue_is = λ e. cc;
  standing = λ preceding e h. let no : true ≡ false = sym e in cc;
}

pub appends_none : (s : List Standing) (q : List LineEntry) → Appends s q s q [] true
appends_none s q = record { size = refl; gives = λ preceding h. refl; queue_is = λ e. no_more q; standing = λ preceding e h. h }
  where
    no_more : (a : List LineEntry) → a ≡ a ++ []
    no_more a = grind (arith, common_steps)

-- a free test is one of the suite
pub free_within : (stands : List Standing) (n : ℕ) → free_at stands n ≡ true → (n < length stands) × (get_or stands n Free ≡ Free)
free_within stands n e = go (slice_get_cases stands n).1
  where
    go : ((x : Standing) × (n < length stands) × (slice_get stands n ≡ Some x) × (get_or stands n x ≡ x)) ⊎ ((length stands ≤ n) × (slice_get stands n ≡ None)) → (n < length stands) × (get_or stands n Free ≡ Free)
    go (inl (Free, lt, h, g)) = (lt, g)
    go (inl (Queued, lt, h, g)) = let z : is_free (Some Queued) ≡ true = ap is_free (sym h) ∙ e in cc
    go (inl (Passed, lt, h, g)) = let z : is_free (Some Passed) ≡ true = ap is_free (sym h) ∙ e in cc
    go (inr (le, h)) = let z : is_free None ≡ true = ap is_free (sym h) ∙ e in cc

pub le_not_below : (a b : ℕ) → b ≤ a → nat_lt a b ≡ false
le_not_below a b le = grind (arith, nat_tests)

pub free_gives : (stands : List Standing) (preceding q : List LineEntry) (n : ℕ) → EachStandsAt stands preceding q → free_at stands n ≡ can_give (length stands) (preceding ++ q) (n ∷ [])
free_gives stands preceding q n h = go (slice_get_cases stands n).1
  where
    out : (a b c v : Bool) → a ≡ true → b ≡ c → v ≡ not c → v ≡ ((a && not b) && true)
    out true true true v e f g = g
    out true false false v e f g = g
    out true true false v e f g = let z : true ≡ false = f in cc
    out true false true v e f g = let z : false ≡ true = f in cc
    out false b c v e f g = let z : false ≡ true = e in cc

    far : (a b v : Bool) → a ≡ false → v ≡ false → v ≡ ((a && b) && true)
    far false b v e f = f
    far true b v e f = let z : true ≡ false = e in cc

    seen : (x : Standing) → get_or stands n Free ≡ x → n < length stands → x ≡ standing_by (has_test n preceding) (has_test n q)
    seen x g lt = sym g ∙ h.at n lt

    same : (x : Standing) → n < length stands → get_or stands n x ≡ x → get_or stands n Free ≡ x
    same x lt g = get_or_default stands n Free x lt ∙ g

    go : ((x : Standing) × (n < length stands) × (slice_get stands n ≡ Some x) × (get_or stands n x ≡ x)) ⊎ ((length stands ≤ n) × (slice_get stands n ≡ None)) → free_at stands n ≡ can_give (length stands) (preceding ++ q) (n ∷ [])
    go (inl (Free, lt, s, g)) = out (nat_lt n (length stands)) _ false _ (lt-ltb _ _ lt) (has_test-append n preceding q ∙ free_is _ _ (seen Free g lt)) (ap is_free s)
    go (inl (Queued, lt, s, g)) = out (nat_lt n (length stands)) _ true _ (lt-ltb _ _ lt) (has_test-append n preceding q ∙ not_free_is _ _ (λ z. let w : Queued ≡ Free = seen Queued (same Queued lt g) lt ∙ sym z in cc)) (ap is_free s)
    go (inl (Passed, lt, s, g)) = out (nat_lt n (length stands)) _ true _ (lt-ltb _ _ lt) (has_test-append n preceding q ∙ not_free_is _ _ (λ z. let w : Passed ≡ Free = seen Passed (same Passed lt g) lt ∙ sym z in cc)) (ap is_free s)
    go (inr (le, s)) = far (nat_lt n (length stands)) _ _ (le_not_below n (length stands) le) (ap is_free s)

pub appends_one : (stands : List Standing) (q : List LineEntry) (n : ℕ) → free_at stands n ≡ true → Appends stands q (slice_set stands n Queued) (q ++ Test n ∷ []) (n ∷ []) true
appends_one stands q n e = record {
  size = length-set stands n Queued;
  gives = λ preceding h. sym e ∙ free_gives stands preceding q n h;
  queue_is = λ z. refl;
  standing = λ preceding z h. queued_one stands preceding q n (free_within stands n e).0 (free_within stands n e).1 h;
}

pub appends_not : (stands : List Standing) (q : List LineEntry) (n : ℕ) → free_at stands n ≡ false → Appends stands q stands q (n ∷ []) false
appends_not stands q n e = record {
  size = refl;
  gives = λ preceding h. sym e ∙ free_gives stands preceding q n h;
  queue_is = λ z. cc;
  standing = λ preceding z h. h;
}

pub more_tests : (ns : List ℕ) (i : ℕ) → i < length ns → take (i + 1) ns ≡ take i ns ++ get_or ns i 0 ∷ []
more_tests ns i h = take_more ns i 0 h

pub all_tests : (ns : List ℕ) (i : ℕ) → i < length ns → ns ≡ (take i ns ++ get_or ns i 0 ∷ []) ++ drop (i + 1) ns
all_tests ns i h = grind (arith, common_steps)
