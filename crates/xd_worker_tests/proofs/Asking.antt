-- Tests that a steal asks for.
use Rattle.std.proofs.Common.{◌≡◌, ◌≢◌, ℕ, ◌<◌, ◌≤◌, List, [], ◌∷◌, ◌++◌, length, get_or, Bool, true, false, ◌||◌, ◌&&◌, Some, None, refl, ap, sym, subst, ◌∙◌, append_assoc, arith, inl, inr, get_or-set_same, get_or-set_other}
use Rattle.std.specs.Prelude.{◌==◌, ◌⊎◌, nat_lt, not, slice_get, slice_set, slice_index_or, if◌then◌else◌}
use borrow.Author.Tests.{eqb-true, eqb-false}
use Rattle.std.proofs.Math.ListN.{length-set}
use Rattle.std.proofs.lemmas.Option.{slice_get_cases}
use Rattle.std.proofs.lemmas.Bool.{lt-ltb, ltb-true}
use Rattle.std.proofs.lemmas.List.{get_or_default}
use Rattle.std.proofs.Math.ListN.{get_or-eq_default}
use Rattle.std.proofs.lemmas.Grind.{common_steps}
use Rattle.xd_worker_tests.specs.declared.line_entry.LineEntry.{LineEntry}
use Rattle.xd_worker_tests.specs.declared.line_entry.LineEntry.TheVariants.{Test, Mark}
use Rattle.xd_worker_tests.specs.declared.line_entry.Standing.{Standing}
use Rattle.xd_worker_tests.specs.declared.line_entry.Standing.TheVariants.{Free}
use Rattle.xd_worker_tests.specs.Line.{has_test, kept, stolen_tests, is_asked, is_among, can_ask, all_queued}
use Rattle.xd_worker_tests.specs.inner.Stands.{once, EachStandsAt, standing_by, TakenOut, freed_at, AreMarked, all_queued_at, queued_at, is_queued, is_true}
use Rattle.xd_worker_tests.proofs.Cut.{has_test-append}
use Rattle.xd_worker_tests.proofs.Once.{once_apart}

taken-append : (ns : List ℕ) (a b : List LineEntry) → stolen_tests ns (a ++ b) ≡ stolen_tests ns a ++ stolen_tests ns b
taken-append ns [] b = refl
taken-append ns (Mark ∷ a) b = taken-append ns a b
taken-append ns (Test n ∷ a) b = go (is_among n ns) (taken-append ns a b)
  where
    go : (t : Bool) → stolen_tests ns (a ++ b) ≡ stolen_tests ns a ++ stolen_tests ns b → (if t then n ∷ stolen_tests ns (a ++ b) else stolen_tests ns (a ++ b)) ≡ (if t then n ∷ stolen_tests ns a else stolen_tests ns a) ++ stolen_tests ns b
    go true e = ap (λ (l : List ℕ). n ∷ l) e
    go false e = e

kept-append : (ns : List ℕ) (a b : List LineEntry) → kept ns (a ++ b) ≡ kept ns a ++ kept ns b
kept-append ns [] b = refl
kept-append ns (p ∷ a) b = go (is_asked ns p) (kept-append ns a b)
  where
    go : (t : Bool) → kept ns (a ++ b) ≡ kept ns a ++ kept ns b → (if t then kept ns (a ++ b) else p ∷ kept ns (a ++ b)) ≡ (if t then kept ns a else p ∷ kept ns a) ++ kept ns b
    go true e = e
    go false e = ap (λ (l : List LineEntry). p ∷ l) e

one_more : (a : List LineEntry) (p : LineEntry) (q : List LineEntry) → a ++ p ∷ q ≡ (a ++ p ∷ []) ++ q
one_more a p q = grind (arith, common_steps)

or_none : (a : Bool) → (a || false) ≡ a
or_none true = refl
or_none false = refl

or_right : (a : Bool) → (a || (true || false)) ≡ true
or_right true = refl
or_right false = refl

and_right : (a b : Bool) → b ≡ false → (a && b) ≡ false
and_right true b e = e
and_right false b e = refl

pub out_mark : (ns : List ℕ) (before : List Standing) (queue : List LineEntry) (st : List Standing) (rest : List LineEntry) (back : List ℕ) (l m : List LineEntry) → m ≡ l ++ Mark ∷ [] → TakenOut ns before queue st (Mark ∷ rest) back l → TakenOut ns before queue st rest back m
out_mark ns before queue st rest back l m e h = record {
  done = h.done ++ Mark ∷ [];
  queue_is = h.queue_is ∙ one_more h.done Mark rest;
  back_is = h.back_is ∙ sym (taken-append ns h.done (Mark ∷ []) ∙ no_more (stolen_tests ns h.done));
  left_is = e ∙ ap (λ (x : List LineEntry). x ++ Mark ∷ []) h.left_is ∙ sym (kept-append ns h.done (Mark ∷ []));
  size = h.size;
  freed = λ n lt. h.freed n lt ∙ ap (λ (v : Bool). freed_at (v && is_among n ns) (slice_index_or before n Free)) (sym (has_test-append n h.done (Mark ∷ []) ∙ or_none (has_test n h.done)));
}
  where
    no_more : (a : List ℕ) → a ++ [] ≡ a
    no_more a = grind (arith, common_steps)

pub out_kept : (ns : List ℕ) (before : List Standing) (queue : List LineEntry) (st : List Standing) (k : ℕ) (rest : List LineEntry) (back : List ℕ) (l m : List LineEntry) → is_among k ns ≡ false → m ≡ l ++ Test k ∷ [] → TakenOut ns before queue st (Test k ∷ rest) back l → TakenOut ns before queue st rest back m
out_kept ns before queue st k rest back l m out e h = record {
  done = h.done ++ Test k ∷ [];
  queue_is = h.queue_is ∙ one_more h.done (Test k) rest;
  back_is = h.back_is ∙ sym (taken-append ns h.done (Test k ∷ []) ∙ ap (λ (v : Bool). stolen_tests ns h.done ++ (if v then k ∷ [] else [])) out ∙ no_more (stolen_tests ns h.done));
  left_is = e ∙ ap (λ (x : List LineEntry). x ++ Test k ∷ []) h.left_is ∙ sym (kept-append ns h.done (Test k ∷ []) ∙ ap (λ (v : Bool). kept ns h.done ++ (if v then [] else Test k ∷ [])) out);
  size = h.size;
  freed = λ n lt. h.freed n lt ∙ ap (λ (v : Bool). freed_at v (slice_index_or before n Free)) (same n (k == n) refl);
}
  where
    no_more : (a : List ℕ) → a ++ [] ≡ a
    no_more a = grind (arith, common_steps)

    same : (n : ℕ) (t : Bool) → (k == n) ≡ t → (has_test n h.done && is_among n ns) ≡ (has_test n (h.done ++ Test k ∷ []) && is_among n ns)
    same n true z =
        let not_in : is_among n ns ≡ false = subst (λ (i : ℕ). is_among i ns ≡ false) (eqb-true k n z) out in
        and_right (has_test n h.done) (is_among n ns) not_in ∙ sym (and_right (has_test n (h.done ++ Test k ∷ [])) (is_among n ns) not_in)
    same n false z = ap (λ (v : Bool). v && is_among n ns) (sym (has_test-append n h.done (Test k ∷ []) ∙ ap (λ (v : Bool). has_test n h.done || (v || false)) z ∙ or_none (has_test n h.done)))

pub out_taken : (ns : List ℕ) (before : List Standing) (queue : List LineEntry) (st r : List Standing) (k : ℕ) (rest : List LineEntry) (back b : List ℕ) (l : List LineEntry) → is_among k ns ≡ true → b ≡ back ++ k ∷ [] → r ≡ slice_set st k Free → TakenOut ns before queue st (Test k ∷ rest) back l → TakenOut ns before queue r rest b l
out_taken ns before queue st r k rest back b l in_ e s h = record {
  done = h.done ++ Test k ∷ [];
  queue_is = h.queue_is ∙ one_more h.done (Test k) rest;
  back_is = e ∙ ap (λ (x : List ℕ). x ++ k ∷ []) h.back_is ∙ sym (taken-append ns h.done (Test k ∷ []) ∙ ap (λ (v : Bool). stolen_tests ns h.done ++ (if v then k ∷ [] else [])) in_);
  left_is = h.left_is ∙ sym (kept-append ns h.done (Test k ∷ []) ∙ ap (λ (v : Bool). kept ns h.done ++ (if v then [] else Test k ∷ [])) in_ ∙ no_more (kept ns h.done));
  size = ap length s ∙ length-set st k Free ∙ h.size;
  freed = λ n lt. ap (λ (x : List Standing). slice_index_or x n Free) s ∙ go n lt (k == n) refl;
}
  where
    no_more : (a : List LineEntry) → a ++ [] ≡ a
    no_more a = grind (arith, common_steps)

    go : (n : ℕ) → n < length before → (t : Bool) → (k == n) ≡ t → slice_index_or (slice_set st k Free) n Free ≡ freed_at (has_test n (h.done ++ Test k ∷ []) && is_among n ns) (slice_index_or before n Free)
    go n lt true z =
        let same : k ≡ n = eqb-true k n z in
        let here : has_test n (h.done ++ Test k ∷ []) ≡ true = has_test-append n h.done (Test k ∷ []) ∙ ap (λ (v : Bool). has_test n h.done || (v || false)) z ∙ or_right (has_test n h.done) in
        let asked : is_among n ns ≡ true = subst (λ (i : ℕ). is_among i ns ≡ true) same in_ in
        let lt' : n < length st = subst (λ (i : ℕ). n < i) (sym h.size) lt in
        subst (λ (i : ℕ). get_or (slice_set st i Free) n Free ≡ freed_at (has_test n (h.done ++ Test k ∷ []) && is_among n ns) (slice_index_or before n Free)) (sym same)
        (get_or-set_same st n Free Free lt' ∙ rw (here, asked) refl)
    go n lt false z =
        let ne : n ≢ k = λ w. eqb-false k n z (sym w) in
        get_or-set_other st k n Free Free ne ∙ h.freed n lt ∙ ap (λ (v : Bool). freed_at (v && is_among n ns) (slice_index_or before n Free)) (sym (has_test-append n h.done (Test k ∷ []) ∙ ap (λ (v : Bool). has_test n h.done || (v || false)) z ∙ or_none (has_test n h.done)))

pub out_none : (ns : List ℕ) (before : List Standing) (queue : List LineEntry) → TakenOut ns before queue before queue [] []
out_none ns before queue = record { done = []; queue_is = refl; back_is = refl; left_is = refl; size = refl; freed = λ n lt. refl }

-- the tests that a list of marks marks
can_ask-append : (size : ℕ) (before a b : List ℕ) → can_ask size before (a ++ b) ≡ (can_ask size before a && can_ask size (before ++ a) b)
can_ask-append size before [] b = ap (λ (l : List ℕ). can_ask size l b) (sym (no_more before))
  where
    no_more : (a : List ℕ) → a ++ [] ≡ a
    no_more a = grind (arith, common_steps)
can_ask-append size before (n ∷ a) b =
    ap (λ (v : Bool). (nat_lt n size && not (is_among n before)) && v) (can_ask-append size (before ++ n ∷ []) a b
    ∙ ap (λ (l : List ℕ). can_ask size (before ++ n ∷ []) a && can_ask size l b) (append_assoc before (n ∷ []) a))
    ∙ sym (and_assoc (nat_lt n size && not (is_among n before)) (can_ask size (before ++ n ∷ []) a) _)
  where
    and_assoc : (a b c : Bool) → ((a && b) && c) ≡ (a && (b && c))
    and_assoc true b c = refl
    and_assoc false b c = refl

is_among-append : (n : ℕ) (a b : List ℕ) → is_among n (a ++ b) ≡ (is_among n a || is_among n b)
is_among-append n [] b = refl
is_among-append n (m ∷ a) b = elim (m == n) as (λ (v : Bool). (v || is_among n (a ++ b)) ≡ ((v || is_among n a) || is_among n b)) [ true ↦ refl | false ↦ is_among-append n a b ]

all_queued-append : (st : List Standing) (a b : List ℕ) → all_queued_at st (a ++ b) ≡ (all_queued_at st a && all_queued_at st b)
all_queued-append st [] b = refl
all_queued-append st (n ∷ a) b = elim (queued_at st n) as (λ (v : Bool). (v && all_queued_at st (a ++ b)) ≡ ((v && all_queued_at st a) && all_queued_at st b)) [ true ↦ all_queued-append st a b | false ↦ refl ]

and_all : (a b c : Bool) → a ≡ true → b ≡ true → c ≡ true → ((a && b) && c) ≡ true
and_all a b c e f g = rw (e, f, g)

pub more_asked : (size n : ℕ) (ns : List ℕ) → can_ask size [] ns ≡ true → n < size → is_among n ns ≡ false → can_ask size [] (ns ++ n ∷ []) ≡ true
more_asked size n ns e lt f = can_ask-append size [] ns (n ∷ []) ∙ step (can_ask size [] ns) (nat_lt n size) (is_among n ns) e (lt-ltb _ _ lt) f
  where
    step : (a b c : Bool) → a ≡ true → b ≡ true → c ≡ false → (a && ((b && not c) && true)) ≡ true
    step a b c x y z = rw (x, y, z)

pub not_asked : (size n : ℕ) (ns rest : List ℕ) → (nat_lt n size && not (is_among n ns)) ≡ false → can_ask size [] ((ns ++ n ∷ []) ++ rest) ≡ false
not_asked size n ns rest e = can_ask-append size [] (ns ++ n ∷ []) rest ∙ ap (λ (v : Bool). v && can_ask size (ns ++ n ∷ []) rest) (can_ask-append size [] ns (n ∷ []) ∙ step (can_ask size [] ns) (nat_lt n size && not (is_among n ns)) e)
  where
    step : (a b : Bool) → b ≡ false → (a && (b && true)) ≡ false
    step true b x = rw x
    step false b x = refl

pub more_queued : (st : List Standing) (n : ℕ) (ns : List ℕ) (a : Bool) → a ≡ all_queued_at st ns → (a && queued_at st n) ≡ all_queued_at st (ns ++ n ∷ [])
more_queued st n ns a e = ap (λ (v : Bool). v && queued_at st n) e ∙ last (all_queued_at st ns) (queued_at st n) ∙ sym (all_queued-append st ns (n ∷ []))
  where
    last : (a b : Bool) → (a && b) ≡ (a && (b && true))
    last true true = refl
    last true false = refl
    last false b = refl

is_true_is : (v : List Bool) (n : ℕ) → is_true (slice_get v n) ≡ get_or v n false
is_true_is v n = go (slice_get_cases v n).1
  where
    go : ((x : Bool) × (n < length v) × (slice_get v n ≡ Some x) × (get_or v n x ≡ x)) ⊎ ((length v ≤ n) × (slice_get v n ≡ None)) → is_true (slice_get v n) ≡ get_or v n false
    go (inl (x, lt, s, g)) = ap is_true s ∙ sym (get_or_default v n false x lt ∙ g)
    go (inr (le, s)) = ap is_true s ∙ sym (get_or-eq_default v false le)

get_set : (v : List Bool) (k n : ℕ) → k < length v → is_true (slice_get (slice_set v k true) n) ≡ ((k == n) || is_true (slice_get v n))
get_set v k n lt = is_true_is (slice_set v k true) n ∙ go (k == n) refl ∙ ap (λ (x : Bool). (k == n) || x) (sym (is_true_is v n))
  where
    go : (t : Bool) → (k == n) ≡ t → get_or (slice_set v k true) n false ≡ ((k == n) || get_or v n false)
    go true z = subst (λ (i : ℕ). get_or (slice_set v k true) i false ≡ true) (eqb-true k n z) (get_or-set_same v k true false lt) ∙ ap (λ (x : Bool). x || get_or v n false) (sym z)
    go false z = get_or-set_other v k n true false (λ e. eqb-false k n z (sym e)) ∙ ap (λ (x : Bool). x || get_or v n false) (sym z)

pub more_marked : (v w : List Bool) (k : ℕ) (ns : List ℕ) → k < length v → w ≡ slice_set v k true → AreMarked v ns → AreMarked w (ns ++ k ∷ [])
more_marked v w k ns lt e h = record { at = λ n. ap (λ (x : List Bool). is_true (slice_get x n)) e ∙ get_set v k n lt ∙ ap (λ (x : Bool). (k == n) || x) (h.at n) ∙ turned (k == n) (is_among n ns) ∙ sym (is_among-append n ns (k ∷ [])) }
  where
    turned : (a b : Bool) → (a || b) ≡ (b || (a || false))
    turned true true = refl
    turned true false = refl
    turned false true = refl
    turned false false = refl

pub left_false : (a b : Bool) → a ≡ false → (a && not b) ≡ false
left_false a b e = rw e

pub right_false : (a b : Bool) → b ≡ true → (a && not b) ≡ false
right_false true b e = ap not e
right_false false b e = refl

pub is_marked_in : (v w : List Bool) (r : Bool) (n : ℕ) (ns : List ℕ) (t : Bool) → w ≡ v → r ≡ is_true (slice_get w n) → r ≡ t → AreMarked v ns → is_among n ns ≡ t
is_marked_in v w r n ns t e f g h = sym (h.at n) ∙ ap (λ (x : List Bool). is_true (slice_get x n)) (sym e) ∙ sym f ∙ g

pub out_mark_at : (ns : List ℕ) (before : List Standing) (queue : List LineEntry) (st : List Standing) (p : LineEntry) (rest : List LineEntry) (back : List ℕ) (l m : List LineEntry) → p ≡ Mark → m ≡ l ++ p ∷ [] → TakenOut ns before queue st (p ∷ rest) back l → TakenOut ns before queue st rest back m
out_mark_at ns before queue st p rest back l m is e h = out_mark ns before queue st rest back l m (e ∙ ap (λ (x : LineEntry). l ++ x ∷ []) is) (subst (λ (x : LineEntry). TakenOut ns before queue st (x ∷ rest) back l) is h)

pub out_kept_at : (ns : List ℕ) (before : List Standing) (queue : List LineEntry) (st : List Standing) (p : LineEntry) (k : ℕ) (rest : List LineEntry) (back : List ℕ) (l m : List LineEntry) → p ≡ Test k → is_among k ns ≡ false → m ≡ l ++ Test k ∷ [] → TakenOut ns before queue st (p ∷ rest) back l → TakenOut ns before queue st rest back m
out_kept_at ns before queue st p k rest back l m is out e h = out_kept ns before queue st k rest back l m out e (subst (λ (x : LineEntry). TakenOut ns before queue st (x ∷ rest) back l) is h)

pub out_taken_at : (ns : List ℕ) (before : List Standing) (queue : List LineEntry) (st r : List Standing) (p : LineEntry) (k : ℕ) (rest : List LineEntry) (back b : List ℕ) (l : List LineEntry) → p ≡ Test k → is_among k ns ≡ true → b ≡ back ++ k ∷ [] → r ≡ slice_set st k Free → TakenOut ns before queue st (p ∷ rest) back l → TakenOut ns before queue r rest b l
out_taken_at ns before queue st r p k rest back b l is in_ e s h = out_taken ns before queue st r k rest back b l in_ e s (subst (λ (x : LineEntry). TakenOut ns before queue st (x ∷ rest) back l) is h)

pub out_next : (ns : List ℕ) (before : List Standing) (queue : List LineEntry) (st : List Standing) (q r : List LineEntry) (back : List ℕ) (l : List LineEntry) → q ≡ r → TakenOut ns before queue st q back l → TakenOut ns before queue st r back l
out_next ns before queue st q r back l e h = subst (λ (x : List LineEntry). TakenOut ns before queue st x back l) e h

pub by_then : (a q r x : Bool) → a ≡ true → x ≡ r → r ≡ q → x ≡ (a && q)
by_then a q r x e f g = rw (e, f, g) refl

pub by_else : (a q x : Bool) → a ≡ false → x ≡ false → x ≡ (a && q)
by_else a q x e f = rw (e, f) refl

-- where the asked tests stand
pub queued_is : (st : List Standing) (preceding q : List LineEntry) (n : ℕ) → n < length st → EachStandsAt st preceding q → once (preceding ++ q) ≡ true → queued_at st n ≡ has_test n q
queued_is st preceding q n lt h o = go (slice_get_cases st n).1
  where
    seen : (a b : Bool) → (a ≡ true → b ≡ false) → is_queued (Some (standing_by a b)) ≡ b
    seen true b f = sym (f refl)
    seen false true f = refl
    seen false false f = refl

    go : ((x : Standing) × (n < length st) × (slice_get st n ≡ Some x) × (get_or st n x ≡ x)) ⊎ ((length st ≤ n) × (slice_get st n ≡ None)) → queued_at st n ≡ has_test n q
    go (inl (x, l, s, g)) = ap is_queued (s ∙ ap Some (sym g ∙ get_or_default st n x Free lt ∙ h.at n lt)) ∙ seen (has_test n preceding) (has_test n q) (once_apart n preceding q o)
    go (inr (le, s)) = absurd (omega arith)

pub all_queued_is : (st : List Standing) (preceding q : List LineEntry) (before ns : List ℕ) → EachStandsAt st preceding q → once (preceding ++ q) ≡ true → can_ask (length st) before ns ≡ true → all_queued_at st ns ≡ all_queued q ns
all_queued_is st preceding q before [] h o e = refl
all_queued_is st preceding q before (n ∷ ns) h o e =
    ap (λ (v : Bool). v && all_queued_at st ns) (queued_is st preceding q n (ltb-true _ _ (first (nat_lt n (length st)) (is_among n before) (can_ask (length st) (before ++ n ∷ []) ns) e)) h o)
    ∙ ap (λ (v : Bool). has_test n q && v) (all_queued_is st preceding q (before ++ n ∷ []) ns h o (last (nat_lt n (length st) && not (is_among n before)) (can_ask (length st) (before ++ n ∷ []) ns) e))
  where
    first : (a b c : Bool) → ((a && not b) && c) ≡ true → a ≡ true
    first true b c e = refl
    first false b c e = e

    last : (a b : Bool) → (a && b) ≡ true → b ≡ true
    last true b e = e
    last false b e = let z : false ≡ true = e in cc

has_kept : (n : ℕ) (ns : List ℕ) (q : List LineEntry) → has_test n (kept ns q) ≡ (has_test n q && not (is_among n ns))
has_kept n ns [] = refl
has_kept n ns (Mark ∷ q) = has_kept n ns q
has_kept n ns (Test m ∷ q) = step (m == n) refl (is_among m ns) refl (has_kept n ns q)
  where
    step : (t : Bool) → (m == n) ≡ t → (u : Bool) → is_among m ns ≡ u → has_test n (kept ns q) ≡ (has_test n q && not (is_among n ns)) → has_test n (if u then kept ns q else Test m ∷ kept ns q) ≡ ((t || has_test n q) && not (is_among n ns))
    step true z true y h = let in_ : is_among n ns ≡ true = subst (λ (i : ℕ). is_among i ns ≡ true) (eqb-true m n z) y in h ∙ and_right (has_test n q) (not (is_among n ns)) (ap not in_) ∙ sym (ap not in_)
    step true z false y h = let out : is_among n ns ≡ false = subst (λ (i : ℕ). is_among i ns ≡ false) (eqb-true m n z) y in ap (λ (v : Bool). v || has_test n (kept ns q)) z ∙ sym (ap not out)
    step false z true y h = h
    step false z false y h = ap (λ (v : Bool). v || has_test n (kept ns q)) z ∙ h

pub kept_stands : (ns : List ℕ) (before after : List Standing) (preceding q left : List LineEntry) (back : List ℕ) → TakenOut ns before q after [] back left → EachStandsAt before preceding q → once (preceding ++ q) ≡ true → (EachStandsAt after preceding left) × (back ≡ stolen_tests ns q) × (left ≡ kept ns q)
kept_stands ns before after preceding q left back h st o =
    let all : q ≡ h.done = h.queue_is ∙ no_more h.done in
    let is_left : left ≡ kept ns q = h.left_is ∙ ap (kept ns) (sym all) in (
      record {
        at = λ n lt.
            let lt' : n < length before = subst (λ (i : ℕ). n < i) h.size lt in
            h.freed n lt' ∙ ap (λ (l : List LineEntry). freed_at (has_test n l && is_among n ns) (slice_index_or before n Free)) (sym all) ∙ ap (freed_at (has_test n q && is_among n ns)) (st.at n lt')
            ∙ mixed (has_test n preceding) (has_test n q) (is_among n ns) (once_apart n preceding q o) ∙ ap (standing_by (has_test n preceding)) (sym (ap (has_test n) is_left ∙ has_kept n ns q));
      },
      h.back_is ∙ ap (stolen_tests ns) (sym all),
      is_left,
    )
  where
    no_more : (a : List LineEntry) → a ++ [] ≡ a
    no_more a = grind (arith, common_steps)

    mixed : (a b m : Bool) → (a ≡ true → b ≡ false) → freed_at (b && m) (standing_by a b) ≡ standing_by a (b && not m)
    mixed true true m f = let z : true ≡ false = f refl in cc
    mixed true false m f = refl
    mixed false true true f = refl
    mixed false true false f = refl
    mixed false false m f = refl
