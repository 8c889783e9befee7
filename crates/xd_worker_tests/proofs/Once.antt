-- No test stands twice in a line.
use Rattle.std.proofs.Common.{◌≡◌, ℕ, List, [], ◌∷◌, ◌++◌, Bool, true, false, ◌||◌, ◌&&◌, refl, ap, sym, subst, ◌∙◌, append_assoc, arith}
use Rattle.std.specs.Prelude.{◌==◌, map, nat_lt, not, if◌then◌else◌}
use borrow.Author.Tests.{eqb-true, eqb-false, ne_eqb}
use Rattle.std.proofs.lemmas.Grind.{common_steps}
use Rattle.xd_worker_tests.specs.declared.line_entry.LineEntry.{LineEntry}
use Rattle.xd_worker_tests.specs.declared.line_entry.LineEntry.TheVariants.{Test, Mark}
use Rattle.xd_worker_tests.specs.Line.{has_test, can_give, kept, is_among}
use Rattle.xd_worker_tests.specs.inner.Stands.{once}
use Rattle.xd_worker_tests.proofs.Cut.{has_test-append}

pub and_first : (a b : Bool) → (a && b) ≡ true → a ≡ true
and_first true b e = refl
and_first false b e = e

pub and_last : (a b : Bool) → (a && b) ≡ true → b ≡ true
and_last true b e = e
and_last false b e = let z : false ≡ true = e in cc

pub and_both : (a b : Bool) → a ≡ true → b ≡ true → (a && b) ≡ true
and_both a b e f = rw (e, f)

pub not_true : (a : Bool) → not a ≡ true → a ≡ false
not_true true e = sym e
not_true false e = refl

or_first : (a b : Bool) → (a || b) ≡ false → a ≡ false
or_first true b e = e
or_first false b e = refl

or_second : (a b : Bool) → (a || b) ≡ false → b ≡ false
or_second true b e = let z : true ≡ false = e in cc
or_second false b e = e

or_none : (a b : Bool) → a ≡ false → b ≡ false → (a || (b || false)) ≡ false
or_none a b e f = rw (e, f)

flipped : (m n : ℕ) → (m == n) ≡ false → (n == m) ≡ false
flipped m n e = ne_eqb n m (λ z. eqb-false m n e (sym z))

pub once_mark : (l : List LineEntry) → once (l ++ Mark ∷ []) ≡ once l
once_mark [] = refl
once_mark (Test m ∷ l) = ap (λ (v : Bool). not v && once (l ++ Mark ∷ [])) (has_test-append m l (Mark ∷ []) ∙ none (has_test m l)) ∙ ap (λ (v : Bool). not (has_test m l) && v) (once_mark l)
  where
    none : (a : Bool) → (a || false) ≡ a
    none true = refl
    none false = refl
once_mark (Mark ∷ l) = once_mark l

once_snoc : (n : ℕ) (l : List LineEntry) → has_test n l ≡ false → once l ≡ true → once (l ++ Test n ∷ []) ≡ true
once_snoc n [] e h = refl
once_snoc n (Test m ∷ l) e h =
    let apart : (m == n) ≡ false = or_first (m == n) (has_test n l) e in
    let fresh : has_test m (l ++ Test n ∷ []) ≡ false = has_test-append m l (Test n ∷ []) ∙ or_none (has_test m l) (n == m) (not_true _ (and_first (not (has_test m l)) (once l) h)) (flipped m n apart) in
    and_both (not (has_test m (l ++ Test n ∷ []))) (once (l ++ Test n ∷ [])) (ap not fresh) (once_snoc n l (or_second (m == n) (has_test n l) e) (and_last (not (has_test m l)) (once l) h))
once_snoc n (Mark ∷ l) e h = once_snoc n l e h

pub once_given : (size : ℕ) (l : List LineEntry) (ns : List ℕ) → can_give size l ns ≡ true → once l ≡ true → once (l ++ map Test ns) ≡ true
once_given size l [] e h = subst (λ (x : List LineEntry). once x ≡ true) (no_more l) h
  where
    no_more : (a : List LineEntry) → a ≡ a ++ []
    no_more a = grind (arith, common_steps)
once_given size l (n ∷ ns) e h =
    let here = and_first (nat_lt n size && not (has_test n l)) (can_give size (l ++ Test n ∷ []) ns) e in
    let rest = and_last (nat_lt n size && not (has_test n l)) (can_give size (l ++ Test n ∷ []) ns) e in
    let fresh : has_test n l ≡ false = not_true _ (and_last (nat_lt n size) (not (has_test n l)) here) in
    subst (λ (x : List LineEntry). once x ≡ true) (append_assoc l (Test n ∷ []) (map Test ns)) (once_given size (l ++ Test n ∷ []) ns rest (once_snoc n l fresh h))

-- a test before the queue is not in it
pub once_apart : (n : ℕ) (a q : List LineEntry) → once (a ++ q) ≡ true → has_test n a ≡ true → has_test n q ≡ false
once_apart n [] q h e = let z : false ≡ true = e in cc
once_apart n (Mark ∷ a) q h e = once_apart n a q h e
once_apart n (Test m ∷ a) q h e = go (λ z. once_apart n a q (and_last (not (has_test m (a ++ q))) (once (a ++ q)) h) z) (m == n) refl e
  where
    go : (has_test n a ≡ true → has_test n q ≡ false) → (t : Bool) → (m == n) ≡ t → (t || has_test n a) ≡ true → has_test n q ≡ false
    go more true s z =
        let same : m ≡ n = eqb-true m n s in
        let none : has_test m (a ++ q) ≡ false = not_true _ (and_first (not (has_test m (a ++ q))) (once (a ++ q)) h) in
        subst (λ (k : ℕ). has_test k q ≡ false) same (or_second (has_test m a) (has_test m q) (sym (has_test-append m a q) ∙ none))
    go more false s z = more z

either : (a b : Bool) → a ≡ false → b ≡ false → (a || b) ≡ false
either a b e f = rw (e, f)

kept_without : (t : Bool) (n m : ℕ) (q : List LineEntry) → (m == n) ≡ false → has_test n q ≡ false → has_test n (if t then q else Test m ∷ q) ≡ false
kept_without true n m q e f = f
kept_without false n m q e f = either (m == n) (has_test n q) e f

kept_none : (n : ℕ) (ns : List ℕ) (q : List LineEntry) → has_test n q ≡ false → has_test n (kept ns q) ≡ false
kept_none n ns [] e = e
kept_none n ns (Mark ∷ q) e = kept_none n ns q e
kept_none n ns (Test m ∷ q) e = kept_without (is_among m ns) n m (kept ns q) (or_first (m == n) (has_test n q) e) (kept_none n ns q (or_second (m == n) (has_test n q) e))

once_without : (t : Bool) (m : ℕ) (q : List LineEntry) → has_test m q ≡ false → once q ≡ true → once (if t then q else Test m ∷ q) ≡ true
once_without true m q e f = f
once_without false m q e f = and_both (not (has_test m q)) (once q) (ap not e) f

once_queue : (ns : List ℕ) (q : List LineEntry) → once q ≡ true → once (kept ns q) ≡ true
once_queue ns [] h = h
once_queue ns (Mark ∷ q) h = once_queue ns q h
once_queue ns (Test m ∷ q) h = once_without (is_among m ns) m (kept ns q) (kept_none m ns q (not_true _ (and_first (not (has_test m q)) (once q) h))) (once_queue ns q (and_last (not (has_test m q)) (once q) h))

pub once_kept : (ns : List ℕ) (a q : List LineEntry) → once (a ++ q) ≡ true → once (a ++ kept ns q) ≡ true
once_kept ns [] q h = once_queue ns q h
once_kept ns (Mark ∷ a) q h = once_kept ns a q h
once_kept ns (Test m ∷ a) q h =
    let none : has_test m (a ++ q) ≡ false = not_true _ (and_first (not (has_test m (a ++ q))) (once (a ++ q)) h) in
    let split = sym (has_test-append m a q) ∙ none in
    and_both (not (has_test m (a ++ kept ns q))) (once (a ++ kept ns q))
    (ap not (has_test-append m a (kept ns q) ∙ both (has_test m a) (has_test m (kept ns q)) (or_first (has_test m a) (has_test m q) split) (kept_none m ns q (or_second (has_test m a) (has_test m q) split))))
    (once_kept ns a q (and_last (not (has_test m (a ++ q))) (once (a ++ q)) h))
  where
    both : (a b : Bool) → a ≡ false → b ≡ false → (a || b) ≡ false
    both a b e f = rw (e, f)
