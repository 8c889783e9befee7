-- Lines of tests that a worker was given.
use Rattle.std.proofs.Common.{◌≡◌, ℕ, zero, suc, ◌≤◌, List, [], ◌∷◌, ◌++◌, drop, length, map, Bool, true, false, not, ◌&&◌, ◌||◌, refl, ap, sym, ◌∙◌, subst, arith, append_assoc, take}
use Rattle.std.specs.Prelude.{◌==◌, nat_lt}
use Rattle.std.specs.List.{list_all, list_any, range_with_len}
use Rattle.std.proofs.lemmas.Bool.Decides.{nat_tests}
use Rattle.std.proofs.lemmas.List.{append-nil}
use Rattle.xd_commands.specs.declared.order.Order.{Order}
use Rattle.xd_commands.specs.declared.order.Order.TheVariants.{RunTests, RunAll, Steal, Shutdown}
use Rattle.xd_run.specs.Numbers.{among, without, all_distinct}
use Rattle.xd_worker_tests.specs.declared.line_entry.LineEntry.{LineEntry}
use Rattle.xd_worker_tests.specs.declared.line_entry.LineEntry.TheVariants.{Test, Mark}
use Rattle.xd_worker_tests.specs.Line.{can_give, has_test}
use Rattle.xd_run_laws.proofs.Logic.{split-and, and, differ}
use Rattle.xd_system.specs.LineGiven.{all_given, answers_left, are_new, asked_back, line_given, is_none_left, is_shutdown, line_after, marks_last, steals_asked, tests_given}
use Rattle.std.proofs.Math.ListN.{drop_of_length-le}

-- the answers that are left after these orders
abbrev pub left_of : List Order → List (List ℕ) → List (List ℕ)
left_of [] backs = backs
left_of (o ∷ os) backs = left_of os (answers_left o backs)

pub without-none : (xs : List ℕ) → without [] xs ≡ xs
without-none [] = refl
without-none (x ∷ xs) = ap (λ (ys : List ℕ). x ∷ ys) (without-none xs)

pub dealt-append : (size : ℕ) (line : List ℕ) (R G : List Order) (backs : List (List ℕ))
    → line_given size line (R ++ G) backs ≡ line_given size (line_given size line R backs) G (left_of R backs)
dealt-append size line [] G backs = refl
dealt-append size line (o ∷ R) G backs = dealt-append size (line_after size line o backs) R G (answers_left o backs)

drop-one : (n : ℕ) (backs : List (List ℕ)) → drop n (drop 1 backs) ≡ drop (suc n) backs
drop-one zero [] = refl
drop-one (suc n) [] = refl
drop-one n (a ∷ backs) = refl

pub left-dropped : (R : List Order) (backs : List (List ℕ)) → left_of R backs ≡ drop (length (steals_asked R)) backs
left-dropped [] backs = refl
left-dropped (RunTests ns ∷ R) backs = left-dropped R backs
left-dropped (RunAll ∷ R) backs = left-dropped R backs
left-dropped (Shutdown ∷ R) backs = left-dropped R backs
left-dropped (Steal ns ∷ R) backs = left-dropped R (drop 1 backs) ∙ drop-one (length (steals_asked R)) backs

after-order : (size : ℕ) (line : List ℕ) (o : Order) → line_after size line o [] ≡ line ++ tests_given size o
after-order size line (RunTests ns) = refl
after-order size line RunAll = refl
after-order size line (Steal ns) = without-none line ∙ sym (append-nil line)
after-order size line Shutdown = sym (append-nil line)

no-answers : (o : Order) → answers_left o [] ≡ []
no-answers (RunTests ns) = refl
no-answers RunAll = refl
no-answers (Steal ns) = refl
no-answers Shutdown = refl

-- without answers nothing is taken
pub dealt-unanswered : (size : ℕ) (line : List ℕ) (G : List Order)
    → line_given size line G [] ≡ line ++ all_given size G
dealt-unanswered size line [] = sym (append-nil line)
dealt-unanswered size line (o ∷ G) =
    ap (λ (backs : List (List ℕ)). line_given size (line_after size line o []) G backs) (no-answers o)
    ∙ ap (λ (l : List ℕ). line_given size l G []) (after-order size line o)
    ∙ dealt-unanswered size (line ++ tests_given size o) G
    ∙ append_assoc line (tests_given size o) (all_given size G)

-- where each steal of the first orders is answered, and no other, the further orders add what they give
pub dealt-further : (size : ℕ) (R G : List Order) (backs : List (List ℕ)) → length backs ≤ length (steals_asked R)
    → line_given size [] (R ++ G) backs ≡ line_given size [] R backs ++ all_given size G
dealt-further size R G backs h =
    dealt-append size [] R G backs
    ∙ ap (λ (bs : List (List ℕ)). line_given size (line_given size [] R backs) G bs) (left-dropped R backs ∙ drop_of_length-le backs h)
    ∙ dealt-unanswered size (line_given size [] R backs) G

pub steals-append : (R G : List Order) → steals_asked (R ++ G) ≡ steals_asked R ++ steals_asked G
steals-append [] G = refl
steals-append (o ∷ R) G = ap (λ (l : List (List ℕ)). asked_back o ++ l) (steals-append R G)
    ∙ sym (append_assoc (asked_back o) (steals_asked R) (steals_asked G))

-- new tests can be given

among-more : (m n : ℕ) (D : List ℕ) → among m (D ++ n ∷ []) ≡ (among m D || (m == n))
among-more m n [] = grind (arith, nat_tests)
among-more m n (x ∷ D) = grind (arith, nat_tests, among-more m n D)

pub has_test-more : (m n : ℕ) (line : List LineEntry)
    → has_test m (line ++ Test n ∷ []) ≡ (has_test m line || (n == m))
has_test-more m n [] = grind (arith, nat_tests)
has_test-more m n (Test x ∷ line) = grind (arith, nat_tests, has_test-more m n line)
has_test-more m n (Mark ∷ line) = has_test-more m n line

new-tail : (size n : ℕ) (D ns : List ℕ) → list_all (λ m. nat_lt m size && not (among m D)) ns ≡ true
    → among n ns ≡ false
    → list_all (λ m. nat_lt m size && not (among m (D ++ n ∷ []))) ns ≡ true
new-tail size n D [] h k = refl
new-tail size n D (m ∷ ns) h k = grind (arith, nat_tests, new-tail size n D ns, among-more m n D, h, k)

pub can_give-new : (size : ℕ) (line : List LineEntry) (D ns : List ℕ) → ((m : ℕ) → has_test m line ≡ among m D)
    → are_new size D ns ≡ true → can_give size line ns ≡ true
can_give-new size line D [] same h = refl
can_give-new size line D (n ∷ ns) same h =
    let a = split-and (list_all (λ m. nat_lt m size && not (among m D)) (n ∷ ns)) (all_distinct (n ∷ ns)) h in
    let b = split-and (nat_lt n size && not (among n D)) (list_all (λ m. nat_lt m size && not (among m D)) ns) a.0 in
    let d = split-and (not (among n ns)) (all_distinct ns) a.1 in
    let apart : among n ns ≡ false = grind (arith, nat_tests, d.0) in
    let here : (nat_lt n size && not (has_test n line)) ≡ true = ap (λ (q : Bool). nat_lt n size && not q) (same n)
    ∙ b.0 in
    let grown : (m : ℕ) → has_test m (line ++ Test n ∷ []) ≡ among m (D ++ n ∷ []) = λ m. grind (arith, nat_tests, has_test-more m n line, among-more m n D, same m) in
    and here (can_give-new size (line ++ Test n ∷ []) (D ++ n ∷ []) ns grown (and (new-tail size n D ns b.1 apart) d.1))

pub has_test-mapped : (m : ℕ) (D : List ℕ) → has_test m (map Test D) ≡ among m D
has_test-mapped m [] = refl
has_test-mapped m (n ∷ D) = grind (arith, nat_tests, has_test-mapped m D)

-- no test stands twice where new ones come
pub distinct-more : (D ns : List ℕ) (size : ℕ) → all_distinct D ≡ true → are_new size D ns ≡ true
    → all_distinct (D ++ ns) ≡ true
distinct-more D [] size h k = subst (λ (l : List ℕ). all_distinct l ≡ true) (sym (append-nil D)) h
distinct-more D (n ∷ ns) size h k =
    let a = split-and (list_all (λ m. nat_lt m size && not (among m D)) (n ∷ ns)) (all_distinct (n ∷ ns)) k in
    let b = split-and (nat_lt n size && not (among n D)) (list_all (λ m. nat_lt m size && not (among m D)) ns) a.0 in
    let d = split-and (not (among n ns)) (all_distinct ns) a.1 in
    let apart : among n ns ≡ false = grind (arith, nat_tests, d.0) in
    let fresh : among n D ≡ false = grind (arith, nat_tests, b.0) in
    subst (λ (l : List ℕ). all_distinct l ≡ true) (append_assoc D (n ∷ []) ns)
    (distinct-more (D ++ n ∷ []) ns size (one D h fresh) (and (new-tail size n D ns b.1 apart) d.1))
  where
    one : (E : List ℕ) → all_distinct E ≡ true → among n E ≡ false → all_distinct (E ++ n ∷ []) ≡ true
    one [] p q = refl
    one (x ∷ E) p q = grind (arith, nat_tests, one E, among-more x n E, p, q)

-- parts of a line

pub drop-mapped : (n : ℕ) (D : List ℕ) (ps : List LineEntry) → n ≤ length D
    → drop n (map Test D ++ ps) ≡ map Test (drop n D) ++ ps
drop-mapped zero D ps h = refl
drop-mapped (suc n) [] ps h = absurd (omega (arith, h))
drop-mapped (suc n) (x ∷ D) ps h = drop-mapped n D ps (omega (arith, h))

pub take-mapped : (n : ℕ) (D : List ℕ) (ps : List LineEntry) → n ≤ length D
    → take n (map Test D ++ ps) ≡ map Test (take n D)
take-mapped zero D ps h = refl
take-mapped (suc n) [] ps h = absurd (omega (arith, h))
take-mapped (suc n) (x ∷ D) ps h = ap (λ (l : List LineEntry). Test x ∷ l) (take-mapped n D ps (omega (arith, h)))

-- after a Shutdown there is no order
pub marks-end : (R G : List Order) → list_any is_shutdown R ≡ true → marks_last (R ++ G) ≡ true → G ≡ []
marks-end [] G h k = absurd (differ h)
marks-end (o ∷ R) G h k =
    let p = split-and (not (is_shutdown o) || is_none_left (R ++ G)) (marks_last (R ++ G)) k in
    (elim (is_shutdown o) as (λ b. is_shutdown o ≡ b → G ≡ []) [
      | true ↦ λ e. none R G (sym (ap (λ (b : Bool). not b || is_none_left (R ++ G)) e) ∙ p.0)
      | false ↦ λ e. marks-end R G (sym (ap (λ (b : Bool). b || list_any is_shutdown R) e) ∙ h) p.1
    ]) refl
  where
    none : (xs ys : List Order) → is_none_left (xs ++ ys) ≡ true → ys ≡ []
    none [] [] e = refl
    none [] (y ∷ ys) e = absurd (differ e)
    none (x ∷ xs) ys e = absurd (differ e)

-- answers after those to the steals so far say nothing of the line
pub dealt-enough : (size : ℕ) (line : List ℕ) (R : List Order) (backs more : List (List ℕ))
    → length backs ≡ length (steals_asked R) → line_given size line R (backs ++ more) ≡ line_given size line R backs
dealt-enough size line [] backs more h = refl
dealt-enough size line (RunTests ns ∷ R) backs more h = dealt-enough size (line ++ ns) R backs more h
dealt-enough size line (RunAll ∷ R) backs more h = dealt-enough size (line ++ range_with_len 0 size) R backs more h
dealt-enough size line (Shutdown ∷ R) backs more h = dealt-enough size line R backs more h
dealt-enough size line (Steal ns ∷ R) [] more h = absurd (omega (arith, h))
dealt-enough size line (Steal ns ∷ R) (a ∷ backs) more h =
    dealt-enough size (without a line) R backs more (omega (arith, h))
