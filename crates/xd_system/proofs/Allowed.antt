-- What the controller knows of a worker's line allows its orders at the worker, where the last answer may be on
-- the way.
use Rattle.std.proofs.Common.{◌≡◌, ℕ, zero, suc, ◌+◌, ◌≤◌, List, [], ◌∷◌, ◌++◌, drop, length, true, false, not, ◌&&◌, refl, ap, sym, ◌∙◌, subst, arith, length-append, inl, inr}
use Rattle.std.specs.Prelude.{◌⊎◌, nat_lt}
use Rattle.std.specs.List.{list_all, range_with_len}
use Rattle.std.proofs.lemmas.Bool.Decides.{nat_tests}
use Rattle.xd_commands.specs.declared.order.Order.{Order}
use Rattle.xd_commands.specs.declared.order.Order.TheVariants.{RunTests, RunAll, Steal, Shutdown}
use Rattle.xd_run.specs.Numbers.{among, without, all_distinct}
use Rattle.xd_run_laws.proofs.Counts.{among-filter}
use Rattle.xd_run_laws.proofs.Logic.{and, cases_of, differ, split-and}
use Rattle.xd_run.specs.Orderly.{is_in_order}
use Rattle.xd_system.specs.LineGiven.{answers_left, are_fair, are_new, line_given, first_answer, is_answer, line_after, marks_last, may_be_told, steals_asked}
use Rattle.xd_system.specs.Moment.{IsFirstPart}
use Rattle.xd_system.proofs.Call.{MayTake}
use Rattle.xd_system.proofs.Lines.{left_of, steals-append, dealt-enough}
use Rattle.xd_system.proofs.Worker.{Allows}

-- what is in the first is in the second
abbrev pub Within : List ℕ → List ℕ → Type 0
Within xs ys = (x : ℕ) → among x xs ≡ true → among x ys ≡ true

pub within-append : (xs ys zs : List ℕ) → Within xs ys → Within (xs ++ zs) (ys ++ zs)
within-append xs ys zs k x h =
    elim (cases_of (among x xs)) [ inl a ↦ first ys (k x a) | inr a ↦ last ys (rest xs a h) ]
  where
    first : (us : List ℕ) → among x us ≡ true → among x (us ++ zs) ≡ true
    first [] a = absurd (differ a)
    first (u ∷ us) a = grind (arith, nat_tests, first us, a)

    last : (us : List ℕ) → among x zs ≡ true → among x (us ++ zs) ≡ true
    last [] a = a
    last (u ∷ us) a = grind (arith, nat_tests, last us, a)

    rest : (us : List ℕ) → among x us ≡ false → among x (us ++ zs) ≡ true → among x zs ≡ true
    rest [] a b = b
    rest (u ∷ us) a b = grind (arith, nat_tests, rest us, a, b)

pub within-without : (those xs ys : List ℕ) → Within xs ys → Within (without those xs) (without those ys)
within-without those xs ys k x h =
    let a = split-and (not (among x those)) (among x xs) (sym (among-filter x (λ y. not (among y those)) xs) ∙ h) in
    among-filter x (λ y. not (among y those)) ys ∙ and a.0 (k x a.1)

pub within-less : (those xs ys : List ℕ) → Within xs ys → Within (without those xs) ys
within-less those xs ys k x h =
    k x (split-and (not (among x those)) (among x xs) (sym (among-filter x (λ y. not (among y those)) xs) ∙ h)).1

-- the line with fewer answers has all of the line with more
dealt-within : (size : ℕ) (R : List Order) (xs ys : List ℕ) (backs more : List (List ℕ)) → Within xs ys
    → Within (line_given size xs R (backs ++ more)) (line_given size ys R backs)
dealt-within size [] xs ys backs more k = k
dealt-within size (RunTests ns ∷ R) xs ys backs more k =
    dealt-within size R (xs ++ ns) (ys ++ ns) backs more (within-append xs ys ns k)
dealt-within size (RunAll ∷ R) xs ys backs more k =
    dealt-within size R (xs ++ range_with_len 0 size) (ys ++ range_with_len 0 size) backs more (within-append xs ys (range_with_len 0 size) k)
dealt-within size (Shutdown ∷ R) xs ys backs more k = dealt-within size R xs ys backs more k
dealt-within size (Steal ns ∷ R) xs ys [] more k =
    let a : Within (without (first_answer more) xs) (without [] ys) = λ x h. subst (λ (l : List ℕ). among x l ≡ true) (sym (none ys)) (within-less (first_answer more) xs ys k x h) in
    dealt-within size R (without (first_answer more) xs) (without [] ys) [] (drop 1 more) a
  where
    none : (us : List ℕ) → without [] us ≡ us
    none [] = refl
    none (u ∷ us) = ap (λ (l : List ℕ). u ∷ l) (none us)
dealt-within size (Steal ns ∷ R) xs ys (a ∷ backs) more k =
    dealt-within size R (without a xs) (without a ys) backs more (within-without a xs ys k)

-- new in a line is new in a part of it
pub new-within : (size : ℕ) (xs ys ns : List ℕ) → Within xs ys → are_new size ys ns ≡ true → are_new size xs ns ≡ true
new-within size xs ys ns k h =
    (let p = split-and (list_all (λ n. nat_lt n size && not (among n ys)) ns) (all_distinct ns) h in and (each ns p.0) p.1)
  where
    one : (n : ℕ) → not (among n ys) ≡ true → not (among n xs) ≡ true
    one n a = elim (cases_of (among n xs)) [ inl b ↦ absurd (differ (sym (ap not (k n b)) ∙ a)) | inr b ↦ ap not b ]

    each : (ms : List ℕ) → list_all (λ n. nat_lt n size && not (among n ys)) ms ≡ true
        → list_all (λ n. nat_lt n size && not (among n xs)) ms ≡ true
    each [] a = refl
    each (m ∷ ms) a =
        let p = split-and (nat_lt m size && not (among m ys)) (list_all (λ n. nat_lt n size && not (among n ys)) ms) a in
        let q = split-and (nat_lt m size) (not (among m ys)) p.0 in
        and (and q.0 (one m q.1)) (each ms p.1)

-- the order is fair where it stands
fair-at : (size : ℕ) (line : List ℕ) (R : List Order) (o : Order) (G : List Order) (backs : List (List ℕ))
    → are_fair size line (R ++ o ∷ G) backs ≡ true
    → may_be_told size (line_given size line R backs) o (left_of R backs) ≡ true
fair-at size line [] o G backs h =
    (split-and (may_be_told size line o backs) (are_fair size (line_after size line o backs) G (answers_left o backs)) h).0
fair-at size line (p ∷ R) o G backs h =
    fair-at size (line_after size line p backs) R o G (answers_left p backs) (split-and (may_be_told size line p backs) (are_fair size (line_after size line p backs) (R ++ o ∷ G) (answers_left p backs)) h).1

-- two lists that begin one: the shorter begins the longer
begins-both : (backs bs cs ds : List (List ℕ)) → backs ++ cs ≡ bs ++ ds → length backs ≤ length bs
    → IsFirstPart backs bs
begins-both [] bs cs ds e h = (bs, refl)
begins-both (a ∷ backs) [] cs ds e h = absurd (omega (arith, h))
begins-both (a ∷ backs) (b ∷ bs) cs ds e h =
    let head : a ≡ b = cc in
    let tail : backs ++ cs ≡ bs ++ ds = cc in
    let k = begins-both backs bs cs ds tail (omega (arith, h)) in
    (k.0, ap (λ (y : List ℕ). y ∷ bs) (sym head) ∙ ap (λ (l : List (List ℕ)). a ∷ l) k.1)

-- which is the longer
longer : (m n : ℕ) → (m ≤ n) ⊎ (n ≤ m)
longer zero n = inl (omega arith)
longer (suc m) zero = inr (omega arith)
longer (suc m) (suc n) = elim (longer m n) [ inl h ↦ inl (omega (arith, h)) | inr h ↦ inr (omega (arith, h)) ]

module _ (size : ℕ) (all : List Order) (taken told : List (List ℕ)) (fair : are_fair size [] all taken ≡ true) (one : length (steals_asked all) ≤ length taken + 1) (begins : IsFirstPart taken told) where
  -- new where the controller sees it is new at the worker
  new-there : (R : List Order) (backs later : List (List ℕ)) (ns : List ℕ) → told ≡ backs ++ later
      → length backs ≡ length (steals_asked R) → are_new size (line_given size [] R taken) ns ≡ true
      → are_new size (line_given size [] R backs) ns ≡ true
  new-there R backs later ns e n h = elim (longer (length taken) (length backs)) [
    | inl k ↦ (let b = begins-both taken backs begins.0 later (sym begins.1 ∙ e) k in
        subst (λ (l : List (List ℕ)). are_new size (line_given size [] R l) ns ≡ true) (sym b.1)
        (new-within size (line_given size [] R (taken ++ b.0)) (line_given size [] R taken) ns (dealt-within size R [] [] taken b.0 (λ x q. q)) h))
    | inr k ↦ (let b = begins-both backs taken later begins.0 (sym e ∙ begins.1) k in
        subst (λ (l : List ℕ). are_new size l ns ≡ true) (ap (λ (l : List (List ℕ)). line_given size [] R l) b.1 ∙ dealt-enough size [] R backs b.0 n) h)
  ]

  -- a steal is told only where each earlier one was answered
  part-there : (R : List Order) (ns : List ℕ) (G : List Order) (backs later : List (List ℕ)) → all ≡ R ++ Steal ns ∷ G
      → told ≡ backs ++ later → length backs ≡ length (steals_asked R)
      → is_in_order ns (line_given size [] R taken) ≡ true
      → is_in_order ns (line_given size [] R backs) ≡ true
  part-there R ns G backs later split e n h =
      let count : length (steals_asked all) ≡ length (steals_asked R) + suc (length (steals_asked G)) = ap (λ (l : List Order). length (steals_asked l)) split
      ∙ ap length (steals-append R (Steal ns ∷ G)) ∙ length-append (steals_asked R) (ns ∷ steals_asked G) in
      let b = begins-both backs taken later begins.0 (sym e ∙ begins.1) (omega (arith, count, one, n)) in
      subst (λ (l : List ℕ). is_in_order ns l ≡ true) (ap (λ (l : List (List ℕ)). line_given size [] R l) b.1 ∙ dealt-enough size [] R backs b.0 n) h

  may-there : (R : List Order) (o : Order) (G : List Order) (backs later : List (List ℕ)) → all ≡ R ++ o ∷ G
      → told ≡ backs ++ later → length backs ≡ length (steals_asked R)
      → may_be_told size (line_given size [] R taken) o (left_of R taken) ≡ true
      → MayTake size (line_given size [] R backs) o
  may-there R (RunTests ns) G backs later split e n h = new-there R backs later ns e n h
  may-there R RunAll G backs later split e n h = new-there R backs later (range_with_len 0 size) e n h
  may-there R (Steal ns) G backs later split e n h =
      part-there R ns G backs later split e n (split-and (is_in_order ns (line_given size [] R taken)) (is_answer ns (first_answer (left_of R taken))) h).0
  may-there R Shutdown G backs later split e n h = tt

  pub allows : marks_last all ≡ true → Allows size all told
  allows marks = record {
    may = λ R o G backs later split e n. may-there R o G backs later split e n (fair-at size [] R o G taken (sym (ap (λ (l : List Order). are_fair size [] l taken) split) ∙ fair));
    marks = marks;
  }
