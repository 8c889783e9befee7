-- The answer of the open steal comes: the line loses the tests that it gives back.
use Rattle.std.proofs.Common.{◌≡◌, ℕ, List, [], ◌∷◌, ◌++◌, drop, length, true, false, not, ◌&&◌, refl, ap, sym, ◌∙◌, subst, arith, inl, inr}
use Rattle.std.specs.Prelude.{nat_lt, filter}
use Rattle.std.specs.List.{list_all, range_with_len}
use Rattle.std.proofs.lemmas.Bool.Decides.{nat_tests}
use Rattle.std.proofs.lemmas.Slice.Eq.{bytes_eq-Decides}
use Rattle.xd_commands.specs.declared.order.Order.{Order}
use Rattle.xd_commands.specs.declared.order.Order.TheVariants.{RunTests, RunAll, Steal, Shutdown}
use Rattle.xd_run.specs.Numbers.{among, without, all_distinct}
use Rattle.xd_run_laws.proofs.Counts.{among-filter}
use Rattle.xd_run_laws.proofs.Logic.{and, cases_of, differ, split-and}
use Rattle.xd_run.specs.Orderly.{is_in_order}
use Rattle.xd_system.specs.LineGiven.{all_given, are_fair, are_new, line_given, is_answer, steals_asked}
use Rattle.xd_system.proofs.Allowed.{Within, new-within, within-append, within-less}
use Rattle.xd_system.proofs.Lines.{dealt-unanswered, without-none}
use Rattle.xd_system.proofs.Lists.{among-longer}

pub without-append : (those xs ys : List ℕ) → without those (xs ++ ys) ≡ without those xs ++ without those ys
without-append those [] ys = refl
without-append those (x ∷ xs) ys = grind (arith, without-append those xs ys)

-- none of those is there
pub without-apart : (those xs : List ℕ) → ((x : ℕ) → among x xs ≡ true → among x those ≡ false)
    → without those xs ≡ xs
without-apart those [] k = refl
without-apart those (x ∷ xs) k =
    let here : among x those ≡ false = k x (grind (arith, nat_tests)) in
    rw here (ap (λ (l : List ℕ). x ∷ l) (without-apart those xs (λ y h. k y (grind (arith, nat_tests, h)))))

-- in a list after one that has it

either : (x : ℕ) (xs ys : List ℕ) → among x (xs ++ ys) ≡ true → among x xs ≡ false → among x ys ≡ true
either x [] ys h k = h
either x (z ∷ xs) ys h k = grind (arith, nat_tests, either x xs ys, h, k)

-- what stands in the line is not given again
not-new : (size : ℕ) (line ns : List ℕ) (x : ℕ) → among x line ≡ true → are_new size line ns ≡ true
    → among x ns ≡ false
not-new size line ns x here h =
    go ns (split-and (list_all (λ n. nat_lt n size && not (among n line)) ns) (all_distinct ns) h).0
  where
    go : (ms : List ℕ) → list_all (λ n. nat_lt n size && not (among n line)) ms ≡ true → among x ms ≡ false
    go [] a = refl
    go (m ∷ ms) a = grind (arith, nat_tests, go ms, a, here)

given-apart : (size : ℕ) (line : List ℕ) (R : List Order) (x : ℕ) → steals_asked R ≡ []
    → are_fair size line R [] ≡ true → among x line ≡ true → among x (all_given size R) ≡ true → ⊥
given-apart size line [] x none f here h = differ h
given-apart size line (RunTests ns ∷ R) x none f here h =
    let p = split-and (are_new size line ns) (are_fair size (line ++ ns) R []) f in
    given-apart size (line ++ ns) R x none p.1 (among-longer x line ns here) (either x ns (all_given size R) h (not-new size line ns x here p.0))
given-apart size line (RunAll ∷ R) x none f here h =
    let ns = range_with_len 0 size in
    let p = split-and (are_new size line ns) (are_fair size (line ++ ns) R []) f in
    given-apart size (line ++ ns) R x none p.1 (among-longer x line ns here) (either x ns (all_given size R) h (not-new size line ns x here p.0))
given-apart size line (Shutdown ∷ R) x none f here h = given-apart size line R x none f here h
given-apart size line (Steal ns ∷ R) x none f here h = absurd cc

-- the asked tests stand in the line
asked-there : (line ns : List ℕ) (x : ℕ) → is_in_order ns line ≡ true → among x ns ≡ true → among x line ≡ true
asked-there line ns x h k =
    let e : ns ≡ filter (λ n. among n ns) line = (bytes_eq-Decides ns (filter (λ n. among n ns) line)).0 h in
    (split-and (among x ns) (among x line) (sym (among-filter x (λ n. among n ns) line) ∙ ap (λ (l : List ℕ). among x l) (sym e) ∙ k)).1

-- the answer that gives all back takes these from the line
pub dealt-back : (size : ℕ) (line : List ℕ) (R : List Order) (backs : List (List ℕ)) (ns : List ℕ)
    → drop (length backs) (steals_asked R) ≡ ns ∷ [] → are_fair size line R backs ≡ true
    → line_given size line R (backs ++ ns ∷ []) ≡ without ns (line_given size line R backs)
dealt-back size line [] backs ns unanswered f = absurd (none backs unanswered)
  where
    none : (bs : List (List ℕ)) → drop (length bs) [] ≡ ns ∷ [] → ⊥
    none [] e = cc
    none (b ∷ bs) e = cc
dealt-back size line (RunTests ms ∷ R) backs ns unanswered f =
    dealt-back size (line ++ ms) R backs ns unanswered (split-and (are_new size line ms) (are_fair size (line ++ ms) R backs) f).1
dealt-back size line (RunAll ∷ R) backs ns unanswered f =
    dealt-back size (line ++ range_with_len 0 size) R backs ns unanswered (split-and (are_new size line (range_with_len 0 size)) (are_fair size (line ++ range_with_len 0 size) R backs) f).1
dealt-back size line (Shutdown ∷ R) backs ns unanswered f = dealt-back size line R backs ns unanswered f
dealt-back size line (Steal ms ∷ R) [] ns unanswered f =
    let same : ms ≡ ns = cc in
    let last : steals_asked R ≡ [] = cc in
    let p = split-and (is_in_order ms line && is_answer ms []) (are_fair size (without [] line) R []) f in
    let part : is_in_order ns line ≡ true = subst (λ (l : List ℕ). is_in_order l line ≡ true) same (split-and (is_in_order ms line) (is_answer ms []) p.0).0 in
    let fair : are_fair size line R [] ≡ true = subst (λ (l : List ℕ). are_fair size l R [] ≡ true) (without-none line) p.1 in
    let apart : without ns (all_given size R) ≡ all_given size R =
    without-apart ns (all_given size R) (λ x h. elim (cases_of (among x ns)) [ inl a ↦ absurd (given-apart size line R x last fair (asked-there line ns x part a) h) | inr a ↦ a ]) in
    dealt-unanswered size (without ns line) R ∙ ap (λ (l : List ℕ). without ns line ++ l) (sym apart)
    ∙ sym (without-append ns line (all_given size R))
    ∙ ap (without ns) (sym (ap (λ (l : List ℕ). line_given size l R []) (without-none line) ∙ dealt-unanswered size line R))
dealt-back size line (Steal ms ∷ R) (a ∷ backs) ns unanswered f =
    dealt-back size (without a line) R backs ns unanswered (split-and (is_in_order ms line && is_answer ms a) (are_fair size (without a line) R backs) f).1

-- the answer that gives nothing back leaves it
pub dealt-nothing : (size : ℕ) (line : List ℕ) (R : List Order) (backs : List (List ℕ))
    → line_given size line R (backs ++ [] ∷ []) ≡ line_given size line R backs
dealt-nothing size line [] backs = refl
dealt-nothing size line (RunTests ms ∷ R) backs = dealt-nothing size (line ++ ms) R backs
dealt-nothing size line (RunAll ∷ R) backs = dealt-nothing size (line ++ range_with_len 0 size) R backs
dealt-nothing size line (Shutdown ∷ R) backs = dealt-nothing size line R backs
dealt-nothing size line (Steal ms ∷ R) [] = refl
dealt-nothing size line (Steal ms ∷ R) (a ∷ backs) = dealt-nothing size (without a line) R backs

-- in a part of the line each of these orders is fair still
fair-less : (size : ℕ) (xs ys : List ℕ) (R : List Order) → steals_asked R ≡ [] → Within xs ys
    → are_fair size ys R [] ≡ true → are_fair size xs R [] ≡ true
fair-less size xs ys [] none k f = refl
fair-less size xs ys (RunTests ns ∷ R) none k f =
    let p = split-and (are_new size ys ns) (are_fair size (ys ++ ns) R []) f in
    and (new-within size xs ys ns k p.0) (fair-less size (xs ++ ns) (ys ++ ns) R none (within-append xs ys ns k) p.1)
fair-less size xs ys (RunAll ∷ R) none k f =
    let ns = range_with_len 0 size in
    let p = split-and (are_new size ys ns) (are_fair size (ys ++ ns) R []) f in
    and (new-within size xs ys ns k p.0) (fair-less size (xs ++ ns) (ys ++ ns) R none (within-append xs ys ns k) p.1)
fair-less size xs ys (Shutdown ∷ R) none k f = fair-less size xs ys R none k f
fair-less size xs ys (Steal ns ∷ R) none k f = absurd cc

-- the orders so far are fair with the answer, too
pub fair-back : (size : ℕ) (line : List ℕ) (R : List Order) (backs : List (List ℕ)) (asked ns : List ℕ)
    → drop (length backs) (steals_asked R) ≡ asked ∷ [] → is_answer asked ns ≡ true
    → are_fair size line R backs ≡ true
    → are_fair size line R (backs ++ ns ∷ []) ≡ true
fair-back size line [] backs asked ns unanswered i f = refl
fair-back size line (RunTests ms ∷ R) backs asked ns unanswered i f =
    let p = split-and (are_new size line ms) (are_fair size (line ++ ms) R backs) f in
    and p.0 (fair-back size (line ++ ms) R backs asked ns unanswered i p.1)
fair-back size line (RunAll ∷ R) backs asked ns unanswered i f =
    let ms = range_with_len 0 size in
    let p = split-and (are_new size line ms) (are_fair size (line ++ ms) R backs) f in
    and p.0 (fair-back size (line ++ ms) R backs asked ns unanswered i p.1)
fair-back size line (Shutdown ∷ R) backs asked ns unanswered i f = fair-back size line R backs asked ns unanswered i f
fair-back size line (Steal ms ∷ R) [] asked ns unanswered i f =
    let same : ms ≡ asked = cc in
    let last : steals_asked R ≡ [] = cc in
    let p = split-and (is_in_order ms line && is_answer ms []) (are_fair size (without [] line) R []) f in
    let part = (split-and (is_in_order ms line) (is_answer ms []) p.0).0 in
    let fair : are_fair size line R [] ≡ true = subst (λ (l : List ℕ). are_fair size l R [] ≡ true) (without-none line) p.1 in
    and (and part (subst (λ (l : List ℕ). is_answer l ns ≡ true) (sym same) i)) (fair-less size (without ns line) line R last (within-less ns line line (λ x h. h)) fair)
fair-back size line (Steal ms ∷ R) (a ∷ backs) asked ns unanswered i f =
    let p = split-and (is_in_order ms line && is_answer ms a) (are_fair size (without a line) R backs) f in
    and p.0 (fair-back size (without a line) R backs asked ns unanswered i p.1)
