-- A collection that is not in order is a breach.
use Rattle.std.proofs.Common.{◌≡◌, ℕ, List, [], ◌∷◌, length, refl, ap, sym, ◌∙◌, Bool, true, false, not, ◌&&◌, suc, inl, inr}
use Rattle.std.specs.Prelude.{if◌then◌else◌, ◌==◌, Option, Some, None, is_none, nat_le}
use Rattle.std.specs.List.{list_all}
use Rattle.std.proofs.lemmas.Slice.Eq.{bytes_eq-Decides}
use Rattle.std.specs.Str.{bytes_eq}
use Rattle.xd_journal.specs.declared.entry.Entry.{Entry}
use Rattle.xd_journal.specs.declared.entry.Entry.TheVariants.{Collected}
use Rattle.xd_journal.specs.declared.entry.Ids.TheVariants as ids
use Rattle.xd_run.specs.declared.member.Listed.{Listed}
use Rattle.xd_run.specs.Books.{Books}
use Rattle.xd_run.specs.Collections.{differ_at, key, listed, listed_in}
use Rattle.xd_run.specs.Meaning.{given_ids}
use Rattle.xd_edge.specs.Limits.{most_tests}
use Rattle.xd_edge.specs.Ids.{is_id}
use Rattle.xd_run.specs.Proper.{may_follow, no_text_twice}
use Rattle.xd_run.specs.Sharing.{State}
use Rattle.xd_run.specs.Workers.{is_active, was_ready, has_collected}
use Rattle.xd_run_laws.proofs.Logic.{and-false, cases_of, differ}

abbrev pub in_order : List (List ℕ) → Bool
in_order own = nat_le (length own) most_tests && list_all is_id own && no_text_twice own

same-listed : (x l : Listed) → Some x ≡ Some l → x ≡ l
same-listed x l h = cc

one : (f : Listed → Bool) (x l : Listed) (b fx rest : Bool) (o : Option Listed) → f x ≡ fx → (fx && rest) ≡ true → (if b then Some x else o) ≡ Some l → (rest ≡ true → o ≡ Some l → f l ≡ true) → f l ≡ true
one f x l true true rest o e h k ih = ap f (sym (same-listed x l k)) ∙ e
one f x l true false rest o e h k ih = absurd (differ h)
one f x l false true rest o e h k ih = ih h k
one f x l false false rest o e h k ih = absurd (differ h)

listed-holds : (f : Listed → Bool) (slot : ℕ) (ls : List Listed) (l : Listed) → list_all f ls ≡ true → listed_in slot ls ≡ Some l → f l ≡ true
listed-holds f slot [] l h k = cc
listed-holds f slot (x ∷ ls) l h k = one f x l (x.slot == slot) (f x) (list_all f ls) (listed_in slot ls) refl h k (listed-holds f slot ls l)

none-of : (o : Option ℕ) → (elim o as (λ _. Option ℕ) [ None ↦ None | Some n ↦ Some (suc n) ]) ≡ None → o ≡ None
none-of None h = refl
none-of (Some n) h = cc

equal-by : (x y : List ℕ) (xs ys : List (List ℕ)) (b : Bool) → bytes_eq x y ≡ b → (if b then (elim (differ_at xs ys) as (λ _. Option ℕ) [ None ↦ None | Some n ↦ Some (suc n) ]) else Some 0) ≡ None → (differ_at xs ys ≡ None → xs ≡ ys) → x ∷ xs ≡ y ∷ ys
equal-by x y xs ys true e h ih = ap (λ u. u ∷ xs) ((bytes_eq-Decides x y).0 e) ∙ ap (λ us. y ∷ us) (ih (none-of (differ_at xs ys) h))
equal-by x y xs ys false e h ih = cc

equal-lists : (xs ys : List (List ℕ)) → differ_at xs ys ≡ None → xs ≡ ys
equal-lists [] [] h = refl
equal-lists [] (y ∷ ys) h = cc
equal-lists (x ∷ xs) [] h = cc
equal-lists (x ∷ xs) (y ∷ ys) h = equal-by x y xs ys (bytes_eq x y) refl h (equal-lists xs ys)

and-three : (a b c : Bool) → a ≡ true → (b && c) ≡ true → (a && b && c) ≡ true
and-three true b c h k = k
and-three false b c h k = absurd (differ h)

listed-bad : (w : ℕ) (own : List (List ℕ)) (s : State) → in_order own ≡ false → may_follow s (Collected w (ids.List own)) ≡ false
listed-bad w own s h =
    let before = is_active w s.books && was_ready w s.books && not (has_collected w s.books) in
    ap (λ b. before && b) h ∙ and-false before

bad-by : (w : ℕ) (own : List (List ℕ)) (s : State) (l : Listed) (d : Option ℕ) → differ_at l.ids own ≡ d → in_order l.ids ≡ true → in_order own ≡ false
    → may_follow s (if is_none d then Collected w ids.Same else Collected w (ids.List own)) ≡ false
bad-by w own s l None e good bad = absurd (differ (sym bad ∙ ap in_order (sym (equal-lists l.ids own e)) ∙ good))
bad-by w own s l (Some n) e good bad = listed-bad w own s bad

given-bad : (w : ℕ) (own : List (List ℕ)) (s : State) (o : Option Listed) → listed w s.books ≡ o → ((l : Listed) → o ≡ Some l → in_order l.ids ≡ true) → in_order own ≡ false
    → may_follow s (elim o as (λ _. Entry) [ None ↦ Collected w (ids.List own) | Some l ↦ (if is_none (differ_at l.ids own) then Collected w ids.Same else Collected w (ids.List own)) ]) ≡ false
given-bad w own s None e good bad = listed-bad w own s bad
given-bad w own s (Some l) e good bad = bad-by w own s l (differ_at l.ids own) refl (good l refl) bad

pub out_of_order : (w : ℕ) (own : List (List ℕ)) (s : State) (b : Books) → b ≡ s.books → list_all (λ l. nat_le (length l.ids) most_tests) b.lists ≡ true
    → list_all (λ l. list_all is_id l.ids && no_text_twice l.ids) b.lists ≡ true → in_order own ≡ false → may_follow s (given_ids w own s) ≡ false
out_of_order w own s b e few ordered bad =
    let few_now = ap (λ (d : Books). list_all (λ (l : Listed). nat_le (length l.ids) most_tests) d.lists) (sym e) ∙ few in
    let ordered_now = ap (λ (d : Books). list_all (λ (l : Listed). list_all is_id l.ids && no_text_twice l.ids) d.lists) (sym e) ∙ ordered in
    let good : (l : Listed) → listed w s.books ≡ Some l → in_order l.ids ≡ true =
    λ l k. and-three (nat_le (length l.ids) most_tests) (list_all is_id l.ids) (no_text_twice l.ids)
    (listed-holds (λ (x : Listed). nat_le (length x.ids) most_tests) (key w s.books) s.books.lists l few_now k)
    (listed-holds (λ (x : Listed). list_all is_id x.ids && no_text_twice x.ids) (key w s.books) s.books.lists l ordered_now k) in
    given-bad w own s (listed w s.books) refl good bad

-- a collection that may follow is in order
pub orderly-collection : (w : ℕ) (own : List (List ℕ)) (s : State) (b : Books) → b ≡ s.books → list_all (λ l. nat_le (length l.ids) most_tests) b.lists ≡ true
    → list_all (λ l. list_all is_id l.ids && no_text_twice l.ids) b.lists ≡ true → may_follow s (given_ids w own s) ≡ true → in_order own ≡ true
orderly-collection w own s b e few ordered h = elim (cases_of (in_order own)) [
  | inl k ↦ k
  | inr k ↦ absurd (differ (sym (out_of_order w own s b e few ordered k) ∙ h))
]
