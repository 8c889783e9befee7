-- What fits an honest worker's orders and earlier news is no breach to a controller that keeps its line.
use Rattle.std.proofs.Common.{◌≡◌, ℕ, List, [], ◌∷◌, drop, length, Bool, true, false, not, ◌&&◌, ◌||◌, refl, ap, sym, ◌∙◌, subst, arith, inl, inr}
use Rattle.std.specs.Prelude.{◌⊎◌, ◌==◌, if◌then◌else◌, Option, Some, None, is_none, is_some}
use Rattle.std.specs.List.{list_any}
use Rattle.std.specs.Str.{bytes_eq}
use Rattle.std.proofs.lemmas.Bool.Decides.{nat_tests}
use Rattle.xd_journal.specs.declared.entry.Entry.{Entry}
use Rattle.xd_journal.specs.declared.entry.Entry.TheVariants.{Back, Collected, Done, Finished, Ready, Refused}
use Rattle.xd_journal.specs.declared.entry.Ids.{Ids}
use Rattle.xd_journal.specs.declared.entry.Ids.TheVariants as ids
use Rattle.xd_journal.specs.declared.news.What.{What}
use Rattle.xd_journal.specs.declared.news.What.TheVariants as what
use Rattle.xd_run.specs.declared.member.Listed.{Listed}
use Rattle.xd_run.specs.Collections.{differ_at, listed}
use Rattle.xd_run.specs.Meaning.{Log, given_ids, log_of, meaning_of, or_breach, output_of}
use Rattle.xd_run.specs.Numbers.{all_among, among, first_of}
use Rattle.xd_run.specs.Plan.{Plan, UnansweredSteal, items_named}
use Rattle.xd_run.specs.Proper.{are_ids, is_head, may_follow, may_give_back, names_head}
use Rattle.xd_run.specs.Sharing.{State}
use Rattle.xd_run.specs.Table.{held}
use Rattle.xd_run.specs.Workers.{has_collected, is_active, slot_of, was_ready}
use Rattle.xd_run_laws.proofs.Logic.{and, cases_of, differ, split-and}
use Rattle.xd_system.specs.LineGiven.{line_given, is_answer, steals_asked}
use Rattle.xd_system.specs.Fits.{AnswersSteal, FitsNext, holds, is_collected}
use Rattle.xd_system.specs.Own.{answers_by, answers_in, ends_by, ends_in, is_breach_of, told_to}
use Rattle.xd_system.specs.Tells.{are_suite_ids}
use Rattle.xd_system.proofs.Deal.{Deal, asked_of, size_at}
use Rattle.xd_system.proofs.Named.{item_at, named-first, named-none}

-- no entry, or one that is no breach
abbrev pub Fine : ℕ → Option Entry → Type 0
Fine w o = (o ≡ None) ⊎ ((e : Entry) × (o ≡ Some e) × (is_breach_of w e ≡ false))

-- what the controller has of the worker's earlier news
pub record Known (w : ℕ) (s : State) (es : List Entry) (earlier : List What) : Type 0 where
  pub answers : answers_in earlier ≡ answers_by w es
  pub ended : ends_in earlier ≡ ends_by w es
  pub first : earlier ≡ [] → was_ready w s.books ≡ false
  pub second : earlier ≡ what.Ready ∷ [] → was_ready w s.books ≡ true
  pub collected : has_collected w s.books ≡ list_any is_collected earlier

module _ (w : ℕ) (s : State) (es : List Entry) (earlier : List What) (spent : ℕ) (active : is_active w s.books ≡ true) (d : Deal w s es) (k : Known w s es earlier) where
  abbrev log : Option Log
  log = log_of earlier

  -- what the worker holds is what the controller keeps of it
  holds-held : items_named (slot_of w s.books) (holds (size_at w s) (told_to w es) earlier) s.plan ≡ held w s.books.table
  holds-held =
      ap (λ (l : List ℕ). items_named (slot_of w s.books) (drop (length l) (line_given (size_at w s) [] (told_to w es) (answers_in earlier))) s.plan) k.ended
      ∙ ap (λ (a : List (List ℕ)). items_named (slot_of w s.books) (drop (length (ends_by w es)) (line_given (size_at w s) [] (told_to w es) a)) s.plan) k.answers
      ∙ sym d.held_is

  first-held : (ns : List ℕ) (n : ℕ) → first_of ns ≡ Some n → (rest : List ℕ) × (ns ≡ n ∷ rest)
  first-held [] n h = absurd cc
  first-held (x ∷ ns) n h = (ns, (let e : x ≡ n = cc in ap (λ (y : ℕ). y ∷ ns) e))

  heads : (n : ℕ) → first_of (holds (size_at w s) (told_to w es) earlier) ≡ Some n → names_head w n s ≡ true
  heads n h =
      let slot = slot_of w s.books in
      let part = first-held (holds (size_at w s) (told_to w es) earlier) n h in
      let is : held w s.books.table ≡ item_at slot n s.plan ∷ items_named slot part.0 s.plan = sym holds-held
      ∙ ap (λ (l : List ℕ). items_named slot l s.plan) part.1 ∙ named-first slot n part.0 s.plan in
      let one : items_named slot (n ∷ []) s.plan ≡ item_at slot n s.plan ∷ [] = named-first slot n [] s.plan
      ∙ ap (λ (l : List ℕ). item_at slot n s.plan ∷ l) (named-none slot s.plan) in
      let head : is_head w (item_at slot n s.plan) s ≡ true = ap (λ (hs : List ℕ). elim hs as (λ _. Bool) [ [] ↦ false | t ∷ ts ↦ item_at slot n s.plan == t ]) is
      ∙ grind (arith, nat_tests) in
      ap (list_any (λ item. is_head w item s)) one ∙ and-or head
    where
      and-or : {b : Bool} → b ≡ true → (b || false) ≡ true
      and-or h = ap (λ (q : Bool). q || false) h

  followed : (e : Entry) → is_breach_of w e ≡ false → may_follow s e ≡ true → Fine w (or_breach w log spent s e)
  followed e q h = inr (e, rw h refl, q)

  -- ids

  ids-ok : (own : List (List ℕ)) → are_suite_ids own ≡ true → (o : Option Listed) → listed w s.books ≡ o
      → are_ids (elim o as (λ _. Ids) [ None ↦ ids.List own | Some l ↦ (if is_none (differ_at l.ids own) then ids.Same else ids.List own) ]) w s ≡ true
  ids-ok own h None e = h
  ids-ok own h (Some l) e = go (is_none (differ_at l.ids own))
    where
      go : (b : Bool) → are_ids (if b then ids.Same else ids.List own) w s ≡ true
      go true = ap is_some e
      go false = h

  collects : (own : List (List ℕ)) → earlier ≡ what.Ready ∷ [] → are_suite_ids own ≡ true
      → Fine w (or_breach w log spent s (given_ids w own s))
  collects own e h =
      let none : has_collected w s.books ≡ false = k.collected ∙ ap (list_any is_collected) e in
      go (listed w s.books) refl none
    where
      one : (g : Ids) → has_collected w s.books ≡ false → are_ids g w s ≡ true → may_follow s (Collected w g) ≡ true
      one g none a = and (and (and active (k.second e)) (ap not none)) a

      go : (o : Option Listed) → listed w s.books ≡ o → has_collected w s.books ≡ false
          → Fine w (or_breach w log spent s (elim o as (λ _. Entry) [ None ↦ Collected w (ids.List own) | Some l ↦ (if is_none (differ_at l.ids own) then Collected w ids.Same else Collected w (ids.List own)) ]))
      go None q none = followed (Collected w (ids.List own)) refl (one (ids.List own) none h)
      go (Some l) q none = same (is_none (differ_at l.ids own))
        where
          same : (b : Bool) → Fine w (or_breach w log spent s (if b then Collected w ids.Same else Collected w (ids.List own)))
          same true = followed (Collected w ids.Same) refl (one ids.Same none (ap is_some q))
          same false = followed (Collected w (ids.List own)) refl (one (ids.List own) none h)

  -- answers

  named-among : (slot : ℕ) (ns L : List ℕ) (p : Plan) → all_among ns L ≡ true
      → all_among (items_named slot ns p) (items_named slot L p) ≡ true
  named-among slot [] L p h = ap (λ (l : List ℕ). all_among l (items_named slot L p)) (named-none slot p)
  named-among slot (n ∷ ns) L p h =
      let q = split-and (among n L) (all_among ns L) h in
      ap (λ (l : List ℕ). all_among l (items_named slot L p)) (named-first slot n ns p)
      ∙ and (one L q.0) (named-among slot ns L p q.1)
    where
      one : (M : List ℕ) → among n M ≡ true → among (item_at slot n p) (items_named slot M p) ≡ true
      one [] a = absurd (differ a)
      one (m ∷ M) a = ap (among (item_at slot n p)) (named-first slot m M p) ∙ elim (cases_of (n == m)) [
        | inl b ↦ (let same : n ≡ m = grind (arith, nat_tests, b) in subst (λ (x : ℕ). among (item_at slot n p) (item_at slot x p ∷ items_named slot M p) ≡ true) same (grind (arith, nat_tests)))
        | inr b ↦ (let rest = one M (grind (arith, nat_tests, a, b)) in grind (arith, nat_tests, rest))
      ]

  dropped-one : (slot : ℕ) (L : List ℕ) (p : Plan) → drop 1 (items_named slot L p) ≡ items_named slot (drop 1 L) p
  dropped-one slot [] p = ap (drop 1) (named-none slot p) ∙ sym (named-none slot p)
  dropped-one slot (n ∷ L) p = ap (drop 1) (named-first slot n L p)

  answers-back : (ns : List ℕ) → AnswersSteal (size_at w s) (told_to w es) earlier ns → may_give_back w ns s ≡ true
  answers-back ns a = go s.plan.steal refl
    where
      unanswered : asked_of w s.plan.steal ≡ a.asked ∷ a.later
      unanswered = d.open_steal
          ∙ ap (λ (l : List (List ℕ)). drop (length l) (steals_asked (told_to w es))) (sym k.answers) ∙ a.next

      go : (o : Option UnansweredSteal) → s.plan.steal ≡ o → elim o as (λ _. Bool) [
        | None ↦ false
        | Some b ↦ (b.worker == w) && (elim ns as (λ _. Bool) [ [] ↦ true | i ∷ is ↦ bytes_eq (i ∷ is) b.tests && all_among (items_named (slot_of w s.books) (i ∷ is) s.plan) (drop 1 (held w s.books.table)) ])
      ] ≡ true
      go None e = absurd (let z : [] ≡ a.asked ∷ a.later = sym (ap (asked_of w) e) ∙ unanswered in cc)
      go (Some b) e = own (cases_of (b.worker == w))
        where
          own : ((b.worker == w) ≡ true) ⊎ ((b.worker == w) ≡ false)
              → ((b.worker == w) && (elim ns as (λ _. Bool) [ [] ↦ true | i ∷ is ↦ bytes_eq (i ∷ is) b.tests && all_among (items_named (slot_of w s.books) (i ∷ is) s.plan) (drop 1 (held w s.books.table)) ])) ≡ true
          own (inr q) =
              absurd (let z : [] ≡ a.asked ∷ a.later = sym (ap (asked_of w) e ∙ ap (λ (v : Bool). if v then b.tests ∷ [] else []) q) ∙ unanswered in cc)
          own (inl q) =
              let z : b.tests ∷ [] ≡ a.asked ∷ a.later = sym (ap (asked_of w) e ∙ ap (λ (v : Bool). if v then b.tests ∷ [] else []) q)
              ∙ unanswered in
              let same : b.tests ≡ a.asked = cc in
              and q (each ns a.is a.waits same)
            where
              each : (ms : List ℕ) → is_answer a.asked ms ≡ true
                  → all_among ms (drop 1 (holds (size_at w s) (told_to w es) earlier)) ≡ true → b.tests ≡ a.asked
                  → elim ms as (λ _. Bool) [ [] ↦ true | i ∷ is ↦ bytes_eq (i ∷ is) b.tests && all_among (items_named (slot_of w s.books) (i ∷ is) s.plan) (drop 1 (held w s.books.table)) ] ≡ true
              each [] i m same = refl
              each (x ∷ xs) i m same =
                  let slot = slot_of w s.books in
                  let there = named-among slot (x ∷ xs) (drop 1 (holds (size_at w s) (told_to w es) earlier)) s.plan m in
                  let row : items_named slot (drop 1 (holds (size_at w s) (told_to w es) earlier)) s.plan ≡ drop 1 (held w s.books.table) =
                  sym (dropped-one slot (holds (size_at w s) (told_to w es) earlier) s.plan)
                  ∙ ap (drop 1) holds-held in
                  and (ap (bytes_eq (x ∷ xs)) same ∙ i) (subst (λ (l : List ℕ). all_among (items_named slot (x ∷ xs) s.plan) l ≡ true) row there)

  -- what fits is no breach
  pub accepts : (x : What) → FitsNext (size_at w s) (told_to w es) earlier x → Fine w (meaning_of w log spent s x)
  accepts what.Ready f = followed (Ready w) refl (and active (ap not (k.first f)))
  accepts (what.Collected own) f = collects own f.0 f.1
  accepts (what.LogStart n number) f = inl (rw (and (and (and (heads n f.head) (ap not f.once)) f.even) f.above) refl)
  accepts (what.Piece number bytes) f = inl (rw f refl)
  accepts (what.LogClosed number) f = inl (rw f refl)
  accepts (what.Done n outcome ms) f =
      inr (Done w n outcome ms (output_of w outcome log spent s), rw (and (and (heads n f.head) f.logged) (ap not f.closed)) refl, refl)
  accepts (what.Back ns) f = followed (Back w ns) refl (and active (answers-back ns f))
  accepts what.Finished f =
      let empty : held w s.books.table ≡ [] = sym holds-held
      ∙ ap (λ (l : List ℕ). items_named (slot_of w s.books) l s.plan) f.none
      ∙ named-none (slot_of w s.books) s.plan in
      followed (Finished w) refl (and (and (and active (d.marks ∙ f.told)) (k.collected ∙ f.collected)) (ap (λ (l : List ℕ). length l == 0) empty))
  accepts (what.Closed None) f = absurd f
  accepts (what.Closed (Some text)) f = followed (Refused w text) refl (and active (ap not (k.collected ∙ f)))
  accepts what.Stray f = absurd f
  accepts (what.Gone cause) f = absurd f
  accepts what.NotStarted f = absurd f
