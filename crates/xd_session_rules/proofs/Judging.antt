-- What is asked of a worker's head and of what it holds after it, by the numbers that the worker uses.
use Rattle.std.proofs.Common.{◌≡◌, ℕ, ◌+◌, ◌<◌, ◌≤◌, List, [], ◌∷◌, drop, length, map, refl, ap, sym, subst, ◌∙◌, arith, Bool, true, false, not, ◌&&◌, inl, inr}
use Rattle.std.specs.Prelude.{if◌then◌else◌, ◌==◌, ◌^◌, nat_lt, Option, Some, None, SomeIff, is_some, is_none, nat_le, sum, take}
use Rattle.std.specs.List.{list_all, list_any}
use Rattle.std.proofs.lemmas.Bool.Decides.{nat_tests}
use Rattle.std.specs.Str.{bytes_eq}
use Rattle.std.proofs.lemmas.Slice.Eq.{bytes_eq-Decides}
use Rattle.xd_journal.specs.declared.entry.Entry.{Entry}
use Rattle.xd_journal.specs.declared.entry.Entry.TheVariants.{Back, Collected, Done}
use Rattle.xd_journal.specs.declared.entry.Ids.TheVariants as ids
use Rattle.xd_run.specs.declared.member.Listed.{Listed}
use Rattle.xd_run.specs.Collections.{differ_at, listed}
use Rattle.xd_run.specs.Meaning.{given_ids}
use Rattle.xd_journal.specs.declared.entry.Outcome.{Outcome}
use Rattle.xd_journal.specs.declared.entry.RunStop.{RunStop}
use Rattle.xd_run.specs.Books.{Books}
use Rattle.xd_run.specs.Results.{done_books}
use Rattle.xd_run.specs.State.{after_effect}
use Rattle.xd_run.specs.Stops.{is_stopped, or_stop}
use Rattle.xd_run.specs.Numbers.{all_among, all_distinct, among, first_of, times}
use Rattle.xd_run.specs.Plan.{UnansweredSteal, Plan, is_each, items_named, total}
use Rattle.xd_edge.specs.Limits.{most_tests}
use Rattle.xd_edge.specs.Ids.{is_id}
use Rattle.xd_run.specs.Proper.{may_follow, may_give_back, names_head, no_text_twice}
use Rattle.xd_run.specs.Sharing.{State}
use Rattle.xd_ledger.specs.Sound.{most_items}
use Rattle.xd_run.specs.Table.{Table, all_items, held, in_rota}
use Rattle.xd_run.specs.Workers.{has_collected, is_active, slot_of, was_ready}
use Rattle.xd_run_laws.specs.Called.{Reached}
use Rattle.xd_run_laws.proofs.Calls.{tidy-reached}
use Rattle.xd_run_laws.proofs.Counts.{among-times, distinct-of_times, times-after_range}
use Rattle.xd_run_laws.proofs.Counts.{all_among-drop, among-drop, distinct-plus}
use Rattle.xd_run_laws.proofs.Logic.{and, cases_of, differ, in_both, split-and}
use Rattle.xd_run_laws.proofs.Placed.{StealFits, at_most_once, due_times}
use Rattle.xd_run_laws.proofs.Places.{held-within, times-table}
use Rattle.xd_run_laws.proofs.Turns.{Tidy}
use Rattle.xd_session_books.specs.Known.{Known, first_item, is_after, known_plan, where_is}
use Rattle.xd_session_rules.specs.Rules.{At, Comes}
use Rattle.xd_session_rules.proofs.Acts.{done-at}
use Rattle.xd_session_books.proofs.Deaths.{no_seat-held}
use Rattle.xd_session_rules.proofs.Disorder.{in_order, out_of_order}
use Rattle.xd_session_rules.proofs.Shares.{given-is}

-- the head

names-by : (each : Bool) (n i : ℕ) (hs : List ℕ)
    → list_any (λ item. elim hs as (λ _. Bool) [ [] ↦ false | t ∷ ts ↦ item == t ]) (if each then map (λ j. (if each then n else 0) + j) (i ∷ []) else i ∷ []) ≡ is_some (where_is ((if each then n else 0) + i) (first_of hs))
names-by true n i [] = refl
names-by false n i [] = refl
names-by true n i (h ∷ hs) = grind (arith, nat_tests)
names-by false n i (h ∷ hs) = grind (arith, nat_tests)

-- the worker's number names its head where the item is there
pub names-where : (w i : ℕ) (s : State) → names_head w i s ≡ is_some (where_is (first_item (slot_of w s.books) (known_plan s.plan) + i) (first_of (held w s.books.table)))
names-where w i s = names-by (is_each s.plan.mode) (sum (take (slot_of w s.books) s.plan.sizes)) i (held w s.books.table)

pub where-head : (x item : ℕ) (o : Option ℕ) → where_is x o ≡ Some item → o ≡ Some item
where-head x item None h = cc
where-head x item (Some head) h = elim (cases_of (head == x)) [
  | inl k ↦ sym (ap (λ b. if b then Some head else None) k) ∙ h
  | inr k ↦ absurd (none-some item (sym (ap (λ b. if b then Some head else None) k) ∙ h))
]
  where
    none-some : (n : ℕ) → None ≡ Some n → ⊥
    none-some n e = cc

where-item : (x item : ℕ) (o : Option ℕ) → where_is x o ≡ Some item → item ≡ x
where-item x item None h = cc
where-item x item (Some head) h = grind (arith, nat_tests, h)

-- in the words of what is kept
abbrev pub found_at : ℕ → ℕ → Books → Known → Option ℕ
found_at w i b k = where_is (first_item (slot_of w b) k + i) (first_of (held w b.table))

pub named-in : (w i : ℕ) (s : State) (b : Books) (k : Known) → b ≡ s.books → k ≡ known_plan s.plan → is_some (found_at w i b k) ≡ names_head w i s
named-in w i s b k e d = ap (λ (x : Books). is_some (found_at w i x k)) e ∙ ap (λ (q : Known). is_some (found_at w i s.books q)) d ∙ sym (names-where w i s)

-- a worker without a seat has no head
pub where-none : (w i : ℕ) (b : Books) (k : Known) → in_rota w b.table ≡ false → None ≡ found_at w i b k
where-none w i b k h = ap (λ xs. where_is (first_item (slot_of w b) k + i) (first_of xs)) (sym (no_seat-held w b.table.rota h))

pub head-is : (w i : ℕ) (b : Books) (k : Known) (slot first : ℕ) (head result : Option ℕ) → slot ≡ slot_of w b → first ≡ first_item slot k → head ≡ first_of (held w b.table) → result ≡ where_is (first + i) head → result ≡ found_at w i b k
head-is w i b k slot first head result a e h r = r ∙ ap (λ n. where_is (n + i) head) (e ∙ ap (λ m. first_item m k) a) ∙ ap (where_is (first_item (slot_of w b) k + i)) h

named-by : (each : Bool) (n i item : ℕ) → item ≡ (if each then n else 0) + i → (if each then map (λ j. (if each then n else 0) + j) (i ∷ []) else i ∷ []) ≡ item ∷ []
named-by true n i item e = ap (λ k. k ∷ []) (sym e)
named-by false n i item e = ap (λ k. k ∷ []) (omega (arith, e))

-- that item is the one that the number names
pub where-named : (w i item : ℕ) (s : State) (o : Option ℕ) → where_is (first_item (slot_of w s.books) (known_plan s.plan) + i) o ≡ Some item → items_named (slot_of w s.books) (i ∷ []) s.plan ≡ item ∷ []
where-named w i item s o h = named-by (is_each s.plan.mode) (sum (take (slot_of w s.books) s.plan.sizes)) i item (where-item (first_item (slot_of w s.books) (known_plan s.plan) + i) item o h)

-- what is held

pub held-distinct : (s : State) (w : ℕ) → Reached s → all_distinct (held w s.books.table) ≡ true
held-distinct s w r =
    let d = tidy-reached s r in
    let t = s.books.table in
    distinct-of_times (held w t) (λ x. (let a = at_most_once s d.placed x in let b = times-table x t in let c = held-within x w t.rota in omega (arith, a, b, c)))

held-low : (s : State) (w x : ℕ) → Tidy s → among x (held w s.books.table) ≡ true → x < total s.plan
held-low s w x d h = elim (cases_of (nat_lt x (total s.plan))) [
  | inl k ↦ grind (arith, nat_tests, k)
  | inr k ↦
      (let t = s.books.table in
      let high : total s.plan ≤ x = grind (arith, nat_tests, k) in
      let none : times x (all_items t) ≡ 0 = d.placed.whole x ∙ none-due x (total s.plan) s.books.shared high in
      absurd (omega (arith, none, times-table x t, held-within x w t.rota, among-times x (held w t) h)))
]
  where
    none-due : (v n : ℕ) (b : Bool) → n ≤ v → due_times v b n ≡ 0
    none-due v n true l = times-after_range v 0 n (omega (arith, l))
    none-due v n false l = refl

-- each is small, where the run has few
pub held-small : (s : State) (w x : ℕ) → Reached s → sum s.plan.sizes ≤ most_items → among x (held w s.books.table) ≡ true → x < 2 ^ 32
held-small s w x r few h = (let a = held-low s w x (tidy-reached s r) h in omega (arith, a, few))

-- after the head stands what is held and is not the head
pub following-head : (item : ℕ) (hs : List ℕ) → all_distinct hs ≡ true → among item (drop 1 hs) ≡ (among item hs && not (is_some (where_is item (first_of hs))))
following-head item [] d = refl
following-head item (h ∷ hs) d = grind (arith, nat_tests, d)

nothing-added : (x : ℕ) → x ≡ 0 + x
nothing-added x = omega arith

-- the names of a list are those of its tests
pub among-named : (slot : ℕ) (is : List ℕ) (p : Plan) (ys : List ℕ) → all_among (items_named slot is p) ys ≡ list_all (λ i. among (first_item slot (known_plan p) + i) ys) is
among-named slot is p ys = by-each (is_each p.mode) (sum (take slot p.sizes)) is
  where
    by-each : (each : Bool) (n : ℕ) (xs : List ℕ) → all_among (if each then map (λ j. (if each then n else 0) + j) xs else xs) ys ≡ list_all (λ i. among ((if each then n else 0) + i) ys) xs
    by-each true n [] = refl
    by-each false n [] = refl
    by-each true n (x ∷ xs) = ap (λ b. among (n + x) ys && b) (by-each true n xs)
    by-each false n (x ∷ xs) = ap (λ b. among x ys && b) (by-each false n xs) ∙ ap (λ v. among v ys && list_all (λ i. among (0 + i) ys) xs) (nothing-added x)

named-items : (each : Bool) (n : ℕ) (xs : List ℕ) → (if each then map (λ j. (if each then n else 0) + j) xs else xs) ≡ map (λ j. (if each then n else 0) + j) xs
named-items true n xs = refl
named-items false n [] = refl
named-items false n (x ∷ xs) = ap (λ ys. x ∷ ys) (named-items false n xs) ∙ ap (λ v. v ∷ map (λ j. 0 + j) xs) (nothing-added x)

pub items-are : (slot : ℕ) (is : List ℕ) (p : Plan) → items_named slot is p ≡ map (λ i. first_item slot (known_plan p) + i) is
items-are slot is p = named-items (is_each p.mode) (sum (take slot p.sizes)) is

-- the test at the head ended

pub done-found : (s : State) (w i : ℕ) (o : Outcome) (ms : ℕ) (out : List ℕ) (item : ℕ) (b c : Books) (k : Known) (stands : Plan → Type 0) → At s b k stands
    → where_is (first_item (slot_of w b) k + i) (first_of (held w b.table)) ≡ Some item → c ≡ done_books w (item ∷ []) o b → At (after_effect s (Done w i o ms out)) c k stands
done-found s w i o ms out item b c k stands a h e =
    let there : Books → Known → Option ℕ = λ d q. where_is (first_item (slot_of w d) q + i) (first_of (held w d.table)) in
    let found : there s.books (known_plan s.plan) ≡ Some item = sym (ap (λ (d : Books). there d k) a.books_are ∙ ap (λ (q : Known). there s.books q) a.known_is) ∙ h in
    done-at s w i o ms out item b c k stands a (where-named w i item s (first_of (held w s.books.table)) found) e

-- a result takes no stop back
pub done-stopped : (w : ℕ) (items : List ℕ) (o : Outcome) (b : Books) → is_stopped b ≡ true → is_stopped (done_books w items o b) ≡ true
done-stopped w items o b h = still b.stop _ h
  where
    still : (a how : Option RunStop) → is_some a ≡ true → is_some (or_stop a how) ≡ true
    still None how k = absurd (differ k)
    still (Some x) how k = refl

-- an answer to the open steal

back-of : (o : Option UnansweredSteal) (shared : Bool) (w : ℕ) (is : List ℕ) (items : List ℕ → List ℕ) (following : List ℕ) → StealFits shared o
    → (elim o as (λ _. Bool) [ None ↦ false | Some a ↦ (a.worker == w) && (elim is as (λ _. Bool) [ [] ↦ true | i ∷ rest ↦ bytes_eq (i ∷ rest) a.tests && all_among (items (i ∷ rest)) following ]) ]) ≡ true
    → items [] ≡ [] → (all_distinct is ≡ true) × (all_among (items is) following ≡ true)
back-of None shared w is items following f h e = absurd (differ h)
back-of (Some a) shared w [] items following f h e = (refl, ap (λ xs. all_among xs following) e)
back-of (Some a) shared w (i ∷ is) items following f h e =
    let b = split-and (bytes_eq (i ∷ is) a.tests) (all_among (items (i ∷ is)) following) (split-and (a.worker == w) (bytes_eq (i ∷ is) a.tests && all_among (items (i ∷ is)) following) h).1 in
    let same : i ∷ is ≡ a.tests = (bytes_eq-Decides (i ∷ is) a.tests).0 b.0 in
    (ap all_distinct same ∙ f.0, b.1)

fits-by : (first : ℕ) (is hs : List ℕ) → ((x : ℕ) → among x hs ≡ true → x < 2 ^ 32) → all_among (map (λ i. first + i) is) (drop 1 hs) ≡ true → list_all (λ i. nat_lt (first + i) (2 ^ 32)) is ≡ true
fits-by first [] hs k h = refl
fits-by first (i ∷ is) hs k h =
    let p = split-and (among (first + i) (drop 1 hs)) (all_among (map (λ j. first + j) is) (drop 1 hs)) h in
    let low : first + i < 2 ^ 32 = k (first + i) (among-drop (first + i) 1 hs p.0) in
    and (grind (arith, nat_tests, low)) (fits-by first is hs k p.1)

-- what is known of the tests that an answer gives back
pub record GivesBack (w : ℕ) (is : List ℕ) (b : Books) (k : Known) : Type 0 where
  pub fits : list_all (λ i. nat_lt (first_item (slot_of w b) k + i) (2 ^ 32)) is ≡ true
  pub distinct : all_distinct (map (λ i. first_item (slot_of w b) k + i) is) ≡ true
  pub holds : all_among (map (λ i. first_item (slot_of w b) k + i) is) (held w b.table) ≡ true

gives-state : (s : State) (w : ℕ) (is : List ℕ) → Reached s → sum s.plan.sizes ≤ most_items → may_follow s (Back w is) ≡ true → GivesBack w is s.books (known_plan s.plan)
gives-state s w is r few h =
    let first = first_item (slot_of w s.books) (known_plan s.plan) in
    let hs = held w s.books.table in
    let items = map (λ i. first + i) is in
    let named : List ℕ → List ℕ = λ xs. items_named (slot_of w s.books) xs s.plan in
    let given = (split-and (is_active w s.books) (may_give_back w is s) h).1 in
    let a = back-of s.plan.steal s.books.shared w is named (drop 1 hs) (tidy-reached s r).placed.steals given (items-are (slot_of w s.books) [] s.plan) in
    let following : all_among items (drop 1 hs) ≡ true = ap (λ (xs : List ℕ). all_among xs (drop 1 hs)) (sym (items-are (slot_of w s.books) is s.plan)) ∙ a.1 in
    record { fits = fits-by first is hs (λ x i. held-small s w x r few i) following; distinct = distinct-plus first is a.0; holds = all_among-drop 1 items hs following }

pub gives-back : (s : State) (w : ℕ) (is : List ℕ) (b : Books) (k : Known) (stands : Plan → Type 0) → Comes (Back w is) s b k stands → sum k.sizes ≤ most_items → GivesBack w is b k
gives-back s w is b k stands a few =
    let low : sum s.plan.sizes ≤ most_items = subst (λ (q : Known). sum q.sizes ≤ most_items) a.at.known_is few in
    let x = gives-state s w is a.reached low a.follows in
    subst (λ (d : Books). GivesBack w is d k) (sym a.at.books_are) (subst (λ (q : Known). GivesBack w is s.books q) (sym a.at.known_is) x)

pub back-named : (s : State) (w : ℕ) (is : List ℕ) (b : Books) (k : Known) (stands : Plan → Type 0) → At s b k stands → map (λ i. first_item (slot_of w b) k + i) is ≡ items_named (slot_of w s.books) is s.plan
back-named s w is b k stands a =
    let items : Books → Known → List ℕ = λ d q. map (λ i. first_item (slot_of w d) q + i) is in
    ap (λ (d : Books). items d k) a.books_are ∙ ap (λ (q : Known). items s.books q) a.known_is ∙ sym (items-are (slot_of w s.books) is s.plan)

-- collections

collected-by : (w : ℕ) (own : List (List ℕ)) (s : State) (o : Option Listed) → (is_active w s.books && was_ready w s.books && not (has_collected w s.books)) ≡ true → in_order own ≡ true → listed w s.books ≡ o
    → may_follow s (elim o as (λ _. Entry) [ None ↦ Collected w (ids.List own) | Some l ↦ (if is_none (differ_at l.ids own) then Collected w ids.Same else Collected w (ids.List own)) ]) ≡ true
collected-by w own s None h k e = and h k
collected-by w own s (Some l) h k e =
    in_both (λ (x : Entry). may_follow s x ≡ true) (is_none (differ_at l.ids own)) (Collected w ids.Same) (Collected w (ids.List own)) (λ q. and h (ap is_some e)) (λ q. and h k)

-- a worker that was ready and has not collected may give a collection where it is in order
pub may_collect : (w : ℕ) (own : List (List ℕ)) (s : State) (b : Books) → b ≡ s.books → list_all (λ l. nat_le (length l.ids) most_tests) b.lists ≡ true
    → list_all (λ l. list_all is_id l.ids && no_text_twice l.ids) b.lists ≡ true → is_active w b ≡ true → was_ready w b ≡ true → has_collected w b ≡ false → in_order own ≡ may_follow s (given_ids w own s)
may_collect w own s b e few ordered a r n =
    let front : (is_active w s.books && was_ready w s.books && not (has_collected w s.books)) ≡ true =
    and (and (ap (λ (d : Books). is_active w d) (sym e) ∙ a) (ap (λ (d : Books). was_ready w d) (sym e) ∙ r)) (ap (λ (d : Books). not (has_collected w d)) (sym e) ∙ ap not n) in
    elim (cases_of (in_order own)) [
      | inl k ↦ k ∙ sym (collected-by w own s (listed w s.books) front k refl)
      | inr k ↦ k ∙ sym (out_of_order w own s b e few ordered k)
    ]

-- a sum that no number of the ledger reaches

past-max : (o : Option ℕ) (x : ℕ) → SomeIff o (x < 2 ^ 32) x → ((n : ℕ) → o ≡ Some n → ⊥) → nat_lt x (2 ^ 32) ≡ false
past-max None x h k = elim (cases_of (nat_lt x (2 ^ 32))) [
  | inl l ↦ absurd (h (grind (arith, nat_tests, l)))
  | inr l ↦ l
]
past-max (Some n) x h k = absurd (k n refl)

pub none_past : (o : Option ℕ) (x : ℕ) (hs : List ℕ) → SomeIff o (x < 2 ^ 32) x → ((n : ℕ) → o ≡ Some n → ⊥) → false ≡ is_after x hs
none_past o x hs h k = ap (λ b. b && among x hs && is_none (where_is x (first_of hs))) (sym (past-max o x h k))

-- whoever is not in the rota holds nothing
pub unseated : (w x : ℕ) (t : Table) → in_rota w t ≡ false → false ≡ is_after x (held w t)
unseated w x t h = sym (ap (is_after x) (no_seat-held w t.rota h) ∙ nothing-following (nat_lt x (2 ^ 32)))
  where
    nothing-following : (b : Bool) → (b && false && true) ≡ false
    nothing-following true = refl
    nothing-following false = refl

-- after the head of a worker of a run

following-small : (x : ℕ) (hs : List ℕ) → all_distinct hs ≡ true → ((y : ℕ) → among y hs ≡ true → y < 2 ^ 32) → is_after x hs ≡ among x (drop 1 hs)
following-small x hs d k = elim (cases_of (among x hs)) [
  | inl a ↦ (let low : nat_lt x (2 ^ 32) ≡ true = (let l = k x a in grind (arith, nat_tests, l)) in rw low (not-some (among x hs) (where_is x (first_of hs)) ∙ sym (following-head x hs d)))
  | inr a ↦ rw a (in-none (nat_lt x (2 ^ 32)) ∙ sym (following-head x hs d ∙ ap (λ b. b && not (is_some (where_is x (first_of hs)))) a))
]
  where
    not-some : (b : Bool) (o : Option ℕ) → (b && is_none o) ≡ (b && not (is_some o))
    not-some b None = refl
    not-some b (Some n) = refl

    in-none : (b : Bool) → (b && false && is_none (where_is x (first_of hs))) ≡ false
    in-none true = refl
    in-none false = refl

all-following : (first : ℕ) (is hs : List ℕ) → all_distinct hs ≡ true → ((y : ℕ) → among y hs ≡ true → y < 2 ^ 32) → list_all (λ i. is_after (first + i) hs) is ≡ list_all (λ i. among (first + i) (drop 1 hs)) is
all-following first [] hs d k = refl
all-following first (i ∷ is) hs d k = ap (λ b. b && list_all (λ j. is_after (first + j) hs) is) (following-small (first + i) hs d k) ∙ ap (λ b. among (first + i) (drop 1 hs) && b) (all-following first is hs d k)

-- the worker's numbers name tests after its head where the ledger says so of each
pub named_after : (w : ℕ) (is : List ℕ) (s : State) (b : Books) (k : Known) → Reached s → b ≡ s.books → k ≡ known_plan s.plan → sum k.sizes ≤ most_items
    → list_all (λ i. is_after (first_item (slot_of w b) k + i) (held w b.table)) is ≡ all_among (items_named (slot_of w s.books) is s.plan) (drop 1 (held w s.books.table))
named_after w is s b k r e d few =
    let low : sum s.plan.sizes ≤ most_items = subst (λ (q : Known). sum q.sizes ≤ most_items) d few in
    let hs = held w s.books.table in
    let first = first_item (slot_of w s.books) (known_plan s.plan) in
    ap (λ (x : Books). list_all (λ i. is_after (first_item (slot_of w x) k + i) (held w x.table)) is) e
    ∙ ap (λ (q : Known). list_all (λ i. is_after (first_item (slot_of w s.books) q + i) hs) is) d
    ∙ all-following first is hs (held-distinct s w r) (λ x h. held-small s w x r low h)
    ∙ sym (among-named (slot_of w s.books) is s.plan (drop 1 hs))

-- whoever was not ready, or has collected, may give no collection
pub not_ready : (w : ℕ) (own : List (List ℕ)) (s : State) (b : Books) → b ≡ s.books → was_ready w b ≡ false → false ≡ may_follow s (given_ids w own s)
not_ready w own s b e h = sym (ap (may_follow s) (given-is w own s) ∙ unready (is_active w s.books) (was_ready w s.books) (not (has_collected w s.books)) _ (ap (λ (d : Books). was_ready w d) (sym e) ∙ h))
  where
    unready : (a r n i : Bool) → r ≡ false → (a && r && n && i) ≡ false
    unready true true n i k = cc
    unready true false n i k = refl
    unready false r n i k = refl

pub did_collect : (w : ℕ) (own : List (List ℕ)) (s : State) (b : Books) → b ≡ s.books → has_collected w b ≡ true → false ≡ may_follow s (given_ids w own s)
did_collect w own s b e h =
    sym (ap (may_follow s) (given-is w own s) ∙ collected-once (is_active w s.books) (was_ready w s.books) (not (has_collected w s.books)) _ (ap (λ (d : Books). not (has_collected w d)) (sym e) ∙ ap not h))
  where
    collected-once : (a r n i : Bool) → n ≡ false → (a && r && n && i) ≡ false
    collected-once true true true i k = cc
    collected-once true true false i k = refl
    collected-once true false n i k = refl
    collected-once false r n i k = refl

-- a result that may follow is of a test that its number names
pub no-head : (o : Option ℕ) → is_some o ≡ true → ((n : ℕ) → o ≡ Some n → ⊥) → ⊥
no-head None h k = differ h
no-head (Some n) h k = k n refl

judged-back : (o : Option UnansweredSteal) (w v : ℕ) (is tests : List ℕ) (items : List ℕ → List ℕ) (following : List ℕ) (b : Bool) → o ≡ Some (record { worker = v; tests = tests }) → (v == w) ≡ true → (length is == 0) ≡ false → bytes_eq is tests ≡ true → b ≡ all_among (items is) following
    → b ≡ (elim o as (λ _. Bool) [ None ↦ false | Some a ↦ (a.worker == w) && (elim is as (λ _. Bool) [ [] ↦ true | i ∷ rest ↦ bytes_eq (i ∷ rest) a.tests && all_among (items (i ∷ rest)) following ]) ])
judged-back None w v is tests items following b e h n t k = cc
judged-back (Some a) w v [] tests items following b e h n t k = absurd (differ (sym n))
judged-back (Some a) w v (i ∷ is) tests items following b e h n t k =
    let same : a ≡ record { worker = v; tests = tests } = some-same a (record { worker = v; tests = tests }) e in
    k ∙ sym (both (v == w) (bytes_eq (i ∷ is) tests) (all_among (items (i ∷ is)) following) h t) ∙ sym (ap (λ (x : UnansweredSteal). (x.worker == w) && (bytes_eq (i ∷ is) x.tests && all_among (items (i ∷ is)) following)) same)
  where
    some-same : (x y : UnansweredSteal) → Some x ≡ Some y → x ≡ y
    some-same x y p = cc

    both : (p q r : Bool) → p ≡ true → q ≡ true → (p && (q && r)) ≡ r
    both true true r x y = refl
    both true false r x y = absurd (differ y)
    both false q r x y = absurd (differ x)

pub may-answer : (s : State) (w v : ℕ) (is tests : List ℕ) (b : Books) (k : Known) (found : Bool) → Reached s → b ≡ s.books → k ≡ known_plan s.plan → sum k.sizes ≤ most_items → k.steal ≡ Some (record { worker = v; tests = tests }) → (v == w) ≡ true
    → (length is == 0) ≡ false → bytes_eq is tests ≡ true → found ≡ list_all (λ i. is_after (first_item (slot_of w b) k + i) (held w b.table)) is → found ≡ may_give_back w is s
may-answer s w v is tests b k found r e d few o h n t f =
    judged-back s.plan.steal w v is tests (λ xs. items_named (slot_of w s.books) xs s.plan) (drop 1 (held w s.books.table)) found (sym (ap (λ (q : Known). q.steal) d) ∙ o) h n t (f ∙ named_after w is s b k r e d few)
