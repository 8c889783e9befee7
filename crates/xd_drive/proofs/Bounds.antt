-- How many tests a run has, and how many an order can name.
use Rattle.std.proofs.Common.{◌≡◌, ℕ, zero, suc, ◌+◌, ◌≤◌, List, [], ◌∷◌, ◌++◌, length, map, sum, Bool, true, false, not, ◌&&◌, refl, ap, sym, ◌∙◌, subst, arith}
use Rattle.std.specs.Prelude.{Option, Some, None, ◌==◌, nat_le, slice_index, if◌then◌else◌}
use Rattle.std.specs.List.{range_with_len}
use Rattle.std.proofs.lemmas.Bool.Decides.{nat_tests}
use Rattle.std.proofs.lemmas.List.{length-map}
use Rattle.std.proofs.lemmas.List.FromFn.{length-range_with_len}
use Rattle.std.specs.List.{list_all}
use Rattle.xd_journal.specs.declared.settings.Settings.{Settings}
use Rattle.xd_journal.specs.declared.entry.Ids.{Ids}
use Rattle.xd_journal.specs.declared.entry.Ids.TheVariants as ids
use Rattle.xd_journal.specs.declared.entry.Entry.{Entry}
use Rattle.xd_journal.specs.declared.entry.Entry.TheVariants.{Ready, Collected, Done, Back, Finished, Refused, Down, NotStarted, Start, Run, RunAll, Steal, Shutdown, Kill, Over}
use Rattle.xd_run.specs.declared.member.Listed.{Listed}
use Rattle.xd_run.specs.Numbers.{among, without, all_distinct, all_among, times}
use Rattle.xd_run.specs.Table.{Table, all_items, held}
use Rattle.xd_run.specs.Plan.{Plan, base, is_each, items_named, slot_items, total}
use Rattle.xd_run.specs.Books.{marked}
use Rattle.xd_run.specs.Workers.{is_active, was_ready, has_collected, made_collected}
use Rattle.xd_run.specs.Collections.{ids_of, key, listed, listed_in, lists_with, unequal, with_list}
use Rattle.xd_run.specs.Sharing.{State, in_books, ids_at, shared_now, sizes_from}
use Rattle.xd_run.specs.State.{after_effect}
use Rattle.xd_edge.specs.Limits.{most_tests}
use Rattle.xd_edge.specs.Ids.{is_id}
use Rattle.xd_run.specs.Proper.{are_ids, may_follow, no_text_twice}
use Rattle.xd_run_laws.proofs.Logic.{differ, split-and}
use Rattle.xd_run_laws.proofs.Counts.{among-filter, among-times, among_of-all_among, all_among-of, times-among}
use Rattle.xd_run_laws.proofs.Inputs.{collecting-keeps}
use Rattle.xd_run_laws.proofs.Placed.{Placed, due_times}
use Rattle.xd_run_laws.proofs.Places.{held-within, times-table}

-- the settings stay, and no collection has more tests than a run may have
pub record Bounded (settings : Settings) (s : State) : Type 0 where
  pub settings_are : s.books.settings ≡ settings
  pub sizes : (slot : ℕ) → slice_index s.plan.sizes slot ≤ most_tests
  pub whole : is_each s.plan.mode ≡ false → total s.plan ≤ most_tests
  pub lists : (slot : ℕ) → length (ids_at slot s.books.lists) ≤ most_tests

-- collections

ids_by : Option Listed → List (List ℕ)
ids_by o = elim o as (λ _. List (List ℕ)) [ None ↦ [] | Some l ↦ l.ids ]

one-more : (slot : ℕ) (ls : List Listed) (l : Listed) → length (ids_at slot ls) ≤ most_tests → length l.ids ≤ most_tests → length (ids_at slot (ls ++ l ∷ [])) ≤ most_tests
one-more slot [] l a b = go (l.slot == slot)
  where
    go : (q : Bool) → length (elim (if q then Some l else None) as (λ _. List (List ℕ)) [ None ↦ [] | Some k ↦ k.ids ]) ≤ most_tests
    go true = b
    go false = omega arith
one-more slot (x ∷ xs) l a b = go (x.slot == slot) a (λ h. one-more slot xs l h b)
  where
    go : (q : Bool) → length (elim (if q then Some x else listed_in slot xs) as (λ _. List (List ℕ)) [ None ↦ [] | Some k ↦ k.ids ]) ≤ most_tests
        → (length (ids_at slot xs) ≤ most_tests → length (ids_at slot (xs ++ l ∷ [])) ≤ most_tests)
        → length (elim (if q then Some x else listed_in slot (xs ++ l ∷ [])) as (λ _. List (List ℕ)) [ None ↦ [] | Some k ↦ k.ids ]) ≤ most_tests
    go true h k = h
    go false h k = k h

with-more : (slot : ℕ) (o : Option Listed) (l : Listed) (ls : List Listed) → length (ids_at slot ls) ≤ most_tests → length l.ids ≤ most_tests → length (ids_at slot (lists_with o l ls)) ≤ most_tests
with-more slot None l ls a b = one-more slot ls l a b
with-more slot (Some first) l ls a b = a

le-of : (a b : ℕ) → nat_le a b ≡ true → a ≤ b
le-of a b h = grind (arith, nat_tests)

ids-few : (g : Ids) (w : ℕ) (s : State) → are_ids g w s ≡ true → length (ids_of g) ≤ most_tests
ids-few ids.Same w s h = omega arith
ids-few (ids.List own) w s h = le-of (length own) most_tests (split-and (nat_le (length own) most_tests) (list_all is_id own) (split-and (nat_le (length own) most_tests && list_all is_id own) (no_text_twice own) h).0).0

sizes-few : (ls : List Listed) → ((slot : ℕ) → length (ids_at slot ls) ≤ most_tests) → (a n slot : ℕ) → slice_index (sizes_from ls a n) slot ≤ most_tests
sizes-few ls k a zero slot = omega arith
sizes-few ls k a (suc n) zero = k a
sizes-few ls k a (suc n) (suc slot) = sizes-few ls k (a + 1) n slot

bounded-shared : (settings : Settings) (s : State) → Bounded settings s → Bounded settings (shared_now s)
bounded-shared settings s k = record {
  settings_are = k.settings_are;
  sizes = sizes-few s.books.lists k.lists 0 (if is_each s.plan.mode then s.books.settings.workers else 1);
  whole = λ h. subst (λ (n : ℕ). sum (sizes_from s.books.lists 0 n) ≤ most_tests) (sym (ap (λ (q : Bool). if q then s.books.settings.workers else 1) h)) (let one = k.lists 0 in omega (arith, one));
  lists = k.lists;
}

bounded-collected : (settings : Settings) (s : State) (w : ℕ) (g : Ids) → may_follow s (Collected w g) ≡ true → Bounded settings s → Bounded settings (after_effect s (Collected w g))
bounded-collected settings s w g h k =
    let now = in_books (λ b. marked (made_collected w) (with_list w g b)) s in
    let few = ids-few g w s (split-and (is_active w s.books && was_ready w s.books && not (has_collected w s.books)) (are_ids g w s) h).1 in
    let one : Bounded settings now = record {
      settings_are = k.settings_are;
      sizes = k.sizes;
      whole = k.whole;
      lists = λ slot. with-more slot (listed w s.books) (record { slot = key w s.books; worker = w; ids = ids_of g }) s.books.lists (k.lists slot) few;
    } in
    let joined : Bounded settings (in_books (λ b. record b { table = Rattle.xd_run.specs.Table.joined w b.table }) now) = record { settings_are = one.settings_are; sizes = one.sizes; whole = one.whole; lists = one.lists } in
    collecting-keeps (Bounded settings) now w (unequal w g (listed w s.books)) one
    (record { settings_are = one.settings_are; sizes = one.sizes; whole = one.whole; lists = one.lists }) joined (λ n. bounded-shared settings _ joined)

pub bounded-input : (settings : Settings) (s : State) (e : Entry) → may_follow s e ≡ true → Bounded settings s → Bounded settings (after_effect s e)
bounded-input settings s (Ready w) h k = record { settings_are = k.settings_are; sizes = k.sizes; whole = k.whole; lists = k.lists }
bounded-input settings s (Collected w g) h k = bounded-collected settings s w g h k
bounded-input settings s (Done w i u m o) h k = record { settings_are = k.settings_are; sizes = k.sizes; whole = k.whole; lists = k.lists }
bounded-input settings s (Back w is) h k = record { settings_are = k.settings_are; sizes = k.sizes; whole = k.whole; lists = k.lists }
bounded-input settings s (Finished w) h k = record { settings_are = k.settings_are; sizes = k.sizes; whole = k.whole; lists = k.lists }
bounded-input settings s (Refused w t) h k = record { settings_are = k.settings_are; sizes = k.sizes; whole = k.whole; lists = k.lists }
bounded-input settings s (Down w c o) h k = record { settings_are = k.settings_are; sizes = k.sizes; whole = k.whole; lists = k.lists }
bounded-input settings s (NotStarted w) h k = record { settings_are = k.settings_are; sizes = k.sizes; whole = k.whole; lists = k.lists }
bounded-input settings s (Start w slot) h k = absurd (differ h)
bounded-input settings s (Run w is) h k = absurd (differ h)
bounded-input settings s (RunAll w) h k = absurd (differ h)
bounded-input settings s (Steal w is) h k = absurd (differ h)
bounded-input settings s (Shutdown w) h k = absurd (differ h)
bounded-input settings s (Kill w) h k = absurd (differ h)
bounded-input settings s (Over how) h k = absurd (differ h)

-- distinct numbers among others are at most as many

without-fewer : (x : ℕ) (ys : List ℕ) → length (without (x ∷ []) ys) ≤ length ys
without-fewer x [] = omega arith
without-fewer x (y ∷ ys) = grind (arith, nat_tests, without-fewer x ys)

without-one : (x : ℕ) (ys : List ℕ) → among x ys ≡ true → length (without (x ∷ []) ys) + 1 ≤ length ys
without-one x [] h = absurd (differ h)
without-one x (y ∷ ys) h = grind (arith, nat_tests, without-fewer x ys, without-one x ys)

not_head : (x y : ℕ) (xs : List ℕ) → among x xs ≡ false → among y xs ≡ true → (not (among y (x ∷ []))) ≡ true
not_head x y [] h k = absurd (differ k)
not_head x y (z ∷ zs) h k = grind (arith, nat_tests, not_head x y zs)

pub distinct-few : (xs ys : List ℕ) → all_distinct xs ≡ true → all_among xs ys ≡ true → length xs ≤ length ys
distinct-few [] ys d a = omega arith
distinct-few (x ∷ xs) ys d a =
    let p = split-and (not (among x xs)) (all_distinct xs) d in
    let q = split-and (among x ys) (all_among xs ys) a in
    let other : among x xs ≡ false = Rattle.xd_run_laws.proofs.Logic.not_true (among x xs) p.0 in
    let rest : all_among xs (without (x ∷ []) ys) ≡ true = all_among-of xs (without (x ∷ []) ys) (λ y h. among-filter y (λ z. not (among z (x ∷ []))) ys ∙ Rattle.xd_run_laws.proofs.Logic.and (not_head x y xs other h) (among_of-all_among y xs ys q.1 h)) in
    omega (arith, distinct-few xs (without (x ∷ []) ys) p.1 rest, without-one x ys q.0)

-- items

in_range-by : (x n : ℕ) (b : Bool) → 1 ≤ due_times x b n → among x (range_with_len 0 n) ≡ true
in_range-by x n true h = times-among x (range_with_len 0 n) h
in_range-by x n false h = absurd (omega (arith, h))

-- what stands anywhere is an item of the run
item-of : (s : State) (x : ℕ) → Placed s → 1 ≤ times x (all_items s.books.table) → among x (range_with_len 0 (total s.plan)) ≡ true
item-of s x k h = in_range-by x (total s.plan) s.books.shared (let e = k.whole x in omega (arith, e, h))

pub few-of_pool : (s : State) (items : List ℕ) → Placed s → all_distinct items ≡ true → all_among items s.books.table.pool ≡ true → length items ≤ total s.plan
few-of_pool s items k d a =
    let inside = all_among-of items (range_with_len 0 (total s.plan)) (λ x h. item-of s x k (omega (arith, among-times x s.books.table.pool (among_of-all_among x items s.books.table.pool a h), times-table x s.books.table))) in
    omega (arith, distinct-few items (range_with_len 0 (total s.plan)) d inside, length-range_with_len 0 (total s.plan))

pub few-of_held : (s : State) (w : ℕ) (items : List ℕ) → Placed s → all_distinct items ≡ true → all_among items (held w s.books.table) ≡ true → length items ≤ total s.plan
few-of_held s w items k d a =
    let inside = all_among-of items (range_with_len 0 (total s.plan)) (λ x h. item-of s x k
    (omega (arith, among-times x (held w s.books.table) (among_of-all_among x items (held w s.books.table) a h), held-within x w s.books.table.rota, times-table x s.books.table))) in
    omega (arith, distinct-few items (range_with_len 0 (total s.plan)) d inside, length-range_with_len 0 (total s.plan))

pub few-of_slot : (settings : Settings) (s : State) (slot : ℕ) (items : List ℕ) → Bounded settings s → all_distinct items ≡ true → all_among items (slot_items slot s.plan) ≡ true → length items ≤ most_tests
few-of_slot settings s slot items k d a =
    let size = k.sizes slot in
    omega (arith, distinct-few items (slot_items slot s.plan) d a, length-range_with_len (base slot s.plan) (slice_index s.plan.sizes slot), size)

named-length : (slot : ℕ) (indices : List ℕ) (p : Plan) → length (items_named slot indices p) ≡ length indices
named-length slot indices p = go (is_each p.mode)
  where
    go : (b : Bool) → length (if b then map (λ i. base slot p + i) indices else indices) ≡ length indices
    go true = length-map indices (λ (i : ℕ). base slot p + i)
    go false = refl

pub named-few : (slot : ℕ) (indices : List ℕ) (p : Plan) → length (items_named slot indices p) ≤ most_tests → length indices ≤ most_tests
named-few slot indices p h = omega (arith, named-length slot indices p, h)
