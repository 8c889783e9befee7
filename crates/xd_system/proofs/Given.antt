-- The controller gives a worker tests to run.
use Rattle.std.proofs.Common.{◌≡◌, ℕ, zero, suc, ◌+◌, ◌≤◌, ◌<◌, List, [], ◌∷◌, ◌++◌, take, drop, length, map, Bool, true, false, not, ◌&&◌, refl, ap, sym, ◌∙◌, subst, arith, inl, inr}
use Rattle.std.specs.Prelude.{◌==◌, nat_lt, if◌then◌else◌, slice_index}
use Rattle.std.specs.List.{list_all, list_any, range_with_len}
use Rattle.std.proofs.lemmas.Bool.Decides.{nat_tests}
use Rattle.std.proofs.lemmas.List.{append-nil, take-append-drop, take-append-le, drop-append-le}
use Rattle.std.proofs.lemmas.List.Elements.{filter_map-append}
use Rattle.xd_journal.specs.declared.entry.Entry.{Entry}
use Rattle.xd_journal.specs.declared.entry.Entry.TheVariants.{Run, RunAll}
use Rattle.xd_commands.specs.declared.order.Order.{Order}
use Rattle.xd_commands.specs.declared.order.Order.TheVariants as order
use Rattle.xd_run.specs.Handing.{run_plan}
use Rattle.xd_run.specs.Numbers.{all_among, all_distinct, among, times}
use Rattle.xd_run.specs.Orderly.{is_orderly, may_run, not_empty}
use Rattle.xd_run.specs.Plan.{Plan, base, is_each, items_named, slot_items, total}
use Rattle.xd_run.specs.Sharing.{State}
use Rattle.xd_run.specs.State.{after_effect}
use Rattle.xd_run.specs.Table.{all_items, assigned, held, in_rota}
use Rattle.xd_run.specs.Workers.{is_shut, slot_of}
use Rattle.xd_run_laws.proofs.Counts.{among-times, among_of-all_among, bounds-of_range, distinct-range, all_among-self}
use Rattle.xd_run_laws.proofs.Logic.{and, cases_of, differ, not_true, split-and}
use Rattle.xd_run_laws.proofs.Placed.{Placed}
use Rattle.xd_run_laws.proofs.Places.{times-table}
use Rattle.xd_run_laws.proofs.Rota.{seat-change}
use Rattle.xd_system.specs.LineGiven.{are_fair, are_new, asked_back, line_given, is_shutdown, line_after, marks_last, may_be_told, steals_asked}
use Rattle.xd_system.specs.Own.{answer_in, answers_by, ends_by, test_ended_in, order_told, told_to}
use Rattle.xd_system.proofs.Deal.{Deal, asked_of, line_at, size_at}
use Rattle.xd_system.proofs.Lines.{dealt-append, left_of, steals-append}
use Rattle.xd_system.proofs.Lists.{count-taken}
use Rattle.xd_system.proofs.Orders.{apart-pool, fair-more, held-grown, low-pool, marks-more, shut-same}
use Rattle.xd_system.proofs.Others.{names-same, size-same}
use Rattle.xd_system.proofs.Named.{item_at, named-append, same-items, named-distinct}

-- these tests may be given
pub record Gives (w : ℕ) (ns : List ℕ) (s : State) : Type 0 where
  pub rota : in_rota w s.books.table ≡ true
  pub unshut : is_shut w s.books ≡ false
  pub distinct : all_distinct (items_named (slot_of w s.books) ns s.plan) ≡ true
  pub pool : all_among (items_named (slot_of w s.books) ns s.plan) s.books.table.pool ≡ true
  pub slots : is_each s.plan.mode ≡ true
      → all_among (items_named (slot_of w s.books) ns s.plan) (slot_items (slot_of w s.books) s.plan) ≡ true
  pub shared : s.books.shared ≡ true

-- an order that gives these tests
pub record GivesBy (size : ℕ) (ns : List ℕ) (o : Order) : Type 0 where
  pub asks : asked_back o ≡ []
  pub unmarked : is_shutdown o ≡ false
  pub after : (line : List ℕ) (backs : List (List ℕ)) → line_after size line o backs ≡ line ++ ns
  pub fair : (line : List ℕ) (backs : List (List ℕ)) → may_be_told size line o backs ≡ are_new size line ns

-- the state once they were given
abbrev pub with_given : ℕ → List ℕ → Plan → State → State
with_given w items p s = record { books = record (s.books) { table = assigned w items s.books.table }; plan = p }

module _ (w : ℕ) (ns : List ℕ) (es : List Entry) (s : State) (placed : Placed s) (g : Gives w ns s) (d : Deal w s es) where
  abbrev items : List ℕ
  items = items_named (slot_of w s.books) ns s.plan

  pooled : (n : ℕ) → among n ns ≡ true → among (item_at (slot_of w s.books) n s.plan) s.books.table.pool ≡ true
  pooled n a = among_of-all_among (item_at (slot_of w s.books) n s.plan) items s.books.table.pool g.pool (same-items (slot_of w s.books) n ns s.plan ∙ a)

  -- each is a test that the worker may be given
  low : (n : ℕ) → among n ns ≡ true → n < size_at w s
  low n a = go (is_each s.plan.mode) refl
    where
      go : (b : Bool) → is_each s.plan.mode ≡ b
          → n < (if b then slice_index s.plan.sizes (slot_of w s.books) else total s.plan)
      go true q =
          let slot = slot_of w s.books in
          let there : among (item_at slot n s.plan) (slot_items slot s.plan) ≡ true = among_of-all_among (item_at slot n s.plan) items (slot_items slot s.plan) (g.slots q) (same-items slot n ns s.plan ∙ a) in
          let at : item_at slot n s.plan ≡ base slot s.plan + n = ap (λ (b : Bool). if b then base slot s.plan + n else n) q in
          let high = (bounds-of_range (item_at slot n s.plan) (base slot s.plan) (slice_index s.plan.sizes slot) there).1 in
          omega (arith, high, at)
      go false q =
          let at : item_at (slot_of w s.books) n s.plan ≡ n = ap (λ (b : Bool). if b then base (slot_of w s.books) s.plan + n else n) q in
          let m = low-pool s (item_at (slot_of w s.books) n s.plan) placed g.shared (pooled n a) in
          omega (arith, m, at)

  -- none of them is in the line
  fresh : (n : ℕ) → among n ns ≡ true → among n (line_at w s es) ≡ false
  fresh n a = elim (cases_of (among n (line_at w s es))) [
    | inl b ↦ absurd (elim (cases_of (among n (ends_by w es))) [ inl c ↦ reported c | inr c ↦ holds (still-held b c) ])
    | inr b ↦ b
  ]
    where
      off : (among (item_at (slot_of w s.books) n s.plan) (held w s.books.table) ≡ false) × (among (item_at (slot_of w s.books) n s.plan) s.books.table.reported ≡ false)
      off = apart-pool s w (item_at (slot_of w s.books) n s.plan) placed (pooled n a)

      reported : among n (ends_by w es) ≡ true → ⊥
      reported c =
          let slot = slot_of w s.books in
          differ (sym off.1 ∙ among_of-all_among (item_at slot n s.plan) (items_named slot (ends_by w es) s.plan) s.books.table.reported d.reported (same-items slot n (ends_by w es) s.plan ∙ c))

      holds : among n (drop (length (ends_by w es)) (line_at w s es)) ≡ true → ⊥
      holds c =
          let slot = slot_of w s.books in
          differ (sym off.0 ∙ ap (among (item_at slot n s.plan)) d.held_is ∙ same-items slot n (drop (length (ends_by w es)) (line_at w s es)) s.plan ∙ c)

      either : (xs ys : List ℕ) → among n (xs ++ ys) ≡ true → among n xs ≡ false → among n ys ≡ true
      either [] ys p q = p
      either (x ∷ xs) ys p q = grind (arith, nat_tests, either xs ys, p, q)

      still-held : among n (line_at w s es) ≡ true → among n (ends_by w es) ≡ false
          → among n (drop (length (ends_by w es)) (line_at w s es)) ≡ true
      still-held b c =
          let k = length (ends_by w es) in
          let line = line_at w s es in
          either (take k line) (drop k line) (ap (among n) (take-append-drop k line) ∙ b) (ap (among n) d.ended_first ∙ c)

  new : are_new (size_at w s) (line_at w s es) ns ≡ true
  new = and (each ns (λ n a. a)) (named-distinct (slot_of w s.books) ns s.plan g.distinct)
    where
      each : (ms : List ℕ) → ((n : ℕ) → among n ms ≡ true → among n ns ≡ true)
          → list_all (λ n. nat_lt n (size_at w s) && not (among n (line_at w s es))) ms ≡ true
      each [] k = refl
      each (m ∷ ms) k =
          let a = k m (grind (arith, nat_tests)) in
          let l = low m a in
          and (and (grind (arith, nat_tests, l)) (ap not (fresh m a))) (each ms (λ n b. k n (grind (arith, nat_tests, b))))

  module _ (e : Entry) (o : Order) (p : Plan) (by : GivesBy (size_at w s) ns o) (tells : told_to w (e ∷ []) ≡ o ∷ []) (backs : answers_by w (e ∷ []) ≡ []) (ends : ends_by w (e ∷ []) ≡ [])
      (mode : p.mode ≡ s.plan.mode) (sizes : p.sizes ≡ s.plan.sizes) (steal : p.steal ≡ s.plan.steal) where
    abbrev t : State
    t = with_given w items p s

    told-more : told_to w (es ++ e ∷ []) ≡ told_to w es ++ o ∷ []
    told-more = filter_map-append (order_told w) es (e ∷ []) ∙ ap (λ (l : List Order). told_to w es ++ l) tells

    answers-same : answers_by w (es ++ e ∷ []) ≡ answers_by w es
    answers-same = filter_map-append (answer_in w) es (e ∷ [])
        ∙ ap (λ (l : List (List ℕ)). answers_by w es ++ l) backs ∙ append-nil (answers_by w es)

    ended-same : ends_by w (es ++ e ∷ []) ≡ ends_by w es
    ended-same = filter_map-append (test_ended_in w) es (e ∷ []) ∙ ap (λ (l : List ℕ). ends_by w es ++ l) ends
        ∙ append-nil (ends_by w es)

    size-is : size_at w t ≡ size_at w s
    size-is = size-same w s t refl mode sizes

    line-then : line_at w t (es ++ e ∷ []) ≡ line_at w s es ++ ns
    line-then =
        let size = size_at w s in
        ap (λ (z : ℕ). line_given z [] (told_to w (es ++ e ∷ [])) (answers_by w (es ++ e ∷ []))) size-is
        ∙ ap (λ (os : List Order). line_given size [] os (answers_by w (es ++ e ∷ []))) told-more
        ∙ ap (line_given size [] (told_to w es ++ o ∷ [])) answers-same
        ∙ dealt-append size [] (told_to w es) (o ∷ []) (answers_by w es)
        ∙ by.after (line_at w s es) (left_of (told_to w es) (answers_by w es))

    pub takes_tests : Deal w t (es ++ e ∷ [])
    takes_tests =
        let slot = slot_of w s.books in
        let size = size_at w s in
        let k = length (ends_by w es) in
        let line = line_at w s es in
        let unshut : list_any is_shutdown (told_to w es) ≡ false = sym d.marks ∙ g.unshut in
        let fit : k ≤ length line = count-taken k line (ap length d.ended_first) in
        let steals-same : steals_asked (told_to w (es ++ e ∷ [])) ≡ steals_asked (told_to w es) =
        ap steals_asked told-more ∙ steals-append (told_to w es) (o ∷ [])
        ∙ ap (λ (l : List (List ℕ)). steals_asked (told_to w es) ++ (l ++ [])) by.asks
        ∙ append-nil (steals_asked (told_to w es)) in
        let here : may_be_told size line o (left_of (told_to w es) (answers_by w es)) ≡ true = by.fair line (left_of (told_to w es) (answers_by w es))
        ∙ new in
        record {
          held_is = held-grown w items s.books.table.rota g.rota ∙ ap (λ (l : List ℕ). l ++ items) d.held_is
              ∙ sym (named-append slot (drop k line) ns s.plan)
              ∙ ap (λ (l : List ℕ). items_named slot l s.plan) (sym (drop-append-le k line ns fit))
              ∙ ap (λ (l : List ℕ). items_named slot (drop k l) s.plan) (sym line-then)
              ∙ ap (λ (x : List ℕ). items_named slot (drop (length x) (line_at w t (es ++ e ∷ []))) s.plan) (sym ended-same)
              ∙ sym (names-same w s t (drop (length (ends_by w (es ++ e ∷ []))) (line_at w t (es ++ e ∷ []))) refl mode sizes);
          ended_first = ap (λ (x : List ℕ). take (length x) (line_at w t (es ++ e ∷ []))) ended-same
              ∙ ap (take k) line-then ∙ take-append-le k line ns fit ∙ d.ended_first ∙ sym ended-same;
          reported = ap (λ (l : List ℕ). all_among l s.books.table.reported) (names-same w s t (ends_by w (es ++ e ∷ [])) refl mode sizes)
              ∙ ap (λ (l : List ℕ). all_among (items_named slot l s.plan) s.books.table.reported) ended-same
              ∙ d.reported;
          fair = ap (λ (z : ℕ). are_fair z [] (told_to w (es ++ e ∷ [])) (answers_by w (es ++ e ∷ []))) size-is
              ∙ ap (λ (os : List Order). are_fair size [] os (answers_by w (es ++ e ∷ []))) told-more
              ∙ ap (are_fair size [] (told_to w es ++ o ∷ [])) answers-same
              ∙ fair-more size [] (told_to w es) o (answers_by w es) d.fair here;
          last = ap marks_last told-more ∙ marks-more (told_to w es) o unshut;
          marks = d.marks ∙ sym (ap (list_any is_shutdown) told-more ∙ shut-same (told_to w es) o by.unmarked);
          open_steal = ap (asked_of w) steal ∙ d.open_steal
              ∙ ap (λ (l : List (List ℕ)). drop (length l) (steals_asked (told_to w es))) (sym answers-same)
              ∙ ap (drop (length (answers_by w (es ++ e ∷ [])))) (sym steals-same);
          answered = subst (λ (l : List (List ℕ)). length (answers_by w (es ++ e ∷ [])) ≤ length l) (sym steals-same) (subst (λ (l : List (List ℕ)). length l ≤ length (steals_asked (told_to w es))) (sym answers-same) d.answered);
          early = λ r. absurd (differ (sym r ∙ seat-change w w (λ x. record x { held = x.held ++ items }) s.books.table.rota (λ x. refl) ∙ g.rota));
          unshared = λ r. absurd (differ (sym r ∙ g.shared));
        }

-- a Run

some-pooled : (s : State) (items : List ℕ) → Placed s → not_empty items ≡ true
    → all_among items s.books.table.pool ≡ true → s.books.shared ≡ true
some-pooled s [] k f a = absurd (differ f)
some-pooled s (x ∷ xs) k f a = elim (cases_of s.books.shared) [
  | inl b ↦ b
  | inr b ↦ (let c = among-times x s.books.table.pool (split-and (among x s.books.table.pool) (all_among xs s.books.table.pool) a).0 in
      let z : times x (all_items s.books.table) ≡ 0 = k.whole x
      ∙ ap (λ (q : Bool). if q then times x (range_with_len 0 (total s.plan)) else 0) b in
      absurd (omega (arith, c, z, times-table x s.books.table)))
]

filled-named : (slot : ℕ) (ns : List ℕ) (p : Plan) → not_empty ns ≡ true → not_empty (items_named slot ns p) ≡ true
filled-named slot [] p h = absurd (differ h)
filled-named slot (n ∷ ns) p h = go (is_each p.mode)
  where
    go : (b : Bool) → not_empty (if b then map (λ i. base slot p + i) (n ∷ ns) else n ∷ ns) ≡ true
    go true = refl
    go false = refl

pub gives-run : (w : ℕ) (ns : List ℕ) (s : State) → Placed s → is_orderly s (Run w ns) ≡ true → Gives w ns s
gives-run w ns s placed h =
    let items = items_named (slot_of w s.books) ns s.plan in
    let slots = slot_items (slot_of w s.books) s.plan in
    let p = split-and (may_run w s && not_empty ns && all_distinct items && all_among items s.books.table.pool) (if is_each s.plan.mode then all_among items slots else true) h in
    let q = split-and (may_run w s && not_empty ns && all_distinct items) (all_among items s.books.table.pool) p.0 in
    let r = split-and (may_run w s && not_empty ns) (all_distinct items) q.0 in
    let t = split-and (may_run w s) (not_empty ns) r.0 in
    let v = split-and (in_rota w s.books.table) (not (is_shut w s.books)) t.0 in
    record {
      rota = v.0;
      unshut = not_true (is_shut w s.books) v.1;
      distinct = r.1;
      pool = q.1;
      slots = λ each. sym (ap (λ (b : Bool). if b then all_among items slots else true) each) ∙ p.1;
      shared = some-pooled s items placed (filled-named (slot_of w s.books) ns s.plan t.1) q.1;
    }

pub takes_run : (w : ℕ) (ns : List ℕ) (es : List Entry) (s : State) → Placed s → is_orderly s (Run w ns) ≡ true
    → Deal w s es → Deal w (after_effect s (Run w ns)) (es ++ Run w ns ∷ [])
takes_run w ns es s placed h d =
    let own : (w == w) ≡ true = grind (arith, nat_tests) in
    takes_tests w ns es s placed (gives-run w ns s placed h) d (Run w ns) (order.RunTests ns) (run_plan w ns s.plan) (record { asks = refl; unmarked = refl; after = λ l b. refl; fair = λ l b. refl })
    (rw own refl) refl refl refl refl refl

-- a RunAll

range-plus : (a n m : ℕ) → map (λ i. a + i) (range_with_len m n) ≡ range_with_len (a + m) n
range-plus a zero m = refl
range-plus a (suc n) m =
    (let e : a + (m + 1) ≡ a + m + 1 = omega arith in ap (λ (l : List ℕ). (a + m) ∷ l) (range-plus a n (m + 1) ∙ ap (λ (k : ℕ). range_with_len k n) e))

all-named : (slot : ℕ) (p : Plan) → is_each p.mode ≡ true
    → items_named slot (range_with_len 0 (slice_index p.sizes slot)) p ≡ slot_items slot p
all-named slot p h =
    let n = slice_index p.sizes slot in
    let e : base slot p + 0 ≡ base slot p = omega arith in
    ap (λ (b : Bool). if b then map (λ i. base slot p + i) (range_with_len 0 n) else range_with_len 0 n) h
    ∙ range-plus (base slot p) n 0 ∙ ap (λ (k : ℕ). range_with_len k n) e

pub takes_run_all : (w : ℕ) (es : List Entry) (s : State) → Placed s → is_orderly s (RunAll w) ≡ true → Deal w s es
    → Deal w (after_effect s (RunAll w)) (es ++ RunAll w ∷ [])
takes_run_all w es s placed h d =
    let own : (w == w) ≡ true = grind (arith, nat_tests) in
    let slot = slot_of w s.books in
    let slots = slot_items slot s.plan in
    let p = split-and (is_each s.plan.mode && s.books.shared && may_run w s) (all_among slots s.books.table.pool) h in
    let q = split-and (is_each s.plan.mode && s.books.shared) (may_run w s) p.0 in
    let r = split-and (is_each s.plan.mode) s.books.shared q.0 in
    let v = split-and (in_rota w s.books.table) (not (is_shut w s.books)) q.1 in
    let n = slice_index s.plan.sizes slot in
    let ns = range_with_len 0 n in
    let is : items_named slot ns s.plan ≡ slots = all-named slot s.plan r.0 in
    let size : size_at w s ≡ n = ap (λ (b : Bool). if b then n else total s.plan) r.0 in
    let g : Gives w ns s = record {
      rota = v.0;
      unshut = not_true (is_shut w s.books) v.1;
      distinct = ap all_distinct is ∙ distinct-range (base slot s.plan) n;
      pool = ap (λ (l : List ℕ). all_among l s.books.table.pool) is ∙ p.1;
      slots = λ each. ap (λ (l : List ℕ). all_among l slots) is ∙ all_among-self slots;
      shared = r.1;
    } in
    subst (λ (l : List ℕ). Deal w (with_given w l s.plan s) (es ++ RunAll w ∷ [])) is
    (takes_tests w ns es s placed g d (RunAll w) order.RunAll s.plan (record {
      asks = refl;
      unmarked = refl;
      after = λ l b. ap (λ (z : ℕ). l ++ range_with_len 0 z) size;
      fair = λ l b. ap (λ (z : ℕ). are_new (size_at w s) l (range_with_len 0 z)) size;
    }) (rw own refl) refl refl refl refl refl)
