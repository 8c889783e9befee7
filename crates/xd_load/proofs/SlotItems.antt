-- The items of slots stand apart, and in the pool at the share.
use Rattle.std.proofs.Common.{◌≡◌, ℕ, zero, suc, ◌+◌, ◌≤◌, ◌<◌, List, [], ◌∷◌, ◌++◌, take, drop, length, get_or, Bool, true, false, not, ◌&&◌, refl, ap, sym, ◌∙◌, subst, arith, inl, inr}
use Rattle.std.specs.Prelude.{sum, slice_index, filter, None, Some, Option}
use Rattle.std.specs.List.{range_with_len}
use Rattle.std.proofs.lemmas.Bool.{cases_order}
use Rattle.std.proofs.lemmas.Bool.Decides.{nat_tests}
use Rattle.std.proofs.lemmas.List.{drop_more, take_more}
use Rattle.std.proofs.lemmas.List.Sums.{fold_more}
use Rattle.xd_edge.specs.declared.mode.ModeKind.TheVariants.{Each}
use Rattle.xd_ledger.specs.Chains.{part_after}
use Rattle.xd_run.specs.Numbers.{among, without, all_distinct, all_among, first_of}
use Rattle.xd_journal.specs.declared.entry.Entry.{Entry}
use Rattle.xd_journal.specs.declared.entry.Entry.TheVariants.{RunAll}
use Rattle.xd_ledger.specs.Calls.{turn}
use Rattle.xd_run.specs.Plan.{Plan, slot_items}
use Rattle.xd_run.specs.Table.{Table, assigned, workers_of}
use Rattle.xd_run.specs.Turn.{Turn, shut}
use Rattle.xd_run.specs.Each.{give_all, give_of_slot, give_slots}
use Rattle.xd_run.proofs.Parts.{parts-apart, parts-within}
use Rattle.xd_run.proofs.Turns.{workers-at_seat, workers-shut_turn}
use Rattle.xd_ledger.proofs.Lists.{among-append, among-at, among-filter, all_among-of, among-range, following-at, distinct-drop, first-drop}
use Rattle.xd_load.specs.Slots.{AreWaiting, InSlots, first_in, items_in}

pub sum-one_more : (xs : List ℕ) (i : ℕ) → i < length xs → sum (take (i + 1) xs) ≡ sum (take i xs) + get_or xs i 0
sum-one_more xs i h = fold_more ◌+◌ 0 xs i 0 h

ordered : (a b x : ℕ) (counts : List ℕ) → a < b → among x (items_in a counts) ≡ true → among x (items_in b counts) ≡ false
ordered a b x counts h i =
    let p = among-range x (first_in a counts) (slice_index counts a) in
    let q = among-range x (first_in b counts) (slice_index counts b) in
    grind (arith, nat_tests, p, q, parts-apart a b counts h)

ordered-back : (a b x : ℕ) (counts : List ℕ) → b < a → among x (items_in a counts) ≡ true → among x (items_in b counts) ≡ false
ordered-back a b x counts h i =
    let p = among-range x (first_in a counts) (slice_index counts a) in
    let q = among-range x (first_in b counts) (slice_index counts b) in
    grind (arith, nat_tests, p, q, parts-apart b a counts h)

slots-apart : (a b x : ℕ) (counts : List ℕ) → (a ≡ b → ⊥) → among x (items_in a counts) ≡ true → among x (items_in b counts) ≡ false
slots-apart a b x counts n i = elim (cases_order a b) [
  | inl k ↦ absurd (n k)
  | inr k ↦ (elim k [ inl l ↦ ordered a b x counts l i | inr l ↦ ordered-back a b x counts l i ])
]

other-slot : (a b : ℕ) (slots : List ℕ) → all_distinct (b ∷ slots) ≡ true → among a slots ≡ true → a ≡ b → ⊥
other-slot a b slots d h e = grind (arith, nat_tests)

-- after a slot's worker the others' items still wait
pub waiting-more : (s : ℕ) (slots counts pool : List ℕ) → all_distinct (s ∷ slots) ≡ true → AreWaiting (s ∷ slots) counts pool → AreWaiting slots counts (without (items_in s counts) pool)
waiting-more s slots counts pool d w = λ a x h i.
    (let in_pool : among x pool ≡ true = w a x (grind (arith, nat_tests)) i in
    let out : among x (items_in s counts) ≡ false = slots-apart a s x counts (other-slot a s slots d h) i in
    among-filter x (λ y. not (among y (items_in s counts))) pool ∙ ap (λ (q : Bool). not q && among x pool) out ∙ in_pool)

pub waiting-one : (s : ℕ) (slots counts pool : List ℕ) → AreWaiting (s ∷ slots) counts pool → all_among (items_in s counts) pool ≡ true
waiting-one s slots counts pool w = all_among-of (items_in s counts) pool (λ x h. w s x (grind (arith, nat_tests)) h)

-- at the share all items do
pub waiting-all : (slots counts pool : List ℕ) → pool ≡ range_with_len 0 (sum counts) → AreWaiting slots counts pool
waiting-all slots counts pool e = λ a x h i.
    (let p = among-range x (first_in a counts) (slice_index counts a) in
    let q = among-range x 0 (sum counts) in
    ap (among x) e ∙ grind (arith, nat_tests, p, q, parts-within a counts))

-- some plan of mode each
abbrev pub each_plan : List ℕ → Plan
each_plan counts = record { mode = Each; chunk = None; reorder = true; sizes = counts; queue = []; given = []; steal = None }

pub each_plan-stands : (counts : List ℕ) → InSlots counts (each_plan counts)
each_plan-stands counts = record { mode = refl; sizes = refl; steal = refl }

pub workers-give_all : (w slot : ℕ) (counts : List ℕ) (t : Turn) → workers_of (give_all w slot t).table ≡ workers_of t.table
workers-give_all w slot counts t = workers-shut_turn w _ ∙ workers-at_seat w _ t.table.rota

pub pool-shut : (w : ℕ) (t : Turn) → (shut w t).table.pool ≡ t.table.pool
pool-shut w t = grind (arith, nat_tests)

-- one slot after another

pub slots-more : (ws slots : List ℕ) (i : ℕ) (t : Turn) → i < length ws → i < length slots
    → give_slots (drop i ws) (drop i slots) t ≡ give_slots (drop (i + 1) ws) (drop (i + 1) slots) (give_all (get_or ws i 0) (get_or slots i 0) t)
slots-more ws slots i t h k =
    ap (λ xs. give_slots xs (drop i slots) t) (drop_more ws i 0 h)
    ∙ ap (λ ys. give_slots (get_or ws i 0 ∷ drop (i + 1) ws) ys t) (drop_more slots i 0 k)

no_slots : (ws : List ℕ) (t : Turn) → give_slots ws [] t ≡ t
no_slots [] t = refl
no_slots (w ∷ ws) t = refl

pub slots-ended : (ws slots : List ℕ) (i : ℕ) (t : Turn) → length ws ≤ i → give_slots (drop i ws) (drop i slots) t ≡ t
slots-ended [] slots zero t h = refl
slots-ended [] slots (suc i) t h = refl
slots-ended (w ∷ ws) slots zero t h = absurd (omega arith)
slots-ended (w ∷ ws) [] (suc i) t h = no_slots (drop i ws) t
slots-ended (w ∷ ws) (s ∷ slots) (suc i) t h = slots-ended ws slots i t (omega arith)

-- what waits for a new worker

pub workers-give_of_slot : (w slot : ℕ) (items : List ℕ) (t : Turn) → workers_of (give_of_slot w slot items t).table ≡ workers_of t.table
workers-give_of_slot w slot [] t = refl
workers-give_of_slot w slot (i ∷ is) t = workers-at_seat w (i ∷ is) t.table.rota

pub filter-more : (test : ℕ → Bool) (xs ys : List ℕ) → filter test (xs ++ ys) ≡ filter test xs ++ filter test ys
filter-more test [] ys = refl
filter-more test (x ∷ xs) ys = grind (arith, nat_tests, filter-more test xs ys)

pub filter-one_more : (test : ℕ → Bool) (xs : List ℕ) (k x : ℕ) (old new : List ℕ) → k < length xs → x ≡ get_or xs k 0 → old ≡ filter test (take k xs) → new ≡ old ++ filter test (x ∷ []) → new ≡ filter test (take (k + 1) xs)
filter-one_more test xs k x old new h at a b =
    let e = take_more xs k 0 h in
    let f = filter-more test (take k xs) (get_or xs k 0 ∷ []) in
    let g : new ≡ filter test (take k xs) ++ filter test (get_or xs k 0 ∷ []) = b ∙ ap (λ (zs : List ℕ). zs ++ filter test (x ∷ [])) a ∙ ap (λ (z : ℕ). filter test (take k xs) ++ filter test (z ∷ [])) at in
    g ∙ sym f ∙ ap (filter test) (sym e)

pub item-at : (xs : List ℕ) (k x : ℕ) → k < length xs → Some x ≡ first_of (drop k xs) → x ≡ get_or xs k 0
item-at xs k x h e = let f = first-drop xs k h in cc

pub next-at : (xs : List ℕ) (k x : ℕ) (next : Option ℕ) → k < length xs → all_distinct xs ≡ true → x ≡ get_or xs k 0 → next ≡ first_of (part_after x xs) → next ≡ first_of (drop (k + 1) xs)
next-at xs k x next h d at e = e ∙ ap (λ (z : ℕ). first_of (part_after z xs)) at ∙ ap first_of (following-at xs k h d)

pub stands-in_pool : (xs ys : List ℕ) (k x : ℕ) → k < length xs → x ≡ get_or xs k 0 → among x (xs ++ ys) ≡ true
stands-in_pool xs ys k x h at =
    let a : among x xs ≡ true = ap (λ (z : ℕ). among z xs) at ∙ among-at xs k h in
    among-append x xs ys ∙ rw a

-- the turn after a RunAll
pub told : (w slot : ℕ) (counts : List ℕ) (p : Plan) (t u : Table) (acts now : List Entry) → InSlots counts p → u ≡ assigned w (items_in slot counts) t → now ≡ acts ++ RunAll w ∷ []
    → turn u p now ≡ record (turn t p acts) { table = assigned w (slot_items slot p) t; acts = acts ++ RunAll w ∷ [] }
told w slot counts p t u acts now h a b =
    let e : slot_items slot p ≡ items_in slot counts = rw (h.mode, h.sizes) in
    rw (e, a, b)

pub pool-give_all : (w slot : ℕ) (counts : List ℕ) (t : Turn) → InSlots counts t.plan → (give_all w slot t).table.pool ≡ without (items_in slot counts) t.table.pool
pool-give_all w slot counts t h =
    let e : slot_items slot t.plan ≡ items_in slot counts = rw (h.mode, h.sizes) in
    pool-shut w _ ∙ ap (λ (xs : List ℕ). without xs t.table.pool) e

pub waiting-next : (slots counts pool now : List ℕ) (k : ℕ) → k < length slots → all_distinct slots ≡ true → AreWaiting (drop k slots) counts pool → now ≡ without (items_in (get_or slots k 0) counts) pool → AreWaiting (drop (k + 1) slots) counts now
waiting-next slots counts pool now k h d w e =
    let cut = drop_more slots k 0 h in
    let d' = subst (λ (ss : List ℕ). all_distinct ss ≡ true) cut (distinct-drop k slots d) in
    let w' = subst (λ (ss : List ℕ). AreWaiting ss counts pool) cut w in
    subst (λ (xs : List ℕ). AreWaiting (drop (k + 1) slots) counts xs) (sym e) (waiting-more (get_or slots k 0) (drop (k + 1) slots) counts pool d' w')
