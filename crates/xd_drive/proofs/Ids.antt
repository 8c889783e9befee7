-- The ids of the items of a run.
use Rattle.std.proofs.Common.{◌≡◌, ℕ, zero, suc, ◌+◌, ◌-◌, ◌≤◌, ◌<◌, List, [], ◌∷◌, ◌++◌, length, take, Bool, true, false, refl, ap, sym, ◌∙◌, subst, arith, length-append}
use Rattle.std.specs.Prelude.{if◌then◌else◌, sum, slice_index, slice_index_or, Option, Some, None, is_some}
use Rattle.std.proofs.lemmas.List.{append-nil, get_or-append-add, get_or_append_left}
use Rattle.xd_edge.specs.declared.mode.ModeKind.{ModeKind}
use Rattle.xd_journal.specs.declared.entry.Ids.{Ids}
use Rattle.xd_journal.specs.declared.entry.Entry.{Entry}
use Rattle.xd_journal.specs.declared.entry.Entry.TheVariants.{Ready, Collected, Done, Back, Finished, Refused, Down, NotStarted, Start, Run, RunAll, Steal, Shutdown, Kill, Over}
use Rattle.xd_journal.specs.declared.journal.Journal.{Journal}
use Rattle.xd_run.specs.declared.member.Listed.{Listed}
use Rattle.xd_run.specs.Numbers.{among}
use Rattle.xd_run.specs.Plan.{base, is_each, slot_items}
use Rattle.xd_run.specs.Books.{marked}
use Rattle.xd_run.specs.Workers.{made_collected, slot_of}
use Rattle.xd_run.specs.Collections.{ids_of, key, listed, listed_in, lists_with, unequal, with_list}
use Rattle.xd_run.specs.Sharing.{State, ids_at, in_books, sizes_from}
use Rattle.xd_run.specs.State.{after_effect, state_at}
use Rattle.xd_run_laws.specs.Collected.{slots}
use Rattle.xd_run_laws.specs.Whole.{tests_in}
use Rattle.xd_run_laws.proofs.Counts.{bounds-of_range}
use Rattle.xd_run.proofs.Parts.{sum-more}
use Rattle.xd_run_laws.proofs.Inputs.{collecting-keeps, still_shared}
use Rattle.xd_run_laws.proofs.Shared.{Listing, listed-kept}
use Rattle.xd_report.specs.Tests.{id_of}
use Rattle.xd_drive.specs.ItemIds.{ids_from, ids_in, item_ids}

-- as many as the collections have tests

length-ids : (ls : List Listed) (a n : ℕ) → length (ids_from ls a n) ≡ sum (sizes_from ls a n)
length-ids ls a zero = refl
length-ids ls a (suc n) =
    length-append (ids_at a ls) (ids_from ls (a + 1) n) ∙ ap (λ (k : ℕ). length (ids_at a ls) + k) (length-ids ls (a + 1) n) ∙ sym (sum-more (length (ids_at a ls)) (sizes_from ls (a + 1) n))

pub ids-collected : (j : Journal) → length (ids_in j) ≡ tests_in j
ids-collected j = (let b = (state_at j.settings j.entries.items).books in length-ids b.lists 0 (slots b.settings))

-- the id of a slot's test stands at its item
id-there : (ls : List Listed) (a n k i : ℕ) → i < slice_index (sizes_from ls a n) k → slice_index_or (ids_from ls a n) (sum (take k (sizes_from ls a n)) + i) [] ≡ slice_index_or (ids_at (a + k) ls) i []
id-there ls a zero zero i h = absurd (omega (arith, h))
id-there ls a zero (suc k) i h = absurd (omega (arith, h))
id-there ls a (suc n) zero i h =
    let rest = ids_from ls (a + 1) n in
    let none : sum (take 0 (sizes_from ls a (suc n))) + i ≡ i = omega arith in
    let here : a + 0 ≡ a = omega arith in
    ap (λ (m : ℕ). slice_index_or (ids_at a ls ++ rest) m []) none ∙ get_or_append_left (ids_at a ls) rest [] i h ∙ ap (λ (m : ℕ). slice_index_or (ids_at m ls) i []) (sym here)
id-there ls a (suc n) (suc k) i h =
    let rest = ids_from ls (a + 1) n in
    let sizes = sizes_from ls (a + 1) n in
    let more : sum (take (suc k) (length (ids_at a ls) ∷ sizes)) ≡ length (ids_at a ls) + sum (take k sizes) = sum-more (length (ids_at a ls)) (take k sizes) in
    let at : sum (take (suc k) (length (ids_at a ls) ∷ sizes)) + i ≡ length (ids_at a ls) + (sum (take k sizes) + i) = omega (arith, more) in
    let far : (a + 1) + k ≡ a + suc k = omega arith in
    ap (λ (m : ℕ). slice_index_or (ids_at a ls ++ rest) m []) at ∙ get_or-append-add (ids_at a ls) rest (sum (take k sizes) + i) []
    ∙ id-there ls (a + 1) n k i h ∙ ap (λ (m : ℕ). slice_index_or (ids_at m ls) i []) far

-- in mode each, by the item of the worker's slot
pub id-each : (s : State) (w x : ℕ) → Listing s → s.books.shared ≡ true → is_each s.plan.mode ≡ true → among x (slot_items (slot_of w s.books) s.plan) ≡ true
    → id_of w (x - base (slot_of w s.books) s.plan) s ≡ slice_index_or (item_ids s.books) x []
id-each s w x k h e there =
    let slot = slot_of w s.books in
    let ls = s.books.lists in
    let n = slots s.books.settings in
    let i = x - base slot s.plan in
    let in_slot = bounds-of_range x (base slot s.plan) (slice_index s.plan.sizes slot) there in
    let sizes : s.plan.sizes ≡ sizes_from ls 0 n = k.sizes h in
    let low : i < slice_index s.plan.sizes slot = omega (arith, in_slot.0, in_slot.1) in
    let base_is : base slot s.plan ≡ sum (take slot s.plan.sizes) = ap (λ (b : Bool). if b then sum (take slot s.plan.sizes) else 0) e in
    let base_of : base slot s.plan ≡ sum (take slot (sizes_from ls 0 n)) = base_is ∙ ap (λ (ns : List ℕ). sum (take slot ns)) sizes in
    let at : sum (take slot (sizes_from ls 0 n)) + i ≡ x = omega (arith, base_of, in_slot.0) in
    let own : key w s.books ≡ slot = ap (λ (m : ModeKind). if is_each m then slot else 0) (sym k.mode) ∙ ap (λ (b : Bool). if b then slot else 0) e in
    let zero_more : 0 + slot ≡ slot = omega arith in
    ap (λ (m : ℕ). slice_index_or (ids_at m ls) i []) (own ∙ sym zero_more) ∙ sym (id-there ls 0 n slot i (subst (λ (ns : List ℕ). i < slice_index ns slot) sizes low))
    ∙ ap (λ (m : ℕ). slice_index_or (ids_from ls 0 n) m []) at

-- in every other mode, by the test's number
pub id-other : (s : State) (w x : ℕ) → Listing s → is_each s.plan.mode ≡ false → id_of w x s ≡ slice_index_or (item_ids s.books) x []
id-other s w x k e =
    let ls = s.books.lists in
    let plain : is_each s.books.settings.mode ≡ false = ap is_each (sym k.mode) ∙ e in
    let own : key w s.books ≡ 0 = ap (λ (b : Bool). if b then slot_of w s.books else 0) plain in
    let one : slots s.books.settings ≡ 1 = ap (λ (b : Bool). if b then s.books.settings.workers else 1) plain in
    ap (λ (m : ℕ). slice_index_or (ids_at m ls) x []) own ∙ ap (λ (ids : List (List ℕ)). slice_index_or ids x []) (sym (append-nil (ids_at 0 ls)))
    ∙ ap (λ (n : ℕ). slice_index_or (ids_from ls 0 n) x []) (sym one)

-- once the tests are shared the ids stay

ids-kept : (o : Option Listed) (l : Listed) (ls : List Listed) (a n : ℕ) → ((k : ℕ) → a ≤ k → k < a + n → is_some (listed_in k ls) ≡ true) → ids_from (lists_with o l ls) a n ≡ ids_from ls a n
ids-kept o l ls a zero h = refl
ids-kept o l ls a (suc n) h =
    let here : ids_at a (lists_with o l ls) ≡ ids_at a ls =
    ap (λ (x : Option Listed). elim x as (λ _. List (List ℕ)) [ None ↦ [] | Some y ↦ y.ids ]) (listed-kept a o l ls (h a (omega arith) (omega arith))) in
    let rest = ids-kept o l ls (a + 1) n (λ k p q. h k (omega (arith, p)) (omega (arith, q))) in
    ap (λ (xs : List (List ℕ)). xs ++ ids_from (lists_with o l ls) (a + 1) n) here ∙ ap (λ (xs : List (List ℕ)). ids_at a ls ++ xs) rest

-- the tests stay shared after an entry, and their ids stay
pub record Stays (s t : State) : Type 0 where
  pub shared : t.books.shared ≡ true
  pub ids : item_ids t.books ≡ item_ids s.books

stays-collected : (s : State) (w : ℕ) (g : Ids) → Listing s → s.books.shared ≡ true → Stays s (after_effect s (Collected w g))
stays-collected s w g k h =
    let now = in_books (λ b. marked (made_collected w) (with_list w g b)) s in
    let o = listed w s.books in
    let new : Listed = record { slot = key w s.books; worker = w; ids = ids_of g } in
    let stop = unequal w g o in
    let same : item_ids now.books ≡ item_ids s.books = ids-kept o new s.books.lists 0 (slots s.books.settings) (λ i a b. k.all h i (omega (arith, b))) in
    let P = λ (u : State). item_ids u.books ≡ item_ids s.books in
    record { shared = still_shared s w g h; ids = collecting-keeps P now w stop same same same (λ n. same) }

pub stays : (s : State) (e : Entry) → Listing s → s.books.shared ≡ true → Stays s (after_effect s e)
stays s (Collected w g) k h = stays-collected s w g k h
stays s (Ready w) k h = record { shared = h; ids = refl }
stays s (Done w i u m o) k h = record { shared = h; ids = refl }
stays s (Back w is) k h = record { shared = h; ids = refl }
stays s (Finished w) k h = record { shared = h; ids = refl }
stays s (Refused w t) k h = record { shared = h; ids = refl }
stays s (Down w c o) k h = record { shared = h; ids = refl }
stays s (NotStarted w) k h = record { shared = h; ids = refl }
stays s (Start w slot) k h = record { shared = h; ids = refl }
stays s (Run w is) k h = record { shared = h; ids = refl }
stays s (RunAll w) k h = record { shared = h; ids = refl }
stays s (Steal w is) k h = record { shared = h; ids = refl }
stays s (Shutdown w) k h = record { shared = h; ids = refl }
stays s (Kill w) k h = record { shared = h; ids = refl }
stays s (Over how) k h = record { shared = h; ids = refl }
