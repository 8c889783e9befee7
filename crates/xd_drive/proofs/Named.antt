-- The report of a whole journal names each item by its id.
use Rattle.std.proofs.Common.{◌≡◌, ℕ, ◌+◌, ◌-◌, List, [], ◌∷◌, ◌++◌, map, take, Bool, true, false, refl, ap, sym, ◌∙◌, subst, arith, inl, inr}
use Rattle.std.specs.Prelude.{if◌then◌else◌, filter, slice_index_or, sum, Some}
use Rattle.std.specs.List.{list_any}
use Rattle.std.proofs.lemmas.Bool.Decides.{nat_tests}
use Rattle.xd_journal.specs.declared.settings.Settings.{Settings}
use Rattle.xd_journal.specs.declared.entry.Outcome.{Outcome}
use Rattle.xd_journal.specs.declared.entry.RunStop.TheVariants.{OutFault}
use Rattle.xd_journal.specs.declared.entry.Entry.{Entry}
use Rattle.xd_journal.specs.declared.entry.Entry.TheVariants.{Ready, Collected, Done, Back, Finished, Refused, Down, NotStarted, Start, Run, RunAll, Steal, Shutdown, Kill, Over}
use Rattle.xd_journal.specs.declared.journal.Journal.{Journal}
use Rattle.xd_run.specs.declared.member.Member.{Member}
use Rattle.xd_run.specs.Numbers.{among, first_of}
use Rattle.xd_run.specs.Table.{held}
use Rattle.xd_run.specs.Plan.{base, is_each, items_named}
use Rattle.xd_run.specs.Books.{Books}
use Rattle.xd_run.specs.Workers.{is_active, slot_of}
use Rattle.xd_run.specs.Ending.{ending}
use Rattle.xd_run.specs.Histories.{after_starts, journal_of, after_inputs}
use Rattle.xd_run.specs.Orderly.{is_orderly}
use Rattle.xd_run.specs.Proper.{is_head, may_follow}
use Rattle.xd_run.specs.Reports.{Report, Result, Crash, item_of}
use Rattle.xd_run.specs.Sharing.{State}
use Rattle.xd_run.specs.State.{after_entries, after_effect, after_entry, no_one, reached}
use Rattle.xd_run_laws.specs.Whole.{IsWhole}
use Rattle.xd_run_laws.proofs.Laws.{journal-keeps}
use Rattle.xd_run_laws.proofs.Logic.{cases_of, differ, split-and}
use Rattle.xd_run_laws.proofs.Placed.{Placed, head_among, one_item, shared-of_held}
use Rattle.xd_run_laws.proofs.Shared.{Listing, keeps_listing, listing-none}
use Rattle.xd_run_laws.proofs.Slots.{OwnSlot, own-input, own-none, own-output}
use Rattle.xd_run_laws.proofs.Walk.{Keeps}
use Rattle.xd_run_laws.proofs.Whole.{state-whole}
use Rattle.xd_report.specs.EachReport.{id_in}
use Rattle.xd_report.specs.Tests.{id_of, item_id}
use Rattle.xd_report.proofs.Named.{AllRight, Right, blocks-by, lines-by}
use Rattle.xd_drive.specs.ItemIds.{NamesItems, ids_in, item_ids}
use Rattle.xd_drive.proofs.Ids.{id-each, id-other, stays}

-- the id of an item that a worker holds, by the worker's number for it
held-id : (s : State) (w x : ℕ) → Placed s → Listing s → OwnSlot s → among x (held w s.books.table) ≡ true → item_id w x s ≡ slice_index_or (item_ids s.books) x []
held-id s w x p k q h = elim (cases_of (is_each s.plan.mode)) [
  | inl e ↦ id-each s w x k (shared-of_held s w x p h) e (q e w x h).1
  | inr e ↦
      (let slot = slot_of w s.books in
      let none : base slot s.plan ≡ 0 = ap (λ (b : Bool). if b then sum (take slot s.plan.sizes) else 0) e in
      let same : x - base slot s.plan ≡ x = omega (arith, none) in
      ap (λ (i : ℕ). id_of w i s) same ∙ id-other s w x k e)
]

-- the worker's number for an item
number-of : (slot i x : ℕ) (s : State) → items_named slot (i ∷ []) s.plan ≡ x ∷ [] → i ≡ x - base slot s.plan
number-of slot i x s h = elim (cases_of (is_each s.plan.mode)) [
  | inl e ↦
      (let b = base slot s.plan in
      let there : (b + i) ∷ [] ≡ x ∷ [] = sym (ap (λ (c : Bool). if c then map (λ y. b + y) (i ∷ []) else (i ∷ [])) e) ∙ h in
      let same : b + i ≡ x = cc in
      omega (arith, same))
  | inr e ↦
      (let b = base slot s.plan in
      let none : b ≡ 0 = ap (λ (c : Bool). if c then sum (take slot s.plan.sizes) else 0) e in
      let there : i ∷ [] ≡ x ∷ [] = sym (ap (λ (c : Bool). if c then map (λ y. b + y) (i ∷ []) else (i ∷ [])) e) ∙ h in
      let same : i ≡ x = cc in
      omega (arith, same, none))
]

first-among : (x : ℕ) (xs : List ℕ) → first_of xs ≡ Some x → among x xs ≡ true
first-among x [] h = absurd cc
first-among x (y ∷ ys) h = (let same : y ≡ x = cc in grind (arith, nat_tests, same))

-- the ids of the items, once the tests are shared
abbrev IsName : (Report → List ℕ) → State → Type 0
IsName name s = s.books.shared ≡ true → name ≡ id_in (item_ids s.books)

module _ (name : Report → List ℕ) (s : State) (p : Placed s) (k : Listing s) (q : OwnSlot s) (is : IsName name s) where
  named-held : (w x : ℕ) (r : Report) → item_of r ≡ x → among x (held w s.books.table) ≡ true → item_id w x s ≡ name r
  named-held w x r of h =
      held-id s w x p k q h ∙ ap (λ (y : ℕ). slice_index_or (item_ids s.books) y []) (sym of) ∙ ap (λ (f : Report → List ℕ). f r) (sym (is (shared-of_held s w x p h)))

  said-done : (w i : ℕ) (u : Outcome) (m : ℕ) (o : List ℕ) → may_follow s (Done w i u m o) ≡ true → Right name s (Done w i u m o)
  said-done w i u m o h item items =
      let named = items_named (slot_of w s.books) (i ∷ []) s.plan in
      let a = split-and (is_active w s.books) (list_any (λ x. is_head w x s) named) h in
      let one = one_item (slot_of w s.books) i s.plan (λ x. is_head w x s) a.1 in
      let both : one.0 ∷ [] ≡ item ∷ [] = sym one.1 ∙ items in
      let same : one.0 ≡ item = cc in
      let there : among item (held w s.books.table) ≡ true = subst (λ (x : ℕ). among x (held w s.books.table) ≡ true) same (head_among w (one.0) s one.2) in
      ap (λ (n : ℕ). id_of w n s) (number-of (slot_of w s.books) i item s items) ∙ named-held w item (Result w item u) refl there

  said-right : (e : Entry) → may_follow s e ≡ true → Right name s e
  said-right (Done w i u m o) h = said-done w i u m o h
  said-right (Down w c o) h = λ item first. named-held w item (Crash w item) refl (first-among item (held w s.books.table) first)
  said-right (Ready w) h = tt
  said-right (Collected w g) h = tt
  said-right (Back w is) h = tt
  said-right (Finished w) h = tt
  said-right (Refused w t) h = tt
  said-right (NotStarted w) h = tt
  said-right (Start w slot) h = tt
  said-right (Run w is) h = tt
  said-right (RunAll w) h = tt
  said-right (Steal w is) h = tt
  said-right (Shutdown w) h = tt
  said-right (Kill w) h = tt
  said-right (Over how) h = tt

told-right : (name : Report → List ℕ) (s : State) (e : Entry) → is_orderly s e ≡ true → Right name s e
told-right name s (Start w slot) h = tt
told-right name s (Run w is) h = tt
told-right name s (RunAll w) h = tt
told-right name s (Steal w is) h = tt
told-right name s (Shutdown w) h = tt
told-right name s (Kill w) h = tt
told-right name s (Over how) h = tt
told-right name s (Ready w) h = tt
told-right name s (Collected w g) h = tt
told-right name s (Done w i u m o) h = absurd (differ h)
told-right name s (Back w is) h = tt
told-right name s (Finished w) h = tt
told-right name s (Refused w t) h = tt
told-right name s (Down w c o) h = absurd (differ h)
told-right name s (NotStarted w) h = tt

right-append : (name : Report → List ℕ) (s : State) (xs ys : List Entry) → AllRight name s xs → AllRight name (after_entries s xs) ys → AllRight name s (xs ++ ys)
right-append name s [] ys a b = b
right-append name s (x ∷ xs) ys a b = (a.0, right-append name (after_entry s x) xs ys a.1 b)

-- along a journal: where the tests are shared, all entries so far name their items by their ids
record Named (settings : Settings) (s : State) (es : List Entry) : Type 0 where
  listing : Listing s
  in_slots : OwnSlot s
  right : (name : Report → List ℕ) → IsName name s → AllRight name (no_one settings) es

-- a name by the ids after an entry is one by those before it
name-before : (name : Report → List ℕ) (s : State) (e : Entry) → Listing s → IsName name (after_effect s e) → IsName name s
name-before name s e k is h = (let t = stays s e k h in is t.shared ∙ ap id_in t.ids)

named-more : (settings : Settings) (s : State) (es : List Entry) (e : Entry) → s ≡ reached (after_entries (no_one settings) es) e → Named settings s es → Listing (after_effect s e) → OwnSlot (after_effect s e)
    → ((name : Report → List ℕ) → IsName name s → Right name s e) → Named settings (after_effect s e) (es ++ e ∷ [])
named-more settings s es e at k listing in_slots right = record {
  listing = listing;
  in_slots = in_slots;
  right = λ name is.
      (let before = name-before name s e k.listing is in
      right-append name (no_one settings) es (e ∷ []) (k.right name before) (subst (λ (u : State). Right name u e) at (right name before), tt));
}

keeps_named : (settings : Settings) → Keeps settings (Named settings)
keeps_named settings = record {
  said = λ s es e d h at k. named-more settings s es e at k (keeps.said s es e d h at k.listing) (own-input s e h d.placed k.in_slots) (λ name is. said-right name s d.placed k.listing k.in_slots is e h);
  told = λ s es e p h at k. named-more settings s es e at k (keeps.told s es e p h at k.listing) (own-output s e h p k.in_slots) (λ name is. told-right name s e h);
  settled = λ s es k. record { listing = keeps.settled s es k.listing; in_slots = k.in_slots; right = k.right };
}
  where
    keeps : Keeps settings (λ s es. Listing s)
    keeps = keeps_listing settings

named-none : (settings : Settings) → Named settings (no_one settings) []
named-none settings = record { listing = listing-none settings; in_slots = own-none settings; right = λ name is. tt }

-- the end names nothing

kills-right : (name : Report → List ℕ) (s : State) (ms : List Member) → AllRight name s (map (λ (m : Member). Kill m.worker) ms ++ Over OutFault ∷ [])
kills-right name s [] = (tt, tt)
kills-right name s (m ∷ ms) = (tt, kills-right name s ms)

end-right : (name : Report → List ℕ) (s : State) (failed : Bool) (b : Books) → AllRight name s (ending failed b)
end-right name s true b = kills-right name s (filter (λ m. m.active) b.members)
end-right name s false b = (tt, tt)

pub names-items : (j : Journal) → IsWhole j → NamesItems j
names-items j w =
    let es = journal_of j.settings w.inputs in
    let end = after_inputs (after_starts j.settings) w.inputs in
    let name : Report → List ℕ = id_in (ids_in j) in
    let k : Named j.settings end es = journal-keeps j.settings w.inputs (Named j.settings) (keeps_named j.settings) w.proper (named-none j.settings) in
    let is : IsName name end = λ h. ap (λ (s : State). id_in (item_ids s.books)) (state-whole j w) in
    let right : AllRight name (no_one j.settings) j.entries.items =
    subst (λ (xs : List Entry). AllRight name (no_one j.settings) xs) (sym w.entries)
    (right-append name (no_one j.settings) es (ending w.out_failed end.books) (k.right name is) (end-right name (after_entries (no_one j.settings) es) w.out_failed end.books)) in
    record { lines = lines-by name j.settings (no_one j.settings) j.entries.items refl right; blocks = blocks-by name j.settings (no_one j.settings) j.entries.items refl right }
