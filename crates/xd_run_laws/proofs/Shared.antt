-- Once the tests are shared, the run has those that were collected.
use Rattle.std.proofs.Common.{◌≡◌, ℕ, zero, suc, ◌+◌, ◌≤◌, ◌<◌, List, [], ◌∷◌, ◌++◌, length, map, Bool, true, false, not, refl, ap, sym, ◌∙◌, subst, arith, inl, inr}
use Rattle.std.specs.Prelude.{◌==◌, if◌then◌else◌, Option, Some, None, is_some}
use Rattle.std.proofs.lemmas.Bool.Decides.{nat_tests}
use Rattle.xd_edge.specs.declared.mode.ModeKind.{ModeKind}
use Rattle.xd_journal.specs.declared.settings.Settings.{Settings}
use Rattle.xd_journal.specs.declared.entry.Ids.{Ids}
use Rattle.xd_journal.specs.declared.entry.Entry.{Entry}
use Rattle.xd_journal.specs.declared.entry.Entry.TheVariants.{Ready, Collected, Done, Back, Finished, Refused, Down, NotStarted, Start, Run, RunAll, Steal, Shutdown, Kill, Over}
use Rattle.xd_run.specs.declared.member.Member.{Member}
use Rattle.xd_run.specs.declared.member.Listed.{Listed}
use Rattle.xd_run.specs.declared.seat.Seat.{Seat}
use Rattle.xd_run.specs.Numbers.{among, without}
use Rattle.xd_run.specs.Table.{Table, at_seat, in_rota, joined, without_seat, workers_of}
use Rattle.xd_run.specs.Plan.{is_each, items_named, slot_items}
use Rattle.xd_run.specs.Books.{marked}
use Rattle.xd_run.specs.Workers.{slot_in, slot_of, started, made_ready, made_collected, made_shut, made_gone}
use Rattle.xd_run.specs.Collections.{ids_of, key, listed, listed_in, lists_with, unequal, with_list}
use Rattle.xd_run.specs.Sharing.{State, ids_at, in_books, shared_now, sizes_from}
use Rattle.xd_run.specs.Results.{completed_first}
use Rattle.xd_run.specs.State.{after_effect, no_one}
use Rattle.xd_run.specs.Proper.{may_follow}
use Rattle.xd_run.specs.Orderly.{is_orderly}
use Rattle.xd_run_laws.specs.Collected.{slots}
use Rattle.xd_run_laws.proofs.Logic.{differ, cases_of, split-and, split-or}
use Rattle.xd_run_laws.proofs.Rota.{has_seat, seat-among, seat-change, seat-joined, seat-left}
use Rattle.xd_run_laws.proofs.Pigeons.{all-taken, among-image, image-once}
use Rattle.xd_run_laws.proofs.Members.{has-member}
use Rattle.xd_run_laws.proofs.MembersFit.{slot-marked, slot-old}
use Rattle.xd_run_laws.proofs.Placed.{Placed}
use Rattle.xd_run_laws.proofs.Turns.{Tidy}
use Rattle.xd_run_laws.proofs.Inputs.{collecting-full, tidy-input}
use Rattle.xd_run_laws.proofs.EachTurns.{rota-apart, rota-distinct}
use Rattle.xd_run_laws.proofs.Walk.{Keeps}

-- a collection that stands stays

listed-more : (k : ℕ) (l : Listed) (ls : List Listed) → is_some (listed_in k ls) ≡ true → listed_in k (ls ++ l ∷ []) ≡ listed_in k ls
listed-more k l [] h = absurd (differ h)
listed-more k l (x ∷ ls) h =
    (elim (x.slot == k) as (λ b. is_some (if b then Some x else listed_in k ls) ≡ true → (if b then Some x else listed_in k (ls ++ l ∷ [])) ≡ (if b then Some x else listed_in k ls))
    [ true ↦ λ q. refl | false ↦ λ q. listed-more k l ls q ]) h

listed-new : (k : ℕ) (l : Listed) (ls : List Listed) → (l.slot == k) ≡ true → is_some (listed_in k (ls ++ l ∷ [])) ≡ true
listed-new k l [] h = rw h
listed-new k l (x ∷ ls) h = elim (x.slot == k) as (λ b. is_some (if b then Some x else listed_in k (ls ++ l ∷ [])) ≡ true) [ true ↦ refl | false ↦ listed-new k l ls h ]

pub listed-kept : (k : ℕ) (o : Option Listed) (l : Listed) (ls : List Listed) → is_some (listed_in k ls) ≡ true → listed_in k (lists_with o l ls) ≡ listed_in k ls
listed-kept k None l ls h = listed-more k l ls h
listed-kept k (Some first) l ls h = refl

listed-with : (k : ℕ) (o : Option Listed) (l : Listed) (ls : List Listed) → listed_in k ls ≡ o → (l.slot == k) ≡ true → is_some (listed_in k (lists_with o l ls)) ≡ true
listed-with k None l ls e h = listed-new k l ls h
listed-with k (Some first) l ls e h = ap (λ (x : Option Listed). is_some x) e

sizes-kept : (o : Option Listed) (l : Listed) (ls : List Listed) (a n : ℕ) → ((k : ℕ) → a ≤ k → k < a + n → is_some (listed_in k ls) ≡ true) → sizes_from (lists_with o l ls) a n ≡ sizes_from ls a n
sizes-kept o l ls a zero h = refl
sizes-kept o l ls a (suc n) h =
    let here : ids_at a (lists_with o l ls) ≡ ids_at a ls =
    ap (λ (x : Option Listed). elim x as (λ _. List (List ℕ)) [ None ↦ [] | Some y ↦ y.ids ]) (listed-kept a o l ls (h a (omega arith) (omega arith))) in
    let rest = sizes-kept o l ls (a + 1) n (λ k p q. h k (omega (arith, p)) (omega (arith, q))) in
    ap (λ (x : List (List ℕ)). length x ∷ sizes_from (lists_with o l ls) (a + 1) n) here ∙ ap (λ (xs : List ℕ). length (ids_at a ls) ∷ xs) rest

-- whoever joined has a collection to be compared with, and once the tests are shared each slot has one, and they are of
-- these sizes
pub record Listing (s : State) : Type 0 where
  pub mode : s.plan.mode ≡ s.books.settings.mode
  pub joined : (w : ℕ) → in_rota w s.books.table ≡ true → is_some (listed w s.books) ≡ true
  pub sizes : s.books.shared ≡ true → s.plan.sizes ≡ sizes_from s.books.lists 0 (slots s.books.settings)
  pub all : s.books.shared ≡ true → (k : ℕ) → k < slots s.books.settings → is_some (listed_in k s.books.lists) ≡ true

-- a collection stands for a worker of this slot
abbrev AtSlot : State → ℕ → Type 0
AtSlot s slot = is_some (listed_in (if is_each s.books.settings.mode then slot else 0) s.books.lists) ≡ true

at-slot : (s : State) (a b : ℕ) → b ≡ a → AtSlot s a → AtSlot s b
at-slot s a b e h = subst (λ (n : ℕ). AtSlot s n) (sym e) h

at-marked : (s : State) (v : ℕ) (change : Member → Member) → ((m : Member) → (change m).worker ≡ m.worker) → ((m : Member) → (change m).slot ≡ m.slot)
    → AtSlot s (slot_in v s.books.members) → AtSlot s (slot_in v (map change s.books.members))
at-marked s v change a b h = at-slot s (slot_in v s.books.members) (slot_in v (map change s.books.members)) (slot-marked v change s.books.members a b) h

-- the share

length-mapped : {A B : Type 0} (f : A → B) (xs : List A) → length (map f xs) ≡ length xs
length-mapped f [] = refl
length-mapped f (x ∷ xs) = ap (λ (n : ℕ). suc n) (length-mapped f xs)

-- where as many joined as there are slots, each slot is taken
slot-taken : (s : State) → Tidy s → length s.books.table.rota ≡ s.books.settings.workers → (k : ℕ) → k < s.books.settings.workers
    → (w : ℕ) × (in_rota w s.books.table ≡ true) × (slot_of w s.books ≡ k)
slot-taken s d full k l =
    let ws = workers_of s.books.table in
    let rota = s.books.table.rota in
    let n = s.books.settings.workers in
    let f = λ (w : ℕ). slot_of w s.books in
    let low : (x : ℕ) → among x (map f ws) ≡ true → x < n = λ x a.
    (let r = among-image f x ws a in
    let b = d.members.below r.0 (has-member r.0 (λ m. m.active) s.books.members (d.placed.fits.active r.0 (seat-among r.0 rota ∙ r.1))) in
    subst (λ (y : ℕ). y < n) r.2 b) in
    let count : length (map f ws) ≡ n = length-mapped f ws ∙ length-mapped (λ (x : Seat). x.worker) rota ∙ full in
    let a = among-image f k ws (all-taken k n (map f ws) (image-once f ws (rota-distinct s d) (rota-apart s d)) low count l) in
    (a.0, seat-among a.0 rota ∙ a.1, a.2)

-- so each slot has a collection
all-listed : (s : State) → Tidy s → length s.books.table.rota ≡ s.books.settings.workers → (w : ℕ) → in_rota w s.books.table ≡ true
    → ((v : ℕ) → in_rota v s.books.table ≡ true → is_some (listed v s.books) ≡ true) → (k : ℕ) → k < slots s.books.settings → is_some (listed_in k s.books.lists) ≡ true
all-listed s d full w r joined k low =
    let ls = s.books.lists in
    let at : (v : ℕ) (b : Bool) → is_each s.books.settings.mode ≡ b → is_some (listed v s.books) ≡ true → is_some (listed_in (if b then slot_of v s.books else 0) ls) ≡ true =
    λ v b e h. subst (λ (c : Bool). is_some (listed_in (if c then slot_of v s.books else 0) ls) ≡ true) e h in
    let below : (b : Bool) → is_each s.books.settings.mode ≡ b → k < (if b then s.books.settings.workers else 1) =
    λ b e. subst (λ (c : Bool). k < (if c then s.books.settings.workers else 1)) e low in
    elim (cases_of (is_each s.books.settings.mode)) [
      | inl e ↦
          (let a = slot-taken s d full k (below true e) in
          subst (λ (n : ℕ). is_some (listed_in n ls) ≡ true) a.2 (at a.0 true e (joined a.0 a.1)))
      | inr e ↦
          (let one : k < 1 = below false e in
          let none : k ≡ 0 = omega (arith, one) in
          subst (λ (n : ℕ). is_some (listed_in n ls) ≡ true) (sym none) (at w false e (joined w r)))
    ]

-- a worker collects

listing-marked : (s : State) (w : ℕ) (g : Ids) → Listing s → Listing (in_books (λ b. marked (made_collected w) (with_list w g b)) s)
listing-marked s w g k =
    let ls = s.books.lists in
    let o = listed w s.books in
    let new : Listed = record { slot = key w s.books; worker = w; ids = ids_of g } in
    let each = is_each s.books.settings.mode in
    record {
      mode = k.mode;
      joined = λ v r.
          (let slot = slot_in v (map (made_collected w) s.books.members) in
          let stands : AtSlot s slot = at-marked s v (made_collected w) (λ m. refl) (λ m. refl) (k.joined v r) in
          ap (λ (x : Option Listed). is_some x) (listed-kept (if each then slot else 0) o new ls stands) ∙ stands);
      sizes = λ h. k.sizes h ∙ sym (sizes-kept o new ls 0 (slots s.books.settings) (λ i a b. k.all h i (omega (arith, b))));
      all = λ h i l. ap (λ (x : Option Listed). is_some x) (listed-kept i o new ls (k.all h i l)) ∙ k.all h i l;
    }

listing-joined : (s : State) (w : ℕ) (g : Ids) → Listing s
    → Listing (in_books (λ b. record b { table = joined w b.table }) (in_books (λ b. marked (made_collected w) (with_list w g b)) s))
listing-joined s w g k =
    let now = in_books (λ b. marked (made_collected w) (with_list w g b)) s in
    let l = listing-marked s w g k in
    let new : Listed = record { slot = key w s.books; worker = w; ids = ids_of g } in
    let seat : Seat = record { worker = w; held = []; shut = false } in
    let same : (key w s.books == key w s.books) ≡ true = grind (arith, nat_tests) in
    let here : AtSlot now (slot_of w s.books) = listed-with (key w s.books) (listed w s.books) new s.books.lists refl same in
    let own : AtSlot now (slot_of w now.books) =
    at-slot now (slot_of w s.books) (slot_of w now.books) (slot-marked w (made_collected w) s.books.members (λ m. refl) (λ m. refl)) here in
    record {
      mode = l.mode;
      joined = λ v r. elim (split-or (in_rota v s.books.table) (w == v) (sym (seat-joined v s.books.table.rota seat) ∙ r)) [
        | inl a ↦ l.joined v a
        | inr a ↦ (let e : w ≡ v = grind (arith, nat_tests, a) in subst (λ (u : ℕ). AtSlot now (slot_of u now.books)) e own)
      ];
      sizes = l.sizes;
      all = l.all;
    }

listing-collected : (s : State) (w : ℕ) (g : Ids) → may_follow s (Collected w g) ≡ true → Tidy s → Listing s → Listing (after_effect s (Collected w g))
listing-collected s w g h d k =
    let now = in_books (λ b. marked (made_collected w) (with_list w g b)) s in
    let j = in_books (λ b. record b { table = joined w b.table }) now in
    let stop = unequal w g (listed w s.books) in
    let marked_ = listing-marked s w g k in
    let joined_ = listing-joined s w g k in
    let seat : Seat = record { worker = w; held = []; shut = false } in
    let own : in_rota w j.books.table ≡ true = seat-joined w s.books.table.rota seat ∙ grind (arith, nat_tests) in
    collecting-full (λ (u : State). Tidy u → Listing u) now w stop (λ t. marked_)
    (λ t. record { mode = marked_.mode; joined = marked_.joined; sizes = marked_.sizes; all = marked_.all })
    (λ t. joined_)
    (λ full t. record {
      mode = joined_.mode;
      joined = joined_.joined;
      sizes = λ q. ap (λ (m : ModeKind). sizes_from j.books.lists 0 (if is_each m then j.books.settings.workers else 1)) joined_.mode;
      all = λ q. (let count : length j.books.table.rota ≡ j.books.settings.workers =
          grind (arith, nat_tests, (split-and (not j.books.shared) (length j.books.table.rota == j.books.settings.workers) full).1) in
          all-listed (shared_now j) t count w own joined_.joined);
    })
    (tidy-input s (Collected w g) h d)

-- an entry that leaves the collections

rota-first : (v w : ℕ) (items : List ℕ) (t : Table) → in_rota v (completed_first w items t) ≡ in_rota v t
rota-first v w [] t = refl
rota-first v w (i ∷ is) t = seat-change v w (λ s. record s { held = without (i ∷ []) s.held }) t.rota (λ s. refl)

still-in : (v w : ℕ) (ss : List Seat) → has_seat v (without_seat w ss) ≡ true → has_seat v ss ≡ true
still-in v w ss h = (split-and (not (v == w)) (has_seat v ss) (sym (seat-left v w ss) ∙ h)).1

listing-gone : (s : State) (w : ℕ) → Listing s → Listing (after_effect s (NotStarted w))
listing-gone s w k = record {
  mode = k.mode;
  joined = λ v r. at-marked s v (made_gone w) (λ m. refl) (λ m. refl) (k.joined v (still-in v w s.books.table.rota r));
  sizes = k.sizes;
  all = k.all;
}

listing-said : (s : State) (e : Entry) → Tidy s → may_follow s e ≡ true → Listing s → Listing (after_effect s e)
listing-said s (Ready w) d h k = record { mode = k.mode; joined = λ v r. at-marked s v (made_ready w) (λ m. refl) (λ m. refl) (k.joined v r); sizes = k.sizes; all = k.all }
listing-said s (Collected w g) d h k = listing-collected s w g h d k
listing-said s (Done w i u m o) d h k =
    let items = items_named (slot_of w s.books) (i ∷ []) s.plan in
    record { mode = k.mode; joined = λ v r. k.joined v (sym (rota-first v w items s.books.table) ∙ r); sizes = k.sizes; all = k.all }
listing-said s (Back w is) d h k =
    let items = items_named (slot_of w s.books) is s.plan in
    record {
      mode = k.mode;
      joined = λ v r. k.joined v (sym (seat-change v w (λ x. record x { held = without items x.held }) s.books.table.rota (λ x. refl)) ∙ r);
      sizes = k.sizes;
      all = k.all;
    }
listing-said s (Finished w) d h k = record {
  mode = k.mode;
  joined = λ v r. at-marked s v (made_gone w) (λ m. refl) (λ m. refl) (k.joined v (still-in v w s.books.table.rota r));
  sizes = k.sizes;
  all = k.all;
}
listing-said s (Refused w t) d h k = record { mode = k.mode; joined = λ v r. at-marked s v (made_gone w) (λ m. refl) (λ m. refl) (k.joined v r); sizes = k.sizes; all = k.all }
listing-said s (Down w c o) d h k = (let n = listing-gone s w k in record { mode = n.mode; joined = n.joined; sizes = n.sizes; all = n.all })
listing-said s (NotStarted w) d h k = listing-gone s w k
listing-said s (Start w slot) d h k = absurd (differ h)
listing-said s (Run w is) d h k = absurd (differ h)
listing-said s (RunAll w) d h k = absurd (differ h)
listing-said s (Steal w is) d h k = absurd (differ h)
listing-said s (Shutdown w) d h k = absurd (differ h)
listing-said s (Kill w) d h k = absurd (differ h)
listing-said s (Over how) d h k = absurd (differ h)

listing-assigned : (s : State) (w : ℕ) (items : List ℕ) → Listing s → (v : ℕ) → has_seat v (at_seat w (λ x. record x { held = x.held ++ items }) s.books.table.rota) ≡ true → is_some (listed v s.books) ≡ true
listing-assigned s w items k v r = k.joined v (sym (seat-change v w (λ x. record x { held = x.held ++ items }) s.books.table.rota (λ x. refl)) ∙ r)

listing-told : (s : State) (e : Entry) → Placed s → is_orderly s e ≡ true → Listing s → Listing (after_effect s e)
listing-told s (Start w slot) p h k = record {
  mode = k.mode;
  joined = λ v r. at-slot s (slot_in v s.books.members) (slot_in v (s.books.members ++ started w slot ∷ []))
      (slot-old v s.books.members (started w slot) (has-member v (λ m. m.active) s.books.members (p.fits.active v r))) (k.joined v r);
  sizes = k.sizes;
  all = k.all;
}
listing-told s (Run w is) p h k = record { mode = k.mode; joined = listing-assigned s w (items_named (slot_of w s.books) is s.plan) k; sizes = k.sizes; all = k.all }
listing-told s (RunAll w) p h k = record { mode = k.mode; joined = listing-assigned s w (slot_items (slot_of w s.books) s.plan) k; sizes = k.sizes; all = k.all }
listing-told s (Steal w is) p h k = record { mode = k.mode; joined = k.joined; sizes = k.sizes; all = k.all }
listing-told s (Shutdown w) p h k = record {
  mode = k.mode;
  joined = λ v r. at-marked s v (made_shut w) (λ m. refl) (λ m. refl) (k.joined v (sym (seat-change v w (λ x. record x { shut = true }) s.books.table.rota (λ x. refl)) ∙ r));
  sizes = k.sizes;
  all = k.all;
}
listing-told s (Kill w) p h k = k
listing-told s (Over how) p h k = k
listing-told s (Ready w) p h k = absurd (differ h)
listing-told s (Collected w g) p h k = absurd (differ h)
listing-told s (Done w i u m o) p h k = absurd (differ h)
listing-told s (Back w is) p h k = absurd (differ h)
listing-told s (Finished w) p h k = absurd (differ h)
listing-told s (Refused w t) p h k = absurd (differ h)
listing-told s (Down w c o) p h k = absurd (differ h)
listing-told s (NotStarted w) p h k = absurd (differ h)

pub keeps_listing : (settings : Settings) → Keeps settings (λ s es. Listing s)
keeps_listing settings = record {
  said = λ s es e d h at k. listing-said s e d h k;
  told = λ s es e p h at k. listing-told s e p h k;
  settled = λ s es k. record { mode = k.mode; joined = k.joined; sizes = k.sizes; all = k.all };
}

pub listing-none : (settings : Settings) → Listing (no_one settings)
listing-none settings = record { mode = refl; joined = λ w h. absurd (differ h); sizes = λ h. absurd (differ h); all = λ h. absurd (differ h) }
