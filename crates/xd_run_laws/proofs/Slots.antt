-- In mode each a worker holds items of its own slot alone.
use Rattle.std.proofs.Common.{◌≡◌, ℕ, ◌≤◌, List, [], ◌∷◌, ◌++◌, map, take, Bool, true, false, ◌&&◌, refl, ap, sym, ◌∙◌, subst, arith, inl, inr}
use Rattle.std.specs.Prelude.{if◌then◌else◌, ◌==◌, ◌⊎◌, sum, slice_index}
use Rattle.std.specs.List.{range_with_len}
use Rattle.std.proofs.lemmas.Bool.Decides.{nat_tests}
use Rattle.xd_edge.specs.declared.mode.ModeKind.{ModeKind}
use Rattle.xd_journal.specs.declared.settings.Settings.{Settings}
use Rattle.xd_journal.specs.declared.entry.Entry.{Entry}
use Rattle.xd_journal.specs.declared.entry.Entry.TheVariants.{Ready, Collected, Done, Back, Finished, Refused, Down, NotStarted, Start, Run, RunAll, Steal, Shutdown, Kill, Over}
use Rattle.xd_run.specs.declared.member.Member.{Member}
use Rattle.xd_run.specs.declared.seat.Seat.{Seat}
use Rattle.xd_run.specs.Numbers.{all_among, all_distinct, among, times, without}
use Rattle.xd_run.specs.Table.{Table, assigned, at_seat, held, held_in, in_rota, joined, without_seat}
use Rattle.xd_run.specs.Plan.{Plan, is_each, items_named, slot_items}
use Rattle.xd_run.specs.Books.{marked}
use Rattle.xd_run.specs.Collections.{listed, unequal, with_list}
use Rattle.xd_run.specs.Workers.{made_collected, made_gone, made_ready, made_shut, slot_in, slot_of, started}
use Rattle.xd_run.specs.Sharing.{State, in_books}
use Rattle.xd_run.specs.Results.{completed_first}
use Rattle.xd_run.specs.State.{after_entries, after_effect, no_one}
use Rattle.xd_run.specs.Orderly.{all_orderly, is_orderly, may_run, not_empty}
use Rattle.xd_run.specs.Proper.{may_follow}
use Rattle.xd_run_laws.proofs.Logic.{cases_of, differ, or-left, split-and}
use Rattle.xd_run_laws.proofs.Counts.{among-times, among_of-all_among, times-among}
use Rattle.xd_run_laws.proofs.Rota.{has_seat, seat-change, seat-left}
use Rattle.xd_run_laws.proofs.Members.{has-member, has-more, has-same, is_member}
use Rattle.xd_run_laws.proofs.MembersFit.{slot-marked, slot-old}
use Rattle.xd_run_laws.proofs.Placed.{Placed, placed-output, shared-of_held}
use Rattle.xd_run_laws.proofs.Turns.{after_entries-first}
use Rattle.xd_run_laws.proofs.Queue.{held-fewer, held-left, held-more, held-none, held-shut}
use Rattle.xd_run_laws.proofs.Inputs.{collecting-keeps}
use Rattle.xd_run_laws.proofs.Pigeons.{none-among}

-- what each move leaves a worker

some-left : (b : Bool) (m n : ℕ) → m ≡ (if b then 0 else n) → 1 ≤ m → 1 ≤ n
some-left true m n e h = absurd (omega (arith, e, h))
some-left false m n e h = omega (arith, e, h)

held-kept : (x v w : ℕ) (items : List ℕ) (ss : List Seat) → among x (held_in v (at_seat w (λ s. record s { held = without items s.held }) ss)) ≡ true → among x (held_in v ss) ≡ true
held-kept x v w items ss h =
    let now = held_in v (at_seat w (λ s. record s { held = without items s.held }) ss) in
    times-among x (held_in v ss) (some-left ((v == w) && among x items) (times x now) (times x (held_in v ss)) (held-fewer x v w items ss) (among-times x now h))

held-either : (x v w : ℕ) (items : List ℕ) (ss : List Seat) → among x (held_in v (at_seat w (λ s. record s { held = s.held ++ items }) ss)) ≡ true
    → (among x (held_in v ss) ≡ true) ⊎ (((v == w) ≡ true) × (among x items ≡ true))
held-either x v w items ss h =
    let f : Seat → Seat = λ s. record s { held = s.held ++ items } in
    elim (cases_of (has_seat v ss)) [
      | inr n ↦ absurd (differ (ap (λ (xs : List ℕ). among x xs) (sym (held-none v (at_seat w f ss) (seat-change v w f ss (λ s. refl) ∙ n))) ∙ h))
      | inl k ↦
          (let e = held-more x v w items ss k in
          let some = among-times x (held_in v (at_seat w f ss)) h in
          elim (cases_of (among x (held_in v ss))) [
            | inl a ↦ inl a
            | inr a ↦
                (let none = none-among x (held_in v ss) a in
                elim (cases_of (v == w)) [
                  | inl q ↦ inr (q, times-among x items (grind (arith, nat_tests, e, some, none, q)))
                  | inr q ↦ absurd (grind (arith, nat_tests, e, some, none, q))
                ])
          ])
    ]

held-went : (x v w : ℕ) (ss : List Seat) → among x (held_in v (without_seat w ss)) ≡ true → among x (held_in v ss) ≡ true
held-went x v w ss h = elim (cases_of (v == w)) [
  | inl k ↦ absurd (differ (ap (λ (xs : List ℕ). among x xs) (sym (held-none v (without_seat w ss) (seat-left v w ss ∙ rw k refl))) ∙ h))
  | inr k ↦ ap (λ (xs : List ℕ). among x xs) (sym (held-left v w ss k)) ∙ h
]

held-came : (x v w : ℕ) (ss : List Seat) → among x (held_in v (ss ++ record { worker = w; held = []; shut = false } ∷ [])) ≡ true → among x (held_in v ss) ≡ true
held-came x v w [] h = grind (arith, nat_tests, h)
held-came x v w (s ∷ ss) h = grind (arith, nat_tests, h, held-came x v w ss)

held-first : (x v w : ℕ) (items : List ℕ) (t : Table) → among x (held v (completed_first w items t)) ≡ true → among x (held v t) ≡ true
held-first x v w [] t h = h
held-first x v w (i ∷ is) t h = held-kept x v w (i ∷ []) t.rota h

-- in mode each whoever holds an item was started, and the item is of its slot
abbrev pub OwnSlot : State → Type 0
OwnSlot s = is_each s.plan.mode ≡ true → (v x : ℕ) → among x (held v s.books.table) ≡ true → (is_member v s.books.members ≡ true) × (among x (slot_items (slot_of v s.books) s.plan) ≡ true)

-- the items of a slot are known by the mode and the sizes
pub slot_items-same : (slot : ℕ) (p q : Plan) → p.sizes ≡ q.sizes → p.mode ≡ q.mode → slot_items slot p ≡ slot_items slot q
slot_items-same slot p q a b =
    ap (λ (k : ModeKind). range_with_len (if is_each k then sum (take slot p.sizes) else 0) (slice_index p.sizes slot)) b
    ∙ ap (λ (ns : List ℕ). range_with_len (if is_each q.mode then sum (take slot ns) else 0) (slice_index ns slot)) a

-- where nobody gets more, and slots and sizes stay
own-by : (s t : State) → ((v x : ℕ) → among x (held v t.books.table) ≡ true → among x (held v s.books.table) ≡ true) → ((v : ℕ) → is_member v s.books.members ≡ true → is_member v t.books.members ≡ true)
    → ((v : ℕ) → is_member v s.books.members ≡ true → slot_in v t.books.members ≡ slot_in v s.books.members) → t.plan.sizes ≡ s.plan.sizes → t.plan.mode ≡ s.plan.mode → OwnSlot s → OwnSlot t
own-by s t less member slot sizes mode k e v x h =
    let o = k (ap is_each (sym mode) ∙ e) v x (less v x h) in (
      member v o.0,
      ap (λ (i : ℕ). among x (slot_items i t.plan)) (slot v o.0) ∙ ap (λ (xs : List ℕ). among x xs) (slot_items-same (slot_in v s.books.members) t.plan s.plan sizes mode) ∙ o.1,
    )

-- so it is where only marks of workers change
own-marked : (s t : State) (change : Member → Member) → ((m : Member) → (change m).worker ≡ m.worker) → ((m : Member) → (change m).slot ≡ m.slot) → t.books.members ≡ map change s.books.members
    → ((v x : ℕ) → among x (held v t.books.table) ≡ true → among x (held v s.books.table) ≡ true) → t.plan.sizes ≡ s.plan.sizes → t.plan.mode ≡ s.plan.mode → OwnSlot s → OwnSlot t
own-marked s t change a b members less sizes mode k =
    own-by s t less
    (λ v m. ap (λ (ms : List Member). is_member v ms) members ∙ has-same v (λ m. true) change s.books.members a (λ m. refl) ∙ m)
    (λ v m. ap (λ (ms : List Member). slot_in v ms) members ∙ slot-marked v change s.books.members a b) sizes mode k

pub own-input : (s : State) (e : Entry) → may_follow s e ≡ true → Placed s → OwnSlot s → OwnSlot (after_effect s e)
own-input s (Ready w) h d k = own-marked s (after_effect s (Ready w)) (made_ready w) (λ m. refl) (λ m. refl) refl (λ v x a. a) refl refl k
own-input s (Collected w g) h d k =
    let now = in_books (λ b. marked (made_collected w) (with_list w g b)) s in
    let j = in_books (λ b. record b { table = joined w b.table }) now in
    let same : OwnSlot now = own-marked s now (made_collected w) (λ m. refl) (λ m. refl) refl (λ v x a. a) refl refl k in
    let come : OwnSlot j = own-marked s j (made_collected w) (λ m. refl) (λ m. refl) refl (λ v x a. held-came x v w s.books.table.rota a) refl refl k in
    collecting-keeps OwnSlot now w (unequal w g (listed w s.books)) same same come
    (λ z e v x a. absurd (differ (sym z ∙ shared-of_held s v x d (held-came x v w s.books.table.rota a))))
own-input s (Done w i u m o) h d k =
    own-by s (after_effect s (Done w i u m o)) (λ v x a. held-first x v w (items_named (slot_of w s.books) (i ∷ []) s.plan) s.books.table a) (λ v z. z) (λ v z. refl) refl refl k
own-input s (Back w is) h d k =
    own-by s (after_effect s (Back w is)) (λ v x a. held-kept x v w (items_named (slot_of w s.books) is s.plan) s.books.table.rota a) (λ v z. z) (λ v z. refl) refl refl k
own-input s (Finished w) h d k = own-marked s (after_effect s (Finished w)) (made_gone w) (λ m. refl) (λ m. refl) refl (λ v x a. held-went x v w s.books.table.rota a) refl refl k
own-input s (Refused w t) h d k = own-marked s (after_effect s (Refused w t)) (made_gone w) (λ m. refl) (λ m. refl) refl (λ v x a. a) refl refl k
own-input s (Down w c o) h d k = own-marked s (after_effect s (Down w c o)) (made_gone w) (λ m. refl) (λ m. refl) refl (λ v x a. held-went x v w s.books.table.rota a) refl refl k
own-input s (NotStarted w) h d k = own-marked s (after_effect s (NotStarted w)) (made_gone w) (λ m. refl) (λ m. refl) refl (λ v x a. held-went x v w s.books.table.rota a) refl refl k
own-input s (Start w slot) h d k = absurd (differ h)
own-input s (Run w is) h d k = absurd (differ h)
own-input s (RunAll w) h d k = absurd (differ h)
own-input s (Steal w is) h d k = absurd (differ h)
own-input s (Shutdown w) h d k = absurd (differ h)
own-input s (Kill w) h d k = absurd (differ h)
own-input s (Over how) h d k = absurd (differ h)

pub own-start : (s : State) (w slot : ℕ) → OwnSlot s → OwnSlot (after_effect s (Start w slot))
own-start s w slot k =
    own-by s (after_effect s (Start w slot)) (λ v x a. a) (λ v m. has-more v (λ m. true) s.books.members (started w slot) ∙ or-left (is_member v s.books.members) (w == v && true) m)
    (λ v m. slot-old v s.books.members (started w slot) m) refl refl k

pub own-shutdown : (s : State) (w : ℕ) → OwnSlot s → OwnSlot (after_effect s (Shutdown w))
own-shutdown s w k =
    own-marked s (after_effect s (Shutdown w)) (made_shut w) (λ m. refl) (λ m. refl) refl (λ v x a. ap (λ (xs : List ℕ). among x xs) (sym (held-shut v w s.books.table.rota)) ∙ a) refl refl k

-- a worker of the rota gets items of its slot
own-given : (s : State) (w : ℕ) (items : List ℕ) (p : Plan) → p.sizes ≡ s.plan.sizes → p.mode ≡ s.plan.mode → Placed s → in_rota w s.books.table ≡ true
    → (is_each s.plan.mode ≡ true → (x : ℕ) → among x items ≡ true → among x (slot_items (slot_of w s.books) s.plan) ≡ true) → OwnSlot s → OwnSlot (record s { books = record (s.books) { table = assigned w items s.books.table }; plan = p })
own-given s w items p sizes mode d rota mine k e v x h =
    let each = ap is_each (sym mode) ∙ e in
    let same = slot_items-same (slot_in v s.books.members) p s.plan sizes mode in
    elim (held-either x v w items s.books.table.rota h) [
      | inl a ↦ (let o = k each v x a in (o.0, ap (λ (xs : List ℕ). among x xs) same ∙ o.1))
      | inr a ↦
          (let q : w ≡ v = grind (arith, nat_tests, a.0) in
          let m : is_member v s.books.members ≡ true = subst (λ (u : ℕ). is_member u s.books.members ≡ true) q (has-member w (λ m. m.active) s.books.members (d.fits.active w rota)) in
          (m, ap (λ (xs : List ℕ). among x xs) same ∙ subst (λ (u : ℕ). among x (slot_items (slot_in u s.books.members) s.plan) ≡ true) q (mine each x a.1)))
    ]

chosen : (b : Bool) (u v : Bool) → b ≡ true → (if b then u else v) ≡ true → u ≡ true
chosen true u v h k = k
chosen false u v h k = absurd (differ h)

own-run : (s : State) (w : ℕ) (is : List ℕ) → is_orderly s (Run w is) ≡ true → Placed s → OwnSlot s → OwnSlot (after_effect s (Run w is))
own-run s w is h d k =
    let slot = slot_of w s.books in
    let items = items_named slot is s.plan in
    let a = split-and (may_run w s && not_empty is && all_distinct items && all_among items s.books.table.pool) (if is_each s.plan.mode then all_among items (slot_items slot s.plan) else true) h in
    let b = split-and (may_run w s && not_empty is && all_distinct items) (all_among items s.books.table.pool) a.0 in
    let c = split-and (may_run w s && not_empty is) (all_distinct items) b.0 in
    let e = split-and (may_run w s) (not_empty is) c.0 in
    let rota = (split-and (in_rota w s.books.table) _ e.0).0 in
    own-given s w items (after_effect s (Run w is)).plan refl refl d rota
    (λ each x z. among_of-all_among x items (slot_items slot s.plan) (chosen (is_each s.plan.mode) (all_among items (slot_items slot s.plan)) true each a.1) z) k

pub own-output : (s : State) (e : Entry) → is_orderly s e ≡ true → Placed s → OwnSlot s → OwnSlot (after_effect s e)
own-output s (Start w slot) h d k = own-start s w slot k
own-output s (Run w is) h d k = own-run s w is h d k
own-output s (RunAll w) h d k =
    let slot = slot_of w s.books in
    let a = split-and (is_each s.plan.mode && s.books.shared && may_run w s) (all_among (slot_items slot s.plan) s.books.table.pool) h in
    let b = split-and (is_each s.plan.mode && s.books.shared) (may_run w s) a.0 in
    own-given s w (slot_items slot s.plan) s.plan refl refl d (split-and (in_rota w s.books.table) _ b.1).0 (λ each x z. z) k
own-output s (Steal w is) h d k = k
own-output s (Shutdown w) h d k = own-shutdown s w k
own-output s (Kill w) h d k = k
own-output s (Over how) h d k = k
own-output s (Ready w) h d k = absurd (differ h)
own-output s (Collected w g) h d k = absurd (differ h)
own-output s (Done w i u m o) h d k = absurd (differ h)
own-output s (Back w i) h d k = absurd (differ h)
own-output s (Finished w) h d k = absurd (differ h)
own-output s (Refused w t) h d k = absurd (differ h)
own-output s (Down w c o) h d k = absurd (differ h)
own-output s (NotStarted w) h d k = absurd (differ h)

pub own-outputs : (s : State) (es : List Entry) → all_orderly s es ≡ true → Placed s → OwnSlot s → OwnSlot (after_entries s es)
own-outputs s [] o d k = k
own-outputs s (e ∷ es) o d k =
    let q = split-and (is_orderly s e) (all_orderly (after_effect s e) es) o in
    subst OwnSlot (sym (after_entries-first s e es q.0))
    (own-outputs (after_effect s e) es q.1 (placed-output s e q.0 d) (own-output s e q.0 d k))

pub own-none : (settings : Settings) → OwnSlot (no_one settings)
own-none settings = λ e v x a. absurd (differ a)
