-- What outputs that start no one leave as it was.
use Rattle.std.proofs.Common.{◌≡◌, ℕ, List, [], ◌∷◌, ◌++◌, Bool, true, false, not, ◌||◌, refl, ap, sym, ◌∙◌, subst, arith}
use Rattle.std.specs.Prelude.{◌==◌}
use Rattle.std.specs.List.{list_all, list_any}
use Rattle.std.proofs.lemmas.Bool.Decides.{nat_tests}
use Rattle.std.proofs.lemmas.List.Folds.{list_all-append}
use Rattle.xd_journal.specs.declared.entry.Entry.{Entry}
use Rattle.xd_journal.specs.declared.entry.Entry.TheVariants.{Ready, Collected, Done, Back, Finished, Refused, Down, NotStarted, Start, Run, RunAll, Steal, Shutdown, Kill, Over}
use Rattle.xd_run.specs.declared.seat.Seat.{Seat}
use Rattle.xd_run.specs.Numbers.{among, without}
use Rattle.xd_run.specs.Table.{Table, seat_shut, workers_of, assigned}
use Rattle.xd_run.specs.Plan.{Plan, items_named, slot_items}
use Rattle.xd_run.specs.Workers.{made_shut, slot_in, slot_of}
use Rattle.xd_run.specs.Sharing.{State}
use Rattle.xd_run.specs.State.{after_effect, after_entries}
use Rattle.xd_run.specs.Turn.{Turn}
use Rattle.xd_run.specs.Modes.{ModeCall}
use Rattle.xd_run.specs.Outputs.{acts_of, turn_of}
use Rattle.xd_run.specs.Orderly.{is_orderly, all_orderly}
use Rattle.xd_run_laws.proofs.Logic.{and, differ, split-and}
use Rattle.xd_run_laws.proofs.Counts.{among-filter}
use Rattle.xd_run_laws.proofs.Members.{has, has-kept, has-same, has-set}
use Rattle.xd_run_laws.proofs.MembersFit.{slot-marked}
use Rattle.xd_run_laws.proofs.Rota.{told-change, workers-change}
use Rattle.xd_run_laws.proofs.Turns.{after_entries-first}
use Rattle.xd_run_laws.proofs.Busy.{told-kept}
use Rattle.xd_run_laws.proofs.Turned.{Kept, turned-keeps}

abbrev pub is_plain : Entry → Bool
is_plain (Run w is) = true
is_plain (RunAll w) = true
is_plain (Steal w is) = true
is_plain (Shutdown w) = true
is_plain (Kill w) = true
is_plain _ = false

abbrev pub all_plain : List Entry → Bool
all_plain es = list_all is_plain es

-- workers may be told to shut down, and items leave the pool
pub record Later (s t : State) : Type 0 where
  pub active : (v : ℕ) → has v (λ m. m.active) t.books.members ≡ has v (λ m. m.active) s.books.members
  pub ready : (v : ℕ) → has v (λ m. m.ready) t.books.members ≡ has v (λ m. m.ready) s.books.members
  pub collected : (v : ℕ) → has v (λ m. m.collected) t.books.members ≡ has v (λ m. m.collected) s.books.members
  pub slots : (v : ℕ) → slot_in v t.books.members ≡ slot_in v s.books.members
  pub shut : (v : ℕ) → has v (λ m. m.shut) s.books.members ≡ true → has v (λ m. m.shut) t.books.members ≡ true
  pub rota : workers_of t.books.table ≡ workers_of s.books.table
  pub told : (v : ℕ) → seat_shut v s.books.table ≡ true → seat_shut v t.books.table ≡ true
  pub pool : (x : ℕ) → among x t.books.table.pool ≡ true → among x s.books.table.pool ≡ true
  pub settings : t.books.settings ≡ s.books.settings
  pub stop : t.books.stop ≡ s.books.stop
  pub shutting : t.books.shutting ≡ s.books.shutting
  pub shared : t.books.shared ≡ s.books.shared
  pub sizes : t.plan.sizes ≡ s.plan.sizes
  pub mode : t.plan.mode ≡ s.plan.mode

-- where only the table and the plan change
later-table : (s : State) (u : Table) (p : Plan) → workers_of u ≡ workers_of s.books.table → ((v : ℕ) → seat_shut v s.books.table ≡ true → seat_shut v u ≡ true)
    → ((x : ℕ) → among x u.pool ≡ true → among x s.books.table.pool ≡ true) → p.sizes ≡ s.plan.sizes → p.mode ≡ s.plan.mode → Later s (record s { books = record (s.books) { table = u }; plan = p })
later-table s u p rota told pool sizes mode = record {
  active = λ v. refl;
  ready = λ v. refl;
  collected = λ v. refl;
  slots = λ v. refl;
  shut = λ v h. h;
  rota = rota;
  told = told;
  pool = pool;
  settings = refl;
  stop = refl;
  shutting = refl;
  shared = refl;
  sizes = sizes;
  mode = mode;
}

pub later-same : (s : State) → Later s s
later-same s = later-table s s.books.table s.plan refl (λ v h. h) (λ x h. h) refl refl

pub later-then : (s t u : State) → Later s t → Later t u → Later s u
later-then s t u a b = record {
  active = λ v. b.active v ∙ a.active v;
  ready = λ v. b.ready v ∙ a.ready v;
  collected = λ v. b.collected v ∙ a.collected v;
  slots = λ v. b.slots v ∙ a.slots v;
  shut = λ v h. b.shut v (a.shut v h);
  rota = b.rota ∙ a.rota;
  told = λ v h. b.told v (a.told v h);
  pool = λ x h. a.pool x (b.pool x h);
  settings = b.settings ∙ a.settings;
  stop = b.stop ∙ a.stop;
  shutting = b.shutting ∙ a.shutting;
  shared = b.shared ∙ a.shared;
  sizes = b.sizes ∙ a.sizes;
  mode = b.mode ∙ a.mode;
}

still-among : (x : ℕ) (those xs : List ℕ) → among x (without those xs) ≡ true → among x xs ≡ true
still-among x those xs h = (split-and (not (among x those)) (among x xs) (sym (among-filter x (λ y. not (among y those)) xs) ∙ h)).1

later-given : (s : State) (w : ℕ) (items : List ℕ) (p : Plan) → p.sizes ≡ s.plan.sizes → p.mode ≡ s.plan.mode
    → Later s (record s { books = record (s.books) { table = assigned w items s.books.table }; plan = p })
later-given s w items p a b =
    let f : Seat → Seat = λ x. record x { held = x.held ++ items } in
    later-table s (assigned w items s.books.table) p (workers-change w f s.books.table.rota (λ x. refl)) (λ v h. told-change v w f s.books.table.rota (λ x. refl) (λ x. refl) ∙ h)
    (λ x h. still-among x items s.books.table.pool h) a b

pub later-shutdown : (s : State) (w : ℕ) → Later s (after_effect s (Shutdown w))
later-shutdown s w =
    let ms = s.books.members in
    record {
      active = λ v. has-same v (λ m. m.active) (made_shut w) ms (λ m. refl) (λ m. refl);
      ready = λ v. has-same v (λ m. m.ready) (made_shut w) ms (λ m. refl) (λ m. refl);
      collected = λ v. has-same v (λ m. m.collected) (made_shut w) ms (λ m. refl) (λ m. refl);
      slots = λ v. slot-marked v (made_shut w) ms (λ m. refl) (λ m. refl);
      shut = λ v h. has-kept v w (λ m. m.shut) (made_shut w) ms (λ m. refl) (λ m. refl) h;
      rota = workers-change w (λ x. record x { shut = true }) s.books.table.rota (λ x. refl);
      told = λ v h. told-kept v w s.books.table.rota h;
      pool = λ x h. h;
      settings = refl;
      stop = refl;
      shutting = refl;
      shared = refl;
      sizes = refl;
      mode = refl;
    }

later-output : (s : State) (e : Entry) → is_plain e ≡ true → Later s (after_effect s e)
later-output s (Run w is) h = later-given s w (items_named (slot_of w s.books) is s.plan) (after_effect s (Run w is)).plan refl refl
later-output s (RunAll w) h = later-given s w (slot_items (slot_of w s.books) s.plan) s.plan refl refl
later-output s (Steal w is) h = later-table s s.books.table (after_effect s (Steal w is)).plan refl (λ v k. k) (λ x k. k) refl refl
later-output s (Shutdown w) h = later-shutdown s w
later-output s (Kill w) h = later-same s
later-output s (Start w slot) h = absurd (differ h)
later-output s (Over how) h = absurd (differ h)
later-output s (Ready w) h = absurd (differ h)
later-output s (Collected w g) h = absurd (differ h)
later-output s (Done w i u m o) h = absurd (differ h)
later-output s (Back w i) h = absurd (differ h)
later-output s (Finished w) h = absurd (differ h)
later-output s (Refused w t) h = absurd (differ h)
later-output s (Down w c o) h = absurd (differ h)
later-output s (NotStarted w) h = absurd (differ h)

pub later-outputs : (s : State) (es : List Entry) → all_orderly s es ≡ true → all_plain es ≡ true → Later s (after_entries s es)
later-outputs s [] o h = later-same s
later-outputs s (e ∷ es) o h =
    let p = split-and (is_plain e) (all_plain es) h in
    let q = split-and (is_orderly s e) (all_orderly (after_effect s e) es) o in
    subst (λ (u : State). Later s u) (sym (after_entries-first s e es q.0)) (later-then s (after_effect s e) (after_entries (after_effect s e) es) (later-output s e p.0) (later-outputs (after_effect s e) es q.1 p.1))

-- the output tells the worker to shut down
abbrev pub tells : ℕ → Entry → Bool
tells v (Shutdown w) = w == v
tells v _ = false

-- whom nobody tells was not told
pub untold-outputs : (v : ℕ) (s : State) (es : List Entry) → all_orderly s es ≡ true → all_plain es ≡ true → list_any (tells v) es ≡ false
    → has v (λ m. m.shut) (after_entries s es).books.members ≡ has v (λ m. m.shut) s.books.members
untold-outputs v s [] o p h = refl
untold-outputs v s (e ∷ es) o p h =
    let q = split-and (is_orderly s e) (all_orderly (after_effect s e) es) o in
    let r = split-and (is_plain e) (all_plain es) p in
    let n = neither (tells v e) (list_any (tells v) es) h in
    ap (λ (u : State). has v (λ m. m.shut) u.books.members) (after_entries-first s e es q.0) ∙ untold-outputs v (after_effect s e) es q.1 r.1 n.1 ∙ one s e r.0 n.0
  where
    neither : (a b : Bool) → (a || b) ≡ false → (a ≡ false) × (b ≡ false)
    neither true b h = absurd (differ (sym h))
    neither false b h = (refl, h)

    one : (s : State) (e : Entry) → is_plain e ≡ true → tells v e ≡ false → has v (λ m. m.shut) (after_effect s e).books.members ≡ has v (λ m. m.shut) s.books.members
    one s (Shutdown w) p h = has-set v w (λ m. m.shut) (made_shut w) s.books.members (λ m. refl) (λ m. refl) ∙ grind (arith, nat_tests, h)
    one s (Run w is) p h = refl
    one s (RunAll w) p h = refl
    one s (Steal w is) p h = refl
    one s (Kill w) p h = refl
    one s (Start w slot) p h = absurd (differ p)
    one s (Over how) p h = absurd (differ p)
    one s (Ready w) p h = absurd (differ p)
    one s (Collected w g) p h = absurd (differ p)
    one s (Done w i u m o) p h = absurd (differ p)
    one s (Back w i) p h = absurd (differ p)
    one s (Finished w) p h = absurd (differ p)
    one s (Refused w t) p h = absurd (differ p)
    one s (Down w c o) p h = absurd (differ p)
    one s (NotStarted w) p h = absurd (differ p)

-- what a mode says is plain

more-plain : (xs ys : List Entry) → all_plain xs ≡ true → all_plain ys ≡ true → all_plain (xs ++ ys) ≡ true
more-plain xs ys a b = list_all-append is_plain xs ys ∙ and a b

by_queue : (units : List (List ℕ)) (t : Turn) (u : List ℕ → List (List ℕ) → Turn) → all_plain t.acts ≡ true → ((x : List ℕ) (xs : List (List ℕ)) → all_plain (u x xs).acts ≡ true)
    → all_plain (elim units as (λ _. Turn) [ [] ↦ t | x ∷ xs ↦ u x xs ]).acts ≡ true
by_queue [] t u a b = a
by_queue (x ∷ xs) t u a b = b x xs

plain_moves : Kept (λ t. all_plain t.acts ≡ true)
plain_moves = record {
  gives = λ w i is t a. more-plain t.acts (Run w (i ∷ is) ∷ []) a refl;
  gives_all = λ w slot t a. more-plain t.acts (RunAll w ∷ []) a refl;
  gives_of_slot = λ w slot i is t a. more-plain t.acts (Run w _ ∷ []) a refl;
  gives_unit = λ w t a. by_queue t.plan.queue t _ a (λ u us. more-plain t.acts (Run w u ∷ []) a refl);
  asks = λ s n t a. more-plain t.acts (Steal s.worker _ ∷ []) a refl;
  shuts = λ w t a. more-plain t.acts (Shutdown w ∷ []) a refl;
}

pub plain-acts : (c : ModeCall) (s : State) → all_plain (acts_of c s) ≡ true
plain-acts c s = turned-keeps (λ t. all_plain t.acts ≡ true) plain_moves s.plan.mode c (turn_of s) refl
