-- What holds after each whole rule of a run: calls of the mode, stops, and the last Shutdowns keep it.
use Rattle.std.proofs.Common.{◌≡◌, ℕ, ◌<◌, List, [], ◌∷◌, length, map, Bool, true, false, not, ◌&&◌, ◌||◌, refl, ap, sym, ◌∙◌, subst, arith, inl, inr}
use Rattle.std.specs.Prelude.{if◌then◌else◌, ◌==◌, Option, Some, None, is_some}
use Rattle.std.specs.List.{list_any}
use Rattle.std.proofs.lemmas.Bool.Decides.{nat_tests}
use Rattle.xd_edge.specs.declared.mode.ModeKind.TheVariants.{WorkSteal}
use Rattle.xd_journal.specs.declared.settings.Settings.{Settings}
use Rattle.xd_journal.specs.declared.entry.Entry.{Entry}
use Rattle.xd_journal.specs.declared.entry.Entry.TheVariants.{Ready, Collected, Done, Back, Finished, Refused, Down, NotStarted, Start, Run, RunAll, Steal, Shutdown, Kill, Over}
use Rattle.xd_journal.specs.declared.entry.Ids.{Ids}
use Rattle.xd_journal.specs.declared.entry.RunStop.{RunStop}
use Rattle.xd_run.specs.declared.member.Member.{Member}
use Rattle.xd_run.specs.Numbers.{among}
use Rattle.xd_run.specs.Table.{Table, seat_shut, workers_of}
use Rattle.xd_run.specs.Plan.{UnansweredSteal, Plan, is_each}
use Rattle.xd_run.specs.Modes.{ModeCall, turned}
use Rattle.xd_run.specs.Modes.ModeCall.{TestsBack}
use Rattle.xd_run.specs.Books.{marked}
use Rattle.xd_run.specs.Collections.{listed, unequal, with_list}
use Rattle.xd_run.specs.Workers.{is_waiting, made_collected, made_gone, made_shut, slot_in, waiting}
use Rattle.xd_run.specs.Stops.{is_shutting, is_stopped}
use Rattle.xd_run.specs.Sharing.{State, in_books}
use Rattle.xd_run.specs.State.{is_handed_out, after_effect, after_entries, settled, settles}
use Rattle.xd_run.specs.Outputs.{acts_of, closing, shut_all, turn_of, unless_stopped}
use Rattle.xd_run.specs.Orderly.{all_orderly, is_orderly}
use Rattle.xd_run_laws.proofs.Logic.{cases_of, differ, in_both, not_true, or-left, or-right, split-and, split-or}
use Rattle.xd_run_laws.proofs.Members.{distinct-numbered, has, has-cleared, has-member, has-same, has-set, is_member}
use Rattle.xd_run_laws.proofs.Turns.{Tidy, after_entries-first}
use Rattle.xd_run_laws.proofs.Rule.{CallFits, Rule, fit-shut_all}
use Rattle.xd_run_laws.proofs.Inputs.{collecting-keeps}
use Rattle.xd_run_laws.proofs.Spent.{spent-finished}
use Rattle.xd_run_laws.proofs.Busy.{AllWork}
use Rattle.xd_run_laws.proofs.Later.{Later, all_plain, is_plain, later-outputs, tells}
use Rattle.xd_run_laws.proofs.Serving.{Earlier}
use Rattle.xd_run_laws.proofs.Owing.{AllTold, AskedOpen, Awaited, Going, HasSlot, Owing, Seated, awaits-by, has-both, has-without}
use Rattle.xd_run_laws.proofs.Keeping.{Keeper, OthersTold, later-call}

-- marks

-- fewer are active, and the other marks are as they were
pub record Fewer (s t : State) : Type 0 where
  pub active : (v : ℕ) → has v (λ m. m.active) t.books.members ≡ true → has v (λ m. m.active) s.books.members ≡ true
  pub ready : (v : ℕ) → has v (λ m. m.ready) t.books.members ≡ has v (λ m. m.ready) s.books.members
  pub shut : (v : ℕ) → has v (λ m. m.shut) t.books.members ≡ has v (λ m. m.shut) s.books.members

pub told-fewer : (s t : State) → Fewer s t → AllTold s → AllTold t
told-fewer s t f k v a r = f.shut v ∙ k v (f.active v a) (sym (f.ready v) ∙ r)

pub told-later : (s t : State) → Later s t → AllTold s → AllTold t
told-later s t f k v a r = f.shut v (k v (sym (f.active v) ∙ a) (sym (f.ready v) ∙ r))

pub fewer-gone : (s t : State) (w : ℕ) → t.books.members ≡ map (made_gone w) s.books.members → Fewer s t
fewer-gone s t w e =
    let ms = s.books.members in
    record {
      active = λ v h. (split-and (not (v == w)) (has v (λ m. m.active) ms)
          (sym (has-cleared v w (λ m. m.active) (made_gone w) ms (λ m. refl) (λ m. refl)) ∙ ap (λ (ns : List Member). has v (λ m. m.active) ns) (sym e) ∙ h)).1;
      ready = λ v. ap (λ (ns : List Member). has v (λ m. m.ready) ns) e ∙ has-same v (λ m. m.ready) (made_gone w) ms (λ m. refl) (λ m. refl);
      shut = λ v. ap (λ (ns : List Member). has v (λ m. m.shut) ns) e ∙ has-same v (λ m. m.shut) (made_gone w) ms (λ m. refl) (λ m. refl);
    }

pub fewer-same : (s t : State) → t.books.members ≡ s.books.members → Fewer s t
fewer-same s t e = record {
  active = λ v h. ap (λ (ns : List Member). has v (λ m. m.active) ns) (sym e) ∙ h;
  ready = λ v. ap (λ (ns : List Member). has v (λ m. m.ready) ns) e;
  shut = λ v. ap (λ (ns : List Member). has v (λ m. m.shut) ns) e;
}

pub fewer-collected : (s : State) (w : ℕ) (g : Ids) → Fewer s (after_effect s (Collected w g))
fewer-collected s w g =
    let ms = s.books.members in
    let same : Fewer s (in_books (λ b. marked (made_collected w) (with_list w g b)) s) = record {
      active = λ v h. sym (has-same v (λ m. m.active) (made_collected w) ms (λ m. refl) (λ m. refl)) ∙ h;
      ready = λ v. has-same v (λ m. m.ready) (made_collected w) ms (λ m. refl) (λ m. refl);
      shut = λ v. has-same v (λ m. m.shut) (made_collected w) ms (λ m. refl) (λ m. refl);
    } in
    collecting-keeps (λ (u : State). Fewer s u) (in_books (λ b. marked (made_collected w) (with_list w g b)) s) w (unequal w g (listed w s.books)) same
    (record { active = same.active; ready = same.ready; shut = same.shut }) (record { active = same.active; ready = same.ready; shut = same.shut })
    (λ z. record { active = same.active; ready = same.ready; shut = same.shut })

-- everyone is told

told-in : (v : ℕ) (s : State) (es : List Entry) → all_orderly s es ≡ true → all_plain es ≡ true → list_any (tells v) es ≡ true → is_member v s.books.members ≡ true → has v (λ m. m.shut) (after_entries s es).books.members ≡ true
told-in v s [] o p h k = absurd (differ h)
told-in v s (e ∷ es) o p h k =
    let q = split-and (is_orderly s e) (all_orderly (after_effect s e) es) o in
    let r = split-and (is_plain e) (all_plain es) p in
    let first = after_entries-first s e es q.0 in
    let rest = later-outputs (after_effect s e) es q.1 r.1 in
    ap (λ (u : State). has v (λ m. m.shut) u.books.members) first ∙ (elim (split-or (tells v e) (list_any (tells v) es) h) [
      | inl t ↦ rest.shut v (here v s e t k)
      | inr t ↦ told-in v (after_effect s e) es q.1 r.1 t (member v s e r.0 k)
    ])
  where
    here : (v : ℕ) (s : State) (e : Entry) → tells v e ≡ true → is_member v s.books.members ≡ true → has v (λ m. m.shut) (after_effect s e).books.members ≡ true
    here v s (Shutdown w) t k = has-set v w (λ m. m.shut) (made_shut w) s.books.members (λ m. refl) (λ m. refl) ∙ grind (arith, nat_tests, t, k)
    here v s (Run w is) t k = absurd (differ t)
    here v s (RunAll w) t k = absurd (differ t)
    here v s (Steal w is) t k = absurd (differ t)
    here v s (Start w slot) t k = absurd (differ t)
    here v s (Kill w) t k = absurd (differ t)
    here v s (Over how) t k = absurd (differ t)
    here v s (Ready w) t k = absurd (differ t)
    here v s (Collected w g) t k = absurd (differ t)
    here v s (Done w i u m o) t k = absurd (differ t)
    here v s (Back w i) t k = absurd (differ t)
    here v s (Finished w) t k = absurd (differ t)
    here v s (Refused w y) t k = absurd (differ t)
    here v s (Down w c o) t k = absurd (differ t)
    here v s (NotStarted w) t k = absurd (differ t)

    member : (v : ℕ) (s : State) (e : Entry) → is_plain e ≡ true → is_member v s.books.members ≡ true → is_member v (after_effect s e).books.members ≡ true
    member v s (Shutdown w) t k = has-same v (λ m. true) (made_shut w) s.books.members (λ m. refl) (λ m. refl) ∙ k
    member v s (Run w is) t k = k
    member v s (RunAll w) t k = k
    member v s (Steal w is) t k = k
    member v s (Kill w) t k = k
    member v s (Start w slot) t k = absurd (differ t)
    member v s (Over how) t k = absurd (differ t)
    member v s (Ready w) t k = absurd (differ t)
    member v s (Collected w g) t k = absurd (differ t)
    member v s (Done w i u m o) t k = absurd (differ t)
    member v s (Back w i) t k = absurd (differ t)
    member v s (Finished w) t k = absurd (differ t)
    member v s (Refused w y) t k = absurd (differ t)
    member v s (Down w c o) t k = absurd (differ t)
    member v s (NotStarted w) t k = absurd (differ t)

pub plain-shut_all : (ws : List ℕ) → all_plain (map (λ w. Shutdown w) ws) ≡ true
plain-shut_all [] = refl
plain-shut_all (w ∷ ws) = plain-shut_all ws

tells-waiting : (v : ℕ) (ms : List Member) → has v (λ m. (m.active && m.ready) && not m.shut) ms ≡ true → list_any (tells v) (shut_all ms) ≡ true
tells-waiting v [] h = absurd (differ h)
tells-waiting v (m ∷ ms) h = elim (cases_of (is_waiting m)) [
  | inl k ↦
      (let e : shut_all (m ∷ ms) ≡ Shutdown m.worker ∷ shut_all ms = rw k refl in
      ap (λ (es : List Entry). list_any (tells v) es) e ∙ (elim (split-or (m.worker == v && ((m.active && m.ready) && not m.shut)) (has v (λ x. (x.active && x.ready) && not x.shut) ms) h) [
        | inl a ↦ or-left (m.worker == v) (list_any (tells v) (shut_all ms)) (split-and (m.worker == v) ((m.active && m.ready) && not m.shut) a).0
        | inr a ↦ or-right (m.worker == v) (list_any (tells v) (shut_all ms)) (tells-waiting v ms a)
      ]))
  | inr k ↦
      (let e : shut_all (m ∷ ms) ≡ shut_all ms = rw k refl in
      ap (λ (es : List Entry). list_any (tells v) es) e ∙ tells-waiting v ms (elim (split-or (m.worker == v && ((m.active && m.ready) && not m.shut)) (has v (λ x. (x.active && x.ready) && not x.shut) ms) h) [
        | inl a ↦ absurd (differ (sym k ∙ (split-and (m.worker == v) ((m.active && m.ready) && not m.shut) a).1))
        | inr a ↦ a
      ]))
]

-- after a Shutdown for each that waits, everyone is told
pub told-all : (s : State) → Tidy s → all_orderly s (shut_all s.books.members) ≡ true → AllTold (after_entries s (shut_all s.books.members))
told-all s d o v a r =
    let ms = s.books.members in
    let es = shut_all ms in
    let plain = plain-shut_all (waiting ms) in
    let later = later-outputs s es o plain in
    let active : has v (λ m. m.active) ms ≡ true = sym (later.active v) ∙ a in
    let ready : has v (λ m. m.ready) ms ≡ true = sym (later.ready v) ∙ r in
    elim (cases_of (has v (λ m. m.shut) ms)) [
      | inl h ↦ later.shut v h
      | inr h ↦ told-in v s es o plain
          (tells-waiting v ms (has-without v (λ m. m.active && m.ready) (λ m. m.shut) ms (has-both v (λ m. m.active) (λ m. m.ready) ms (distinct-numbered ms d.members.numbered) active ready) h))
          (has-member v (λ m. m.active) ms active)
    ]

-- the calls of the mode

pub going-call : (X : State → Type 0) → Keeper X → (s : State) (c : ModeCall) → Tidy s → s.books.shared ≡ true → X s → CallFits s c → (c ≡ TestsBack → s.plan.mode ≡ WorkSteal) → Earlier s c → OthersTold s c
    → Awaited (after_entries s (acts_of c s)) → AskedOpen s → Seated s → Going (after_entries s (acts_of c s))
going-call X k s c d h x f b o t waits asked seated =
    let m = after_entries s (acts_of c s) in
    let z = k.rule.agrees s c d h x f in
    let l = later-call X k.rule s c d h x f in
    record {
      seated = λ v a e n. (let untold : has v (λ y. y.shut) s.books.members ≡ false = elim (cases_of (has v (λ y. y.shut) s.books.members)) [ inl q ↦ absurd (differ (sym n ∙ l.shut v q)) | inr q ↦ q ] in
          ap (λ (ws : List ℕ). among v ws) l.rota ∙ seated v (sym (l.active v) ∙ a) (sym (l.collected v) ∙ e) untold);
      work = λ q. subst (λ (u : Table). AllWork (workers_of m.books.table) u) (sym z.table) (subst (λ (ws : List ℕ). AllWork ws (turned s.plan.mode c (turn_of s)).table) (sym l.rota) (k.work s c d h x f b o t));
      told = λ q e v a. ap (λ (u : Table). seat_shut v u) z.table ∙ k.told s c d h x f t (ap is_each (sym l.mode) ∙ e) v (ap (λ (ws : List ℕ). among v ws) (sym l.rota) ∙ a);
      awaited = waits;
      asked = k.asked s c d h x f asked;
      slots = λ q. absurd (differ (sym q ∙ (l.shared ∙ h)));
      room = λ q. absurd (differ (sym q ∙ (l.shared ∙ h)));
    }

-- a stop, now or before
pub owing-unless : (X : State → Type 0) → Rule X → (s now : State) (es : List Entry) → (is_shutting s.books ≡ true → AllTold now) → Tidy now → X now → (is_stopped s.books ≡ true → is_stopped now.books ≡ true)
    → (is_stopped s.books ≡ false → is_stopped now.books ≡ false → Owing (after_entries now es)) → Owing (after_entries now (unless_stopped s.books now.books es))
owing-unless X rule s now es told d x stays goes =
    in_both (λ (os : List Entry). Owing (after_entries now os)) (is_stopped s.books) [] (if is_stopped now.books then shut_all now.books.members else es)
    (λ h. record { told = λ q. told (or-left (is_stopped s.books) s.books.shutting h); going = λ q. absurd (differ (sym q ∙ stays h)) })
    (λ h. in_both (λ (os : List Entry). Owing (after_entries now os)) (is_stopped now.books) (shut_all now.books.members) es
    (λ k. (let o = (fit-shut_all X rule now (or-left (is_stopped now.books) now.books.shared k) d x).orderly in
    let l = later-outputs now (shut_all now.books.members) o (plain-shut_all (waiting now.books.members)) in
    record { told = λ q. told-all now d o; going = λ q. absurd (differ (sym q ∙ (ap (λ (a : Option RunStop). is_some a) l.stop ∙ k))) }))
    (λ k. goes h k))

-- the marks of a run that goes on
pub owing-later : (s now after : State) → (is_shutting s.books ≡ true → AllTold now) → now.books.shutting ≡ s.books.shutting → is_stopped now.books ≡ false → Later now after → Going after → Owing after
owing-later s now after told same n l g = record {
  told = λ h. told-later now after l (told (elim (split-or (is_stopped after.books) after.books.shutting h) [
    | inl k ↦ absurd (differ (sym n ∙ (ap (λ (a : Option RunStop). is_some a) (sym l.stop) ∙ k)))
    | inr k ↦ or-right (is_stopped s.books) s.books.shutting (sym same ∙ (sym l.shutting ∙ k))
  ]));
  going = λ h. g;
}

-- whoever is active and was told nothing is so after it
abbrev pub StillOpen : State → State → Type 0
StillOpen s t = (v : ℕ) → has v (λ m. m.active) s.books.members ≡ true → has v (λ m. m.shut) s.books.members ≡ false → (has v (λ m. m.active) t.books.members ≡ true) × (has v (λ m. m.shut) t.books.members ≡ false)

pub awaited-by : (s t : State) → ((x : ℕ) → among x t.books.table.pool ≡ true → among x s.books.table.pool ≡ true) → StillOpen s t → ((v : ℕ) → slot_in v t.books.members ≡ slot_in v s.books.members)
    → t.plan.sizes ≡ s.plan.sizes → t.plan.mode ≡ s.plan.mode → Awaited s → Awaited t
awaited-by s t less open_ slots sizes mode o x h =
    let one = o x (less x h) in
    let still = open_ one.who one.active one.untold in
    awaits-by s t x one still.0 still.1 (slots one.who) sizes mode

pub asked-by : (s t : State) → ((a : UnansweredSteal) → t.plan.steal ≡ Some a → s.plan.steal ≡ Some a) → StillOpen s t → AskedOpen s → AskedOpen t
asked-by s t less open_ o a e = (let one = o a (less a e) in open_ a.worker one.0 one.1)

-- the states differ in nothing but marks of readiness and of collections
pub record Alike (s t : State) : Type 0 where
  pub active : (v : ℕ) → has v (λ m. m.active) t.books.members ≡ has v (λ m. m.active) s.books.members
  pub shut : (v : ℕ) → has v (λ m. m.shut) t.books.members ≡ has v (λ m. m.shut) s.books.members
  pub slots : (v : ℕ) → slot_in v t.books.members ≡ slot_in v s.books.members
  pub table : t.books.table ≡ s.books.table
  pub plan : t.plan ≡ s.plan
  pub shared : t.books.shared ≡ s.books.shared
  pub settings : t.books.settings ≡ s.books.settings

pub open-alike : (s t : State) → Alike s t → StillOpen s t
open-alike s t a v h n = (a.active v ∙ h, a.shut v ∙ n)

slots-alike : (s t : State) → Alike s t → (k : ℕ) → HasSlot s k → HasSlot t k
slots-alike s t a k h = record { who = h.who; active = a.active h.who ∙ h.active; slot = a.slots h.who ∙ h.slot }

pub going-alike : (s t : State) → Alike s t → Seated t → Going s → Going t
going-alike s t a seated g = record {
  seated = seated;
  work = λ h. subst (λ (u : Table). AllWork (workers_of u) u) (sym a.table) (g.work (sym a.shared ∙ h));
  told = λ h e v r. ap (λ (u : Table). seat_shut v u) a.table
      ∙ g.told (sym a.shared ∙ h) (ap (λ (p : Plan). is_each p.mode) (sym a.plan) ∙ e) v (ap (λ (u : Table). among v (workers_of u)) (sym a.table) ∙ r);
  awaited = awaited-by s t (λ x h. ap (λ (u : Table). among x u.pool) (sym a.table) ∙ h) (open-alike s t a) a.slots (ap (λ (p : Plan). p.sizes) a.plan) (ap (λ (p : Plan). p.mode) a.plan) g.awaited;
  asked = asked-by s t (λ b e. ap (λ (p : Plan). p.steal) (sym a.plan) ∙ e) (open-alike s t a) g.asked;
  slots = λ h k l. slots-alike s t a k (g.slots (sym a.shared ∙ h) k (subst (λ (b : Settings). k < b.workers) a.settings l));
  room = λ h. subst (λ (u : Table). length u.rota < t.books.settings.workers) (sym a.table) (subst (λ (b : Settings). length s.books.table.rota < b.workers) (sym a.settings) (g.room (sym a.shared ∙ h)));
}

-- nothing is left to hand out

pub seated-later : (s t : State) → Later s t → Seated s → Seated t
seated-later s t l k v a c n =
    let untold : has v (λ u. u.shut) s.books.members ≡ false = elim (cases_of (has v (λ u. u.shut) s.books.members)) [ inl z ↦ absurd (differ (sym n ∙ l.shut v z)) | inr z ↦ z ] in
    ap (λ (ws : List ℕ). among v ws) l.rota ∙ k v (sym (l.active v) ∙ a) (sym (l.collected v) ∙ c) untold

pub going-spent : (s t : State) → Later s t → s.books.shared ≡ true → s.books.table.pool ≡ [] → t.plan.steal ≡ None → Going s → Going t
going-spent s t l shared pool steal g = record {
  seated = seated-later s t l g.seated;
  work = λ z. inl (empty t.books.table.pool none);
  told = λ z e v b. l.told v (g.told shared (ap is_each (sym l.mode) ∙ e) v (ap (λ (ws : List ℕ). among v ws) (sym l.rota) ∙ b));
  awaited = λ x z. absurd (none x z);
  asked = λ a e. absurd (let z : None ≡ Some a = sym steal ∙ e in cc);
  slots = λ z. absurd (differ (sym z ∙ (l.shared ∙ shared)));
  room = λ z. absurd (differ (sym z ∙ (l.shared ∙ shared)));
}
  where
    none : (x : ℕ) → among x t.books.table.pool ≡ true → ⊥
    none x z = differ (ap (λ (xs : List ℕ). among x xs) (sym pool) ∙ l.pool x z)

    empty : (xs : List ℕ) → ((x : ℕ) → among x xs ≡ true → ⊥) → xs ≡ []
    empty [] h = refl
    empty (x ∷ xs) h = absurd (h x (grind (arith, nat_tests)))

-- the last Shutdowns

pub owing-closed : (s : State) → Tidy s → all_orderly s (closing s) ≡ true → Owing s → Owing (settled (after_entries s (closing s)))
owing-closed s d o k = by (not (is_shutting s.books) && settles s) refl o
  where
    set : (u : State) → Going u → Going (settled u)
    set u g = going-alike u (settled u) (record { active = λ v. refl; shut = λ v. refl; slots = λ v. refl; table = refl; plan = refl; shared = refl; settings = refl }) g.seated g

    still : (settles s ≡ true → s.books.shutting ≡ true) → Owing (settled s)
    still h = record {
      told = λ q. k.told (elim (split-or (is_stopped s.books) (s.books.shutting || settles s) q) [
        | inl a ↦ or-left (is_stopped s.books) s.books.shutting a
        | inr a ↦ or-right (is_stopped s.books) s.books.shutting (elim (split-or s.books.shutting (settles s) a) [ inl b ↦ b | inr b ↦ h b ])
      ]);
      going = λ q. set s (k.going q);
    }

    unclosed : (a b c : Bool) → (not (a || b) && c) ≡ false → a ≡ false → c ≡ true → b ≡ true
    unclosed true b c h n z = absurd (differ (sym n))
    unclosed false true c h n z = refl
    unclosed false false c h n z = absurd (differ (sym h ∙ z))

    parts : settles s ≡ true → (is_stopped s.books ≡ false) × (s.books.shared ≡ true) × (is_handed_out s.books.table s.plan ≡ true)
    parts h =
        let a = split-and (not (is_stopped s.books) && s.books.shared) (is_handed_out s.books.table s.plan) h in
        let b = split-and (not (is_stopped s.books)) s.books.shared a.0 in
        (not_true (is_stopped s.books) b.0, b.1, a.1)

    steal-shut_all : (ws : List ℕ) (u : State) → (after_entries u (map (λ w. Shutdown w) ws)).plan.steal ≡ u.plan.steal
    steal-shut_all [] u = refl
    steal-shut_all (w ∷ ws) u = steal-shut_all ws (after_effect u (Shutdown w))

    ended : settles s ≡ true → all_orderly s (shut_all s.books.members) ≡ true → Owing (settled (after_entries s (shut_all s.books.members)))
    ended h q =
        let m = after_entries s (shut_all s.books.members) in
        let p = parts h in
        let spent = spent-finished s.books.table s.plan p.2 in
        let l = later-outputs s (shut_all s.books.members) q (plain-shut_all (waiting s.books.members)) in
        record {
          told = λ y. told-all s d q;
          going = λ y. set m (going-spent s m l p.1 spent.pool (steal-shut_all (waiting s.books.members) s ∙ spent.steal) (k.going p.0));
        }

    by : (b : Bool) → (not (is_shutting s.books) && settles s) ≡ b → all_orderly s (if b then shut_all s.books.members else []) ≡ true → Owing (settled (after_entries s (if b then shut_all s.books.members else [])))
    by true e q = ended (split-and (not (is_shutting s.books)) (settles s) e).1 q
    by false e q = still (λ h. unclosed (is_stopped s.books) s.books.shutting (settles s) e (parts h).0 h)
