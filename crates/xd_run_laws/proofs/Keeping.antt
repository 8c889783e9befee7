-- How a mode's calls keep that someone will take each item of the pool.
use Rattle.std.proofs.Common.{◌≡◌, ℕ, List, [], ◌∷◌, ◌++◌, length, Bool, true, false, refl, ap, sym, ◌∙◌, subst, arith, inl, inr}
use Rattle.std.specs.Prelude.{if◌then◌else◌, ◌==◌, ◌⊎◌, Some, None}
use Rattle.std.proofs.lemmas.Bool.Decides.{nat_tests}
use Rattle.xd_edge.specs.declared.mode.ModeKind.TheVariants.{WorkSteal}
use Rattle.xd_journal.specs.declared.entry.Entry.{Entry}
use Rattle.xd_journal.specs.declared.entry.Entry.TheVariants.{Ready, Collected, Done, Back, Finished, Refused, Down, NotStarted, Start, Run, RunAll, Steal, Shutdown, Kill, Over}
use Rattle.xd_run.specs.declared.member.Member.{Member}
use Rattle.xd_run.specs.Numbers.{among}
use Rattle.xd_run.specs.Table.{Table, in_rota, seat_shut, workers_of}
use Rattle.xd_run.specs.Plan.{Plan, is_each}
use Rattle.xd_run.specs.Modes.{ModeCall, turned}
use Rattle.xd_run.specs.Modes.ModeCall.{Share, Joined, TestDone, TestsBack, Died}
use Rattle.xd_run.specs.Workers.{is_active, slot_of, started}
use Rattle.xd_run.specs.Sharing.{State}
use Rattle.xd_run.specs.State.{after_effect, after_entries, after_entry}
use Rattle.xd_run.specs.Outputs.{acts_of, turn_of}
use Rattle.xd_run_laws.proofs.Logic.{differ, in_both, split-and}
use Rattle.xd_run_laws.proofs.Members.{has, has-more, is_member}
use Rattle.xd_run_laws.proofs.Rota.{seat-among}
use Rattle.xd_run_laws.proofs.Turns.{InRota, Tidy}
use Rattle.xd_run_laws.proofs.Rule.{CallFits, Rule}
use Rattle.xd_run_laws.proofs.Busy.{AllWork}
use Rattle.xd_run_laws.proofs.Handing.{all_hand, hands_out}
use Rattle.xd_run_laws.proofs.Later.{Later, later-outputs, plain-acts}
use Rattle.xd_run_laws.proofs.Serving.{Earlier, Server}
use Rattle.xd_run_laws.proofs.Owing.{AskedOpen, Awaited}

-- the call is of this worker's coming
abbrev pub is_new : ℕ → ModeCall → Bool
is_new v (Share slots) = true
is_new v (Joined w slot) = v == w
is_new v _ = false

-- in mode each whoever came before the call was told to shut down
abbrev pub OthersTold : State → ModeCall → Type 0
OthersTold s c = is_each s.plan.mode ≡ true → (v : ℕ) → InRota s v → is_new v c ≡ false → seat_shut v s.books.table ≡ true

-- as many joined as there are slots, one at least
pub record AllThere (s : State) : Type 0 where
  pub someone : ℕ
  pub rota : InRota s someone
  pub full : length s.books.table.rota ≡ s.books.settings.workers

-- what is known of the pool before a call
abbrev pub Expects : State → ModeCall → Type 0
Expects s (Share slots) = AllThere s
Expects s _ = Awaited s

-- the state after a mode's part of a death, and after the start that replaces the worker
abbrev pub buried_acts : State → List Entry
buried_acts s = if s.books.shared then acts_of Died s else []

abbrev pub replaced : State → ℕ → State
replaced s w = after_effect (after_entries s (buried_acts s)) (Start (length s.books.members) (slot_of w s.books))

pub record Keeper (X : State → Type 0) : Type 0 where
  pub rule : Rule X
  pub work : (s : State) (c : ModeCall) → Tidy s → s.books.shared ≡ true → X s → CallFits s c → (c ≡ TestsBack → s.plan.mode ≡ WorkSteal) → Earlier s c → OthersTold s c
      → AllWork (workers_of s.books.table) (turned s.plan.mode c (turn_of s)).table
  pub told : (s : State) (c : ModeCall) → Tidy s → s.books.shared ≡ true → X s → CallFits s c → OthersTold s c → is_each s.plan.mode ≡ true
      → (v : ℕ) → InRota s v → seat_shut v (turned s.plan.mode c (turn_of s)).table ≡ true
  pub asked : (s : State) (c : ModeCall) → Tidy s → s.books.shared ≡ true → X s → CallFits s c → AskedOpen s → AskedOpen (after_entries s (acts_of c s))
  pub waits : (s : State) (c : ModeCall) → Tidy s → s.books.shared ≡ true → X s → CallFits s c → Expects s c → Awaited (after_entries s (acts_of c s))
  pub buried : (s : State) (w : ℕ) → is_active w s.books ≡ true → Tidy s → X s → Awaited s → Tidy (after_effect s (NotStarted w)) → X (after_effect s (NotStarted w))
      → is_member (length s.books.members) (after_entries (after_effect s (NotStarted w)) (buried_acts (after_effect s (NotStarted w)))).books.members ≡ false
      → length (after_effect s (NotStarted w)).books.members ≡ length s.books.members → Awaited (replaced (after_effect s (NotStarted w)) w)
  pub steals : (s : State) → X s → (s.plan.mode ≡ WorkSteal) ⊎ (s.plan.steal ≡ None)

-- outputs that hand tests out leave the members as they were

pub members-hand : (s : State) (es : List Entry) → all_hand es ≡ true → (after_entries s es).books.members ≡ s.books.members
members-hand s [] h = refl
members-hand s (e ∷ es) h = (let p = split-and (hands_out e) (all_hand es) h in members-hand (after_entry s e) es p.1 ∙ one e p.0)
  where
    one : (e : Entry) → hands_out e ≡ true → (after_entry s e).books.members ≡ s.books.members
    one (Run w is) k = refl
    one (RunAll w) k = refl
    one (Steal w is) k = refl
    one (Start w slot) k = absurd (differ k)
    one (Shutdown w) k = absurd (differ k)
    one (Kill w) k = absurd (differ k)
    one (Over how) k = absurd (differ k)
    one (Ready w) k = absurd (differ k)
    one (Collected w g) k = absurd (differ k)
    one (Done w i u m o) k = absurd (differ k)
    one (Back w i) k = absurd (differ k)
    one (Finished w) k = absurd (differ k)
    one (Refused w t) k = absurd (differ k)
    one (Down w c o) k = absurd (differ k)
    one (NotStarted w) k = absurd (differ k)

-- what follows a call
pub later-call : (X : State → Type 0) → Rule X → (s : State) (c : ModeCall) → Tidy s → s.books.shared ≡ true → X s → CallFits s c → Later s (after_entries s (acts_of c s))
later-call X rule s c d h x f = later-outputs s (acts_of c s) (rule.turns s c d h x f).fit.orderly (plain-acts c s)

-- a new worker was told nothing
pub new-untold : (ms : List Member) (n slot : ℕ) → is_member n ms ≡ false → (has n (λ m. m.active) (ms ++ started n slot ∷ []) ≡ true) × (has n (λ m. m.shut) (ms ++ started n slot ∷ []) ≡ false)
new-untold ms n slot h =
    let none : has n (λ m. m.shut) ms ≡ false = no-mark n (λ m. m.shut) ms h in
    (has-more n (λ m. m.active) ms (started n slot) ∙ grind (arith, nat_tests), has-more n (λ m. m.shut) ms (started n slot) ∙ grind (arith, nat_tests, none))
  where
    no-mark : (n : ℕ) (test : Member → Bool) (ms : List Member) → is_member n ms ≡ false → has n test ms ≡ false
    no-mark n test [] h = refl
    no-mark n test (m ∷ ms) h = grind (arith, nat_tests, h, no-mark n test ms)

module _ (X : State → Type 0) (server : Server X) where
  no-each : (s : State) → X s → {A : Type 0} → is_each s.plan.mode ≡ true → A
  no-each s x e = absurd (differ (sym (server.each s x) ∙ e))

  plain-asked : (s : State) (c : ModeCall) → Tidy s → s.books.shared ≡ true → X s → CallFits s c → AskedOpen s → AskedOpen (after_entries s (acts_of c s))
  plain-asked s c d h x f o a e =
      let t = turned s.plan.mode c (turn_of s) in
      let m = after_entries s (acts_of c s) in
      let z = server.rule.agrees s c d h x f in
      let tidy = (server.rule.turns s c d h x f).fit.tidy in
      let serves = server.serves s c d h x f in
      let asks : t.plan.steal ≡ Some a = ap (λ (p : Plan). p.steal) (sym z.plan) ∙ e in
      elim serves.fair [
        | inr none ↦ absurd (let q : None ≡ Some a = sym none.1 ∙ asks in cc)
        | inl hand ↦
            (let members = members-hand s (acts_of c s) hand in
            elim (serves.asks a asks) [
              | inl old ↦ (let k = o a old in
                  (subst (λ (ms : List Member). has a.worker (λ y. y.active) ms ≡ true) (sym members) k.0, subst (λ (ms : List Member). has a.worker (λ y. y.shut) ms ≡ false) (sym members) k.1))
              | inr new ↦ (let rota : in_rota a.worker m.books.table ≡ true = ap (λ (u : Table). in_rota a.worker u) z.table ∙ new.0 in
                  (tidy.placed.fits.active a.worker rota, tidy.placed.fits.marks a.worker rota ∙ ap (λ (u : Table). seat_shut a.worker u) z.table ∙ new.1))
            ])
      ]

  -- who waits before the call waits after it, where the pool is not empty
  plain-still : (s : State) (c : ModeCall) → Tidy s → s.books.shared ≡ true → X s → CallFits s c → Awaited s → Awaited (after_entries s (acts_of c s))
  plain-still s c d h x f o y a =
      let m = after_entries s (acts_of c s) in
      let z = server.rule.agrees s c d h x f in
      let later = later-call X server.rule s c d h x f in
      let serves = server.serves s c d h x f in
      elim serves.fair [
        | inr none ↦ absurd (differ (ap (λ (xs : List ℕ). among y xs) (sym (ap (λ (u : Table). u.pool) z.table ∙ none.0)) ∙ a))
        | inl hand ↦
            (let members = members-hand s (acts_of c s) hand in
            let one = o y (later.pool y a) in
            record {
              who = one.who;
              active = subst (λ (ms : List Member). has one.who (λ u. u.active) ms ≡ true) (sym members) one.active;
              untold = subst (λ (ms : List Member). has one.who (λ u. u.shut) ms ≡ false) (sym members) one.untold;
              fits = λ e. no-each s x (ap is_each (sym later.mode) ∙ e);
            })
      ]

  plain-waits : (s : State) (c : ModeCall) → Tidy s → s.books.shared ≡ true → X s → CallFits s c → Expects s c → Awaited (after_entries s (acts_of c s))
  plain-waits s (Share slots) d h x f o =
      plain-still s (Share slots) d h x f (λ y a. record {
        who = o.someone;
        active = d.placed.fits.active o.someone (seat-among o.someone s.books.table.rota ∙ o.rota);
        untold = f.unshut o.someone;
        fits = λ e. no-each s x e;
      })
  plain-waits s (Joined w slot) d h x f o = plain-still s (Joined w slot) d h x f o
  plain-waits s (TestDone w ms) d h x f o = plain-still s (TestDone w ms) d h x f o
  plain-waits s TestsBack d h x f o = plain-still s TestsBack d h x f o
  plain-waits s Died d h x f o = plain-still s Died d h x f o

  pub plain_keeper : Keeper X
  plain_keeper = record {
    rule = server.rule;
    work = λ s c d h x f b o t. server.work s c d h x f b o;
    told = λ s c d h x f t e v a. no-each s x e;
    asked = plain-asked;
    waits = plain-waits;
    buried = λ s w a d x o t k free same.
        (let now = after_effect s (NotStarted w) in
        let mid = after_entries now (buried_acts now) in
        let n = length now.books.members in
        let none : is_member n mid.books.members ≡ false = ap (λ (i : ℕ). is_member i mid.books.members) same ∙ free in
        let new = new-untold mid.books.members n (slot_of w now.books) none in
        λ y b. record { who = n; active = new.0; untold = new.1; fits = λ e. no-each now k (mid-mode now k t e) });
    steals = server.steals;
  }
    where
      mid-mode : (now : State) → X now → Tidy now → is_each (after_entries now (buried_acts now)).plan.mode ≡ true → is_each now.plan.mode ≡ true
      mid-mode now k t e =
          in_both (λ (es : List Entry). is_each (after_entries now es).plan.mode ≡ true → is_each now.plan.mode ≡ true) now.books.shared (acts_of Died now) []
          (λ h q. ap is_each (sym (later-call X server.rule now Died t h k tt).mode) ∙ q) (λ h q. q) e
