-- What a mode has to keep, and lists of outputs that keep it.
use Rattle.std.proofs.Common.{◌||◌, ap, ◌≡◌, ℕ, ◌<◌, List, [], ◌∷◌, ◌++◌, length, map, Bool, true, false, not, ◌&&◌, refl, sym, ◌∙◌, subst, arith, inl, inr}
use Rattle.std.specs.Prelude.{◌==◌}
use Rattle.std.specs.List.{range_with_len}
use Rattle.std.proofs.lemmas.Bool.Decides.{nat_tests}
use Rattle.xd_journal.specs.declared.settings.Settings.{Settings}
use Rattle.xd_journal.specs.declared.entry.Entry.{Entry}
use Rattle.xd_journal.specs.declared.entry.Entry.TheVariants.{Start, Shutdown}
use Rattle.xd_run.specs.declared.member.Member.{Member}
use Rattle.xd_run.specs.Numbers.{among, all_distinct}
use Rattle.xd_run.specs.Table.{seat_shut}
use Rattle.xd_run.specs.Plan.{total, is_each, is_scope}
use Rattle.xd_run.specs.Turn.{Turn}
use Rattle.xd_run.specs.Modes.{ModeCall, turned}
use Rattle.xd_run.specs.Modes.ModeCall.{Share, Joined, TestDone, TestsBack, Died}
use Rattle.xd_run.specs.Workers.{slot_of, made_shut, is_waiting, started}
use Rattle.xd_run.specs.Sharing.{State}
use Rattle.xd_run.specs.State.{after_effect, after_entries, settled}
use Rattle.xd_run.specs.Outputs.{acts_of, shut_all, slots_of_rota, turn_of}
use Rattle.xd_run.specs.Proper.{may_follow}
use Rattle.xd_run.specs.Orderly.{is_orderly, all_orderly}
use Rattle.xd_run_laws.proofs.Logic.{differ, and-false, cases_of, split-and, not_true, and}
use Rattle.xd_run_laws.proofs.Members.{has-more, has, has-same, has-set, numbers, distinct-numbered, none-next}
use Rattle.xd_run_laws.proofs.Placed.{placed-output}
use Rattle.xd_run_laws.proofs.Queue.{QueueFits}
use Rattle.xd_run_laws.proofs.MembersFit.{Kin, IsFree, kin-length, kin-free, members-start}
use Rattle.xd_run_laws.proofs.Turns.{Calm, MayShut, Tidy, Good, InRota, after_entries-first, after_entries-join, all_orderly-join, tidy-quiet, orderly-shutdown}

-- outputs in order, after which the state is tidy and this holds of it
pub record Fit (X : State → Type 0) (s : State) (es : List Entry) : Type 0 where
  pub orderly : all_orderly s es ≡ true
  pub tidy : Tidy (after_entries s es)
  pub also : X (after_entries s es)

-- the outputs of a mode, which start no one
pub record Turned (X : State → Type 0) (s : State) (es : List Entry) : Type 0 where
  pub fit : Fit X s es
  pub kin : Kin s.books.members (after_entries s es).books.members
  pub settings : (after_entries s es).books.settings ≡ s.books.settings

-- what the outputs of a mode make of table and plan is what its rule computes
pub record Agrees (s : State) (t : Turn) : Type 0 where
  pub table : (after_entries s t.acts).books.table ≡ t.table
  pub plan : (after_entries s t.acts).plan ≡ t.plan

-- the tests were shared just now, among workers of these slots
pub record IsFresh (s : State) (slots : List ℕ) : Type 0 where
  pub slots_are : slots ≡ slots_of_rota s.books
  pub pool : s.books.table.pool ≡ range_with_len 0 (total s.plan)
  pub sizes : is_each s.plan.mode ≡ true → length s.plan.sizes ≡ s.books.settings.workers
  pub unshut : (v : ℕ) → has v (λ m. m.shut) s.books.members ≡ false

-- the worker joined, at this slot, and was told nothing
pub record HasJoined (s : State) (w slot : ℕ) : Type 0 where
  pub rota : InRota s w
  pub slot_is : slot ≡ slot_of w s.books
  pub unshut : seat_shut w s.books.table ≡ false

-- what holds where the mode is called
abbrev pub CallFits : State → ModeCall → Type 0
CallFits s (Share slots) = IsFresh s slots
CallFits s (Joined w slot) = HasJoined s w slot
CallFits s (TestDone w ms) = InRota s w
CallFits s TestsBack = Unit {0}
CallFits s Died = Unit {0}

-- what a mode says is in order, agrees with its rule, and keeps this; and so does everything else that happens; where units
-- are handed out, those that wait fit the table
pub record Rule (X : State → Type 0) : Type 0 where
  pub input : (s : State) (e : Entry) → may_follow s e ≡ true → Tidy s → X s → X (after_effect s e)
  pub start : (s : State) (w slot : ℕ) → X s → X (after_effect s (Start w slot))
  pub shutdown : (s : State) (w : ℕ) → MayShut s → X s → X (after_effect s (Shutdown w))
  pub settled : (s : State) → X s → X (settled s)
  pub turns : (s : State) (c : ModeCall) → Tidy s → s.books.shared ≡ true → X s → CallFits s c → Turned X s (acts_of c s)
  pub agrees : (s : State) (c : ModeCall) → Tidy s → s.books.shared ≡ true → X s → CallFits s c → Agrees s (turned s.plan.mode c (turn_of s))
  pub queue : (s : State) → X s → is_scope s.plan.mode ≡ true → QueueFits s.books.table s.plan s.books.members

pub fit-none : (X : State → Type 0) (s : State) → Tidy s → X s → Fit X s []
fit-none X s d x = record { orderly = refl; tidy = d; also = x }

pub fit-first : (X : State → Type 0) (s : State) (e : Entry) (es : List Entry) → is_orderly s e ≡ true → Fit X (after_effect s e) es → Fit X s (e ∷ es)
fit-first X s e es h f =
    let same = sym (after_entries-first s e es h) in
    record { orderly = and h f.orderly; tidy = subst Tidy same f.tidy; also = subst X same f.also }

pub fit-join : (X : State → Type 0) (s : State) (xs ys : List Entry) → Fit X s xs → Fit X (after_entries s xs) ys → Fit X s (xs ++ ys)
fit-join X s xs ys a b =
    let same = sym (after_entries-join s xs ys) in
    record { orderly = all_orderly-join s xs ys a.orderly b.orderly; tidy = subst Tidy same b.tidy; also = subst X same b.also }

pub agrees-good : (s : State) (t : Turn) → Good s t → Agrees s t
agrees-good s t g = record { table = g.table; plan = g.plan }

pub turned-good : (X : State → Type 0) (s : State) (t : Turn) → Good s t → X (after_entries s t.acts) → Turned X s t.acts
turned-good X s t g x = record { fit = record { orderly = g.orderly; tidy = g.tidy; also = x }; kin = g.kin; settings = g.settings }

-- one Shutdown

pub fit-shutdown : (X : State → Type 0) (s : State) (w : ℕ) (es : List Entry) → is_orderly s (Shutdown w) ≡ true → MayShut s → (Tidy (after_effect s (Shutdown w)) → Fit X (after_effect s (Shutdown w)) es) → Tidy s → Fit X s (Shutdown w ∷ es)
fit-shutdown X s w es h p rest d = fit-first X s (Shutdown w) es h (rest (tidy-quiet s (Shutdown w) refl h p d))

pub calm-start : (s : State) (w slot : ℕ) → Calm s → Calm (after_effect s (Start w slot))
calm-start s w slot c = record {
  late = λ h. absurd (differ h);
  unshut = λ a b v. has-more v (λ m. m.shut) s.books.members (started w slot) ∙ ap (λ (q : Bool). q || (w == v && false)) (c.unshut a b v) ∙ and-false (w == v);
}

-- a Start of the next number at a free slot, after outputs that start no one
pub fit-start : (X : State → Type 0) → Rule X → (s : State) (es : List Entry) (slot : ℕ) → Turned X s es → IsFree slot s.books.members
    → slot < s.books.settings.workers → Fit X (after_entries s es) (Start (length s.books.members) slot ∷ [])
fit-start X rule s es slot t free low =
    let m = after_entries s es in
    let same = kin-length s.books.members m.books.members t.kin in
    subst (λ (w : ℕ). Fit X m (Start w slot ∷ [])) same (fit-first X m (Start (length m.books.members) slot) []
    (rw (none-next m.books.members t.fit.tidy.members.numbered))
    (fit-none X (after_effect m (Start (length m.books.members) slot))
    (record {
      placed = placed-output m (Start (length m.books.members) slot) (rw (none-next m.books.members t.fit.tidy.members.numbered)) t.fit.tidy.placed;
      members = members-start m.books.members m.books.settings.workers slot t.fit.tidy.members (kin-free slot s.books.members m.books.members t.kin free) (subst (λ (k : Settings). slot < k.workers) (sym t.settings) low);
      calm = calm-start m (length m.books.members) slot t.fit.tidy.calm;
    })
    (rule.start m (length m.books.members) slot t.fit.also)))

-- a Shutdown for each that waits

-- the marks of the member are those by its number
record OneFits (all : List Member) (m : Member) : Type 0 where
  active : m.active ≡ true → has m.worker (λ x. x.active) all ≡ true
  ready : m.ready ≡ true → has m.worker (λ x. x.ready) all ≡ true
  unshut : m.shut ≡ false → has m.worker (λ x. x.shut) all ≡ false

abbrev AllFit : List Member → List Member → Type 0
AllFit all [] = Unit {0}
AllFit all (m ∷ ms) = OneFits all m × AllFit all ms

other_than : (w v : ℕ) (ws : List ℕ) → among w (v ∷ ws) ≡ false → ((v == w) ≡ false) × (among w ws ≡ false)
other_than w v ws h = (grind (arith, nat_tests), grind (arith, nat_tests))

fit-shut_other : (w : ℕ) (all ms : List Member) → among w (numbers ms) ≡ false → AllFit all ms → AllFit (map (made_shut w) all) ms
fit-shut_other w all [] h f = tt
fit-shut_other w all (m ∷ ms) h f =
    let p = other_than w m.worker (numbers ms) h in
    let g = made_shut w in
    let same : has m.worker (λ x. x.shut) (map g all) ≡ has m.worker (λ x. x.shut) all = has-set m.worker w (λ x. x.shut) g all (λ x. refl) (λ x. refl) ∙ rw p.0 in (
      record {
        active = λ a. has-same m.worker (λ x. x.active) g all (λ x. refl) (λ x. refl) ∙ f.0.active a;
        ready = λ a. has-same m.worker (λ x. x.ready) g all (λ x. refl) (λ x. refl) ∙ f.0.ready a;
        unshut = λ a. same ∙ f.0.unshut a;
      },
      fit-shut_other w all ms p.1 f.1,
    )

waits : (m : Member) → is_waiting m ≡ true → (m.active ≡ true) × ((m.ready ≡ true) × (m.shut ≡ false))
waits m h =
    let a = split-and (m.active && m.ready) (not m.shut) h in
    let b = split-and m.active m.ready a.0 in
    (b.0, (b.1, not_true m.shut a.1))

fit-shut_list : (X : State → Type 0) → Rule X → (s : State) (ms : List Member) → all_distinct (numbers ms) ≡ true → AllFit s.books.members ms → MayShut s → Tidy s → X s → Fit X s (shut_all ms)
fit-shut_list X rule s [] d f q t x = fit-none X s t x
fit-shut_list X rule s (m ∷ ms) d f q t x =
    let p = split-and (not (among m.worker (numbers ms))) (all_distinct (numbers ms)) d in
    elim (cases_of (is_waiting m)) [
      | inl h ↦
          (let a = waits m h in
          let split : Shutdown m.worker ∷ shut_all ms ≡ shut_all (m ∷ ms) = rw h in
          subst (λ (es : List Entry). Fit X s es) split
          (fit-shutdown X s m.worker (shut_all ms) (orderly-shutdown s m.worker (f.0.active a.0) (f.0.ready a.1.0) (f.0.unshut a.1.1)) q
          (λ u. fit-shut_list X rule (after_effect s (Shutdown m.worker)) ms p.1 (fit-shut_other m.worker s.books.members ms (not_true (among m.worker (numbers ms)) p.0) f.1) q u (rule.shutdown s m.worker q x)) t))
      | inr h ↦
          (let split : shut_all ms ≡ shut_all (m ∷ ms) = rw h in
          subst (λ (es : List Entry). Fit X s es) split (fit-shut_list X rule s ms p.1 f.1 q t x))
    ]

fit-one_more : (n : Member) (all ms : List Member) → among n.worker (numbers ms) ≡ false → AllFit all ms → AllFit (n ∷ all) ms
fit-one_more n all [] h f = tt
fit-one_more n all (m ∷ ms) h f =
    let p = other_than n.worker m.worker (numbers ms) h in
    (record { active = λ a. grind (arith, nat_tests, f.0.active a, p.0); ready = λ a. grind (arith, nat_tests, f.0.ready a, p.0); unshut = λ a. grind (arith, nat_tests, f.0.unshut a, p.0) }, fit-one_more n all ms p.1 f.1)

absent : (w : ℕ) (test : Member → Bool) (ms : List Member) → among w (numbers ms) ≡ false → has w test ms ≡ false
absent w test [] h = refl
absent w test (m ∷ ms) h = grind (arith, nat_tests, absent w test ms)

fit-self : (ms : List Member) → all_distinct (numbers ms) ≡ true → AllFit ms ms
fit-self [] d = tt
fit-self (m ∷ ms) d =
    let p = split-and (not (among m.worker (numbers ms))) (all_distinct (numbers ms)) d in
    let none = not_true (among m.worker (numbers ms)) p.0 in
    let f = fit-self ms p.1 in
    (record { active = λ a. grind (arith, nat_tests); ready = λ a. grind (arith, nat_tests); unshut = λ a. grind (arith, nat_tests, absent m.worker (λ x. x.shut) ms none) }, fit-one_more m ms ms none f)

pub fit-shut_all : (X : State → Type 0) → Rule X → (s : State) → MayShut s → Tidy s → X s → Fit X s (shut_all s.books.members)
fit-shut_all X rule s q t x =
    let d = distinct-numbered s.books.members t.members.numbered in
    fit-shut_list X rule s s.books.members d (fit-self s.books.members d) q t x
