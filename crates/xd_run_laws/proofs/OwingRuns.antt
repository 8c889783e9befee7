-- After each whole rule of a run that is not over someone owes the next step.
use Rattle.std.proofs.Common.{◌≡◌, ℕ, zero, suc, ◌+◌, ◌≤◌, ◌<◌, List, [], ◌∷◌, length, Bool, true, false, ◌&&◌, ◌||◌, refl, ap, sym, ◌∙◌, subst, arith, inl, inr}
use Rattle.std.specs.Prelude.{◌==◌, nat_le, Some, None}
use Rattle.std.proofs.lemmas.Bool.Decides.{nat_tests}
use Rattle.xd_edge.specs.declared.mode.ModeKind.{ModeKind}
use Rattle.xd_edge.specs.declared.mode.ModeKind.TheVariants.{Local, Each, Load, LoadScope, LoadFile, LoadGroup, WorkSteal}
use Rattle.xd_journal.specs.declared.settings.Settings.{Settings}
use Rattle.xd_journal.specs.declared.entry.Entry.{Entry}
use Rattle.xd_journal.specs.declared.entry.Entry.TheVariants.{Start}
use Rattle.xd_run.specs.Numbers.{among}
use Rattle.xd_run.specs.Table.{Table, fresh_table}
use Rattle.xd_run.specs.Plan.{is_scope}
use Rattle.xd_run.specs.Workers.{started}
use Rattle.xd_run.specs.Stops.{is_stopped}
use Rattle.xd_run.specs.Sharing.{State}
use Rattle.xd_run.specs.State.{after_entries, after_effect, no_one, settled, settles}
use Rattle.xd_run.specs.Outputs.{outputs, after_input}
use Rattle.xd_run.specs.Histories.{after_starts, first_starts, is_over, starts_from, after_inputs}
use Rattle.xd_run.specs.Owes.{someone_owes}
use Rattle.xd_run.specs.Proper.{IsProper, all_may_follow, has_workers, may_follow}
use Rattle.xd_run_laws.proofs.Logic.{and-false, clash, differ, or-left, or-right, cases_of, split-and}
use Rattle.xd_run_laws.proofs.Members.{has, has-member, has-more, is_member}
use Rattle.xd_run_laws.proofs.MembersFit.{slot-new, slot-old}
use Rattle.xd_run_laws.proofs.Runs.{Holds, all-hold, begun-holds, after_input-holds}
use Rattle.xd_run_laws.proofs.Spent.{Spent, begun-spent, spent-step}
use Rattle.xd_run_laws.proofs.InMode.{InMode}
use Rattle.xd_run_laws.proofs.Serving.{InLoad, load_server, steal_server}
use Rattle.xd_run_laws.proofs.ScopeServing.{InScope, scope-begins, scope_server}
use Rattle.xd_run_laws.proofs.Owing.{Going, HasSlot, Owing, owing-owes}
use Rattle.xd_run_laws.proofs.Keeping.{Keeper, plain_keeper}
use Rattle.xd_run_laws.proofs.EachServing.{InEach, each-begins, each_keeper}
use Rattle.xd_run_laws.proofs.Going.{going-alike}
use Rattle.xd_run_laws.proofs.OwingInputs.{step-owing}

-- the first starts

-- n workers were started, each at the slot of its number, and nothing else happened
record Opening (s : State) (w : ℕ) : Type 0 where
  rota : s.books.table ≡ fresh_table []
  shared : s.books.shared ≡ false
  unstopped : is_stopped s.books ≡ false
  open_ : s.books.shutting ≡ false
  steal : s.plan.steal ≡ None
  collected : (v : ℕ) → has v (λ m. m.collected) s.books.members ≡ false
  slots : (k : ℕ) → k < w → HasSlot s k
  none : (v : ℕ) → w ≤ v → is_member v s.books.members ≡ false

opening-start : (s : State) (w : ℕ) → Opening s w → Opening (after_effect s (Start w w)) (w + 1)
opening-start s w o =
    let new = started w w in
    let ms = s.books.members in
    record {
      rota = o.rota;
      shared = o.shared;
      unstopped = o.unstopped;
      open_ = refl;
      steal = o.steal;
      collected = λ v. has-more v (λ m. m.collected) ms new ∙ ap (λ (b : Bool). b || (w == v && false)) (o.collected v) ∙ and-false (w == v);
      slots = λ k l. elim (cases_of (k == w)) [
        | inl e ↦
            (let none = o.none w (omega arith) in
            record {
              who = w;
              active = has-more w (λ m. m.active) ms new ∙ or-right (has w (λ m. m.active) ms) (w == w && true) (grind (arith, nat_tests));
              slot = slot-new w ms new none (grind (arith, nat_tests)) ∙ grind (arith, nat_tests, e);
            })
        | inr e ↦
            (let one = o.slots k (grind (arith, nat_tests, e, l)) in
            record {
              who = one.who;
              active = has-more one.who (λ m. m.active) ms new ∙ or-left (has one.who (λ m. m.active) ms) (w == one.who && true) one.active;
              slot = slot-old one.who ms new (has-member one.who (λ m. m.active) ms one.active) ∙ one.slot;
            })
      ];
      none = λ v l. has-more v (λ m. true) ms new ∙ grind (arith, nat_tests, o.none v (omega (arith, l)), l);
    }

opening-starts : (s : State) (w n : ℕ) → Opening s w → Opening (after_entries s (starts_from w n)) (w + n)
opening-starts s w zero o = subst (λ (k : ℕ). Opening s k) (omega arith) o
opening-starts s w (suc n) o =
    let rest = opening-starts (after_effect s (Start w w)) (w + 1) n (opening-start s w o) in
    let same : (w + 1) + n ≡ w + suc n = omega arith in
    subst (λ (k : ℕ). Opening (after_entries s (starts_from w (suc n))) k) same rest

opening-owing : (s : State) (w : ℕ) → s.books.settings.workers ≡ w → 1 ≤ w → Opening s w → Owing (settled s)
opening-owing s w same some o = record { told = λ h. absurd (clash (is_stopped s.books || (s.books.shutting || settles s)) quiet h); going = λ h. going }
  where
    all-false : (a b c : Bool) → a ≡ false → b ≡ false → c ≡ false → (a || (b || c)) ≡ false
    all-false a b c p q r = rw (p, q, r) refl

    unsettled : settles s ≡ false
    unsettled = rw (o.shared, o.unstopped) refl

    quiet : (is_stopped s.books || (s.books.shutting || settles s)) ≡ false
    quiet = all-false (is_stopped s.books) s.books.shutting (settles s) o.unstopped o.open_ unsettled

    alike : Going s → Going (settled s)
    alike g = going-alike s (settled s) (record { active = λ v. refl; shut = λ v. refl; slots = λ v. refl; table = refl; plan = refl; shared = refl; settings = refl }) g.seated g

    going : Going (settled s)
    going = alike (record {
      seated = λ v a c n. absurd (clash (has v (λ m. m.collected) s.books.members) (o.collected v) c);
      work = λ h. absurd (clash s.books.shared o.shared h);
      told = λ h. absurd (clash s.books.shared o.shared h);
      awaited = λ x h. absurd (differ (ap (λ (t : Table). among x t.pool) (sym o.rota) ∙ h));
      asked = λ a e. absurd (let z : None ≡ Some a = sym o.steal ∙ e in cc);
      slots = λ h k l. o.slots k (subst (λ (n : ℕ). k < n) same l);
      room = λ h. (let none : length s.books.table.rota ≡ 0 = ap (λ (t : Table). length t.rota) o.rota in omega (arith, none, same, some));
    })

begun-owing : (settings : Settings) → nat_le 1 settings.workers ≡ true → Owing (after_starts settings)
begun-owing settings h =
    let n = settings.workers in
    let first = after_entries (no_one settings) (first_starts settings) in
    let start : Opening (no_one settings) 0 = record {
      rota = refl;
      shared = refl;
      unstopped = refl;
      open_ = refl;
      steal = refl;
      collected = λ v. refl;
      slots = λ k l. absurd (omega (arith, l));
      none = λ v l. refl;
    } in
    let o = opening-starts (no_one settings) 0 n start in
    opening-owing first (0 + n) (same-settings (no_one settings) 0 n ∙ omega arith) (grind (arith, nat_tests, h)) o
  where
    same-settings : (s : State) (w n : ℕ) → (after_entries s (starts_from w n)).books.settings.workers ≡ s.books.settings.workers
    same-settings s w zero = refl
    same-settings s w (suc n) = same-settings (after_effect s (Start w w)) (w + 1) n

-- the inputs

all-owing : (X : State → Type 0) → Keeper X → (s : State) (es : List Entry) → all_may_follow s es ≡ true → Holds X s → Spent s → Owing s → Owing (after_inputs s es)
all-owing X k s [] h d p o = o
all-owing X k s (e ∷ es) h d p o =
    let q = split-and (may_follow s e) (all_may_follow (after_input s e) es) h in
    all-owing X k (after_input s e) es q.1 (after_input-holds X k.rule s e q.0 d) (spent-step X k.rule s e q.0 d.tidy d.also p) (step-owing X k s e q.0 d.tidy d.also p o)

-- after a whole rule the mark is set where nothing is left to hand out
abbrev IsMarked : State → Type 0
IsMarked s = settles s ≡ true → s.books.shutting ≡ true

all-marked : (s : State) (es : List Entry) → IsMarked s → IsMarked (after_inputs s es)
all-marked s [] m = m
all-marked s (e ∷ es) m = all-marked (after_input s e) es (λ h. or-right (after_entries (after_effect s e) (outputs s e)).books.shutting (settles (after_entries (after_effect s e) (outputs s e))) h)

by_rule : (X : State → Type 0) → Keeper X → (settings : Settings) (inputs : List Entry) → X (no_one settings) → IsProper settings inputs → is_over (after_inputs (after_starts settings) inputs).books ≡ false
    → someone_owes (after_inputs (after_starts settings) inputs) ≡ true
by_rule X k settings inputs x p h =
    let first = begun-holds X k.rule settings x in
    let s = after_inputs (after_starts settings) inputs in
    let opened = after_entries (no_one settings) (first_starts settings) in
    let last = all-hold X k.rule (after_starts settings) inputs p.follow first in
    let owing = all-owing X k (after_starts settings) inputs p.follow first (begun-spent settings) (begun-owing settings p.some_worker) in
    owing-owes s last.tidy owing (all-marked (after_starts settings) inputs (λ z. or-right opened.books.shutting (settles opened) z)) h

by_mode : (k : ModeKind) (settings : Settings) (inputs : List Entry) → settings.mode ≡ k → IsProper settings inputs → is_over (after_inputs (after_starts settings) inputs).books ≡ false
    → someone_owes (after_inputs (after_starts settings) inputs) ≡ true
by_mode Local settings inputs m p h = absurd (differ (ap has_workers (sym m) ∙ p.mode))
by_mode Each settings inputs m p h = by_rule InEach each_keeper settings inputs (each-begins settings m) p h
by_mode Load settings inputs m p h = by_rule InLoad (plain_keeper InLoad load_server) settings inputs (record { first = m; second = refl }) p h
by_mode LoadScope settings inputs m p h = by_rule InScope (plain_keeper InScope scope_server) settings inputs (scope-begins settings (ap is_scope m)) p h
by_mode LoadFile settings inputs m p h = by_rule InScope (plain_keeper InScope scope_server) settings inputs (scope-begins settings (ap is_scope m)) p h
by_mode LoadGroup settings inputs m p h = by_rule InScope (plain_keeper InScope scope_server) settings inputs (scope-begins settings (ap is_scope m)) p h
by_mode WorkSteal settings inputs m p h = by_rule (InMode WorkSteal) (plain_keeper (InMode WorkSteal) steal_server) settings inputs m p h

pub owed : (settings : Settings) (inputs : List Entry) → IsProper settings inputs → is_over (after_inputs (after_starts settings) inputs).books ≡ false → someone_owes (after_inputs (after_starts settings) inputs) ≡ true
owed settings inputs p h = by_mode settings.mode settings inputs refl p h
