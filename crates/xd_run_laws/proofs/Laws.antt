-- The laws.
use Rattle.std.proofs.Common.{◌≡◌, ℕ, subst, Bool, List, true, false, refl, ap, sym, ◌∙◌, arith, ◌≤◌, ◌<◌, [], ◌∷◌, ◌++◌, not, ◌||◌, inl, inr}
use Rattle.xd_run_laws.proofs.Spent.{Spent, all-spent, begun-spent}
use Rattle.xd_run_laws.proofs.Told.{items_told, told-all}
use Rattle.xd_run_laws.proofs.Places.{times-table}
use Rattle.xd_run_laws.proofs.Members.{has}
use Rattle.xd_run_laws.proofs.Rota.{has_seat}
use Rattle.xd_run_laws.specs.Collected.{IsShared, collected}
use Rattle.xd_run_laws.specs.Early.{has_collection}
use Rattle.xd_run_laws.specs.Places.{StandsAt, place_by}
use Rattle.xd_run_laws.specs.Reported.{AreOnce}
use Rattle.xd_journal.specs.declared.settings.Settings.{Settings}
use Rattle.xd_journal.specs.declared.entry.Entry.{Entry}
use Rattle.xd_run.specs.Reports.{reports}
use Rattle.xd_run.specs.Workers.{some_active}
use Rattle.xd_run.specs.Stops.{is_stopped, is_shutting}
use Rattle.xd_run.specs.declared.member.Member.{Member}
use Rattle.xd_run.specs.declared.seat.Seat.{Seat}
use Rattle.std.proofs.lemmas.Bool.Decides.{nat_tests}
use Rattle.std.specs.List.{list_any}
use Rattle.std.specs.Prelude.{sum}
use Rattle.xd_edge.specs.declared.mode.ModeKind.{ModeKind}
use Rattle.xd_edge.specs.declared.mode.ModeKind.TheVariants.{Local, Each, Load, LoadScope, LoadFile, LoadGroup, WorkSteal}
use Rattle.xd_run.specs.Numbers.{times}
use Rattle.xd_run.specs.Table.{all_items, Table, in_rota, held_by_all}
use Rattle.xd_run.specs.Plan.{total, is_scope}
use Rattle.xd_run.specs.Sharing.{State}
use Rattle.xd_run.specs.State.{after_entries, no_one, state_at}
use Rattle.xd_run.specs.Histories.{after_starts, after_inputs, is_over, journal_of}
use Rattle.xd_run.specs.Proper.{has_workers, IsProper}
use Rattle.xd_run.specs.Orderly.{is_orderly_run}
use Rattle.xd_run_laws.specs.Once.{IsOnce}
use Rattle.xd_run_laws.proofs.Logic.{differ, cases_of, split-and, not_true}
use Rattle.xd_run_laws.proofs.Counts.{times-in_range, times-after_range, empty-of_times}
use Rattle.xd_run_laws.proofs.Placed.{Placed, due_times, at_most_once}
use Rattle.xd_run_laws.proofs.Turns.{Tidy}
use Rattle.xd_run_laws.proofs.Rule.{Rule}
use Rattle.xd_run_laws.proofs.Runs.{begun-holds, all-hold, all-orderly}
use Rattle.xd_run_laws.proofs.Shared.{Listing, keeps_listing, listing-none}
use Rattle.xd_run_laws.proofs.Walk.{AllCome, Keeps, come-front, come-journal, journal-state, walk}
use Rattle.xd_run_laws.proofs.Early.{Early, early-none, keeps_early}
use Rattle.xd_run_laws.proofs.Placing.{Standing, keeps_standing, standing-none}
use Rattle.xd_run_laws.proofs.InMode.{InMode}
use Rattle.xd_run_laws.proofs.LoadRule.{load_rule}
use Rattle.xd_run_laws.proofs.StealRule.{steal_rule}
use Rattle.xd_run_laws.proofs.EachRule.{each_rule}
use Rattle.xd_run_laws.proofs.ScopeInputs.{Scoped}
use Rattle.xd_run_laws.proofs.ScopeRule.{scope_rule, scoped-none}

-- what the laws say of one run
pub record Lawful (settings : Settings) (inputs : List Entry) : Type 0 where
  pub come : AllCome (no_one settings) (journal_of settings inputs)
  pub order : is_orderly_run (after_starts settings) inputs ≡ true
  pub tidy : Tidy (after_inputs (after_starts settings) inputs)
  pub spent : Spent (after_inputs (after_starts settings) inputs)
  pub told : items_told (reports settings (journal_of settings inputs)) ≡ (after_inputs (after_starts settings) inputs).books.table.reported

by_rule : (X : State → Type 0) → Rule X → (settings : Settings) (inputs : List Entry) → X (no_one settings) → IsProper settings inputs → Lawful settings inputs
by_rule X rule settings inputs x p =
    let b = begun-holds X rule settings x in
    record {
      come = come-journal X rule settings inputs x p.follow;
      order = all-orderly X rule (after_starts settings) inputs p.follow b;
      tidy = (all-hold X rule (after_starts settings) inputs p.follow b).tidy;
      spent = all-spent X rule (after_starts settings) inputs p.follow b (begun-spent settings);
      told = told-all X rule settings inputs p.follow b;
    }

by_mode : (k : ModeKind) (settings : Settings) (inputs : List Entry) → settings.mode ≡ k → IsProper settings inputs → Lawful settings inputs
by_mode Local settings inputs m p = absurd (differ (ap has_workers (sym m) ∙ p.mode))
by_mode Each settings inputs m p = by_rule (InMode Each) each_rule settings inputs m p
by_mode Load settings inputs m p = by_rule (InMode Load) load_rule settings inputs m p
by_mode LoadScope settings inputs m p = by_rule Scoped scope_rule settings inputs (scoped-none settings (ap is_scope m)) p
by_mode LoadFile settings inputs m p = by_rule Scoped scope_rule settings inputs (scoped-none settings (ap is_scope m)) p
by_mode LoadGroup settings inputs m p = by_rule Scoped scope_rule settings inputs (scoped-none settings (ap is_scope m)) p
by_mode WorkSteal settings inputs m p = by_rule (InMode WorkSteal) steal_rule settings inputs m p

pub lawful : (settings : Settings) (inputs : List Entry) → IsProper settings inputs → Lawful settings inputs
lawful settings inputs p = by_mode settings.mode settings inputs refl p

-- what each entry keeps holds after a proper journal
pub journal-keeps : (settings : Settings) (inputs : List Entry) (R : State → List Entry → Type 0) → Keeps settings R → IsProper settings inputs → R (no_one settings) []
    → R (after_inputs (after_starts settings) inputs) (journal_of settings inputs)
journal-keeps settings inputs R k p r =
    let es = journal_of settings inputs in
    subst (λ (s : State). R s es) (journal-state settings inputs p.follow)
    (k.settled (after_entries (no_one settings) es) es (walk settings R k es (lawful settings inputs p).come r))

once-placed : (s : State) → Placed s → IsOnce s
once-placed s k =
    let whole : (b : Bool) → s.books.shared ≡ b → (x : ℕ) → times x (all_items s.books.table) ≡ due_times x b (total s.plan) =
    λ b h x. k.whole x ∙ ap (λ (q : Bool). due_times x q (total s.plan)) h in
    record {
      each_once = λ h x l. whole true h x ∙ times-in_range x 0 (total s.plan) (omega arith) (omega (arith, l));
      no_other = λ h x l. whole true h x ∙ times-after_range x 0 (total s.plan) (omega (arith, l));
      none_before = λ h. empty-of_times (all_items s.books.table) (whole false h);
    }

pub orderly : (settings : Settings) (inputs : List Entry) → IsProper settings inputs → is_orderly_run (after_starts settings) inputs ≡ true
orderly settings inputs p = (lawful settings inputs p).order

pub in_one_place : (settings : Settings) (inputs : List Entry) → IsProper settings inputs → IsOnce (after_inputs (after_starts settings) inputs)
in_one_place settings inputs p = once-placed (after_inputs (after_starts settings) inputs) (lawful settings inputs p).tidy.placed

-- the reports

reported-within : (x : ℕ) (t : Table) → times x t.reported ≤ times x (all_items t)
reported-within x t = omega (arith, times-table x t)

-- where nobody is active nobody has a seat
none_active : (v : ℕ) (ms : List Member) → list_any (λ m. m.active) ms ≡ false → has v (λ m. m.active) ms ≡ false
none_active v [] h = refl
none_active v (m ∷ ms) h = grind (arith, nat_tests, none_active v ms, h)

no_seats : (ss : List Seat) → ((w : ℕ) → has_seat w ss ≡ false) → held_by_all ss ≡ []
no_seats [] h = refl
no_seats (s ∷ ss) h = absurd (let k = h s.worker in grind (arith, nat_tests, k))

not_shut_by : (stopped shutting : Bool) → (stopped || shutting) ≡ true → stopped ≡ false → shutting ≡ true
not_shut_by true b h k = absurd (differ (sym k))
not_shut_by false b h k = h

all-told : (s : State) → Tidy s → Spent s → is_over s.books ≡ true → is_stopped s.books ≡ false → (x : ℕ) → x < total s.plan → times x s.books.table.reported ≡ 1
all-told s d k h u x l =
    let t = s.books.table in
    let a = split-and (is_shutting s.books) (not (some_active s.books)) h in
    let shutting : s.books.shutting ≡ true = not_shut_by (is_stopped s.books) s.books.shutting a.0 u in
    let quiet = not_true (some_active s.books) a.1 in
    let left : (w : ℕ) → has_seat w t.rota ≡ false = λ w. elim (cases_of (in_rota w t)) [
      | inl r ↦ absurd (differ (sym (none_active w s.books.members quiet) ∙ d.placed.fits.active w r))
      | inr r ↦ r
    ] in
    let held : times x (held_by_all t.rota) ≡ 0 = ap (λ (xs : List ℕ). times x xs) (no_seats t.rota left) in
    let pool : times x t.pool ≡ 0 = ap (λ (xs : List ℕ). times x xs) (k.spent shutting u).pool in
    let one = (once-placed s d.placed).each_once (d.calm.late shutting) x l in
    omega (arith, held, pool, one, times-table x t)

total_or_none : (s : State) → Placed s → (x : ℕ) → total s.plan ≤ x → times x (all_items s.books.table) ≡ 0
total_or_none s k x l = elim (cases_of s.books.shared) [
  | inl h ↦ (once-placed s k).no_other h x l
  | inr h ↦ ap (λ (xs : List ℕ). times x xs) ((once-placed s k).none_before h)
]

pub reported_once : (settings : Settings) (inputs : List Entry) → IsProper settings inputs → AreOnce (reports settings (journal_of settings inputs)) (after_inputs (after_starts settings) inputs)
reported_once settings inputs p =
    let l = lawful settings inputs p in
    let s = after_inputs (after_starts settings) inputs in
    let same : (x : ℕ) → times x (items_told (reports settings (journal_of settings inputs))) ≡ times x s.books.table.reported = λ x. ap (λ (xs : List ℕ). times x xs) l.told in
    record {
      at_most = λ x. omega (arith, same x, reported-within x s.books.table, at_most_once s l.tidy.placed x);
      no_other = λ x h. (let none = total_or_none s l.tidy.placed x h in omega (arith, same x, reported-within x s.books.table, none));
      all_told = λ h u x b. same x ∙ all-told s l.tidy l.spent h u x b;
    }

-- a run that is over and was not stopped was shared, and has the tests that were collected

pub over-shared : (s : State) → Tidy s → is_over s.books ≡ true → is_stopped s.books ≡ false → s.books.shared ≡ true
over-shared s d h u =
    let a = split-and (is_shutting s.books) (not (some_active s.books)) h in
    d.calm.late (not_shut_by (is_stopped s.books) s.books.shutting a.0 u)

pub shared_total : (settings : Settings) (inputs : List Entry) → IsProper settings inputs → (after_inputs (after_starts settings) inputs).books.shared ≡ true
    → total (after_inputs (after_starts settings) inputs).plan ≡ collected (after_inputs (after_starts settings) inputs).books
shared_total settings inputs p h =
    let k : Listing (after_inputs (after_starts settings) inputs) = journal-keeps settings inputs (λ s es. Listing s) (keeps_listing settings) p (listing-none settings) in
    ap sum (k.sizes h)

pub was_shared : (settings : Settings) (inputs : List Entry) → IsProper settings inputs → is_over (after_inputs (after_starts settings) inputs).books ≡ true
    → is_stopped (after_inputs (after_starts settings) inputs).books ≡ false → IsShared (after_inputs (after_starts settings) inputs)
was_shared settings inputs p h u =
    let shared = over-shared (after_inputs (after_starts settings) inputs) (lawful settings inputs p).tidy h u in
    record { shared = shared; tests = shared_total settings inputs p shared }

-- before the share nothing is reported
pub none-reported : (settings : Settings) (inputs : List Entry) → IsProper settings inputs → (after_inputs (after_starts settings) inputs).books.shared ≡ false
    → (x : ℕ) → times x (items_told (reports settings (journal_of settings inputs))) ≡ 0
none-reported settings inputs p h x =
    let l = lawful settings inputs p in
    let s = after_inputs (after_starts settings) inputs in
    let none : times x (all_items s.books.table) ≡ 0 = ap (λ (xs : List ℕ). times x xs) ((once-placed s l.tidy.placed).none_before h) in
    let same : times x (items_told (reports settings (journal_of settings inputs))) ≡ times x s.books.table.reported = ap (λ (xs : List ℕ). times x xs) l.told in
    omega (arith, same, reported-within x s.books.table, none)

-- what each entry keeps holds after each part of a proper journal
pub part-keeps : (settings : Settings) (inputs : List Entry) (R : State → List Entry → Type 0) → Keeps settings R → IsProper settings inputs → R (no_one settings) []
    → (before after : List Entry) → journal_of settings inputs ≡ before ++ after → R (state_at settings before) before
part-keeps settings inputs R k p r before after e =
    let come = come-front (no_one settings) before after (subst (λ (es : List Entry). AllCome (no_one settings) es) e (lawful settings inputs p).come) in
    k.settled (after_entries (no_one settings) before) before (walk settings R k before come r)

pub no_early : (settings : Settings) (inputs : List Entry) → IsProper settings inputs → (before after : List Entry) → journal_of settings inputs ≡ before ++ after → has_collection before ≡ false
    → reports settings before ≡ []
no_early settings inputs p before after e h =
    let k : Early settings (state_at settings before) before = part-keeps settings inputs (Early settings) (keeps_early settings) p (early-none settings) before after e in
    (k h).none

pub last_decides : (settings : Settings) (inputs : List Entry) → IsProper settings inputs → (before after : List Entry) → journal_of settings inputs ≡ before ++ after
    → (x : ℕ) → StandsAt (state_at settings before).books.table x (place_by settings before x)
last_decides settings inputs p before after e = part-keeps settings inputs (Standing settings) (keeps_standing settings) p (standing-none settings) before after e
