-- Before the share the plan is the one of the start.
use Rattle.std.proofs.lemmas.Bool.Decides.{nat_tests}
use Rattle.std.proofs.Common.{◌≡◌, ℕ, ◌+◌, List, [], ◌∷◌, drop, map, Bool, true, false, ◌&&◌, refl, ap, sym, ◌∙◌, subst, arith, inl, inr}
use Rattle.std.specs.Prelude.{None, if◌then◌else◌, is_none}
use Rattle.xd_journal.specs.declared.settings.Settings.{Settings}
use Rattle.xd_journal.specs.declared.entry.Entry.{Entry}
use Rattle.xd_journal.specs.declared.entry.Entry.TheVariants.{Ready, Collected, Done, Back, Finished, Refused, Down, NotStarted, Start, Run, RunAll, Steal, Shutdown, Kill, Over}
use Rattle.xd_run.specs.Numbers.{all_among, all_distinct, among, times}
use Rattle.xd_run.specs.Table.{all_items, held, retried_item}
use Rattle.xd_run.specs.Plan.{Plan, base, is_each, is_scope, items_named, slot_items, total}
use Rattle.xd_run.specs.Books.{marked}
use Rattle.xd_run.specs.Collections.{listed, unequal, with_list}
use Rattle.xd_run.specs.Workers.{made_collected, slot_of}
use Rattle.xd_run.specs.Retry.{is_retry}
use Rattle.xd_run.specs.Sharing.{State, in_books}
use Rattle.xd_run.specs.Deaths.{down_plan}
use Rattle.xd_run.specs.State.{after_effect, no_one}
use Rattle.xd_run.specs.Proper.{may_follow}
use Rattle.xd_run.specs.Orderly.{is_in_order, is_orderly, may_run, not_empty}
use Rattle.xd_run_laws.specs.Called.{Reached}
use Rattle.xd_run_laws.proofs.Logic.{cases_of, differ, split-and}
use Rattle.xd_run_laws.proofs.Counts.{among-drop, among-times}
use Rattle.xd_run_laws.proofs.Places.{no-retried, times-table}
use Rattle.xd_run_laws.proofs.Placed.{Placed, due_times, first_among, shared-of_held}
use Rattle.xd_run_laws.proofs.Inputs.{collecting-keeps}
use Rattle.xd_run_laws.proofs.Walk.{Keeps}
use Rattle.xd_run_laws.proofs.Laws.{journal-keeps}

-- nothing was planned yet
abbrev pub Unplanned : Settings → State → Type 0
Unplanned settings s = s.books.shared ≡ false → s.plan ≡ (no_one settings).plan

both-none : (b : Bool) (us : List (List ℕ)) → us ≡ [] → (if b then us else []) ≡ []
both-none true us h = h
both-none false us h = refl

named-some : (slot : ℕ) (is : List ℕ) (p : Plan) → not_empty is ≡ true → not_empty (items_named slot is p) ≡ true
named-some slot [] p h = absurd (differ h)
named-some slot (i ∷ is) p h = elim (is_each p.mode) as (λ b. not_empty (if b then (base slot p + i) ∷ map (λ j. base slot p + j) is else i ∷ is) ≡ true) [ true ↦ refl | false ↦ refl ]

-- a death at which nothing is tried again changes nothing of such a plan
down-unplanned : (settings : Settings) (w : ℕ) (rest : List ℕ) (p : Plan) → p ≡ (no_one settings).plan → down_plan w [] rest p ≡ p
down-unplanned settings w rest p h =
    let start = (no_one settings).plan in
    let same : down_plan w [] rest start ≡ start = ap (λ (us : List (List ℕ)). record start { queue = us }) (both-none (is_scope start.mode) [] refl) in
    ap (down_plan w [] rest) h ∙ same ∙ sym h

-- where an item is in the pool the tests are shared
shared-of_pool : (s : State) (x : ℕ) → Placed s → among x s.books.table.pool ≡ true → s.books.shared ≡ true
shared-of_pool s x k h = elim (cases_of s.books.shared) [
  | inl e ↦ e
  | inr e ↦
      (let t = s.books.table in
      let none : times x (all_items t) ≡ 0 = k.whole x ∙ ap (λ (b : Bool). due_times x b (total s.plan)) e in
      absurd (omega (arith, none, times-table x t, among-times x t.pool h)))
]

run-shared : (s : State) (w : ℕ) (is : List ℕ) → Placed s → is_orderly s (Run w is) ≡ true → s.books.shared ≡ true
run-shared s w is k h =
    let slot = slot_of w s.books in
    let items = items_named slot is s.plan in
    let pool = s.books.table.pool in
    let a = split-and (may_run w s && not_empty is && all_distinct items && all_among items pool) (if is_each s.plan.mode then all_among items (slot_items slot s.plan) else true) h in
    let b = split-and (may_run w s && not_empty is && all_distinct items) (all_among items pool) a.0 in
    let c = split-and (may_run w s && not_empty is) (all_distinct items) b.0 in
    let d = split-and (may_run w s) (not_empty is) c.0 in
    let one = first_among items pool (named-some slot is s.plan d.1) b.1 in
    shared-of_pool s one.0 k one.1

steal-shared : (s : State) (w : ℕ) (is : List ℕ) → Placed s → is_orderly s (Steal w is) ≡ true → s.books.shared ≡ true
steal-shared s w is k h =
    let following = drop 2 (held w s.books.table) in
    let a = split-and (may_run w s && is_in_order (items_named (slot_of w s.books) is s.plan) (held w s.books.table) && is_none s.plan.steal && not_empty is && all_distinct is) (all_among is following) h in
    let b = split-and (may_run w s && is_in_order (items_named (slot_of w s.books) is s.plan) (held w s.books.table) && is_none s.plan.steal && not_empty is) (all_distinct is) a.0 in
    let c = split-and (may_run w s && is_in_order (items_named (slot_of w s.books) is s.plan) (held w s.books.table) && is_none s.plan.steal) (not_empty is) b.0 in
    let one = first_among is following c.1 a.1 in
    shared-of_held s w one.0 k (among-drop one.0 2 (held w s.books.table) one.1)

-- before the share nobody holds anything
none-held : (s : State) (w : ℕ) → Placed s → s.books.shared ≡ false → held w s.books.table ≡ []
none-held s w k n = by (held w s.books.table) refl
  where
    by : (xs : List ℕ) → held w s.books.table ≡ xs → xs ≡ []
    by [] e = refl
    by (x ∷ xs) e = absurd (differ (sym n ∙ shared-of_held s w x k (ap (λ (ys : List ℕ). among x ys) e ∙ grind (arith, nat_tests))))

-- so a death changes nothing of the plan
down-unheld : (settings : Settings) (s : State) (w : ℕ) → Placed s → s.plan ≡ (no_one settings).plan → s.books.shared ≡ false → (after_effect s (NotStarted w)).plan ≡ s.plan
down-unheld settings s w k e n =
    let rest = drop 1 (held w s.books.table) in
    let none : retried_item (is_retry w s.books) (held w s.books.table) ≡ [] = ap (λ (xs : List ℕ). retried_item (is_retry w s.books) xs) (none-held s w k n) ∙ no-retried (is_retry w s.books) in
    ap (λ (xs : List ℕ). down_plan w xs rest s.plan) none ∙ down-unplanned settings w rest s.plan e

unplanned-said : (settings : Settings) (s : State) (e : Entry) → may_follow s e ≡ true → Placed s → Unplanned settings s → Unplanned settings (after_effect s e)
unplanned-said settings s (Ready w) h d k = k
unplanned-said settings s (Collected w g) h d k =
    collecting-keeps (Unplanned settings) (in_books (λ b. marked (made_collected w) (with_list w g b)) s) w (unequal w g (listed w s.books)) k k k (λ n e. absurd (differ (sym e)))
unplanned-said settings s (Done w i u m o) h d k = k
unplanned-said settings s (Back w is) h d k = λ n. ap (λ (p : Plan). record p { steal = None }) (k n)
unplanned-said settings s (Finished w) h d k = k
unplanned-said settings s (Refused w t) h d k = k
unplanned-said settings s (Down w c o) h d k = λ n. down-unheld settings s w d (k n) n ∙ k n
unplanned-said settings s (NotStarted w) h d k = λ n. down-unheld settings s w d (k n) n ∙ k n
unplanned-said settings s (Start w slot) h d k = absurd (differ h)
unplanned-said settings s (Run w is) h d k = absurd (differ h)
unplanned-said settings s (RunAll w) h d k = absurd (differ h)
unplanned-said settings s (Steal w is) h d k = absurd (differ h)
unplanned-said settings s (Shutdown w) h d k = absurd (differ h)
unplanned-said settings s (Kill w) h d k = absurd (differ h)
unplanned-said settings s (Over how) h d k = absurd (differ h)

unplanned-told : (settings : Settings) (s : State) (e : Entry) → Placed s → is_orderly s e ≡ true → Unplanned settings s → Unplanned settings (after_effect s e)
unplanned-told settings s (Start w slot) p h k = k
unplanned-told settings s (Run w is) p h k = λ n. absurd (differ (sym n ∙ run-shared s w is p h))
unplanned-told settings s (RunAll w) p h k = k
unplanned-told settings s (Steal w is) p h k = λ n. absurd (differ (sym n ∙ steal-shared s w is p h))
unplanned-told settings s (Shutdown w) p h k = k
unplanned-told settings s (Kill w) p h k = k
unplanned-told settings s (Over how) p h k = k
unplanned-told settings s (Ready w) p h k = absurd (differ h)
unplanned-told settings s (Collected w g) p h k = absurd (differ h)
unplanned-told settings s (Done w i u m o) p h k = absurd (differ h)
unplanned-told settings s (Back w i) p h k = absurd (differ h)
unplanned-told settings s (Finished w) p h k = absurd (differ h)
unplanned-told settings s (Refused w t) p h k = absurd (differ h)
unplanned-told settings s (Down w c o) p h k = absurd (differ h)
unplanned-told settings s (NotStarted w) p h k = absurd (differ h)

keeps_unplanned : (settings : Settings) → Keeps settings (λ s es. Unplanned settings s)
keeps_unplanned settings = record {
  said = λ s es e d h at k. unplanned-said settings s e h d.placed k;
  told = λ s es e p h at k. unplanned-told settings s e p h k;
  settled = λ s es k. k;
}

-- a death before the share changes nothing of the plan
pub down-unshared : (s : State) (w : ℕ) (rest : List ℕ) → Reached s → s.books.shared ≡ false → down_plan w [] rest s.plan ≡ s.plan
down-unshared s w rest r n =
    let k : Unplanned r.settings s = subst (Unplanned r.settings) (sym r.state) (journal-keeps r.settings r.inputs (λ u es. Unplanned r.settings u) (keeps_unplanned r.settings) r.proper (λ e. refl)) in
    down-unplanned r.settings w rest s.plan (k n)
