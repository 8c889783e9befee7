-- The calls of the mode after the inputs of a proper run, in every mode.
use Rattle.std.proofs.Common.{◌≡◌, ℕ, ◌<◌, List, [], ◌∷◌, length, map, true, false, not, refl, ap, sym, ◌∙◌, subst, arith}
use Rattle.std.specs.Prelude.{nat_lt}
use Rattle.std.specs.List.{list_all, list_any}
use Rattle.std.proofs.lemmas.Bool.Decides.{nat_tests}
use Rattle.std.proofs.lemmas.List.{length-map}
use Rattle.xd_edge.specs.declared.mode.ModeKind.{ModeKind}
use Rattle.xd_edge.specs.declared.mode.ModeKind.TheVariants.{Local, Each, Load, LoadScope, LoadFile, LoadGroup, WorkSteal}
use Rattle.xd_journal.specs.declared.settings.Settings.{Settings}
use Rattle.xd_journal.specs.declared.entry.Ids.{Ids}
use Rattle.xd_journal.specs.declared.entry.Outcome.{Outcome}
use Rattle.xd_journal.specs.declared.entry.Entry.{Entry}
use Rattle.xd_journal.specs.declared.entry.Entry.TheVariants.{Collected, Done, Back}
use Rattle.xd_run.specs.Numbers.{all_distinct, among}
use Rattle.xd_run.specs.Table.{in_rota, workers_of}
use Rattle.xd_run.specs.Plan.{is_scope, items_named}
use Rattle.xd_run.specs.Modes.{ModeCall}
use Rattle.xd_run.specs.Modes.ModeCall.{Share, Joined, TestDone, TestsBack, Died}
use Rattle.xd_run.specs.Books.{marked}
use Rattle.xd_run.specs.Collections.{listed, unequal, with_list}
use Rattle.xd_run.specs.Workers.{is_active, is_shut, made_collected, slot_of}
use Rattle.xd_run.specs.Sharing.{State, in_books}
use Rattle.xd_run.specs.State.{after_effect, no_one}
use Rattle.xd_run.specs.Outputs.{slots_of_rota}
use Rattle.xd_run.specs.Stops.{is_stopped}
use Rattle.xd_run.specs.Suits.{AreInPool, CallSuits, CanShare, tests_of_units}
use Rattle.xd_run.specs.Histories.{after_starts, after_inputs}
use Rattle.xd_run.specs.Proper.{IsProper, has_workers, is_head, may_follow}
use Rattle.xd_run_laws.specs.Called.{Called, Reached}
use Rattle.xd_run_laws.proofs.Logic.{and, differ, not_true, split-and}
use Rattle.xd_run_laws.proofs.Counts.{all_among-of, among-times, distinct-of_times, times-among}
use Rattle.xd_run_laws.proofs.Members.{has-member, has-same}
use Rattle.xd_run_laws.proofs.Rota.{seat-among, seat-of_held}
use Rattle.xd_run_laws.proofs.Places.{times-table}
use Rattle.xd_run_laws.proofs.Placed.{at_most_once, head_among, one_item, shared-of_back, shared-of_held}
use Rattle.xd_run_laws.proofs.Queue.{QueueFits}
use Rattle.xd_run_laws.proofs.Turns.{InRota, Tidy, pool-distinct}
use Rattle.xd_run_laws.proofs.EachTurns.{rota-apart, rota-distinct}
use Rattle.xd_run_laws.proofs.Rule.{CallFits, IsFresh, Rule}
use Rattle.xd_run_laws.proofs.Runs.{all-hold, begun-holds}
use Rattle.xd_run_laws.proofs.Inputs.{joins-by, joins-rota, shut_as_before, still_shared, tidy-input}
use Rattle.xd_run_laws.proofs.Outputs.{fresh-by, unshut-collected, workers-first}
use Rattle.xd_run_laws.proofs.InMode.{InMode}
use Rattle.xd_run_laws.proofs.LoadRule.{load_rule}
use Rattle.xd_run_laws.proofs.StealRule.{steal_rule}
use Rattle.xd_run_laws.proofs.EachRule.{each_rule}
use Rattle.xd_run_laws.proofs.ScopeInputs.{Scoped}
use Rattle.xd_run_laws.proofs.ScopeRule.{scope_rule, scoped-none}

-- the units that wait

in-pool : (s : State) → Tidy s → QueueFits s.books.table s.plan s.books.members → AreInPool s.plan.queue s.books.table.pool
in-pool s d q =
    let pool = s.books.table.pool in
    record {
      distinct = distinct-of_times (tests_of_units s.plan.queue) (λ x. (let a = q.whole x in let b = at_most_once s d.placed x in let c = times-table x s.books.table in omega (arith, a, b, c)));
      within = all_among-of (tests_of_units s.plan.queue) pool (λ x h. (let a = among-times x (tests_of_units s.plan.queue) h in let b = q.whole x in times-among x pool (omega (arith, a, b))));
      filled = q.filled;
    }

-- the slots of different workers that have different ones

apart-among : (f : ℕ → ℕ) (w : ℕ) (ws : List ℕ) → among w ws ≡ false → ((v : ℕ) → among v ws ≡ true → f v ≡ f w → v ≡ w) → among (f w) (map f ws) ≡ false
apart-among f w [] n k = refl
apart-among f w (v ∷ ws) n k =
    let r = apart-among f w ws (grind (arith, nat_tests, n)) (λ u a e. k u (grind (arith, nat_tests, a)) e) in
    let here : among v (v ∷ ws) ≡ true = grind (arith, nat_tests) in
    let one : f v ≡ f w → v ≡ w = k v here in
    grind (arith, nat_tests, r, n, one)

distinct-slots : (f : ℕ → ℕ) (ws : List ℕ) → all_distinct ws ≡ true → ((v w : ℕ) → among v ws ≡ true → among w ws ≡ true → f v ≡ f w → v ≡ w) → all_distinct (map f ws) ≡ true
distinct-slots f [] d k = refl
distinct-slots f (w ∷ ws) d k =
    let p = split-and (not (among w ws)) (all_distinct ws) d in
    let none : among w ws ≡ false = not_true (among w ws) p.0 in
    let here : among w (w ∷ ws) ≡ true = grind (arith, nat_tests) in
    let a = apart-among f w ws none (λ v i e. k v w (grind (arith, nat_tests, i)) here e) in
    let r = distinct-slots f ws p.1 (λ v u i j e. k v u (grind (arith, nat_tests, i)) (grind (arith, nat_tests, j)) e) in
    and (rw a refl) r

slots-below : (f : ℕ → ℕ) (n : ℕ) (ws : List ℕ) → ((w : ℕ) → among w ws ≡ true → f w < n) → list_all (λ s. nat_lt s n) (map f ws) ≡ true
slots-below f n [] k = refl
slots-below f n (w ∷ ws) k =
    let here : f w < n = k w (grind (arith, nat_tests)) in
    let r = slots-below f n ws (λ v i. k v (grind (arith, nat_tests, i))) in
    and (grind (arith, nat_tests, here)) r

slot-below : (s : State) → Tidy s → (w : ℕ) → InRota s w → slot_of w s.books < s.books.settings.workers
slot-below s d w a = d.members.below w (has-member w (λ m. m.active) s.books.members (d.placed.fits.active w (seat-among w s.books.table.rota ∙ a)))

can-share : (s : State) (slots : List ℕ) → Tidy s → IsFresh s slots → CanShare slots s.plan s.books.table
can-share s slots d f =
    let ws = workers_of s.books.table in
    let slot : ℕ → ℕ = λ w. slot_of w s.books in
    record {
      pool = f.pool;
      each_has_one = ap (λ (xs : List ℕ). length xs) f.slots_are ∙ length-map ws slot;
      distinct = subst (λ (xs : List ℕ). all_distinct xs ≡ true) (sym f.slots_are) (distinct-slots slot ws (rota-distinct s d) (rota-apart s d));
      known = λ e. subst (λ (xs : List ℕ). list_all (λ k. nat_lt k (length s.plan.sizes)) xs ≡ true) (sym f.slots_are)
          (subst (λ (n : ℕ). list_all (λ k. nat_lt k n) (map slot ws) ≡ true) (sym (f.sizes e)) (slots-below slot s.books.settings.workers ws (slot-below s d)));
    }

call-suits : (s : State) (c : ModeCall) → Tidy s → CallFits s c → CallSuits c s.plan s.books.table
call-suits s (Share slots) d f = can-share s slots d f
call-suits s (Joined w slot) d f = tt
call-suits s (TestDone w ms) d f = tt
call-suits s TestsBack d f = tt
call-suits s Died d f = tt

called : (X : State → Type 0) → Rule X → (s : State) (c : ModeCall) → Tidy s → s.books.shared ≡ true → X s → CallFits s c → Called c s
called X rule s c d h x f =
    let a = rule.agrees s c d h x f in
    record {
      finds = record { seats = rota-distinct s d; pool = pool-distinct s d.placed; queue = λ q. in-pool s d (rule.queue s x q); call = call-suits s c d f };
      table = a.table;
      plan = a.plan;
    }

-- after each input, where the mode keeps its rule

done-by : (X : State → Type 0) → Rule X → (w i : ℕ) (u : Outcome) (m : ℕ) (o : List ℕ) (s : State) → Tidy s → X s → may_follow s (Done w i u m o) ≡ true → Called (TestDone w m) (after_effect s (Done w i u m o))
done-by X rule w i u m o s d x h =
    let e : Entry = Done w i u m o in
    let items = items_named (slot_of w s.books) (i ∷ []) s.plan in
    let a = split-and (is_active w s.books) (list_any (λ item. is_head w item s) items) h in
    let one = one_item (slot_of w s.books) i s.plan (λ item. is_head w item s) a.1 in
    let holds = head_among w one.0 s one.2 in
    let rota : in_rota w s.books.table ≡ true = seat-of_held w s.books.table.rota one.0 holds in
    let still : InRota (after_effect s e) w = ap (λ (ws : List ℕ). among w ws) (workers-first w items s.books.table) ∙ sym (seat-among w s.books.table.rota) ∙ rota in
    called X rule (after_effect s e) (TestDone w m) (tidy-input s e h d) (shared-of_held s w one.0 d.placed holds) (rule.input s e h d x) still

back-by : (X : State → Type 0) → Rule X → (w : ℕ) (is : List ℕ) (s : State) → Tidy s → X s → may_follow s (Back w is) ≡ true → Called TestsBack (after_effect s (Back w is))
back-by X rule w is s d x h = called X rule (after_effect s (Back w is)) TestsBack (tidy-input s (Back w is) h d) (shared-of_back s w is d.placed h) (rule.input s (Back w is) h d x) tt

died-by : (X : State → Type 0) → Rule X → (e : Entry) (s : State) → Tidy s → X s → may_follow s e ≡ true → (after_effect s e).books.shared ≡ true → Called Died (after_effect s e)
died-by X rule e s d x h k = called X rule (after_effect s e) Died (tidy-input s e h d) k (rule.input s e h d x) tt

-- the worker joins by its collection
pub record Joins (s : State) (w : ℕ) (g : Ids) : Type 0 where
  pub follows : may_follow s (Collected w g) ≡ true
  pub unshut : is_shut w s.books ≡ false
  pub before : is_stopped s.books ≡ false
  pub going : is_stopped (after_effect s (Collected w g)).books ≡ false

abbrev noted : ℕ → Ids → State → State
noted w g s = in_books (λ b. marked (made_collected w) (with_list w g b)) s

unshut-noted : (s : State) (w : ℕ) (g : Ids) → is_shut w s.books ≡ false → is_shut w (noted w g s).books ≡ false
unshut-noted s w g h = has-same w (λ m. m.shut) (made_collected w) s.books.members (λ m. refl) (λ m. refl) ∙ h

joined-by : (X : State → Type 0) → Rule X → (w : ℕ) (g : Ids) (s : State) → Tidy s → X s → Joins s w g → s.books.shared ≡ true
    → Called (Joined w (slot_of w (after_effect s (Collected w g)).books)) (after_effect s (Collected w g))
joined-by X rule w g s d x j h =
    let e : Entry = Collected w g in
    let now = after_effect s e in
    let t = tidy-input s e j.follows d in
    let same = joins-by (noted w g s) w (unequal w g (listed w s.books)) (unshut-noted s w g j.unshut) j.going in
    let rota : InRota now w = subst (λ (u : State). InRota u w) (sym same) (joins-rota (noted w g s) w) in
    called X rule now (Joined w (slot_of w now.books)) t (still_shared s w g h) (rule.input s e j.follows d x)
    (record { rota = rota; slot_is = refl; unshut = sym (t.placed.fits.marks w (seat-among w now.books.table.rota ∙ rota)) ∙ shut_as_before s w w g ∙ j.unshut })

shared-by : (X : State → Type 0) → Rule X → (w : ℕ) (g : Ids) (s : State) → Tidy s → X s → Joins s w g → s.books.shared ≡ false → (after_effect s (Collected w g)).books.shared ≡ true
    → Called (Share (slots_of_rota (after_effect s (Collected w g)).books)) (after_effect s (Collected w g))
shared-by X rule w g s d x j n k =
    let e : Entry = Collected w g in
    let now = after_effect s e in
    let same = joins-by (noted w g s) w (unequal w g (listed w s.books)) (unshut-noted s w g j.unshut) j.going in
    called X rule now (Share (slots_of_rota now.books)) (tidy-input s e j.follows d) k (rule.input s e j.follows d x)
    (fresh-by (noted w g s) now w same (unshut-collected s w g d.calm j.before n) n k)

-- in every mode

holds-by : (X : State → Type 0) → Rule X → (P : State → Type 0) → ((s : State) → Tidy s → X s → P s) → (settings : Settings) (inputs : List Entry) → X (no_one settings) → IsProper settings inputs
    → P (after_inputs (after_starts settings) inputs)
holds-by X rule P f settings inputs x p =
    let k = all-hold X rule (after_starts settings) inputs p.follow (begun-holds X rule settings x) in
    f (after_inputs (after_starts settings) inputs) k.tidy k.also

module _ (P : State → Type 0) (f : (X : State → Type 0) → Rule X → (s : State) → Tidy s → X s → P s) (settings : Settings) (inputs : List Entry) (p : IsProper settings inputs) where
  in-mode : (k : ModeKind) → settings.mode ≡ k → P (after_inputs (after_starts settings) inputs)
  in-mode Local m = absurd (differ (ap has_workers (sym m) ∙ p.mode))
  in-mode Each m = holds-by (InMode Each) each_rule P (f (InMode Each) each_rule) settings inputs m p
  in-mode Load m = holds-by (InMode Load) load_rule P (f (InMode Load) load_rule) settings inputs m p
  in-mode LoadScope m = holds-by Scoped scope_rule P (f Scoped scope_rule) settings inputs (scoped-none settings (ap is_scope m)) p
  in-mode LoadFile m = holds-by Scoped scope_rule P (f Scoped scope_rule) settings inputs (scoped-none settings (ap is_scope m)) p
  in-mode LoadGroup m = holds-by Scoped scope_rule P (f Scoped scope_rule) settings inputs (scoped-none settings (ap is_scope m)) p
  in-mode WorkSteal m = holds-by (InMode WorkSteal) steal_rule P (f (InMode WorkSteal) steal_rule) settings inputs m p

  -- what holds in each mode that keeps its rule holds after every proper run
  pub in-each-mode : P (after_inputs (after_starts settings) inputs)
  in-each-mode = in-mode settings.mode refl

pub reached-has : (P : State → Type 0) → ((X : State → Type 0) → Rule X → (s : State) → Tidy s → X s → P s) → (s : State) → Reached s → P s
reached-has P f s r = subst P (sym r.state) (in-each-mode P f r.settings r.inputs r.proper)

pub tidy-reached : (s : State) → Reached s → Tidy s
tidy-reached s r = reached-has Tidy (λ X rule t d x. d) s r

pub done-called : (s : State) (w i : ℕ) (u : Outcome) (m : ℕ) (o : List ℕ) → Reached s → may_follow s (Done w i u m o) ≡ true → Called (TestDone w m) (after_effect s (Done w i u m o))
done-called s w i u m o r h = reached-has (λ t. may_follow t (Done w i u m o) ≡ true → Called (TestDone w m) (after_effect t (Done w i u m o))) (λ X rule. done-by X rule w i u m o) s r h

pub back-called : (s : State) (w : ℕ) (is : List ℕ) → Reached s → may_follow s (Back w is) ≡ true → Called TestsBack (after_effect s (Back w is))
back-called s w is r h = reached-has (λ t. may_follow t (Back w is) ≡ true → Called TestsBack (after_effect t (Back w is))) (λ X rule. back-by X rule w is) s r h

pub died-called : (s : State) (e : Entry) → Reached s → may_follow s e ≡ true → (after_effect s e).books.shared ≡ true → Called Died (after_effect s e)
died-called s e r h k = reached-has (λ t. may_follow t e ≡ true → (after_effect t e).books.shared ≡ true → Called Died (after_effect t e)) (λ X rule. died-by X rule e) s r h k

pub joined-called : (s : State) (w : ℕ) (g : Ids) → Reached s → Joins s w g → s.books.shared ≡ true → Called (Joined w (slot_of w (after_effect s (Collected w g)).books)) (after_effect s (Collected w g))
joined-called s w g r j h =
    reached-has (λ t. Joins t w g → t.books.shared ≡ true → Called (Joined w (slot_of w (after_effect t (Collected w g)).books)) (after_effect t (Collected w g))) (λ X rule. joined-by X rule w g) s r j h

pub shared-called : (s : State) (w : ℕ) (g : Ids) → Reached s → Joins s w g → s.books.shared ≡ false → (after_effect s (Collected w g)).books.shared ≡ true
    → Called (Share (slots_of_rota (after_effect s (Collected w g)).books)) (after_effect s (Collected w g))
shared-called s w g r j n k =
    reached-has (λ t. Joins t w g → t.books.shared ≡ false → (after_effect t (Collected w g)).books.shared ≡ true → Called (Share (slots_of_rota (after_effect t (Collected w g)).books)) (after_effect t (Collected w g)))
    (λ X rule. shared-by X rule w g) s r j n k
