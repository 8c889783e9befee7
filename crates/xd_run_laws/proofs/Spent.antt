-- A run that is shutting and was not stopped has nothing left to hand out.
use Rattle.std.proofs.Common.{◌≡◌, ℕ, zero, suc, ◌+◌, ◌≤◌, ◌<◌, List, [], ◌∷◌, ◌++◌, drop, length, map, Bool, true, false, not, ◌&&◌, refl, ap, sym, ◌∙◌, subst, arith, inl, inr}
use Rattle.std.proofs.lemmas.List.{append-nil}
use Rattle.std.specs.Prelude.{if◌then◌else◌, ◌==◌, nat_lt, Option, Some, None, is_none, is_some}
use Rattle.std.specs.List.{list_all}
use Rattle.std.proofs.lemmas.Bool.Decides.{nat_tests}
use Rattle.xd_journal.specs.declared.settings.Settings.{Settings}
use Rattle.xd_journal.specs.declared.entry.Ids.{Ids}
use Rattle.xd_journal.specs.declared.entry.RunStop.{RunStop}
use Rattle.xd_journal.specs.declared.entry.RunStop.TheVariants.{CollectError}
use Rattle.xd_journal.specs.declared.entry.Entry.{Entry}
use Rattle.xd_journal.specs.declared.entry.Entry.TheVariants.{Ready, Collected, Done, Back, Finished, Refused, Down, NotStarted, Start, Run, RunAll, Steal, Shutdown, Kill, Over}
use Rattle.xd_run.specs.declared.seat.Seat.{Seat}
use Rattle.xd_run.specs.Numbers.{among, without, all_distinct, all_among}
use Rattle.xd_run.specs.Table.{Table, held, held_in, at_seat, without_seat, assigned}
use Rattle.xd_run.specs.Plan.{Plan, UnansweredSteal, is_each, base, items_named, slot_items}
use Rattle.xd_run.specs.Books.{marked}
use Rattle.xd_run.specs.Workers.{slot_of, made_collected, waiting}
use Rattle.xd_run.specs.Collections.{unequal, listed, with_list}
use Rattle.xd_run.specs.Stops.{is_stopped}
use Rattle.xd_run.specs.Sharing.{State, in_books}
use Rattle.xd_run.specs.Results.{completed_first}
use Rattle.xd_run.specs.State.{after_effect, after_entries, settled, settles, is_handed_out, no_one}
use Rattle.xd_run.specs.Outputs.{acts_of, outputs_of_death, closing, own_outputs, shut_all, after_input, unless_stopped}
use Rattle.xd_run.specs.Modes.ModeCall.{Died}
use Rattle.xd_run.specs.Histories.{after_starts, first_starts, starts_from, after_inputs}
use Rattle.xd_run.specs.Proper.{all_may_follow, may_follow}
use Rattle.xd_run.specs.Orderly.{is_in_order, is_orderly, all_orderly, may_run, not_empty}
use Rattle.xd_run_laws.proofs.Logic.{differ, cases_of, in_both, split-and, split-or}
use Rattle.xd_run_laws.proofs.Rota.{has_seat, seat-left}
use Rattle.xd_run_laws.proofs.Placed.{empty_of, first_named-by, no_back}
use Rattle.xd_run_laws.proofs.Turns.{Tidy, after_entries-first, after_entries-join}
use Rattle.xd_run_laws.proofs.Inputs.{collecting-keeps, unstopped-before, down-unstopped, done-unstopped, tidy-input}
use Rattle.xd_run_laws.proofs.Outputs.{closing-fit, own-fit}
use Rattle.xd_run_laws.proofs.Runs.{Holds, after_input-holds}
use Rattle.xd_run_laws.proofs.Rule.{Rule}
use Rattle.xd_run_laws.proofs.Queue.{held-none, held-shut, held-left}

-- the pool is empty, no steal is open, and no worker holds more than one item
pub record IsSpent (t : Table) (p : Plan) : Type 0 where
  pub pool : t.pool ≡ []
  pub steal : p.steal ≡ None
  pub few : (w : ℕ) → length (held w t) < 2

pub record Spent (s : State) : Type 0 where
  pub spent : s.books.shutting ≡ true → is_stopped s.books ≡ false → IsSpent s.books.table s.plan

-- what is held of an item that a move leaves alone or takes

few-added : (v w : ℕ) (ss : List Seat) → held_in v (at_seat w (λ s. record s { held = s.held ++ [] }) ss) ≡ held_in v ss
few-added v w [] = refl
few-added v w (s ∷ ss) = grind (arith, nat_tests, few-added v w ss, append-nil s.held)

length-without : (those xs : List ℕ) → length (without those xs) ≤ length xs
length-without those [] = omega arith
length-without those (x ∷ xs) = grind (arith, nat_tests, length-without those xs)

few-fewer : (v w : ℕ) (items : List ℕ) (ss : List Seat) → length (held_in v (at_seat w (λ s. record s { held = without items s.held }) ss)) ≤ length (held_in v ss)
few-fewer v w items [] = omega arith
few-fewer v w items (s ∷ ss) = grind (arith, nat_tests, few-fewer v w items ss, length-without items s.held)

few-left : (v w : ℕ) (ss : List Seat) → length (held_in v ss) < 2 → length (held_in v (without_seat w ss)) < 2
few-left v w ss h = elim (cases_of (v == w)) [
  | inl k ↦ (let none : has_seat v (without_seat w ss) ≡ false = seat-left v w ss ∙ rw k in
      subst (λ (xs : List ℕ). length xs < 2) (sym (held-none v (without_seat w ss) none)) (omega arith))
  | inr k ↦ subst (λ (xs : List ℕ). length xs < 2) (sym (held-left v w ss k)) h
]

few-joined : (v : ℕ) (ss : List Seat) (s : Seat) → s.held ≡ [] → length (held_in v ss) < 2 → length (held_in v (ss ++ s ∷ [])) < 2
few-joined v [] s e h = grind (arith, nat_tests, e)
few-joined v (x ∷ ss) s e h = grind (arith, nat_tests, few-joined v ss s e, h)

few-drop : (n : ℕ) (xs : List ℕ) → length xs ≤ n → drop n xs ≡ []
few-drop zero [] h = refl
few-drop zero (x ∷ xs) h = absurd (omega (arith, h))
few-drop (suc n) [] h = refl
few-drop (suc n) (x ∷ xs) h = few-drop n xs (omega (arith, h))

none_among : (is xs : List ℕ) → all_among is xs ≡ true → xs ≡ [] → is ≡ []
none_among [] xs h e = refl
none_among (i ∷ is) xs h e = absurd (differ (sym (ap (λ (ys : List ℕ). among i ys) e) ∙ (split-and (among i xs) (all_among is xs) h).0))

-- outputs in order

spent-run : (s : State) (w : ℕ) (indices : List ℕ) → is_orderly s (Run w indices) ≡ true → s.books.table.pool ≡ [] → ⊥
spent-run s w indices h e =
    let slot = slot_of w s.books in
    let items = items_named slot indices s.plan in
    let a = split-and (may_run w s && not_empty indices && all_distinct items && all_among items s.books.table.pool) (if is_each s.plan.mode then all_among items (slot_items slot s.plan) else true) h in
    let b = split-and (may_run w s && not_empty indices && all_distinct items) (all_among items s.books.table.pool) a.0 in
    let c = split-and (may_run w s && not_empty indices) (all_distinct items) b.0 in
    none_given (is_each s.plan.mode) (base slot s.plan) indices s.books.table.pool (split-and (may_run w s) (not_empty indices) c.0).1 b.1 e
  where
    none_given : (each : Bool) (b : ℕ) (is xs : List ℕ) → not_empty is ≡ true → all_among (if each then map (λ j. b + j) is else is) xs ≡ true → xs ≡ [] → ⊥
    none_given each b [] xs h k e = differ h
    none_given each b (i ∷ is) xs h k e = (let f = first_named-by each b i is xs k in differ (sym (ap (λ (ys : List ℕ). among f.0 ys) e) ∙ f.1))

spent-steal : (s : State) (w : ℕ) (indices : List ℕ) → is_orderly s (Steal w indices) ≡ true → length (held w s.books.table) < 2 → ⊥
spent-steal s w indices h low =
    let tail = drop 2 (held w s.books.table) in
    let a = split-and (may_run w s && is_in_order (items_named (slot_of w s.books) indices s.plan) (held w s.books.table) && is_none s.plan.steal && not_empty indices && all_distinct indices) (all_among indices tail) h in
    let b = split-and (may_run w s && is_in_order (items_named (slot_of w s.books) indices s.plan) (held w s.books.table) && is_none s.plan.steal && not_empty indices) (all_distinct indices) a.0 in
    let filled = (split-and (may_run w s && is_in_order (items_named (slot_of w s.books) indices s.plan) (held w s.books.table) && is_none s.plan.steal) (not_empty indices) b.0).1 in
    let none : indices ≡ [] = none_among indices tail a.1 (few-drop 2 (held w s.books.table) (omega (arith, low))) in
    differ (sym (ap not_empty none) ∙ filled)

none-assigned : (t : Table) (p : Plan) (w : ℕ) (items : List ℕ) → items ≡ [] → IsSpent t p → IsSpent (assigned w items t) p
none-assigned t p w items e k = subst (λ (xs : List ℕ). IsSpent (assigned w xs t) p) (sym e) (record {
  pool = ap (λ (xs : List ℕ). without [] xs) k.pool;
  steal = k.steal;
  few = λ v. subst (λ (xs : List ℕ). length xs < 2) (sym (few-added v w t.rota)) (k.few v);
})

spent-run_all : (s : State) (w : ℕ) → is_orderly s (RunAll w) ≡ true → Spent s → Spent (after_effect s (RunAll w))
spent-run_all s w h k =
    let items = slot_items (slot_of w s.books) s.plan in
    let a = split-and (is_each s.plan.mode && s.books.shared && may_run w s) (all_among items s.books.table.pool) h in
    record { spent = λ u v. (let i = k.spent u v in none-assigned s.books.table s.plan w items (none_among items s.books.table.pool a.1 i.pool) i) }

spent-shutdown : (s : State) (w : ℕ) → Spent s → Spent (after_effect s (Shutdown w))
spent-shutdown s w k = record {
  spent = λ u v. (let i = k.spent u v in record { pool = i.pool; steal = i.steal; few = λ x. subst (λ (xs : List ℕ). length xs < 2) (sym (held-shut x w s.books.table.rota)) (i.few x) });
}

spent-output : (s : State) (e : Entry) → is_orderly s e ≡ true → Spent s → Spent (after_effect s e)
spent-output s (Start w slot) h k = record { spent = λ u v. absurd (differ u) }
spent-output s (Run w is) h k = record { spent = λ u v. absurd (spent-run s w is h (k.spent u v).pool) }
spent-output s (RunAll w) h k = spent-run_all s w h k
spent-output s (Steal w is) h k = record { spent = λ u v. absurd (spent-steal s w is h ((k.spent u v).few w)) }
spent-output s (Shutdown w) h k = spent-shutdown s w k
spent-output s (Kill w) h k = k
spent-output s (Over how) h k = k
spent-output s (Ready w) h k = absurd (differ h)
spent-output s (Collected w g) h k = absurd (differ h)
spent-output s (Done w i u m o) h k = absurd (differ h)
spent-output s (Back w i) h k = absurd (differ h)
spent-output s (Finished w) h k = absurd (differ h)
spent-output s (Refused w t) h k = absurd (differ h)
spent-output s (Down w c o) h k = absurd (differ h)
spent-output s (NotStarted w) h k = absurd (differ h)

spent-outputs : (s : State) (es : List Entry) → all_orderly s es ≡ true → Spent s → Spent (after_entries s es)
spent-outputs s [] h k = k
spent-outputs s (e ∷ es) h k =
    let p = split-and (is_orderly s e) (all_orderly (after_effect s e) es) h in
    subst Spent (sym (after_entries-first s e es p.0)) (spent-outputs (after_effect s e) es p.1 (spent-output s e p.0 k))

-- inputs

spent-collected : (s : State) (w : ℕ) (g : Ids) → Tidy s → Spent s → Spent (after_effect s (Collected w g))
spent-collected s w g d k =
    let now = in_books (λ b. marked (made_collected w) (with_list w g b)) s in
    let stop = unequal w g (listed w s.books) in
    collecting-keeps Spent now w stop (record { spent = k.spent })
    (record { spent = λ u v. k.spent u (unstopped-before s.books.stop stop v) })
    (record { spent = λ u v. (let i = k.spent u v in record { pool = i.pool; steal = i.steal; few = λ x. few-joined x s.books.table.rota (record { worker = w; held = []; shut = false }) refl (i.few x) }) })
    (λ n. record { spent = λ u v. absurd (differ (sym n ∙ d.calm.late u)) })

spent-first : (t : Table) (p : Plan) (w : ℕ) (items : List ℕ) → IsSpent t p → IsSpent (completed_first w items t) p
spent-first t p w [] k = k
spent-first t p w (i ∷ is) k = record { pool = k.pool; steal = k.steal; few = λ v. (let a = few-fewer v w (i ∷ []) t.rota in let b = k.few v in omega (arith, a, b)) }

-- a death may bring a test back, but then a new worker is started
abbrev pub is_loss : Entry → Bool
is_loss (Down w c o) = true
is_loss (NotStarted w) = true
is_loss _ = false

spent-input : (s : State) (e : Entry) → may_follow s e ≡ true → is_loss e ≡ false → Tidy s → Spent s → Spent (after_effect s e)
spent-input s (Ready w) h n d k = record { spent = k.spent }
spent-input s (Collected w g) h n d k = spent-collected s w g d k
spent-input s (Done w i u m o) h n d k = record { spent = λ a b. spent-first s.books.table s.plan w (items_named (slot_of w s.books) (i ∷ []) s.plan) (k.spent a (done-unstopped s w i u m o b)) }
spent-input s (Back w is) h n d k = record { spent = λ a b. absurd (no_back s w is (k.spent a b).steal h) }
spent-input s (Finished w) h n d k = record { spent = λ a b. (let i = k.spent a b in record { pool = i.pool; steal = i.steal; few = λ x. few-left x w s.books.table.rota (i.few x) }) }
spent-input s (Refused w t) h n d k = record { spent = λ a b. k.spent a (unstopped-before s.books.stop (Some (CollectError w)) b) }
spent-input s (Down w r o) h n d k = absurd (differ (sym n))
spent-input s (NotStarted w) h n d k = absurd (differ (sym n))
spent-input s (Start w slot) h n d k = absurd (differ h)
spent-input s (Run w is) h n d k = absurd (differ h)
spent-input s (RunAll w) h n d k = absurd (differ h)
spent-input s (Steal w is) h n d k = absurd (differ h)
spent-input s (Shutdown w) h n d k = absurd (differ h)
spent-input s (Kill w) h n d k = absurd (differ h)
spent-input s (Over how) h n d k = absurd (differ h)

stop-shut_all : (ws : List ℕ) (u : State) → (after_entries u (map (λ w. Shutdown w) ws)).books.stop ≡ u.books.stop
stop-shut_all [] u = refl
stop-shut_all (w ∷ ws) u = stop-shut_all ws (after_effect u (Shutdown w))

spent-lost : (s : State) (w : ℕ) → Spent (after_entries (after_effect s (NotStarted w)) (unless_stopped s.books (after_effect s (NotStarted w)).books (outputs_of_death w (after_effect s (NotStarted w)))))
spent-lost s w =
    in_both (λ (es : List Entry). Spent (after_entries now es)) (is_stopped s.books) [] (if is_stopped now.books then shut_all now.books.members else outputs_of_death w now)
    (λ h. record { spent = λ u v. absurd (differ (sym (down-unstopped w s v) ∙ h)) })
    (λ h. in_both (λ (es : List Entry). Spent (after_entries now es)) (is_stopped now.books) (shut_all now.books.members) (outputs_of_death w now)
    (λ k. record { spent = λ u v. absurd (differ (sym v ∙ ap (λ (a : Option RunStop). is_some a) (stop-shut_all (waiting now.books.members) now) ∙ k)) })
    (λ k. subst Spent (sym (after_entries-join now first (start ∷ []))) (record { spent = λ u v. absurd (differ u) })))
  where
    now : State
    now = after_effect s (NotStarted w)

    first : List Entry
    first = if now.books.shared then acts_of Died now else []

    start : Entry
    start = Start (length now.books.members) (slot_of w now.books)

spent-own : (s : State) (e : Entry) → may_follow s e ≡ true → Tidy s → Spent s → all_orderly (after_effect s e) (own_outputs s e (after_effect s e)) ≡ true → Spent (after_entries (after_effect s e) (own_outputs s e (after_effect s e)))
spent-own s e h d k o = elim (cases_of (is_loss e)) [ inl l ↦ lost e l | inr n ↦ spent-outputs (after_effect s e) (own_outputs s e (after_effect s e)) o (spent-input s e h n d k) ]
  where
    lost : (e : Entry) → is_loss e ≡ true → Spent (after_entries (after_effect s e) (own_outputs s e (after_effect s e)))
    lost (Down w r b) l = spent-lost s w
    lost (NotStarted w) l = spent-lost s w
    lost (Ready w) l = absurd (differ l)
    lost (Collected w g) l = absurd (differ l)
    lost (Done w i u m b) l = absurd (differ l)
    lost (Back w is) l = absurd (differ l)
    lost (Finished w) l = absurd (differ l)
    lost (Refused w t) l = absurd (differ l)
    lost (Start w slot) l = absurd (differ l)
    lost (Run w is) l = absurd (differ l)
    lost (RunAll w) l = absurd (differ l)
    lost (Steal w is) l = absurd (differ l)
    lost (Shutdown w) l = absurd (differ l)
    lost (Kill w) l = absurd (differ l)
    lost (Over how) l = absurd (differ l)

-- the mark is set where nothing is left

no_steal : (a : Option UnansweredSteal) → is_none a ≡ true → a ≡ None
no_steal None h = refl
no_steal (Some a) h = absurd (differ h)

few-all : (v : ℕ) (ss : List Seat) → list_all (λ s. nat_lt (length s.held) 2) ss ≡ true → length (held_in v ss) < 2
few-all v [] h = omega arith
few-all v (s ∷ ss) h = grind (arith, nat_tests, few-all v ss, h)

pub spent-finished : (t : Table) (p : Plan) → is_handed_out t p ≡ true → IsSpent t p
spent-finished t p h =
    let a = split-and ((length t.pool == 0) && is_none p.steal) (list_all (λ s. nat_lt (length s.held) 2) t.rota) h in
    let b = split-and (length t.pool == 0) (is_none p.steal) a.0 in
    record { pool = empty_of t.pool b.0; steal = no_steal p.steal b.1; few = λ v. few-all v t.rota a.1 }

spent-settled : (s : State) → Spent s → Spent (settled s)
spent-settled s k = record {
  spent = λ u v. elim (split-or s.books.shutting (settles s) u) [
    | inl h ↦ k.spent h v
    | inr h ↦ spent-finished s.books.table s.plan (split-and (not (is_stopped s.books) && s.books.shared) (is_handed_out s.books.table s.plan) h).1
  ];
}

-- after a whole rule, and after whole runs

pub spent-step : (X : State → Type 0) → Rule X → (s : State) (e : Entry) → may_follow s e ≡ true → Tidy s → X s → Spent s → Spent (after_input s e)
spent-step X rule s e h d x k =
    let now = after_effect s e in
    let own = own_outputs s e now in
    let f = own-fit X rule s e h d (tidy-input s e h d) (rule.input s e h d x) in
    let mid = after_entries now own in
    let last = spent-outputs mid (closing mid) (closing-fit X rule mid f.tidy f.also).orderly (spent-own s e h d k f.orderly) in
    subst (λ (u : State). Spent (settled u)) (sym (after_entries-join now own (closing mid))) (spent-settled (after_entries mid (closing mid)) last)

pub all-spent : (X : State → Type 0) → Rule X → (s : State) (es : List Entry) → all_may_follow s es ≡ true → Holds X s → Spent s → Spent (after_inputs s es)
all-spent X rule s [] h d k = k
all-spent X rule s (e ∷ es) h d k =
    let p = split-and (may_follow s e) (all_may_follow (after_input s e) es) h in
    all-spent X rule (after_input s e) es p.1 (after_input-holds X rule s e p.0 d) (spent-step X rule s e p.0 d.tidy d.also k)

pub begun-spent : (settings : Settings) → Spent (after_starts settings)
begun-spent settings = spent-settled (after_entries (no_one settings) (first_starts settings)) (starts (no_one settings) 0 settings.workers (record { spent = λ u v. absurd (differ u) }))
  where
    starts : (s : State) (w n : ℕ) → Spent s → Spent (after_entries s (starts_from w n))
    starts s w zero k = k
    starts s w (suc n) k = starts (after_effect s (Start w w)) (w + 1) n (record { spent = λ u v. absurd (differ u) })
