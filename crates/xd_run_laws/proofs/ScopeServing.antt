-- What else the modes with scopes keep: the queue has each test of the pool, and whatever a worker holds was given to it.
use Rattle.std.proofs.Common.{◌≡◌, ℕ, ◌+◌, ◌≤◌, List, [], ◌∷◌, ◌++◌, take, drop, length, reverse, true, false, refl, ap, sym, ◌∙◌, subst, arith, inl, inr}
use Rattle.std.specs.Prelude.{if◌then◌else◌, ◌==◌, sum}
use Rattle.std.specs.List.{range_with_len}
use Rattle.std.proofs.lemmas.Bool.Decides.{nat_tests}
use Rattle.xd_edge.specs.declared.mode.ModeKind.{ModeKind}
use Rattle.xd_edge.specs.declared.mode.ModeKind.TheVariants.{WorkSteal}
use Rattle.xd_journal.specs.declared.settings.Settings.{Settings}
use Rattle.xd_journal.specs.declared.entry.Entry.{Entry}
use Rattle.xd_journal.specs.declared.entry.Entry.TheVariants.{Ready, Collected, Done, Back, Finished, Refused, Down, NotStarted, Start, Run, RunAll, Steal, Shutdown, Kill, Over}
use Rattle.xd_run.specs.declared.seat.Seat.{Seat}
use Rattle.xd_run.specs.Numbers.{among, times, without}
use Rattle.xd_run.specs.Table.{Table, at_seat, held, held_in, joined, retried_item, seat_shut, shut_down, without_seat, workers_of}
use Rattle.xd_run.specs.Plan.{Plan, is_each, is_scope, items_named}
use Rattle.xd_run.specs.Turn.{Turn, shut, in_turn, shut_each}
use Rattle.xd_run.specs.Units.{units_left, unless_empty}
use Rattle.xd_run.specs.ScopeModes.{give_unit, scope_refill, shut_where_spent, scope_share}
use Rattle.xd_run.specs.Modes.{ModeCall, scope_turn}
use Rattle.xd_run.specs.Modes.ModeCall.{Share, Joined, TestDone, TestsBack, Died}
use Rattle.xd_run.specs.Books.{marked}
use Rattle.xd_run.specs.Workers.{made_collected, slot_of}
use Rattle.xd_run.specs.Collections.{listed, unequal, with_list}
use Rattle.xd_run.specs.Retry.{is_retry}
use Rattle.xd_run.specs.Sharing.{State, ids_at, in_books, planned, shared_now}
use Rattle.xd_run.specs.Deaths.{down_plan}
use Rattle.xd_run.specs.Results.{completed_first}
use Rattle.xd_run.specs.State.{after_effect, after_entries, no_one}
use Rattle.xd_run.specs.Outputs.{acts_of, turn_of}
use Rattle.xd_run.specs.Proper.{may_follow}
use Rattle.xd_run.specs.Suits.{tests_of_units}
use Rattle.xd_run_laws.proofs.Logic.{differ, cases_of, in_both}
use Rattle.xd_run_laws.proofs.Counts.{all_among-self, times-append, times-cut, times-without}
use Rattle.xd_run_laws.proofs.Rota.{seat-among}
use Rattle.xd_run_laws.proofs.Placed.{no_back}
use Rattle.xd_run_laws.proofs.Turns.{Tidy, good-first}
use Rattle.xd_run_laws.proofs.Rule.{CallFits}
use Rattle.xd_run_laws.proofs.Inputs.{collecting-keeps}
use Rattle.xd_run_laws.proofs.Units.{given_to, given-more, tests-append, tests-left, tests-units, times-unless_empty}
use Rattle.xd_run_laws.proofs.Queue.{held-shut}
use Rattle.xd_run_laws.proofs.ScopeInputs.{Scoped, planned-queue, planned-sizes}
use Rattle.xd_run_laws.proofs.ScopeRule.{scope_rule, turned-scope, scoped-none}
use Rattle.xd_run_laws.proofs.Busy.{AllWork}
use Rattle.xd_run_laws.proofs.Handing.{Fair, Serves, in_turn-all, serves-fair}
use Rattle.xd_run_laws.proofs.ScopeTurns.{unit-by}
use Rattle.xd_run_laws.proofs.ScopeBusy.{Ample, Covers, covered-refill, covered-refills, covered-share, fair-refill, fair-refills, fair-share, none-there, refill-employs, refill-keeps, refills-work, share-work}
use Rattle.xd_run_laws.proofs.Serving.{Earlier, Beside, Both, Server, one-work, rule-both}

-- whatever is held was given

abbrev HeldGiven : Table → Plan → Type 0
HeldGiven t p = (w x : ℕ) → times x (held w t) ≤ times x (given_to w p.given)

held-more : (x v w : ℕ) (items : List ℕ) (ss : List Seat) → times x (held_in v (at_seat w (λ s. record s { held = s.held ++ items }) ss)) ≤ times x (held_in v ss) + (if v == w then times x items else 0)
held-more x v w items [] = omega arith
held-more x v w items (s ∷ ss) = grind (arith, nat_tests, held-more x v w items ss, times-append x s.held items)

held-less : (x v w : ℕ) (items : List ℕ) (ss : List Seat) → times x (held_in v (at_seat w (λ s. record s { held = without items s.held }) ss)) ≤ times x (held_in v ss)
held-less x v w items [] = omega arith
held-less x v w items (s ∷ ss) = grind (arith, nat_tests, held-less x v w items ss, times-without x items s.held)

held-left : (x v w : ℕ) (ss : List Seat) → times x (held_in v (without_seat w ss)) ≤ times x (held_in v ss)
held-left x v w [] = omega arith
held-left x v w (s ∷ ss) = elim (cases_of (s.worker == w)) [
  | inl h ↦ (let e : without_seat w (s ∷ ss) ≡ without_seat w ss = rw h refl in
      elim (cases_of (s.worker == v)) [
        | inl k ↦ (let same : v ≡ w = grind (arith, nat_tests, h, k) in
            let none : held_in v (without_seat w ss) ≡ [] = subst (λ (u : ℕ). held_in v (without_seat u ss) ≡ []) same (nobody v ss) in
            let z : times x (held_in v (without_seat w (s ∷ ss))) ≡ 0 = ap (λ (ys : List Seat). times x (held_in v ys)) e ∙ ap (λ (xs : List ℕ). times x xs) none in
            omega (arith, z))
        | inr k ↦ (let a : held_in v (s ∷ ss) ≡ held_in v ss = rw k refl in
            let r = held-left x v w ss in
            let b : times x (held_in v (without_seat w (s ∷ ss))) ≡ times x (held_in v (without_seat w ss)) = ap (λ (ys : List Seat). times x (held_in v ys)) e in
            let c : times x (held_in v (s ∷ ss)) ≡ times x (held_in v ss) = ap (λ (xs : List ℕ). times x xs) a in
            omega (arith, r, b, c))
      ])
  | inr h ↦ (let e : without_seat w (s ∷ ss) ≡ s ∷ without_seat w ss = rw h refl in
      let b : times x (held_in v (without_seat w (s ∷ ss))) ≡ times x (held_in v (s ∷ without_seat w ss)) = ap (λ (ys : List Seat). times x (held_in v ys)) e in
      let r = held-left x v w ss in
      elim (cases_of (s.worker == v)) [
        | inl k ↦ (let c : held_in v (s ∷ without_seat w ss) ≡ s.held = rw k refl in
            let d : held_in v (s ∷ ss) ≡ s.held = rw k refl in
            omega (arith, b, ap (λ (xs : List ℕ). times x xs) c, ap (λ (xs : List ℕ). times x xs) d))
        | inr k ↦ (let c : held_in v (s ∷ without_seat w ss) ≡ held_in v (without_seat w ss) = rw k refl in
            let d : held_in v (s ∷ ss) ≡ held_in v ss = rw k refl in
            omega (arith, b, r, ap (λ (xs : List ℕ). times x xs) c, ap (λ (xs : List ℕ). times x xs) d))
      ])
]
  where
    nobody : (v : ℕ) (ss : List Seat) → held_in v (without_seat v ss) ≡ []
    nobody v [] = refl
    nobody v (s ∷ ss) = grind (arith, nat_tests, nobody v ss)

held-join : (x v w : ℕ) (ss : List Seat) → times x (held_in v (ss ++ record { worker = w; held = []; shut = false } ∷ [])) ≤ times x (held_in v ss)
held-join x v w [] = grind (arith, nat_tests)
held-join x v w (s ∷ ss) = grind (arith, nat_tests, held-join x v w ss)

-- the queue covers the pool, and whatever is held was given
pub record Filled (s : State) : Type 0 where
  pub covers : Covers s.books.table s.plan
  pub given : HeldGiven s.books.table s.plan

filled-shared : (s : State) → is_scope s.plan.mode ≡ true → is_each s.plan.mode ≡ false → Filled s → Filled (shared_now s)
filled-shared s scope each f =
    let ls = s.books.lists in
    let n = s.books.settings.workers in
    let ids = ids_at 0 ls in
    let queue = planned-queue ls n s.plan scope in
    let total_ : sum (planned ls n s.plan).sizes ≡ length ids = ap sum (planned-sizes ls n s.plan each) ∙ omega arith in
    record {
      covers = λ x. (let a : times x (tests_of_units (planned ls n s.plan).queue) ≡ times x (range_with_len 0 (length ids)) = ap (λ (q : List (List ℕ)). times x (tests_of_units q)) queue ∙ tests-units x s.plan.mode s.plan.reorder ids in
          let b : times x (range_with_len 0 (sum (planned ls n s.plan).sizes)) ≡ times x (range_with_len 0 (length ids)) = ap (λ (t : ℕ). times x (range_with_len 0 t)) total_ in
          omega (arith, a, b));
      given = f.given;
    }

filled-first : (s : State) (w : ℕ) (items : List ℕ) → Filled s → Covers (completed_first w items s.books.table) s.plan × HeldGiven (completed_first w items s.books.table) s.plan
filled-first s w [] f = (f.covers, f.given)
filled-first s w (i ∷ is) f = (f.covers, λ v x. (let a = held-less x v w (i ∷ []) s.books.table.rota in let b = f.given v x in omega (arith, a, b)))

left-queue : (w : ℕ) (retried rest : List ℕ) (p : Plan) → is_scope p.mode ≡ true → (down_plan w retried rest p).queue ≡ unless_empty retried ++ (p.queue ++ units_left w rest p.given)
left-queue w retried rest p h = rw h refl

filled-down : (s : State) (w : ℕ) → Scoped s → Filled s → Filled (after_effect s (NotStarted w))
filled-down s w k f =
    let items = held w s.books.table in
    let retry = is_retry w s.books in
    let first = retried_item retry items in
    let rest = drop 1 items in
    let left = units_left w rest s.plan.given in
    record {
      covers = λ x.
          (let q : times x (tests_of_units (down_plan w first rest s.plan).queue) ≡ times x (tests_of_units (unless_empty first ++ (s.plan.queue ++ left))) =
          ap (λ (q : List (List ℕ)). times x (tests_of_units q)) (left-queue w first rest s.plan k.mode.scope) in
          let n = tests-append x (unless_empty first) (s.plan.queue ++ left) in
          let o = times-unless_empty x first in
          let a = tests-append x s.plan.queue left in
          let m = times-append x first (s.books.table.pool ++ rest) in
          let b = times-append x s.books.table.pool rest in
          let c = f.covers x in
          let d = tests-left x w rest s.plan.given in
          let g = f.given w x in
          let cut = times-cut x items in
          elim (cases_of (among x rest)) [
            | inl h ↦ (let e : times x (tests_of_units left) ≡ times x (given_to w s.plan.given) = d ∙ rw h refl in omega (arith, q, n, o, a, m, b, c, e, g, cut))
            | inr h ↦ omega (arith, q, n, o, a, m, b, c, none-there x rest h)
          ]);
      given = λ v x. (let a = held-left x v w s.books.table.rota in let b = f.given v x in omega (arith, a, b));
    }

filled-input : (s : State) (e : Entry) → may_follow s e ≡ true → Tidy s → Scoped s → Filled s → Filled (after_effect s e)
filled-input s (Ready w) h d k f = record { covers = f.covers; given = f.given }
filled-input s (Collected w g) h d k f =
    let now = in_books (λ b. marked (made_collected w) (with_list w g b)) s in
    let same : Filled now = record { covers = f.covers; given = f.given } in
    let come : Filled (in_books (λ b. record b { table = joined w b.table }) now) = record {
      covers = f.covers;
      given = λ v x. (let a = held-join x v w s.books.table.rota in let b = f.given v x in omega (arith, a, b));
    } in
    collecting-keeps Filled now w (unequal w g (listed w s.books)) same (record { covers = f.covers; given = f.given }) come
    (λ z. filled-shared (in_books (λ b. record b { table = joined w b.table }) now) k.mode.scope k.mode.each come)
filled-input s (Done w i u m o) h d k f =
    let r = filled-first s w (items_named (slot_of w s.books) (i ∷ []) s.plan) f in
    record { covers = r.0; given = r.1 }
filled-input s (Back w is) h d k f = absurd (no_back s w is k.queue.steal h)
filled-input s (Finished w) h d k f = record { covers = f.covers; given = λ v x. (let a = held-left x v w s.books.table.rota in let b = f.given v x in omega (arith, a, b)) }
filled-input s (Refused w t) h d k f = record { covers = f.covers; given = f.given }
filled-input s (Down w c o) h d k f = (let n = filled-down s w k f in record { covers = n.covers; given = n.given })
filled-input s (NotStarted w) h d k f = filled-down s w k f
filled-input s (Start w slot) h d k f = absurd (differ h)
filled-input s (Run w is) h d k f = absurd (differ h)
filled-input s (RunAll w) h d k f = absurd (differ h)
filled-input s (Steal w is) h d k f = absurd (differ h)
filled-input s (Shutdown w) h d k f = absurd (differ h)
filled-input s (Kill w) h d k f = absurd (differ h)
filled-input s (Over how) h d k f = absurd (differ h)

-- turns

abbrev IsGiven : Turn → Type 0
IsGiven t = HeldGiven t.table t.plan

given-unit : (w : ℕ) (t : Turn) → IsGiven t → IsGiven (give_unit w t)
given-unit w t g = unit-by IsGiven w t g (λ u us e v x.
    (let a = held-more x v w u t.table.rota in
    let b = g v x in
    let c : times x (given_to v (t.plan.given ++ record { worker = w; tests = u } ∷ [])) ≡ times x (given_to v t.plan.given ++ (if w == v then u else [])) = ap (λ (xs : List ℕ). times x xs) (given-more v t.plan.given (record { worker = w; tests = u })) in
    let d = times-append x (given_to v t.plan.given) (if w == v then u else []) in
    grind (arith, nat_tests, a, b, c, d)))

given-shut : (w : ℕ) (t : Turn) → IsGiven t → IsGiven (shut w t)
given-shut w t g = in_both IsGiven (seat_shut w t.table) t (record t { table = shut_down w t.table; acts = t.acts ++ Shutdown w ∷ [] }) (λ h. g)
    (λ h v x. (let a = ap (λ (xs : List ℕ). times x xs) (held-shut v w t.table.rota) in let b = g v x in omega (arith, a, b)))

given-refill : (w : ℕ) (t : Turn) → IsGiven t → IsGiven (scope_refill w t)
given-refill w t g = refill-keeps IsGiven w (λ u k. given-unit w u k) t g (λ e. given-shut w t g)

given-share : (t : Turn) → IsGiven t → IsGiven (scope_share t)
given-share t g = by t.table.pool
  where
    k : ℕ
    k = length t.plan.queue

    ws : List ℕ
    ws = workers_of t.table

    one : IsGiven (shut_each (reverse (drop k ws)) t)
    one = in_turn-all IsGiven shut (λ w u z. given-shut w u z) (reverse (drop k ws)) t g

    two : IsGiven (in_turn give_unit (take k ws) (shut_each (reverse (drop k ws)) t))
    two = in_turn-all IsGiven give_unit (λ w u z. given-unit w u z) (take k ws) (shut_each (reverse (drop k ws)) t) one

    three : IsGiven (in_turn scope_refill (take k ws) (in_turn give_unit (take k ws) (shut_each (reverse (drop k ws)) t)))
    three = in_turn-all IsGiven scope_refill (λ w u z. given-refill w u z) (take k ws) (in_turn give_unit (take k ws) (shut_each (reverse (drop k ws)) t)) two

    spent : (last : Turn) → IsGiven last → (q : List (List ℕ)) → IsGiven (elim q as (λ _. Turn) [ [] ↦ shut_each (workers_of last.table) last | u ∷ us ↦ last ])
    spent last z [] = in_turn-all IsGiven shut (λ w u y. given-shut w u y) (workers_of last.table) last z
    spent last z (u ∷ us) = z

    by : (pool : List ℕ) → IsGiven (elim pool as (λ _. Turn) [ [] ↦ t | x ∷ xs ↦ shut_where_spent (in_turn scope_refill (take k ws) (in_turn give_unit (take k ws) (shut_each (reverse (drop k ws)) t))) ])
    by [] = g
    by (x ∷ xs) = spent (in_turn scope_refill (take k ws) (in_turn give_unit (take k ws) (shut_each (reverse (drop k ws)) t))) three
        (in_turn scope_refill (take k ws) (in_turn give_unit (take k ws) (shut_each (reverse (drop k ws)) t))).plan.queue

turn-covers : (s : State) (c : ModeCall) → Filled s → Covers (scope_turn c (turn_of s)).table (scope_turn c (turn_of s)).plan
turn-covers s (Share slots) f = covered-share (turn_of s) f.covers
turn-covers s (Joined w slot) f = covered-refills (workers_of s.books.table) (turn_of s) f.covers
turn-covers s (TestDone w ms) f = covered-refill w (turn_of s) f.covers
turn-covers s TestsBack f = f.covers
turn-covers s Died f = covered-refills (workers_of s.books.table) (turn_of s) f.covers

turn-given : (s : State) (c : ModeCall) → Filled s → IsGiven (scope_turn c (turn_of s))
turn-given s (Share slots) f = given-share (turn_of s) f.given
turn-given s (Joined w slot) f = in_turn-all IsGiven scope_refill (λ w u z. given-refill w u z) (workers_of s.books.table) (turn_of s) f.given
turn-given s (TestDone w ms) f = given-refill w (turn_of s) f.given
turn-given s TestsBack f = f.given
turn-given s Died f = in_turn-all IsGiven scope_refill (λ w u z. given-refill w u z) (workers_of s.books.table) (turn_of s) f.given

scope_beside : Beside Scoped Filled
scope_beside = record {
  input = filled-input;
  start = λ s w slot f. record { covers = f.covers; given = f.given };
  shutdown = λ s w f. record {
    covers = f.covers;
    given = λ v x. (let a = ap (λ (xs : List ℕ). times x xs) (held-shut v w s.books.table.rota) in let b = f.given v x in omega (arith, a, b));
  };
  settled = λ s f. record { covers = f.covers; given = f.given };
  turns = λ s c d h k f a.
      (let z = scope_rule.agrees s c d h k a in
      let same = turned-scope s.plan.mode c (turn_of s) k.mode.scope in
      let table : (after_entries s (acts_of c s)).books.table ≡ (scope_turn c (turn_of s)).table = z.table ∙ ap (λ (t : Turn). t.table) same in
      let plan : (after_entries s (acts_of c s)).plan ≡ (scope_turn c (turn_of s)).plan = z.plan ∙ ap (λ (t : Turn). t.plan) same in
      let m = after_entries s (acts_of c s) in
      record {
        covers = subst (λ (u : Table). Covers u m.plan) (sym table) (subst (λ (p : Plan). Covers (scope_turn c (turn_of s)).table p) (sym plan) (turn-covers s c f));
        given = subst (λ (u : Table). HeldGiven u m.plan) (sym table) (subst (λ (p : Plan). HeldGiven (scope_turn c (turn_of s)).table p) (sym plan) (turn-given s c f));
      });
}

abbrev pub InScope : State → Type 0
InScope = Both Scoped Filled

ample : (s : State) → Tidy s → s.books.shared ≡ true → InScope s → Ample s (turn_of s)
ample s d h x = record { fine = record { good = good-first s d h; queue = x.first.queue }; covers = x.second.covers }

no-scope : (k : ModeKind) → is_scope k ≡ true → k ≡ WorkSteal → ⊥
no-scope k h e = differ (ap is_scope (sym e) ∙ h)

scope-work : (s : State) (c : ModeCall) → Tidy s → s.books.shared ≡ true → InScope s → CallFits s c → (c ≡ TestsBack → s.plan.mode ≡ WorkSteal) → Earlier s c → AllWork (workers_of s.books.table) (scope_turn c (turn_of s)).table
scope-work s (Share slots) d h x f b o =
    share-work s x.first.mode d (λ v a. sym (d.placed.fits.marks v (seat-among v s.books.table.rota ∙ a)) ∙ f.unshut v) (ample s d h x).fine x.second.covers
scope-work s (Joined w slot) d h x f b o = refills-work s (workers_of s.books.table) (turn_of s) x.first.mode (all_among-self (workers_of s.books.table)) (ample s d h x)
scope-work s (TestDone w ms) d h x f b o = one-work scope_refill w s (refill-employs s w (turn_of s) x.first.mode f (ample s d h x)) o
scope-work s TestsBack d h x f b o = absurd (no-scope s.plan.mode x.first.mode.scope (b refl))
scope-work s Died d h x f b o = refills-work s (workers_of s.books.table) (turn_of s) x.first.mode (all_among-self (workers_of s.books.table)) (ample s d h x)

scope-fair : (s : State) (c : ModeCall) → InScope s → Fair (scope_turn c (turn_of s))
scope-fair s c x = by c
  where
    first : Fair (turn_of s)
    first = record { steal = x.first.queue.steal; fair = inr refl }

    by : (c : ModeCall) → Fair (scope_turn c (turn_of s))
    by (Share slots) = fair-share (turn_of s) first x.second.covers
    by (Joined w slot) = fair-refills (workers_of s.books.table) (turn_of s) first x.second.covers
    by (TestDone w ms) = fair-refill w (turn_of s) first x.second.covers
    by TestsBack = first
    by Died = fair-refills (workers_of s.books.table) (turn_of s) first x.second.covers

pub scope_server : Server InScope
scope_server = record {
  rule = rule-both Scoped Filled scope_rule scope_beside;
  work = λ s c d h x f b o. subst (λ (t : Turn). AllWork (workers_of s.books.table) t.table) (sym (turned-scope s.plan.mode c (turn_of s) x.first.mode.scope)) (scope-work s c d h x f b o);
  serves = λ s c d h x f. subst (λ (t : Turn). Serves s t) (sym (turned-scope s.plan.mode c (turn_of s) x.first.mode.scope)) (serves-fair s (scope_turn c (turn_of s)) (scope-fair s c x));
  steals = λ s x. inr x.first.queue.steal;
  each = λ s x. x.first.mode.each;
}

pub scope-begins : (settings : Settings) → is_scope settings.mode ≡ true → InScope (no_one settings)
scope-begins settings h = record { first = scoped-none settings h; second = record { covers = λ x. omega arith; given = λ w x. omega arith } }
