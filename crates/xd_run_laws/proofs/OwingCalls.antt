-- After a result, and after tests that come back, someone owes the next step.
use Rattle.std.proofs.Common.{◌≡◌, ℕ, List, [], ◌∷◌, drop, Bool, true, false, ◌&&◌, refl, ap, sym, ◌∙◌, subst, arith, inl, inr}
use Rattle.std.specs.Prelude.{◌==◌, Option, Some, None}
use Rattle.std.specs.List.{list_any}
use Rattle.std.specs.Str.{bytes_eq}
use Rattle.std.proofs.lemmas.Bool.Decides.{nat_tests}
use Rattle.xd_edge.specs.declared.mode.ModeKind.TheVariants.{WorkSteal}
use Rattle.xd_journal.specs.declared.entry.Entry.TheVariants.{Done, Back}
use Rattle.xd_journal.specs.declared.entry.Outcome.{Outcome}
use Rattle.xd_run.specs.declared.seat.Seat.{Seat}
use Rattle.xd_run.specs.Numbers.{all_among, among, without}
use Rattle.xd_run.specs.Table.{Table, at_seat, held, held_in, seat_shut, workers_of}
use Rattle.xd_run.specs.Plan.{UnansweredSteal, is_each, items_named}
use Rattle.xd_run.specs.Modes.{ModeCall}
use Rattle.xd_run.specs.Modes.ModeCall.{TestDone, TestsBack}
use Rattle.xd_run.specs.Workers.{is_active, slot_of}
use Rattle.xd_run.specs.Stops.{is_shutting, is_stopped}
use Rattle.xd_run.specs.Sharing.{State}
use Rattle.xd_run.specs.Results.{completed_first}
use Rattle.xd_run.specs.State.{after_entries, after_effect}
use Rattle.xd_run.specs.Outputs.{acts_of, own_outputs}
use Rattle.xd_run.specs.Proper.{is_head, may_follow, may_give_back}
use Rattle.xd_run_laws.proofs.Logic.{clash, differ, split-and}
use Rattle.xd_run_laws.proofs.Members.{has}
use Rattle.xd_run_laws.proofs.Rota.{seat-among, seat-of_held, told-change, workers-change}
use Rattle.xd_run_laws.proofs.Placed.{head_among, no_back, one_item, shared-of_back, shared-of_held}
use Rattle.xd_run_laws.proofs.Turns.{InRota, Tidy}
use Rattle.xd_run_laws.proofs.Rule.{CallFits}
use Rattle.xd_run_laws.proofs.Inputs.{done-unstopped}
use Rattle.xd_run_laws.proofs.Outputs.{workers-first}
use Rattle.xd_run_laws.proofs.Serving.{Earlier, OthersWork}
use Rattle.xd_run_laws.proofs.Owing.{AllTold, AskedOpen, Owing, Seated}
use Rattle.xd_run_laws.proofs.Keeping.{Expects, Keeper, OthersTold, later-call}
use Rattle.xd_run_laws.proofs.Going.{awaited-by, going-call, owing-later, owing-unless}
use Rattle.xd_run_laws.proofs.OwingEnds.{same-work}

-- a stop stays
pub stays-by : (before now : Bool) → (now ≡ false → before ≡ false) → before ≡ true → now ≡ true
stays-by before true k h = refl
stays-by before false k h = absurd (clash before (k refl) h)

-- what a move leaves the other workers

held-other : (v w : ℕ) (f : Seat → Seat) (ss : List Seat) → ((s : Seat) → (f s).worker ≡ s.worker) → (v == w) ≡ false → held_in v (at_seat w f ss) ≡ held_in v ss
held-other v w f [] k h = refl
held-other v w f (s ∷ ss) k h = grind (arith, nat_tests, held-other v w f ss k h, k s, h)

pool-first : (w : ℕ) (items : List ℕ) (t : Table) → (completed_first w items t).pool ≡ t.pool
pool-first w [] t = refl
pool-first w (i ∷ is) t = refl

told-first : (v w : ℕ) (items : List ℕ) (t : Table) → seat_shut v (completed_first w items t) ≡ seat_shut v t
told-first v w [] t = refl
told-first v w (i ∷ is) t = told-change v w (λ s. record s { held = without (i ∷ []) s.held }) t.rota (λ s. refl) (λ s. refl)

first-other : (v w : ℕ) (items : List ℕ) (t : Table) → (v == w) ≡ false → held v (completed_first w items t) ≡ held v t
first-other v w [] t h = refl
first-other v w (i ∷ is) t h = held-other v w (λ s. record s { held = without (i ∷ []) s.held }) t.rota (λ s. refl) h

-- calls of the mode

module _ (X : State → Type 0) (k : Keeper X) where
  pub call-owing : (s now : State) (c : ModeCall) → (is_shutting s.books ≡ true → AllTold now) → now.books.shutting ≡ s.books.shutting → is_stopped now.books ≡ false → Tidy now → now.books.shared ≡ true → X now
      → CallFits now c → (c ≡ TestsBack → now.plan.mode ≡ WorkSteal) → Earlier now c → OthersTold now c → Expects now c → AskedOpen now → Seated now → Owing (after_entries now (acts_of c now))
  call-owing s now c told same n d h x f b preceding others expects asked seated =
      owing-later s now (after_entries now (acts_of c now)) told same n (later-call X k.rule now c d h x f)
      (going-call X k now c d h x f b preceding others (k.waits now c d h x f expects) asked seated)

  pub done-owing : (s : State) (w i : ℕ) (u : Outcome) (m : ℕ) (o : List ℕ) → may_follow s (Done w i u m o) ≡ true → Tidy s → Tidy (after_effect s (Done w i u m o)) → X (after_effect s (Done w i u m o)) → Owing s
      → Owing (after_entries (after_effect s (Done w i u m o)) (own_outputs s (Done w i u m o) (after_effect s (Done w i u m o))))
  done-owing s w i u m out h d t x o =
      owing-unless X k.rule s now (acts_of (TestDone w m) now) (λ q. o.told q) t x (stays-by (is_stopped s.books) (is_stopped now.books) (done-unstopped s w i u m out)) goes
    where
      now : State
      now = after_effect s (Done w i u m out)

      items : List ℕ
      items = items_named (slot_of w s.books) (i ∷ []) s.plan

      rota : (v : ℕ) → among v (workers_of now.books.table) ≡ among v (workers_of s.books.table)
      rota v = ap (λ (ws : List ℕ). among v ws) (workers-first w items s.books.table)

      goes : is_stopped s.books ≡ false → is_stopped now.books ≡ false → Owing (after_entries now (acts_of (TestDone w m) now))
      goes n z =
          let g = o.going n in
          let a = split-and (is_active w s.books) (list_any (λ item. is_head w item s) items) h in
          let one = one_item (slot_of w s.books) i s.plan (λ item. is_head w item s) a.1 in
          let holds = head_among w one.0 s one.2 in
          let shared = shared-of_held s w one.0 d.placed holds in
          let here : InRota now w = rota w ∙ sym (seat-among w s.books.table.rota) ∙ seat-of_held w s.books.table.rota one.0 holds in
          let others : OthersWork w now = elim (g.work shared) [
            | inl e ↦ inl (pool-first w items s.books.table ∙ e)
            | inr f ↦ inr (λ v b q. same-work v s.books.table now.books.table (told-first v w items s.books.table) (first-other v w items s.books.table q) (f v (sym (rota v) ∙ b)))
          ] in
          call-owing s now (TestDone w m) (λ q. o.told q) refl z t shared x here (λ e. absurd (let q : TestDone w m ≡ TestsBack = e in cc)) others
          (λ e v b q. told-first v w items s.books.table ∙ g.told shared e v (sym (rota v) ∙ b))
          (awaited-by s now (λ y b. ap (λ (xs : List ℕ). among y xs) (sym (pool-first w items s.books.table)) ∙ b) (λ v b q. (b, q)) (λ v. refl) refl refl g.awaited)
          (λ b e. g.asked b e) (λ v b c q. rota v ∙ g.seated v b c q)

  pub back-owing : (s : State) (w : ℕ) (is : List ℕ) → may_follow s (Back w is) ≡ true → Tidy s → X s → Tidy (after_effect s (Back w is)) → X (after_effect s (Back w is)) → Owing s
      → Owing (after_entries (after_effect s (Back w is)) (own_outputs s (Back w is) (after_effect s (Back w is))))
  back-owing s w is h d xs t x o = owing-unless X k.rule s now (acts_of TestsBack now) (λ q. o.told q) t x (λ q. q) goes
    where
      now : State
      now = after_effect s (Back w is)

      mode : s.plan.mode ≡ WorkSteal
      mode = elim (k.steals s xs) [ inl m ↦ m | inr none ↦ absurd (no_back s w is none h) ]

      no-each : {A : Type 0} → is_each s.plan.mode ≡ true → A
      no-each e = absurd (differ (sym (ap is_each mode) ∙ e))

      asked_by : (steal : Option UnansweredSteal) (answer : UnansweredSteal → Bool) → (elim steal as (λ _. Bool) [ None ↦ false | Some a ↦ (a.worker == w) && answer a ]) ≡ true → (a : UnansweredSteal) × (steal ≡ Some a) × (a.worker ≡ w)
      asked_by None answer q = absurd (differ q)
      asked_by (Some a) answer q = (a, refl, grind (arith, nat_tests, (split-and (a.worker == w) (answer a) q).0))

      the_asked : (a : UnansweredSteal) × (s.plan.steal ≡ Some a) × (a.worker ≡ w)
      the_asked = asked_by s.plan.steal (λ a. elim is [
        | [] ↦ true
        | i ∷ js ↦ bytes_eq (i ∷ js) a.tests && all_among (items_named (slot_of w s.books) (i ∷ js) s.plan) (drop 1 (held w s.books.table))
      ]) (split-and (is_active w s.books) (may_give_back w is s) h).1

      items : List ℕ
      items = items_named (slot_of w s.books) is s.plan

      rota : (v : ℕ) → among v (workers_of now.books.table) ≡ among v (workers_of s.books.table)
      rota v = ap (λ (ws : List ℕ). among v ws) (workers-change w (λ z. record z { held = without items z.held }) s.books.table.rota (λ z. refl))

      goes : is_stopped s.books ≡ false → is_stopped now.books ≡ false → Owing (after_entries now (acts_of TestsBack now))
      goes n z =
          let g = o.going n in
          let open_ = g.asked (the_asked.0) the_asked.1 in
          let shared = shared-of_back s w is d.placed h in
          call-owing s now TestsBack (λ q. o.told q) refl z t shared x tt (λ e. mode) tt (λ e. no-each e)
          (λ y b. record {
            who = w;
            active = subst (λ (v : ℕ). has v (λ m. m.active) s.books.members ≡ true) the_asked.2 open_.0;
            untold = subst (λ (v : ℕ). has v (λ m. m.shut) s.books.members ≡ false) the_asked.2 open_.1;
            fits = λ e. no-each e;
          })
          (λ a e. absurd (let q : None ≡ Some a = e in cc)) (λ v b c q. rota v ∙ g.seated v b c q)
