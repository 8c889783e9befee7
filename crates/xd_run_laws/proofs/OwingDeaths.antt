-- After the loss of a worker, at whose slot another comes, someone owes the next step.
use Rattle.std.proofs.Common.{◌≡◌, ℕ, ◌<◌, List, [], ◌∷◌, length, true, false, ◌&&◌, refl, ap, sym, ◌∙◌, subst, arith, inl, inr}
use Rattle.std.specs.Prelude.{◌==◌, Option, Some, None, is_some}
use Rattle.std.proofs.lemmas.Bool.Decides.{nat_tests}
use Rattle.std.proofs.lemmas.List.{length-map}
use Rattle.xd_journal.specs.declared.settings.Settings.{Settings}
use Rattle.xd_journal.specs.declared.entry.Entry.{Entry}
use Rattle.xd_journal.specs.declared.entry.Entry.TheVariants.{NotStarted, Start}
use Rattle.xd_journal.specs.declared.entry.RunStop.{RunStop}
use Rattle.xd_run.specs.declared.member.Member.{Member}
use Rattle.xd_run.specs.Numbers.{among}
use Rattle.xd_run.specs.Table.{Table, seat_shut, workers_of}
use Rattle.xd_run.specs.Plan.{UnansweredSteal, is_each}
use Rattle.xd_run.specs.Modes.{turned}
use Rattle.xd_run.specs.Modes.ModeCall.{TestsBack, Died}
use Rattle.xd_run.specs.Workers.{is_active, made_gone, slot_in, slot_of, started}
use Rattle.xd_run.specs.Stops.{is_stopped}
use Rattle.xd_run.specs.Sharing.{State}
use Rattle.xd_run.specs.Deaths.{steal_without}
use Rattle.xd_run.specs.State.{after_entries, after_effect}
use Rattle.xd_run.specs.Outputs.{acts_of, outputs_of_death, turn_of, unless_stopped}
use Rattle.xd_run_laws.proofs.Logic.{cases_of, clash, differ, in_both, or-left, or-right, or-unset, split-or}
use Rattle.xd_run_laws.proofs.Members.{has, has-member, has-more, is_member, none-next}
use Rattle.xd_run_laws.proofs.MembersFit.{kin-length, kin-same, slot-marked, slot-new, slot-old}
use Rattle.xd_run_laws.proofs.Fits.{still_active}
use Rattle.xd_run_laws.proofs.Turns.{InRota, Tidy, after_entries-join}
use Rattle.xd_run_laws.proofs.Rule.{Turned, fit-none}
use Rattle.xd_run_laws.proofs.Inputs.{down-unstopped, shut-gone}
use Rattle.xd_run_laws.proofs.Busy.{AllWork}
use Rattle.xd_run_laws.proofs.Later.{Later, later-same}
use Rattle.xd_run_laws.proofs.Owing.{AskedOpen, Going, HasSlot, Owing, Seated}
use Rattle.xd_run_laws.proofs.Keeping.{Keeper, buried_acts, later-call, replaced}
use Rattle.xd_run_laws.proofs.Going.{StillOpen, asked-by, fewer-gone, owing-unless, seated-later, told-fewer}
use Rattle.xd_run_laws.proofs.OwingEnds.{fewer-seats, seated-gone, told-gone}
use Rattle.xd_run_laws.proofs.OwingCalls.{stays-by}

module _ (X : State → Type 0) (k : Keeper X) where
  pub down-owing : (s : State) (w : ℕ) → is_active w s.books ≡ true → Tidy s → X s → Tidy (after_effect s (NotStarted w)) → X (after_effect s (NotStarted w)) → Owing s
      → Owing (after_entries (after_effect s (NotStarted w)) (unless_stopped s.books (after_effect s (NotStarted w)).books (outputs_of_death w (after_effect s (NotStarted w)))))
  down-owing s w a d xs t x o =
      owing-unless X k.rule s now (outputs_of_death w now) (λ q. told-fewer s now (fewer-gone s now w refl) (o.told q)) t x
      (stays-by (is_stopped s.books) (is_stopped now.books) (down-unstopped w s)) goes
    where
      ms : List Member
      ms = s.books.members

      now : State
      now = after_effect s (NotStarted w)

      mid : State
      mid = after_entries now (buried_acts now)

      after : State
      after = replaced now w

      n : ℕ
      n = length now.books.members

      new : Member
      new = started n (slot_of w now.books)

      turns : Turned X now (buried_acts now)
      turns = in_both (λ (es : List Entry). Turned X now es) now.books.shared (acts_of Died now) [] (λ h. k.rule.turns now Died t h x tt)
          (λ h. record { fit = fit-none X now t x; kin = kin-same now.books.members; settings = refl })

      later : Later now mid
      later = in_both (λ (es : List Entry). Later now (after_entries now es)) now.books.shared (acts_of Died now) [] (λ h. later-call X k.rule now Died t h x tt) (λ h. later-same now)

      before_share : s.books.shared ≡ false → mid ≡ now
      before_share h = in_both (λ (es : List Entry). after_entries now es ≡ now) now.books.shared (acts_of Died now) [] (λ q. absurd (clash s.books.shared h q)) (λ q. refl)

      free : is_member n mid.books.members ≡ false
      free = ap (λ (i : ℕ). is_member i mid.books.members) (sym (kin-length now.books.members mid.books.members turns.kin)) ∙ none-next mid.books.members turns.fit.tidy.members.numbered

      same : n ≡ length ms
      same = length-map ms (made_gone w)

      -- the newcomer changes nothing of the others
      open_after : StillOpen mid after
      open_after v b q = (has-more v (λ m. m.active) mid.books.members new ∙ or-left (has v (λ m. m.active) mid.books.members) (n == v && true) b, has-more v (λ m. m.shut) mid.books.members new ∙ or-unset (has v (λ m. m.shut) mid.books.members) (n == v) ∙ q)

      asked_now : Going s → AskedOpen now
      asked_now g b e =
          let p = asked-without s.plan.steal e in
          let open_ = g.asked b p.0 in
          (still_active b.worker w ms p.1 open_.0, shut-gone w b.worker ms ∙ open_.1)
        where
          asked-without : (steal : Option UnansweredSteal) → steal_without w steal ≡ Some b → (steal ≡ Some b) × ((b.worker == w) ≡ false)
          asked-without None q = absurd (let z : None ≡ Some b = q in cc)
          asked-without (Some c) q = elim (cases_of (c.worker == w)) [
            | inl h ↦ absurd (let z : None ≡ Some b = sym (rw h refl) ∙ q in cc)
            | inr h ↦ (let z : Some c ≡ Some b = sym (rw h refl) ∙ q in let y : c ≡ b = cc in (ap (λ (u : UnansweredSteal). Some u) y, ap (λ (u : UnansweredSteal). u.worker == w) (sym y) ∙ h))
          ]

      seated_after : Going s → Seated after
      seated_after g v b c q =
          let collected : has v (λ m. m.collected) mid.books.members ≡ true = sym (or-unset (has v (λ m. m.collected) mid.books.members) (n == v)) ∙ sym (has-more v (λ m. m.collected) mid.books.members new) ∙ c in
          let untold : has v (λ m. m.shut) mid.books.members ≡ false = sym (or-unset (has v (λ m. m.shut) mid.books.members) (n == v)) ∙ sym (has-more v (λ m. m.shut) mid.books.members new) ∙ q in
          let active : has v (λ m. m.active) mid.books.members ≡ true = elim (split-or (has v (λ m. m.active) mid.books.members) (n == v && true) (sym (has-more v (λ m. m.active) mid.books.members new) ∙ b)) [
            | inl z ↦ z
            | inr z ↦ (let e : n ≡ v = grind (arith, nat_tests, z) in
                absurd (clash (is_member v mid.books.members) (subst (λ (i : ℕ). is_member i mid.books.members ≡ false) e free) (has-member v (λ m. m.collected) mid.books.members collected)))
          ] in
          seated-later now mid later (seated-gone s now w refl refl g.seated) v active collected untold

      slots_after : Going s → after.books.shared ≡ false → (i : ℕ) → i < after.books.settings.workers → HasSlot after i
      slots_after g h i l =
          let unshared : s.books.shared ≡ false = sym later.shared ∙ h in
          let quiet = before_share unshared in
          subst (λ (u : State). HasSlot (after_effect u (Start n (slot_of w now.books))) i) (sym quiet) (here (g.slots unshared i (subst (λ (b : Settings). i < b.workers) later.settings l)))
        where
          come : State
          come = after_effect now (Start n (slot_of w now.books))

          here : HasSlot s i → HasSlot come i
          here one = elim (cases_of (one.who == w)) [
            | inl q ↦
                (let e : one.who ≡ w = grind (arith, nat_tests, q) in
                let none : is_member n now.books.members ≡ false = none-next now.books.members t.members.numbered in
                record {
                  who = n;
                  active = has-more n (λ m. m.active) now.books.members new ∙ or-right (has n (λ m. m.active) now.books.members) (n == n && true) (grind (arith, nat_tests));
                  slot = slot-new n now.books.members new none (grind (arith, nat_tests)) ∙ slot-marked w (made_gone w) ms (λ m. refl) (λ m. refl) ∙ ap (λ (u : ℕ). slot_in u ms) (sym e) ∙ one.slot;
                })
            | inr q ↦
                (let active = still_active one.who w ms q one.active in
                record {
                  who = one.who;
                  active = has-more one.who (λ m. m.active) now.books.members new ∙ or-left (has one.who (λ m. m.active) now.books.members) (n == one.who && true) active;
                  slot = slot-old one.who now.books.members new (has-member one.who (λ m. m.active) now.books.members active) ∙ slot-marked one.who (made_gone w) ms (λ m. refl) (λ m. refl) ∙ one.slot;
                })
          ]

      room_after : Going s → after.books.shared ≡ false → length after.books.table.rota < after.books.settings.workers
      room_after g h =
          let unshared : s.books.shared ≡ false = sym later.shared ∙ h in
          let below = g.room unshared in
          let less = fewer-seats w s.books.table.rota in
          subst (λ (u : State). length u.books.table.rota < u.books.settings.workers) (sym (before_share unshared)) (omega (arith, below, less))

      work_after : Going s → after.books.shared ≡ true → AllWork (workers_of after.books.table) after.books.table
      work_after g h = in_both (λ (es : List Entry). AllWork (workers_of (after_entries now es).books.table) (after_entries now es).books.table) now.books.shared (acts_of Died now) []
          (λ q. (let l = later-call X k.rule now Died t q x tt in
          let z = k.rule.agrees now Died t q x tt in
          subst (λ (u : Table). AllWork (workers_of (after_entries now (acts_of Died now)).books.table) u) (sym z.table)
          (subst (λ (ws : List ℕ). AllWork ws (turned now.plan.mode Died (turn_of now)).table) (sym l.rota)
          (k.work now Died t q x tt (λ e. absurd (let y : Died ≡ TestsBack = e in cc)) tt (λ e v b r. told-gone s now w refl (g.told q e) v b)))))
          (λ q. absurd (clash s.books.shared q (sym later.shared ∙ h)))

      told_after : Going s → after.books.shared ≡ true → is_each after.plan.mode ≡ true → (v : ℕ) → InRota after v → seat_shut v after.books.table ≡ true
      told_after g h e v b =
          let q : s.books.shared ≡ true = sym later.shared ∙ h in
          later.told v (told-gone s now w refl (g.told q (ap is_each (sym later.mode) ∙ e)) v (ap (λ (ws : List ℕ). among v ws) (sym later.rota) ∙ b))

      asked_mid : Going s → AskedOpen mid
      asked_mid g = in_both (λ (es : List Entry). AskedOpen (after_entries now es)) now.books.shared (acts_of Died now) [] (λ q. k.asked now Died t q x tt (asked_now g)) (λ q. asked_now g)

      going_after : Going s → Going after
      going_after g = record {
        seated = seated_after g;
        work = work_after g;
        told = told_after g;
        awaited = k.buried s w a d xs g.awaited t x (ap (λ (i : ℕ). is_member i mid.books.members) (sym same) ∙ free) same;
        asked = asked-by mid after (λ b e. e) open_after (asked_mid g);
        slots = slots_after g;
        room = room_after g;
      }

      goes : is_stopped s.books ≡ false → is_stopped now.books ≡ false → Owing (after_entries now (outputs_of_death w now))
      goes q z =
          subst Owing (sym (after_entries-join now (buried_acts now) (Start n (slot_of w now.books) ∷ [])))
          (record {
            told = λ y. absurd (elim (split-or (is_stopped after.books) false y) [ inl b ↦ clash (is_stopped now.books) z (ap (λ (h : Option RunStop). is_some h) (sym later.stop) ∙ b) | inr b ↦ differ b ]);
            going = λ y. going_after (o.going q);
          })
