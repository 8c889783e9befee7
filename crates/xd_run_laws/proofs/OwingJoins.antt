-- After a collection someone owes the next step.
use Rattle.std.proofs.Common.{◌≡◌, ℕ, List, [], ◌∷◌, length, Bool, true, false, not, ◌&&◌, refl, sym, ◌∙◌, subst, arith, inl, inr, length-append}
use Rattle.std.specs.Prelude.{if◌then◌else◌, ◌==◌, Option, Some, None, is_some}
use Rattle.std.proofs.lemmas.Bool.Decides.{nat_tests}
use Rattle.xd_journal.specs.declared.entry.Entry.{Entry}
use Rattle.xd_journal.specs.declared.entry.Entry.TheVariants.{Collected}
use Rattle.xd_journal.specs.declared.entry.Ids.{Ids}
use Rattle.xd_journal.specs.declared.entry.RunStop.{RunStop}
use Rattle.xd_run.specs.Numbers.{among}
use Rattle.xd_run.specs.Table.{joined, workers_of}
use Rattle.xd_run.specs.Modes.ModeCall.{Share, Joined, TestsBack}
use Rattle.xd_run.specs.Books.{marked}
use Rattle.xd_run.specs.Collections.{listed, unequal, with_list}
use Rattle.xd_run.specs.Workers.{is_shut, made_collected, slot_of}
use Rattle.xd_run.specs.Stops.{is_shutting, is_stopped, or_stop}
use Rattle.xd_run.specs.Sharing.{State, in_books, is_full, joining, shared_now}
use Rattle.xd_run.specs.Collecting.{collecting}
use Rattle.xd_run.specs.State.{after_entries, after_effect}
use Rattle.xd_run.specs.Outputs.{acts_of, outputs_of_joining, own_outputs, slots_of_rota, unless_stopped}
use Rattle.xd_run_laws.proofs.Logic.{cases_of, clash, differ, in_both, not_true, or-left, or-right, split-and, split-or}
use Rattle.xd_run_laws.proofs.Members.{has, has-same, has-set}
use Rattle.xd_run_laws.proofs.MembersFit.{slot-marked}
use Rattle.xd_run_laws.proofs.Rota.{has_seat, seat-among, seat-joined, told-joined}
use Rattle.xd_run_laws.proofs.Turns.{InRota, Tidy}
use Rattle.xd_run_laws.proofs.Rule.{IsFresh}
use Rattle.xd_run_laws.proofs.Inputs.{collecting-keeps, joins-by, shut_as_before}
use Rattle.xd_run_laws.proofs.Outputs.{fresh-by, unshut-collected}
use Rattle.xd_run_laws.proofs.Later.{later-same}
use Rattle.xd_run_laws.proofs.Owing.{AllTold, AskedOpen, Awaited, Going, Owing, Seated}
use Rattle.xd_run_laws.proofs.Keeping.{AllThere, Keeper, OthersTold}
use Rattle.xd_run_laws.proofs.Going.{Alike, StillOpen, asked-by, awaited-by, fewer-collected, going-alike, owing-later, owing-unless, told-fewer}
use Rattle.xd_run_laws.proofs.OwingEnds.{other-by}
use Rattle.xd_run_laws.proofs.OwingCalls.{call-owing}

module _ (X : State → Type 0) (k : Keeper X) where
  -- what a worker's joining keeps, before the call of the mode
  record Came (s now : State) (w : ℕ) : Type 0 where
    told : is_shutting s.books ≡ true → AllTold now
    shutting : now.books.shutting ≡ s.books.shutting
    unstopped : is_stopped now.books ≡ false
    tidy : Tidy now
    also : X now
    asked : AskedOpen now
    seated : Seated now
    rota : InRota now w
    unshut : has w (λ m. m.shut) now.books.members ≡ false
    still : s.books.shared ≡ true → now.books.shared ≡ true
    awaited : s.books.shared ≡ true → Awaited now
    others : s.books.shared ≡ true → (slot : ℕ) → OthersTold now (Joined w slot)
    fresh : s.books.shared ≡ false → now.books.shared ≡ true → IsFresh now (slots_of_rota now.books) × AllThere now
    waiting : s.books.shared ≡ false → now.books.shared ≡ false → Going now

  came-owing : (s now : State) (w : ℕ) → Came s now w → Owing (after_entries now (outputs_of_joining w s.books now))
  came-owing s now w c =
      let slot = slot_of w now.books in
      let slots = slots_of_rota now.books in
      in_both (λ (es : List Entry). Owing (after_entries now es)) s.books.shared (acts_of (Joined w slot) now) (if now.books.shared then acts_of (Share slots) now else [])
      (λ h. call-owing X k s now (Joined w slot) c.told c.shutting c.unstopped c.tidy (c.still h) c.also
      (record { rota = c.rota; slot_is = refl; unshut = sym (c.tidy.placed.fits.marks w (seat-among w now.books.table.rota ∙ c.rota)) ∙ c.unshut })
      (λ e. absurd (let q : Joined w slot ≡ TestsBack = e in cc)) tt (c.others h slot) (c.awaited h) c.asked c.seated)
      (λ h. in_both (λ (es : List Entry). Owing (after_entries now es)) now.books.shared (acts_of (Share slots) now) []
      (λ r. call-owing X k s now (Share slots) c.told c.shutting c.unstopped c.tidy r c.also (c.fresh h r).0
      (λ e. absurd (let q : Share slots ≡ TestsBack = e in cc)) tt (λ e v a n. absurd (differ (sym n))) (c.fresh h r).1 c.asked c.seated)
      (λ r. owing-later s now now c.told c.shutting c.unstopped (later-same now) (c.waiting h r)))

  module _ (s : State) (w : ℕ) (g : Ids) (unshut : is_shut w s.books ≡ false) (o : Going s) where
    abbrev before : State
    before = in_books (λ b. marked (made_collected w) (with_list w g b)) s

    abbrev come : State
    come = in_books (λ b. record b { table = joined w b.table }) before

    -- the state after it is one of these two
    by_full : (P : State → Type 0) (now : State) → now ≡ joining w before → (is_full come.books ≡ true → P (shared_now come)) → (is_full come.books ≡ false → P come) → P now
    by_full P now e a b = subst P (sym e) (in_both P (is_full come.books) (shared_now come) come a b)

    full-unshared : is_full come.books ≡ true → s.books.shared ≡ false
    full-unshared f = not_true s.books.shared (split-and (not s.books.shared) (length come.books.table.rota == s.books.settings.workers) f).0

    full-count : is_full come.books ≡ true → length come.books.table.rota ≡ s.books.settings.workers
    full-count f = (let h = (split-and (not s.books.shared) (length come.books.table.rota == s.books.settings.workers) f).1 in grind (arith, nat_tests, h))

    open-come : StillOpen s come
    open-come v a n = (has-same v (λ m. m.active) (made_collected w) s.books.members (λ m. refl) (λ m. refl) ∙ a, has-same v (λ m. m.shut) (made_collected w) s.books.members (λ m. refl) (λ m. refl) ∙ n)

    in-come : (v : ℕ) → InRota s v → InRota come v
    in-come v h = sym (seat-among v come.books.table.rota) ∙ seat-joined v s.books.table.rota (record { worker = w; held = []; shut = false })
        ∙ or-left (has_seat v s.books.table.rota) (w == v) (seat-among v s.books.table.rota ∙ h)

    w-come : InRota come w
    w-come = sym (seat-among w come.books.table.rota) ∙ seat-joined w s.books.table.rota (record { worker = w; held = []; shut = false }) ∙ or-right (has_seat w s.books.table.rota) (w == w) (grind (arith, nat_tests))

    seated-come : Seated come
    seated-come v a c n = elim (cases_of (v == w)) [
      | inl q ↦ (let same : w ≡ v = grind (arith, nat_tests, q) in subst (λ (u : ℕ). InRota come u) same w-come)
      | inr q ↦ in-come v (o.seated v (sym (has-same v (λ m. m.active) (made_collected w) s.books.members (λ m. refl) (λ m. refl)) ∙ a)
          (sym (has-set v w (λ m. m.collected) (made_collected w) s.books.members (λ m. refl) (λ m. refl) ∙ rw q refl) ∙ c)
          (sym (has-same v (λ m. m.shut) (made_collected w) s.books.members (λ m. refl) (λ m. refl)) ∙ n))
    ]

    awaited-come : Awaited come
    awaited-come = awaited-by s come (λ x h. h) open-come (λ v. slot-marked v (made_collected w) s.books.members (λ m. refl) (λ m. refl)) refl refl o.awaited

    asked-come : AskedOpen come
    asked-come = asked-by s come (λ a e. e) open-come o.asked

    others-come : s.books.shared ≡ true → (slot : ℕ) → OthersTold come (Joined w slot)
    others-come h slot e v a n =
        let there : among v (workers_of s.books.table) ≡ true = sym (seat-among v s.books.table.rota) ∙ elim (split-or (has_seat v s.books.table.rota) (w == v)
        (sym (seat-joined v s.books.table.rota (record { worker = w; held = []; shut = false })) ∙ seat-among v come.books.table.rota ∙ a)) [
          | inl q ↦ q
          | inr q ↦ absurd (clash (v == w) n (grind (arith, nat_tests, q)))
        ] in
        told-joined v s.books.table.rota (record { worker = w; held = []; shut = false }) refl ∙ o.told h e v there

    going-come : is_full come.books ≡ false → s.books.shared ≡ false → Going come
    going-come f n = record {
      seated = seated-come;
      work = λ h. absurd (clash s.books.shared n h);
      told = λ h. absurd (clash s.books.shared n h);
      awaited = awaited-come;
      asked = asked-come;
      slots = λ h i l. (let one = o.slots n i l in
          record { who = one.who; active = has-same one.who (λ m. m.active) (made_collected w) s.books.members (λ m. refl) (λ m. refl) ∙ one.active; slot = slot-marked one.who (made_collected w) s.books.members (λ m. refl) (λ m. refl) ∙ one.slot });
      room = λ h. (let below = o.room n in
          let one = length-append s.books.table.rota (record { worker = w; held = []; shut = false } ∷ []) in
          let other : (length come.books.table.rota == s.books.settings.workers) ≡ false = unfull s.books.shared (length come.books.table.rota == s.books.settings.workers) f n in
          grind (arith, nat_tests, below, one, other));
    }
      where
        unfull : (a b : Bool) → (not a && b) ≡ false → a ≡ false → b ≡ false
        unfull true b p q = absurd (differ (sym q))
        unfull false b p q = p

    came-by : (now : State) → now ≡ joining w before → (is_shutting s.books ≡ true → AllTold now) → is_stopped now.books ≡ false → Tidy now → X now → has w (λ m. m.shut) now.books.members ≡ false
        → (s.books.shared ≡ false → now.books.shared ≡ true → IsFresh now (slots_of_rota now.books)) → Came s now w
    came-by now e told n t x us fresh = record {
      told = told;
      shutting = by_full (λ (u : State). u.books.shutting ≡ s.books.shutting) now e (λ f. refl) (λ f. refl);
      unstopped = n;
      tidy = t;
      also = x;
      asked = by_full AskedOpen now e (λ f. asked-come) (λ f. asked-come);
      seated = by_full Seated now e (λ f. seated-come) (λ f. seated-come);
      rota = by_full (λ (u : State). InRota u w) now e (λ f. w-come) (λ f. w-come);
      unshut = us;
      still = λ h. by_full (λ (u : State). u.books.shared ≡ true) now e (λ f. refl) (λ f. h);
      awaited = λ h. by_full Awaited now e (λ f. absurd (clash s.books.shared (full-unshared f) h)) (λ f. awaited-come);
      others = λ h slot. by_full (λ (u : State). OthersTold u (Joined w slot)) now e (λ f. absurd (clash s.books.shared (full-unshared f) h)) (λ f. others-come h slot);
      fresh = λ h r. (fresh h r, by_full (λ (u : State). u.books.shared ≡ true → AllThere u) now e (λ f q. record { someone = w; rota = w-come; full = full-count f }) (λ f q. absurd (clash s.books.shared h q)) r);
      waiting = λ h r. by_full (λ (u : State). u.books.shared ≡ false → Going u) now e (λ f q. absurd (differ (sym q))) (λ f q. going-come f h) r;
    }

  pub collected-owing : (s : State) (w : ℕ) (g : Ids) → Tidy s → Tidy (after_effect s (Collected w g)) → X (after_effect s (Collected w g)) → Owing s
      → Owing (after_entries (after_effect s (Collected w g)) (own_outputs s (Collected w g) (after_effect s (Collected w g))))
  collected-owing s w g d t x o =
      in_both (λ (os : List Entry). Owing (after_entries now os)) (is_shut w s.books) [] (unless_stopped s.books now.books (outputs_of_joining w s.books now)) too_late
      (λ u. owing-unless X k.rule s now (outputs_of_joining w s.books now) (λ q. told-fewer s now (fewer-collected s w g) (o.told q)) t x stays (joins u))
    where
      now : State
      now = after_effect s (Collected w g)

      first : State
      first = in_books (λ b. marked (made_collected w) (with_list w g b)) s

      stop : Option RunStop
      stop = unequal w g (listed w s.books)

      shut_first : is_shut w first.books ≡ is_shut w s.books
      shut_first = has-same w (λ m. m.shut) (made_collected w) s.books.members (λ m. refl) (λ m. refl)

      alike : Alike s first
      alike = record {
        active = λ v. has-same v (λ m. m.active) (made_collected w) s.books.members (λ m. refl) (λ m. refl);
        shut = λ v. has-same v (λ m. m.shut) (made_collected w) s.books.members (λ m. refl) (λ m. refl);
        slots = λ v. slot-marked v (made_collected w) s.books.members (λ m. refl) (λ m. refl);
        table = refl;
        plan = refl;
        shared = refl;
        settings = refl;
      }

      seated_first : is_shut w s.books ≡ true → Seated s → Seated first
      seated_first u c v a e n =
          let n_before = sym (alike.shut v) ∙ n in
          let other = other-by v w (λ y. has y (λ m. m.shut) s.books.members) u n_before in
          c v (sym (alike.active v) ∙ a) (sym (has-set v w (λ m. m.collected) (made_collected w) s.books.members (λ m. refl) (λ m. refl) ∙ rw other refl) ∙ e) n_before

      owing_first : is_shut w s.books ≡ true → Owing first
      owing_first u = record {
        told = λ q v a r. alike.shut v ∙ o.told q v (sym (alike.active v) ∙ a) (sym (has-same v (λ m. m.ready) (made_collected w) s.books.members (λ m. refl) (λ m. refl)) ∙ r);
        going = λ z. (let c = o.going z in going-alike s first alike (seated_first u c.seated) c);
      }

      unchanged : (how : Option RunStop) → is_shut w first.books ≡ true → collecting w how first ≡ first
      unchanged None h = rw h refl
      unchanged (Some how) h = rw h refl

      too_late : is_shut w s.books ≡ true → Owing now
      too_late u = subst Owing (sym (unchanged stop (shut_first ∙ u))) (owing_first u)

      kept : (a how : Option RunStop) → is_some a ≡ true → is_some (or_stop a how) ≡ true
      kept None how h = absurd (differ h)
      kept (Some a) how h = h

      stays : is_stopped s.books ≡ true → is_stopped now.books ≡ true
      stays h = collecting-keeps (λ (u : State). is_stopped u.books ≡ true) first w stop h (kept s.books.stop stop h) h (λ z. h)

      joins : is_shut w s.books ≡ false → is_stopped s.books ≡ false → is_stopped now.books ≡ false → Owing (after_entries now (outputs_of_joining w s.books now))
      joins u n z =
          let e = joins-by first w stop (shut_first ∙ u) z in
          came-owing s now w (came-by s w g u (o.going n) now e (λ q. told-fewer s now (fewer-collected s w g) (o.told q)) z t x (shut_as_before s w w g ∙ u)
          (λ h r. fresh-by first now w e (unshut-collected s w g d.calm n h) h r))
