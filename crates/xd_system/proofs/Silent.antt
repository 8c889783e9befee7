-- A worker that went is told nothing more.
use Rattle.std.proofs.Common.{◌≡◌, ℕ, List, [], ◌∷◌, ◌++◌, map, Bool, true, false, not, ◌&&◌, ◌||◌, refl, ap, sym, ◌∙◌, arith, inl, inr}
use Rattle.std.specs.Prelude.{◌==◌}
use Rattle.std.proofs.lemmas.Bool.Decides.{nat_tests}
use Rattle.std.proofs.lemmas.List.{append-nil}
use Rattle.std.proofs.lemmas.List.Elements.{filter_map-append}
use Rattle.xd_journal.specs.declared.settings.Settings.{Settings}
use Rattle.xd_journal.specs.declared.entry.Entry.{Entry}
use Rattle.xd_journal.specs.declared.entry.Entry.TheVariants.{Ready, Collected, Done, Back, Finished, Refused, Down, NotStarted, Start, Run, RunAll, Steal, Shutdown, Kill, Over}
use Rattle.xd_journal.specs.declared.entry.Ids.{Ids}
use Rattle.xd_journal.specs.declared.entry.Outcome.{Outcome}
use Rattle.xd_commands.specs.declared.order.Order.{Order}
use Rattle.xd_run.specs.declared.member.Member.{Member}
use Rattle.xd_run.specs.Books.{marked}
use Rattle.xd_run.specs.Collections.{listed, unequal, with_list}
use Rattle.xd_run.specs.Numbers.{all_among}
use Rattle.xd_run.specs.Orderly.{is_orderly, may_run}
use Rattle.xd_run.specs.Plan.{is_each, slot_items}
use Rattle.xd_run.specs.Proper.{may_follow, names_head}
use Rattle.xd_run.specs.Sharing.{State, in_books}
use Rattle.xd_run.specs.State.{after_effect}
use Rattle.xd_run.specs.Table.{in_rota}
use Rattle.xd_run.specs.Workers.{has_member, is_active, is_shut, made_collected, made_gone, made_ready, made_shut, slot_of, started, was_ready}
use Rattle.xd_run_laws.proofs.Inputs.{collecting-keeps}
use Rattle.xd_run_laws.proofs.Logic.{cases_of, differ, not_true, split-and}
use Rattle.xd_run_laws.proofs.Members.{has, has-cleared, has-more, has-same}
use Rattle.xd_run_laws.proofs.Placed.{Placed}
use Rattle.xd_run_laws.proofs.Walk.{Keeps}
use Rattle.xd_system.specs.Own.{outcome_in, outcomes_by, order_told, told_to}
use Rattle.xd_system.proofs.Asked.{steal-rota}
use Rattle.xd_system.proofs.Given.{gives-run}

-- the worker was started and is active no more, and this is all that it was told
pub record Silent (w : ℕ) (all : List Order) (ds : List (ℕ × Outcome)) (s : State) (es : List Entry) : Type 0 where
  pub member : has_member w (λ m. true) s.books ≡ true
  pub gone : is_active w s.books ≡ false
  pub told : told_to w es ≡ all
  pub dones : outcomes_by w es ≡ ds

module _ (w : ℕ) (all : List Order) (ds : List (ℕ × Outcome)) (s : State) (es : List Entry) (k : Silent w all ds s es) where
  quiet : (e : Entry) (t : State) → told_to w (e ∷ []) ≡ [] → outcomes_by w (e ∷ []) ≡ []
      → has_member w (λ m. true) t.books ≡ has_member w (λ m. true) s.books → is_active w t.books ≡ false
      → Silent w all ds t (es ++ e ∷ [])
  quiet e t a d b c = record {
    member = b ∙ k.member;
    gone = c;
    told = filter_map-append (order_told w) es (e ∷ []) ∙ ap (λ (l : List Order). told_to w es ++ l) a
        ∙ append-nil (told_to w es) ∙ k.told;
    dones = filter_map-append (outcome_in w) es (e ∷ []) ∙ ap (λ (l : List (ℕ × Outcome)). outcomes_by w es ++ l) d
        ∙ append-nil (outcomes_by w es) ∙ k.dones;
  }

  same : (e : Entry) (t : State) (change : Member → Member) → told_to w (e ∷ []) ≡ [] → outcomes_by w (e ∷ []) ≡ []
      → t.books.members ≡ map change s.books.members
      → ((m : Member) → (change m).worker ≡ m.worker) → ((m : Member) → (change m).active ≡ m.active)
      → Silent w all ds t (es ++ e ∷ [])
  same e t change a d m x y =
      quiet e t a d (ap (has w (λ m. true)) m ∙ has-same w (λ m. true) change s.books.members x (λ m. refl)) (ap (has w (λ m. m.active)) m ∙ has-same w (λ m. m.active) change s.books.members x y ∙ k.gone)

  leave : (e : Entry) (t : State) (v : ℕ) → told_to w (e ∷ []) ≡ [] → outcomes_by w (e ∷ []) ≡ []
      → t.books.members ≡ map (made_gone v) s.books.members → Silent w all ds t (es ++ e ∷ [])
  leave e t v a d m =
      quiet e t a d (ap (has w (λ m. true)) m ∙ has-same w (λ m. true) (made_gone v) s.books.members (λ m. refl) (λ m. refl))
      (ap (has w (λ m. m.active)) m ∙ has-cleared w v (λ m. m.active) (made_gone v) s.books.members (λ m. refl) (λ m. refl) ∙ ap (λ (b : Bool). not (w == v) && b) k.gone ∙ none (not (w == v)))
    where
      none : (b : Bool) → (b && false) ≡ false
      none true = refl
      none false = refl

  said-collected : (v : ℕ) (g : Ids) → Silent w all ds (after_effect s (Collected v g)) (es ++ Collected v g ∷ [])
  said-collected v g =
      let u = in_books (λ b. marked (made_collected v) (with_list v g b)) s in
      let stop = unequal v g (listed v s.books) in
      let first = has-same w (λ m. true) (made_collected v) s.books.members (λ m. refl) (λ m. refl) in
      let second = has-same w (λ m. m.active) (made_collected v) s.books.members (λ m. refl) (λ m. refl) ∙ k.gone in
      quiet (Collected v g) (after_effect s (Collected v g)) refl refl
      (collecting-keeps (λ (x : State). has_member w (λ m. true) x.books ≡ has_member w (λ m. true) s.books) u v stop first first first (λ n. first))
      (collecting-keeps (λ (x : State). is_active w x.books ≡ false) u v stop second second second (λ n. second))

  -- an order is to another worker
  other : (v : ℕ) → is_active v s.books ≡ true → (v == w) ≡ false
  other v a = elim (cases_of (v == w)) [
    | inl h ↦ (let e : v ≡ w = grind (arith, nat_tests, h) in absurd (differ (sym k.gone ∙ sym (ap (λ (u : ℕ). is_active u s.books) e) ∙ a)))
    | inr h ↦ h
  ]

  said : (e : Entry) → may_follow s e ≡ true → Silent w all ds (after_effect s e) (es ++ e ∷ [])
  said (Ready v) m = same (Ready v) (after_effect s (Ready v)) (made_ready v) refl refl refl (λ m. refl) (λ m. refl)
  said (Collected v g) m = said-collected v g
  said (Done v n o ms b) m =
      (let h = other v (split-and (is_active v s.books) (names_head v n s) m).0 in quiet (Done v n o ms b) (after_effect s (Done v n o ms b)) refl (rw h refl) refl k.gone)
  said (Back v ns) m = quiet (Back v ns) (after_effect s (Back v ns)) refl refl refl k.gone
  said (Finished v) m = leave (Finished v) (after_effect s (Finished v)) v refl refl refl
  said (Refused v text) m = leave (Refused v text) (after_effect s (Refused v text)) v refl refl refl
  said (Down v c b) m = leave (Down v c b) (after_effect s (Down v c b)) v refl refl refl
  said (NotStarted v) m = leave (NotStarted v) (after_effect s (NotStarted v)) v refl refl refl
  said (Start v slot) m = absurd (differ m)
  said (Run v ns) m = absurd (differ m)
  said (RunAll v) m = absurd (differ m)
  said (Steal v ns) m = absurd (differ m)
  said (Shutdown v) m = absurd (differ m)
  said (Kill v) m = absurd (differ m)
  said (Over how) m = absurd (differ m)

  told-start : (v slot : ℕ) → is_orderly s (Start v slot) ≡ true
      → Silent w all ds (after_effect s (Start v slot)) (es ++ Start v slot ∷ [])
  told-start v slot m =
      quiet (Start v slot) (after_effect s (Start v slot)) refl refl (kept (λ m. true)) (kept (λ m. m.active) ∙ k.gone)
    where
      apart : (v == w) ≡ false
      apart = elim (cases_of (v == w)) [
        | inl h ↦ (let e : v ≡ w = grind (arith, nat_tests, h) in absurd (differ (sym (not_true (has_member v (λ m. true) s.books) m) ∙ ap (λ (u : ℕ). has_member u (λ m. true) s.books) e ∙ k.member)))
        | inr h ↦ h
      ]

      none : (b c : Bool) → (b || (false && c)) ≡ b
      none true c = refl
      none false c = refl

      kept : (test : Member → Bool) → has w test (s.books.members ++ started v slot ∷ []) ≡ has w test s.books.members
      kept test = has-more w test s.books.members (started v slot)
          ∙ ap (λ (b : Bool). has w test s.books.members || (b && test (started v slot))) apart
          ∙ none (has w test s.books.members) (test (started v slot))

  told : (e : Entry) → Placed s → is_orderly s e ≡ true → Silent w all ds (after_effect s e) (es ++ e ∷ [])
  told (Start v slot) p m = told-start v slot m
  told (Run v ns) p m =
      (let h = other v (p.fits.active v (gives-run v ns s p m).rota) in quiet (Run v ns) (after_effect s (Run v ns)) (rw h refl) refl refl k.gone)
  told (RunAll v) p m =
      let a = split-and (is_each s.plan.mode && s.books.shared && may_run v s) (all_among (slot_items (slot_of v s.books) s.plan) s.books.table.pool) m in
      let b = split-and (is_each s.plan.mode && s.books.shared) (may_run v s) a.0 in
      let h = other v (p.fits.active v (split-and (in_rota v s.books.table) (not (is_shut v s.books)) b.1).0) in
      quiet (RunAll v) (after_effect s (RunAll v)) (rw h refl) refl refl k.gone
  told (Steal v ns) p m =
      (let h = other v (p.fits.active v (steal-rota v ns s m)) in quiet (Steal v ns) (after_effect s (Steal v ns)) (rw h refl) refl refl k.gone)
  told (Shutdown v) p m =
      let a = split-and (is_active v s.books && was_ready v s.books) (not (is_shut v s.books)) m in
      let h = other v (split-and (is_active v s.books) (was_ready v s.books) a.0).0 in
      same (Shutdown v) (after_effect s (Shutdown v)) (made_shut v) (rw h refl) refl refl (λ m. refl) (λ m. refl)
  told (Kill v) p m = quiet (Kill v) s refl refl refl k.gone
  told (Over how) p m = quiet (Over how) s refl refl refl k.gone
  told (Ready v) p m = absurd (differ m)
  told (Collected v g) p m = absurd (differ m)
  told (Done v n o ms b) p m = absurd (differ m)
  told (Back v ns) p m = absurd (differ m)
  told (Finished v) p m = absurd (differ m)
  told (Refused v text) p m = absurd (differ m)
  told (Down v c b) p m = absurd (differ m)
  told (NotStarted v) p m = absurd (differ m)

pub keeps_silent : (settings : Settings) (w : ℕ) (all : List Order) (ds : List (ℕ × Outcome))
    → Keeps settings (Silent w all ds)
keeps_silent settings w all ds = record {
  said = λ s es e t m at k. said w all ds s es k e m;
  told = λ s es e p m at k. told w all ds s es k e p m;
  settled = λ s es k. record { member = k.member; gone = k.gone; told = k.told; dones = k.dones };
}
