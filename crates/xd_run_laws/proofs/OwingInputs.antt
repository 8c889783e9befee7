-- After each input, and all that follows it, someone owes the next step.
use Rattle.std.proofs.Common.{◌≡◌, ℕ, List, [], ◌∷◌, true, false, not, refl, sym, ◌∙◌, subst, inl, inr}
use Rattle.std.specs.Prelude.{◌==◌}
use Rattle.xd_journal.specs.declared.entry.Entry.{Entry}
use Rattle.xd_journal.specs.declared.entry.Entry.TheVariants.{Ready, Collected, Done, Back, Finished, Refused, Down, NotStarted, Start, Run, RunAll, Steal, Shutdown, Kill, Over}
use Rattle.xd_run.specs.declared.member.Member.{Member}
use Rattle.xd_run.specs.Workers.{is_active, made_ready, made_shut, was_ready}
use Rattle.xd_run.specs.Stops.{is_shutting, is_stopped}
use Rattle.xd_run.specs.Sharing.{State}
use Rattle.xd_run.specs.State.{after_entries, after_effect, settled}
use Rattle.xd_run.specs.Outputs.{closing, own_outputs, after_input}
use Rattle.xd_run.specs.Proper.{may_follow}
use Rattle.xd_run_laws.proofs.Logic.{cases_of, clash, differ, in_both, split-and, split-or}
use Rattle.xd_run_laws.proofs.Members.{has, has-member, has-same, has-set}
use Rattle.xd_run_laws.proofs.MembersFit.{slot-marked}
use Rattle.xd_run_laws.proofs.Turns.{Tidy, after_entries-join}
use Rattle.xd_run_laws.proofs.Inputs.{tidy-input}
use Rattle.xd_run_laws.proofs.Outputs.{closing-fit, own-fit}
use Rattle.xd_run_laws.proofs.Spent.{Spent}
use Rattle.xd_run_laws.proofs.Later.{later-shutdown}
use Rattle.xd_run_laws.proofs.Owing.{AllTold, Going, Owing}
use Rattle.xd_run_laws.proofs.Keeping.{Keeper}
use Rattle.xd_run_laws.proofs.Going.{Alike, going-alike, going-spent, owing-closed}
use Rattle.xd_run_laws.proofs.OwingEnds.{finished-owing, refused-owing}
use Rattle.xd_run_laws.proofs.OwingCalls.{back-owing, done-owing}
use Rattle.xd_run_laws.proofs.OwingJoins.{collected-owing}
use Rattle.xd_run_laws.proofs.OwingDeaths.{down-owing}

-- Ready

ready-owing : (s : State) (w : ℕ) → Tidy s → Spent s → Owing s → Owing (after_entries (after_effect s (Ready w)) (own_outputs s (Ready w) (after_effect s (Ready w))))
ready-owing s w d p o = in_both (λ (os : List Entry). Owing (after_entries now os)) (is_shutting s.books) (Shutdown w ∷ []) [] shutting still
  where
    ms : List Member
    ms = s.books.members

    now : State
    now = after_effect s (Ready w)

    after : State
    after = after_effect now (Shutdown w)

    alike : Alike s now
    alike = record {
      active = λ v. has-same v (λ m. m.active) (made_ready w) ms (λ m. refl) (λ m. refl);
      shut = λ v. has-same v (λ m. m.shut) (made_ready w) ms (λ m. refl) (λ m. refl);
      slots = λ v. slot-marked v (made_ready w) ms (λ m. refl) (λ m. refl);
      table = refl;
      plan = refl;
      shared = refl;
      settings = refl;
    }

    going-now : Going s → Going now
    going-now g = going-alike s now alike (λ v a c n. g.seated v (sym (alike.active v) ∙ a) (sym (has-same v (λ m. m.collected) (made_ready w) ms (λ m. refl) (λ m. refl)) ∙ c) (sym (alike.shut v) ∙ n)) g

    still : is_shutting s.books ≡ false → Owing now
    still q = record { told = λ z. absurd (clash (is_shutting s.books) q z); going = λ z. going-now (o.going z) }

    marked_shut : is_shutting s.books ≡ true → is_stopped s.books ≡ false → s.books.shutting ≡ true
    marked_shut q z = elim (split-or (is_stopped s.books) s.books.shutting q) [ inl a ↦ absurd (clash (is_stopped s.books) z a) | inr a ↦ a ]

    told : is_shutting s.books ≡ true → AllTold after
    told q v a r =
        let l = later-shutdown now w in
        let active : has v (λ m. m.active) now.books.members ≡ true = sym (l.active v) ∙ a in
        let ready : has v (λ m. m.ready) now.books.members ≡ true = sym (l.ready v) ∙ r in
        elim (cases_of (v == w)) [
          | inl k ↦ has-set v w (λ m. m.shut) (made_shut w) now.books.members (λ m. refl) (λ m. refl) ∙ rw k (has-member v (λ m. m.active) now.books.members active)
          | inr k ↦
              (let before : has v (λ m. m.ready) ms ≡ true = sym (has-set v w (λ m. m.ready) (made_ready w) ms (λ m. refl) (λ m. refl) ∙ rw k refl) ∙ ready in
              l.shut v (alike.shut v ∙ o.told q v (sym (alike.active v) ∙ active) before))
        ]

    shutting : is_shutting s.books ≡ true → Owing after
    shutting q = record {
      told = λ z. told q;
      going = λ z. (let sh = marked_shut q z in
          let spent = p.spent sh z in
          going-spent now after (later-shutdown now w) (d.calm.late sh) spent.pool spent.steal (going-now (o.going z)));
    }

module _ (X : State → Type 0) (k : Keeper X) where
  -- an input and all that follows it

  input-owing : (s : State) (e : Entry) → may_follow s e ≡ true → Tidy s → X s → Spent s → Tidy (after_effect s e) → X (after_effect s e) → Owing s → Owing (after_entries (after_effect s e) (own_outputs s e (after_effect s e)))
  input-owing s (Ready w) h d xs p t x o = ready-owing s w d p o
  input-owing s (Collected w g) h d xs p t x o = collected-owing X k s w g d t x o
  input-owing s (Done w i u m out) h d xs p t x o = done-owing X k s w i u m out h d t x o
  input-owing s (Back w is) h d xs p t x o = back-owing X k s w is h d xs t x o
  input-owing s (Finished w) h d xs p t x o = finished-owing s w h d o
  input-owing s (Refused w y) h d xs p t x o = refused-owing X k.rule s w y t x o
  input-owing s (Down w c out) h d xs p t x o = down-owing X k s w h d xs t x o
  input-owing s (NotStarted w) h d xs p t x o = down-owing X k s w (split-and (is_active w s.books) (not (was_ready w s.books)) h).0 d xs t x o
  input-owing s (Start w slot) h d xs p t x o = absurd (differ h)
  input-owing s (Run w is) h d xs p t x o = absurd (differ h)
  input-owing s (RunAll w) h d xs p t x o = absurd (differ h)
  input-owing s (Steal w is) h d xs p t x o = absurd (differ h)
  input-owing s (Shutdown w) h d xs p t x o = absurd (differ h)
  input-owing s (Kill w) h d xs p t x o = absurd (differ h)
  input-owing s (Over how) h d xs p t x o = absurd (differ h)

  pub step-owing : (s : State) (e : Entry) → may_follow s e ≡ true → Tidy s → X s → Spent s → Owing s → Owing (after_input s e)
  step-owing s e h d x p o =
      let now = after_effect s e in
      let own = own_outputs s e now in
      let t = tidy-input s e h d in
      let y = k.rule.input s e h d x in
      let f = own-fit X k.rule s e h d t y in
      let mid = after_entries now own in
      subst (λ (u : State). Owing (settled u)) (sym (after_entries-join now own (closing mid)))
      (owing-closed mid f.tidy (closing-fit X k.rule mid f.tidy f.also).orderly (input-owing s e h d x p t y o))
