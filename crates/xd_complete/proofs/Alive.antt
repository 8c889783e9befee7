-- Where no first worker died, nobody did.
use Rattle.std.proofs.Common.{◌≡◌, ◌⊎◌, ℕ, List, [], ◌∷◌, ◌++◌, Bool, true, false, ◌||◌, refl, ap, sym, ◌∙◌, subst, append_assoc, append-nil, arith, inl, inr}
use Rattle.std.specs.Prelude.{◌==◌, Option, Some, None, if◌then◌else◌}
use Rattle.std.specs.List.{list_any}
use Rattle.std.proofs.lemmas.Bool.Decides.{nat_tests}
use Rattle.std.proofs.lemmas.Grind.{fold-append}
use Rattle.xd_journal.specs.declared.entry.Entry.{Entry}
use Rattle.xd_journal.specs.declared.entry.Entry.TheVariants.{Ready, Collected, Done, Back, Finished, Refused, Down, NotStarted, Start, Run, RunAll, Steal, Shutdown, Kill, Over}
use Rattle.xd_journal.specs.declared.news.News.{News}
use Rattle.xd_journal.specs.declared.news.What.{What}
use Rattle.xd_journal.specs.declared.settings.Settings.{Settings}
use Rattle.xd_run.specs.Proper.{IsProper}
use Rattle.xd_run.specs.Workers.{has_member, is_active}
use Rattle.xd_run_laws.specs.Stopped.{is_death, is_death_of}
use Rattle.xd_run_laws.proofs.Logic.{cases_of, differ, in_both, or-right}
use Rattle.xd_run_laws.proofs.Members.{has-member}
use Rattle.xd_session.specs.History.{begun_run, run_of, said_by}
use Rattle.xd_session.proofs.Steps.{run-more, sound-run}
use Rattle.xd_drive.specs.Taken.{taken_of, taken_with}
use Rattle.xd_system.proofs.Runs.{member-fold}
use Rattle.xd_system.proofs.Said.{said-join, said-other}
use Rattle.xd_complete.proofs.Begun.{all-first}
use Rattle.xd_complete.proofs.Entries.{any-more, input-death-own, input_after, of_input, only-inputs-death, only-inputs-die, starts-none}
use Rattle.xd_complete.proofs.Lists.{IsIn, first_or, forward, in_join, not_so}

-- who died
who : (o : Option Entry) → of_input is_death o ≡ true → (u : ℕ) × (of_input (is_death_of u) o ≡ true)
who None h = absurd (differ h)
who (Some (Down v c b)) h = (v, grind (arith, nat_tests))
who (Some (NotStarted v)) h = (v, grind (arith, nat_tests))
who (Some (Ready v)) h = absurd (differ h)
who (Some (Collected v g)) h = absurd (differ h)
who (Some (Done v n o ms b)) h = absurd (differ h)
who (Some (Back v ns)) h = absurd (differ h)
who (Some (Finished v)) h = absurd (differ h)
who (Some (Refused v text)) h = absurd (differ h)
who (Some (Start v slot)) h = absurd (differ h)
who (Some (Run v ns)) h = absurd (differ h)
who (Some (RunAll v)) h = absurd (differ h)
who (Some (Steal v ns)) h = absurd (differ h)
who (Some (Shutdown v)) h = absurd (differ h)
who (Some (Kill v)) h = absurd (differ h)
who (Some (Over how)) h = absurd (differ h)

module _ (settings : Settings) (proper : IsProper settings []) where
  -- whoever is alive at last was so before
  earlier : (u : ℕ) (post pre : List News) → list_any (is_death_of u) (run_of settings (pre ++ post)).entries ≡ false → list_any (is_death_of u) (run_of settings pre).entries ≡ false
  earlier u [] pre h = ap (λ (l : List News). list_any (is_death_of u) (run_of settings l).entries) (sym (append-nil pre)) ∙ h
  earlier u (n ∷ post) pre h =
      let next = earlier u post (pre ++ n ∷ []) (ap (λ (l : List News). list_any (is_death_of u) (run_of settings l).entries) (append_assoc pre (n ∷ []) post) ∙ h) in
      first_or (list_any (is_death_of u) (run_of settings pre).entries) (of_input (is_death_of u) (input_after settings pre n)) (sym (any-more settings pre n proper (is_death_of u) (only-inputs-die u)) ∙ next)

  -- news that mean something are an active worker's
  active-of : (pre : List News) (n : News) → of_input is_death (input_after settings pre n) ≡ true → is_active n.worker (run_of settings pre).state.books ≡ true
  active-of pre n =
      in_both (λ (o : Option Entry). of_input is_death o ≡ true → is_active n.worker (run_of settings pre).state.books ≡ true) (is_active n.worker (run_of settings pre).state.books) _ None (λ on d. on) (λ off d. absurd (differ d))

  pub none-died : (taken : List News) → ((w : ℕ) → has_member w (λ m. true) (begun_run settings).state.books ≡ true → list_any (is_death_of w) (run_of settings taken).entries ≡ false)
      → list_any is_death (run_of settings taken).entries ≡ false
  none-died taken alive =
      forward (λ (pre : List News). (post : List News) → taken ≡ pre ++ post → list_any is_death (run_of settings pre).entries ≡ false)
      (λ post e. starts-none is_death only-inputs-death 0 settings.workers) more taken [] (sym (append-nil taken))
    where
      more : (pre : List News) (n : News) → ((post : List News) → taken ≡ pre ++ post → list_any is_death (run_of settings pre).entries ≡ false)
          → (post : List News) → taken ≡ (pre ++ n ∷ []) ++ post → list_any is_death (run_of settings (pre ++ n ∷ [])).entries ≡ false
      more pre n k post e =
          let none = k (n ∷ post) (e ∙ append_assoc pre (n ∷ []) post) in
          any-more settings pre n proper is_death only-inputs-death
          ∙ ap (λ (b : Bool). b || of_input is_death (input_after settings pre n)) none ∙ not_so (of_input is_death (input_after settings pre n)) (dies none)
        where
          dies : list_any is_death (run_of settings pre).entries ≡ false → of_input is_death (input_after settings pre n) ≡ true → ⊥
          dies none d = go (cases_of (n.worker == u.0))
            where
              u : (v : ℕ) × (of_input (is_death_of v) (input_after settings pre n) ≡ true)
              u = who (input_after settings pre n) d

              first : (n.worker == u.0) ≡ true → has_member u.0 (λ m. true) (begun_run settings).state.books ≡ true
              first own =
                  let same : n.worker ≡ u.0 = grind (arith, nat_tests, own) in
                  let active = ap (λ (v : ℕ). is_active v (run_of settings pre).state.books) (sym same) ∙ active-of pre n d in
                  all-first settings pre u.0 proper none (has-member u.0 (λ m. m.active) (run_of settings pre).state.books.members active)

              go : ((n.worker == u.0) ≡ true) ⊎ ((n.worker == u.0) ≡ false) → ⊥
              go (inr other) = differ (sym (input-death-own settings pre n u.0 other) ∙ u.1)
              go (inl own) =
                  let lives = earlier u.0 post (pre ++ n ∷ []) (ap (λ (l : List News). list_any (is_death_of u.0) (run_of settings l).entries) (sym e) ∙ alive u.0 (first own)) in
                  differ (sym lives ∙ (any-more settings pre n proper (is_death_of u.0) (only-inputs-die u.0) ∙ or-right (list_any (is_death_of u.0) (run_of settings pre).entries) (of_input (is_death_of u.0) (input_after settings pre n)) u.1))

  -- what is taken is a member's
  pub taken-member : (given : List News) (w : ℕ) (x : What) → IsIn x (said_by w (taken_of settings given)) → has_member w (λ m. true) (run_of settings (taken_of settings given)).state.books ≡ true
  taken-member =
      forward (λ (given : List News). (w : ℕ) (x : What) → IsIn x (said_by w (taken_of settings given)) → has_member w (λ m. true) (run_of settings (taken_of settings given)).state.books ≡ true)
      (λ w x i. absurd (nothing x i.0 i.1 i.2)) more
    where
      nothing : (x : What) (l after : List What) → [] ≡ l ++ x ∷ after → ⊥
      nothing x [] after z = cc
      nothing x (y ∷ l) after z = cc

      stays : (taken : List News) (n : News) (w : ℕ) → has_member w (λ m. true) (run_of settings taken).state.books ≡ true → has_member w (λ m. true) (run_of settings (taken ++ n ∷ [])).state.books ≡ true
      stays taken n w h = ap (λ r. has_member w (λ m. true) r.state.books) (run-more settings taken n) ∙ member-fold settings w (run_of settings taken) (n ∷ []) (sound-run settings taken proper) h

      own : (taken : List News) (n : News) (w : ℕ) (x : What) → is_active n.worker (run_of settings taken).state.books ≡ true → IsIn x (said_by w (n ∷ [])) → has_member w (λ m. true) (run_of settings taken).state.books ≡ true
      own taken n w x on i = elim (cases_of (n.worker == w)) [
        | inl q ↦ (let same : n.worker ≡ w = grind (arith, nat_tests, q) in has-member w (λ m. m.active) (run_of settings taken).state.books.members (ap (λ (v : ℕ). is_active v (run_of settings taken).state.books) (sym same) ∙ on))
        | inr q ↦ absurd (nothing x i.0 i.1 (sym (said-other w n q) ∙ i.2))
      ]

      one : (taken : List News) (n : News) (b : Bool) → is_active n.worker (run_of settings taken).state.books ≡ b
          → ((w : ℕ) (x : What) → IsIn x (said_by w taken) → has_member w (λ m. true) (run_of settings taken).state.books ≡ true)
          → (w : ℕ) (x : What) → IsIn x (said_by w (if b then taken ++ n ∷ [] else taken)) → has_member w (λ m. true) (run_of settings (if b then taken ++ n ∷ [] else taken)).state.books ≡ true
      one taken n false off k w x i = k w x i
      one taken n true on k w x i = elim (in_join x (said_by w taken) (said_by w (n ∷ [])) (subst (IsIn x) (said-join w taken (n ∷ [])) i)) [
        | inl h ↦ stays taken n w (k w x h)
        | inr h ↦ stays taken n w (own taken n w x on h)
      ]

      more : (given : List News) (n : News) → ((w : ℕ) (x : What) → IsIn x (said_by w (taken_of settings given)) → has_member w (λ m. true) (run_of settings (taken_of settings given)).state.books ≡ true)
          → (w : ℕ) (x : What) → IsIn x (said_by w (taken_of settings (given ++ n ∷ []))) → has_member w (λ m. true) (run_of settings (taken_of settings (given ++ n ∷ []))).state.books ≡ true
      more given n k = subst (λ (l : List News). (w : ℕ) (x : What) → IsIn x (said_by w l) → has_member w (λ m. true) (run_of settings l).state.books ≡ true) (sym (fold-append (taken_with settings) [] given (n ∷ [])))
          (one (taken_of settings given) n (is_active n.worker (run_of settings (taken_of settings given)).state.books) refl k)
