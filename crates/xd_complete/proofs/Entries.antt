-- What one more piece of news adds to a journal.
use Rattle.std.proofs.Common.{◌≡◌, ◌⊎◌, ℕ, zero, suc, List, [], ◌∷◌, ◌++◌, Bool, true, false, ◌||◌, refl, ap, sym, ◌∙◌, subst, inl, inr}
use Rattle.std.specs.Prelude.{◌==◌, ◌+◌, Option, Some, None, is_none, not, ◌&&◌, if◌then◌else◌}
use Rattle.std.specs.List.{list_any}
use Rattle.std.proofs.lemmas.List.Folds.{list_any-append}
use Rattle.xd_journal.specs.declared.entry.Cause.{Cause}
use Rattle.xd_journal.specs.declared.entry.Cause.TheVariants as cause
use Rattle.xd_journal.specs.declared.entry.Entry.{Entry}
use Rattle.xd_journal.specs.declared.entry.Entry.TheVariants.{Ready, Collected, Done, Back, Finished, Refused, Down, NotStarted, Start, Run, RunAll, Steal, Shutdown, Kill, Over}
use Rattle.xd_journal.specs.declared.entry.Ids.TheVariants as ids
use Rattle.xd_journal.specs.declared.news.News.{News}
use Rattle.xd_journal.specs.declared.news.What.{What}
use Rattle.xd_journal.specs.declared.news.What.TheVariants as what
use Rattle.xd_journal.specs.declared.settings.Settings.{Settings}
use Rattle.xd_run.specs.Collections.{differ_at, listed}
use Rattle.xd_run.specs.declared.member.Listed.{Listed}
use Rattle.xd_run.specs.Histories.{first_starts, starts_from}
use Rattle.xd_run.specs.Meaning.{Log, any_open, breach, given_ids, is_of, is_open_log, log_of, may_start_log, meaning_of, output_of, spent_by}
use Rattle.xd_run.specs.Outputs.{outputs}
use Rattle.xd_run.specs.Proper.{IsProper, may_follow, names_head}
use Rattle.xd_run.specs.Sharing.{State}
use Rattle.xd_run.specs.State.{is_input}
use Rattle.xd_run.specs.Workers.{is_active}
use Rattle.xd_run_laws.specs.Stopped.{is_death, is_death_of}
use Rattle.xd_run_laws.proofs.Logic.{cases_of, differ, in_both, or-false}
use Rattle.xd_session.specs.History.{Run as SoFar, after_news, begun_run, input_of, run_of, said_by}
use Rattle.xd_session.specs.Part.{is_end_of}
use Rattle.xd_session.proofs.Steps.{outputs-orderly, run-more, sound-run}
use Rattle.xd_group_peer.specs.ToLink.{is_farewell}
use Rattle.xd_system.specs.Own.{is_accused, is_breach_of}
use Rattle.xd_system.specs.Steps.{is_link_over}
use Rattle.xd_system.proofs.Runs.{added, entries-added}
use Rattle.xd_system.proofs.Said.{said-join, said-other, said-own}
use Rattle.xd_complete.proofs.Lists.{IsIn, first_or, forward, in_any, in_first, in_join, in_last, part_has_none, second_or}
use Rattle.xd_complete.proofs.Quiet.{no-inputs, no-such}

-- the fact holds of the input, where there is one
abbrev pub of_input : (Entry → Bool) → Option Entry → Bool
of_input p None = false
of_input p (Some e) = p e

-- the input that news make after these
abbrev pub input_after : Settings → List News → News → Option Entry
input_after settings taken n = input_of (run_of settings taken) n

pub entries-more : (settings : Settings) (taken : List News) (n : News)
    → (run_of settings (taken ++ n ∷ [])).entries ≡ (run_of settings taken).entries ++ added (run_of settings taken) (input_after settings taken n)
entries-more settings taken n = ap (λ (r : SoFar). r.entries) (run-more settings taken n) ∙ entries-added (run_of settings taken) (input_after settings taken n)

-- a fact of inputs alone, of the entries after one more piece of news
pub any-more : (settings : Settings) (taken : List News) (n : News) → IsProper settings [] → (p : Entry → Bool) → ((e : Entry) → is_input e ≡ false → p e ≡ false)
    → list_any p (run_of settings (taken ++ n ∷ [])).entries ≡ (list_any p (run_of settings taken).entries || of_input p (input_after settings taken n))
any-more settings taken n proper p f =
    ap (list_any p) (entries-more settings taken n) ∙ list_any-append p r.entries (added r (input_of r n)) ∙ ap (λ (b : Bool). list_any p r.entries || b) (go (input_of r n) refl)
  where
    r : SoFar
    r = run_of settings taken

    go : (o : Option Entry) → input_of r n ≡ o → list_any p (added r o) ≡ of_input p o
    go None e = refl
    go (Some e) q =
        ap (λ (b : Bool). p e || b) (no-such p f (outputs r.state e) (no-inputs _ (outputs r.state e) (outputs-orderly settings r n e (sound-run settings taken proper) q))) ∙ or-false (p e)

-- ---- what news mean

module _ (w v : ℕ) (log : Option Log) (spent : ℕ) (s : State) where
  abbrev Alike : Option Entry → Type 0
  Alike o = of_input (is_death_of w) o ≡ of_input (is_breach_of w) o

  alike-ids : (own : List (List ℕ)) (e : Entry) → ((e ≡ Collected v ids.Same) ⊎ (e ≡ Collected v (ids.List own))) → Alike (Some e)
  alike-ids own e (inl q) = subst (λ (x : Entry). Alike (Some x)) (sym q) refl
  alike-ids own e (inr q) = subst (λ (x : Entry). Alike (Some x)) (sym q) refl

  abbrev Given : List (List ℕ) → Option Listed → Entry
  Given own o = elim o [ None ↦ Collected v (ids.List own) | Some l ↦ (if is_none (differ_at l.ids own) then Collected v ids.Same else Collected v (ids.List own)) ]

  pub given-is : (own : List (List ℕ)) → (given_ids v own s ≡ Collected v ids.Same) ⊎ (given_ids v own s ≡ Collected v (ids.List own))
  given-is own = go (listed v s.books)
    where
      one : (b : Bool) → ((if b then Collected v ids.Same else Collected v (ids.List own)) ≡ Collected v ids.Same) ⊎ ((if b then Collected v ids.Same else Collected v (ids.List own)) ≡ Collected v (ids.List own))
      one true = inl refl
      one false = inr refl

      go : (o : Option Listed) → (Given own o ≡ Collected v ids.Same) ⊎ (Given own o ≡ Collected v (ids.List own))
      go None = inr refl
      go (Some l) = one (is_none (differ_at l.ids own))

  -- a death of a worker whose link is not over is a breach
  death-is-breach : (x : What) → is_link_over x ≡ false → Alike (meaning_of v log spent s x)
  death-is-breach what.Ready h = in_both Alike (may_follow s (Ready v)) _ _ (λ k. refl) (λ k. refl)
  death-is-breach (what.Collected own) h = in_both Alike (may_follow s (given_ids v own s)) (Some (given_ids v own s)) _ (λ k. alike-ids own (given_ids v own s) (given-is own)) (λ k. refl)
  death-is-breach (what.LogStart n number) h = in_both Alike (may_start_log v n number log s) None (Some (breach v log spent s)) (λ k. refl) (λ k. refl)
  death-is-breach (what.Piece number bytes) h = in_both Alike (is_open_log number log) None (Some (breach v log spent s)) (λ k. refl) (λ k. refl)
  death-is-breach (what.LogClosed number) h = in_both Alike (is_open_log number log) None (Some (breach v log spent s)) (λ k. refl) (λ k. refl)
  death-is-breach (what.Done n o ms) h =
      in_both Alike (names_head v n s && is_of n log && not (any_open log)) (Some (Done v n o ms (output_of v o log spent s))) (Some (breach v log spent s)) (λ k. refl) (λ k. refl)
  death-is-breach (what.Back ns) h = in_both Alike (may_follow s (Back v ns)) _ _ (λ k. refl) (λ k. refl)
  death-is-breach what.Finished h = in_both Alike (may_follow s (Finished v)) _ _ (λ k. refl) (λ k. refl)
  death-is-breach (what.Closed None) h = refl
  death-is-breach (what.Closed (Some text)) h = in_both Alike (may_follow s (Refused v text)) _ _ (λ k. refl) (λ k. refl)
  death-is-breach what.Stray h = refl
  death-is-breach (what.Gone c) h = absurd (differ (sym h))
  death-is-breach what.NotStarted h = absurd (differ (sym h))

  -- a death is of the worker whose news it was
  module _ (other : (v == w) ≡ false) where
    abbrev NoDeath : Option Entry → Type 0
    NoDeath o = of_input (is_death_of w) o ≡ false

    none-ids : (own : List (List ℕ)) (e : Entry) → ((e ≡ Collected v ids.Same) ⊎ (e ≡ Collected v (ids.List own))) → NoDeath (Some e)
    none-ids own e (inl q) = subst (λ (x : Entry). NoDeath (Some x)) (sym q) refl
    none-ids own e (inr q) = subst (λ (x : Entry). NoDeath (Some x)) (sym q) refl

    death-is-own : (x : What) → NoDeath (meaning_of v log spent s x)
    death-is-own what.Ready = in_both NoDeath (may_follow s (Ready v)) _ _ (λ k. refl) (λ k. other)
    death-is-own (what.Collected own) = in_both NoDeath (may_follow s (given_ids v own s)) (Some (given_ids v own s)) _ (λ k. none-ids own (given_ids v own s) (given-is own)) (λ k. other)
    death-is-own (what.LogStart n number) = in_both NoDeath (may_start_log v n number log s) None (Some (breach v log spent s)) (λ k. refl) (λ k. other)
    death-is-own (what.Piece number bytes) = in_both NoDeath (is_open_log number log) None (Some (breach v log spent s)) (λ k. refl) (λ k. other)
    death-is-own (what.LogClosed number) = in_both NoDeath (is_open_log number log) None (Some (breach v log spent s)) (λ k. refl) (λ k. other)
    death-is-own (what.Done n o ms) =
        in_both NoDeath (names_head v n s && is_of n log && not (any_open log)) (Some (Done v n o ms (output_of v o log spent s))) (Some (breach v log spent s)) (λ k. refl) (λ k. other)
    death-is-own (what.Back ns) = in_both NoDeath (may_follow s (Back v ns)) _ _ (λ k. refl) (λ k. other)
    death-is-own what.Finished = in_both NoDeath (may_follow s (Finished v)) _ _ (λ k. refl) (λ k. other)
    death-is-own (what.Closed None) = other
    death-is-own (what.Closed (Some text)) = in_both NoDeath (may_follow s (Refused v text)) _ _ (λ k. refl) (λ k. other)
    death-is-own what.Stray = other
    death-is-own (what.Gone c) = other
    death-is-own what.NotStarted = in_both NoDeath (may_follow s (NotStarted v)) _ _ (λ k. other) (λ k. other)

  -- a farewell ends its worker, whatever it means
  farewell-ends : (x : What) → is_farewell x ≡ true → (v == w) ≡ true → of_input (is_end_of w) (meaning_of v log spent s x) ≡ true
  farewell-ends what.Finished h own = in_both (λ (o : Option Entry). of_input (is_end_of w) o ≡ true) (may_follow s (Finished v)) _ _ (λ k. own) (λ k. own)
  farewell-ends (what.Closed None) h own = own
  farewell-ends (what.Closed (Some text)) h own = in_both (λ (o : Option Entry). of_input (is_end_of w) o ≡ true) (may_follow s (Refused v text)) _ _ (λ k. own) (λ k. own)
  farewell-ends what.Ready h own = absurd (differ h)
  farewell-ends (what.Collected i) h own = absurd (differ h)
  farewell-ends (what.LogStart n m) h own = absurd (differ h)
  farewell-ends (what.Piece n b) h own = absurd (differ h)
  farewell-ends (what.LogClosed n) h own = absurd (differ h)
  farewell-ends (what.Done n o m) h own = absurd (differ h)
  farewell-ends (what.Back n) h own = absurd (differ h)
  farewell-ends what.Stray h own = absurd (differ h)
  farewell-ends (what.Gone c) h own = absurd (differ h)
  farewell-ends what.NotStarted h own = absurd (differ h)

module _ (settings : Settings) (taken : List News) (n : News) where
  abbrev run_now : SoFar
  run_now = run_of settings taken

  pub in_meaning : (P : Option Entry → Type 0) → P None → P (meaning_of n.worker (log_of (said_by n.worker run_now.taken)) (spent_by run_now.entries) run_now.state n.what) → P (input_after settings taken n)
  in_meaning P a b = in_both P (is_active n.worker run_now.state.books) _ None (λ h. b) (λ h. a)

  pub input-death-own : (w : ℕ) → (n.worker == w) ≡ false → of_input (is_death_of w) (input_after settings taken n) ≡ false
  input-death-own w other = in_meaning (λ (o : Option Entry). of_input (is_death_of w) o ≡ false) refl (death-is-own w n.worker (log_of (said_by n.worker run_now.taken)) (spent_by run_now.entries) run_now.state other n.what)

  pub input-death-breach : (w : ℕ) → is_link_over n.what ≡ false → of_input (is_death_of w) (input_after settings taken n) ≡ of_input (is_breach_of w) (input_after settings taken n)
  input-death-breach w h = in_meaning (λ (o : Option Entry). of_input (is_death_of w) o ≡ of_input (is_breach_of w) o) refl (death-is-breach w n.worker (log_of (said_by n.worker run_now.taken)) (spent_by run_now.entries) run_now.state n.what h)

  pub input-farewell : (w : ℕ) → is_farewell n.what ≡ true → (n.worker == w) ≡ true → is_active n.worker run_now.state.books ≡ true → of_input (is_end_of w) (input_after settings taken n) ≡ true
  input-farewell w h own active =
      in_both (λ (o : Option Entry). of_input (is_end_of w) o ≡ true) (is_active n.worker run_now.state.books) _ None (λ k. farewell-ends w n.worker (log_of (said_by n.worker run_now.taken)) (spent_by run_now.entries) run_now.state n.what h own) (λ k. absurd (differ (sym k ∙ active)))

-- ---- deaths

pub only-inputs-die : (w : ℕ) (e : Entry) → is_input e ≡ false → is_death_of w e ≡ false
only-inputs-die w (Start v slot) h = refl
only-inputs-die w (Run v is) h = refl
only-inputs-die w (RunAll v) h = refl
only-inputs-die w (Steal v is) h = refl
only-inputs-die w (Shutdown v) h = refl
only-inputs-die w (Kill v) h = refl
only-inputs-die w (Over how) h = refl
only-inputs-die w (Ready v) h = refl
only-inputs-die w (Collected v g) h = refl
only-inputs-die w (Done v i u m o) h = refl
only-inputs-die w (Back v i) h = refl
only-inputs-die w (Finished v) h = refl
only-inputs-die w (Refused v t) h = refl
only-inputs-die w (Down v c o) h = absurd (differ (sym h))
only-inputs-die w (NotStarted v) h = absurd (differ (sym h))

pub only-inputs-end : (w : ℕ) (e : Entry) → is_input e ≡ false → is_end_of w e ≡ false
only-inputs-end w (Start v slot) h = refl
only-inputs-end w (Run v is) h = refl
only-inputs-end w (RunAll v) h = refl
only-inputs-end w (Steal v is) h = refl
only-inputs-end w (Shutdown v) h = refl
only-inputs-end w (Kill v) h = refl
only-inputs-end w (Over how) h = refl
only-inputs-end w (Ready v) h = refl
only-inputs-end w (Collected v g) h = refl
only-inputs-end w (Done v i u m o) h = refl
only-inputs-end w (Back v i) h = refl
only-inputs-end w (Finished v) h = absurd (differ (sym h))
only-inputs-end w (Refused v t) h = absurd (differ (sym h))
only-inputs-end w (Down v c o) h = absurd (differ (sym h))
only-inputs-end w (NotStarted v) h = absurd (differ (sym h))

pub only-inputs-death : (e : Entry) → is_input e ≡ false → is_death e ≡ false
only-inputs-death (Start v slot) h = refl
only-inputs-death (Run v is) h = refl
only-inputs-death (RunAll v) h = refl
only-inputs-death (Steal v is) h = refl
only-inputs-death (Shutdown v) h = refl
only-inputs-death (Kill v) h = refl
only-inputs-death (Over how) h = refl
only-inputs-death (Ready v) h = refl
only-inputs-death (Collected v g) h = refl
only-inputs-death (Done v i u m o) h = refl
only-inputs-death (Back v i) h = refl
only-inputs-death (Finished v) h = refl
only-inputs-death (Refused v t) h = refl
only-inputs-death (Down v c o) h = absurd (differ (sym h))
only-inputs-death (NotStarted v) h = absurd (differ (sym h))

only-inputs-breach : (w : ℕ) (e : Entry) → is_input e ≡ false → is_breach_of w e ≡ false
only-inputs-breach w (Start v slot) h = refl
only-inputs-breach w (Run v is) h = refl
only-inputs-breach w (RunAll v) h = refl
only-inputs-breach w (Steal v is) h = refl
only-inputs-breach w (Shutdown v) h = refl
only-inputs-breach w (Kill v) h = refl
only-inputs-breach w (Over how) h = refl
only-inputs-breach w (Ready v) h = refl
only-inputs-breach w (Collected v g) h = refl
only-inputs-breach w (Done v i u m o) h = refl
only-inputs-breach w (Back v i) h = refl
only-inputs-breach w (Finished v) h = refl
only-inputs-breach w (Refused v t) h = refl
only-inputs-breach w (Down v c o) h = absurd (differ (sym h))
only-inputs-breach w (NotStarted v) h = refl

pub starts-none : (p : Entry → Bool) → ((e : Entry) → is_input e ≡ false → p e ≡ false) → (a n : ℕ) → list_any p (starts_from a n) ≡ false
starts-none p f a zero = refl
starts-none p f a (suc n) = ap (λ (b : Bool). b || list_any p (starts_from (a + 1) n)) (f (Start a a) refl) ∙ starts-none p f (a + 1) n

-- A worker of whose link no end was taken, and that broke no rule, did not go down.
pub no-death-of : (settings : Settings) (w : ℕ) → IsProper settings [] → (taken : List News) → list_any is_link_over (said_by w taken) ≡ false
    → is_accused w (run_of settings taken).entries ≡ false → list_any (is_death_of w) (run_of settings taken).entries ≡ false
no-death-of settings w proper =
    forward (λ (taken : List News). list_any is_link_over (said_by w taken) ≡ false → is_accused w (run_of settings taken).entries ≡ false → list_any (is_death_of w) (run_of settings taken).entries ≡ false)
    (λ a b. starts-none (is_death_of w) (only-inputs-die w) 0 settings.workers) more
  where
    by_worker : (taken : List News) (n : News) → ((n.worker == w) ≡ true) ⊎ ((n.worker == w) ≡ false) → list_any is_link_over (said_by w (taken ++ n ∷ [])) ≡ false → of_input (is_breach_of w) (input_after settings taken n) ≡ false
        → of_input (is_death_of w) (input_after settings taken n) ≡ false
    by_worker taken n (inl own) a b =
        let last : list_any is_link_over (said_by w taken ++ n.what ∷ []) ≡ false = ap (list_any is_link_over) (sym (said-join w taken (n ∷ []) ∙ ap (λ (l : List What). said_by w taken ++ l) (said-own w n own))) ∙ a in
        input-death-breach settings taken n w (in_any is_link_over n.what (said_by w taken ++ n.what ∷ []) (in_last n.what (said_by w taken)) last) ∙ b
    by_worker taken n (inr other) a b = input-death-own settings taken n w other

    more : (taken : List News) (n : News)
        → (list_any is_link_over (said_by w taken) ≡ false → is_accused w (run_of settings taken).entries ≡ false → list_any (is_death_of w) (run_of settings taken).entries ≡ false)
        → list_any is_link_over (said_by w (taken ++ n ∷ [])) ≡ false → is_accused w (run_of settings (taken ++ n ∷ [])).entries ≡ false → list_any (is_death_of w) (run_of settings (taken ++ n ∷ [])).entries ≡ false
    more taken n k a b =
        let broke = sym (any-more settings taken n proper (is_breach_of w) (only-inputs-breach w)) ∙ b in
        let before = list_any (is_breach_of w) (run_of settings taken).entries in
        let now = of_input (is_breach_of w) (input_after settings taken n) in
        let first = k (part_has_none is_link_over (said_by w taken) (said_by w (n ∷ [])) (ap (list_any is_link_over) (sym (said-join w taken (n ∷ []))) ∙ a)) (first_or before now broke) in
        any-more settings taken n proper (is_death_of w) (only-inputs-die w)
        ∙ ap (λ (c : Bool). c || of_input (is_death_of w) (input_after settings taken n)) first
        ∙ by_worker taken n (cases_of (n.worker == w)) a (second_or before now broke)
