-- Collections and refusals stand in a journal as they were written.
use Rattle.std.proofs.Common.{◌≡◌, ◌⊎◌, ℕ, zero, suc, List, [], ◌∷◌, ◌++◌, Bool, true, false, ◌||◌, refl, ap, sym, ◌∙◌, subst, arith, inl, inr}
use Rattle.std.specs.Prelude.{◌==◌, ◌+◌, Option, Some, None, not, ◌&&◌}
use Rattle.std.specs.List.{list_any}
use Rattle.std.proofs.lemmas.Bool.Decides.{nat_tests}
use Rattle.xd_journal.specs.declared.entry.Entry.{Entry}
use Rattle.xd_journal.specs.declared.entry.Entry.TheVariants.{Ready, Collected, Done, Back, Finished, Refused, Down, NotStarted, Start, Run, RunAll, Steal, Shutdown, Kill, Over}
use Rattle.xd_journal.specs.declared.entry.Ids.TheVariants as ids
use Rattle.xd_journal.specs.declared.news.News.{News}
use Rattle.xd_journal.specs.declared.news.What.{What}
use Rattle.xd_journal.specs.declared.news.What.TheVariants as what
use Rattle.xd_journal.specs.declared.settings.Settings.{Settings}
use Rattle.xd_run.specs.Histories.{first_starts, starts_from}
use Rattle.xd_run.specs.Meaning.{Log, any_open, breach, given_ids, is_of, is_open_log, log_of, may_start_log, meaning_of, output_of, spent_by}
use Rattle.xd_run.specs.Outputs.{outputs}
use Rattle.xd_run.specs.Proper.{IsProper, may_follow, names_head}
use Rattle.xd_run.specs.Sharing.{State}
use Rattle.xd_run.specs.State.{after_effect, is_input}
use Rattle.xd_run_laws.proofs.Logic.{differ, in_both}
use Rattle.xd_session.specs.History.{Run as SoFar, input_of, run_of, said_by}
use Rattle.xd_session.proofs.Steps.{outputs-orderly, sound-run}
use Rattle.xd_system.proofs.Runs.{added}
use Rattle.xd_system.proofs.Said.{said-join, said-own}
use Rattle.xd_complete.proofs.Entries.{entries-more, given-is, in_meaning, input_after, starts-none}
use Rattle.xd_complete.proofs.Lists.{IsIn, forward, in_any, in_first, in_join, in_last}
use Rattle.xd_complete.proofs.Quiet.{no-inputs}

-- a collection that is listed, or a refusal, is what the worker said
abbrev IsSaid : (ℕ → What → Type 0) → Entry → Type 0
IsSaid said (Collected v (ids.List own)) = said v (what.Collected own)
IsSaid said (Refused v text) = said v (what.Closed (Some text))
IsSaid said _ = Unit {0}

-- among these news
abbrev Among : List News → ℕ → What → Type 0
Among taken v x = IsIn x (said_by v taken)

-- by this one
abbrev IsThis : ℕ → What → ℕ → What → Type 0
IsThis v x u y = (u ≡ v) × (y ≡ x)

is-said-more : (p q : ℕ → What → Type 0) → ((v : ℕ) (x : What) → p v x → q v x) → (e : Entry) → IsSaid p e → IsSaid q e
is-said-more p q f (Collected v (ids.List own)) h = f v (what.Collected own) h
is-said-more p q f (Collected v ids.Same) h = tt
is-said-more p q f (Refused v text) h = f v (what.Closed (Some text)) h
is-said-more p q f (Ready v) h = tt
is-said-more p q f (Done v n o ms b) h = tt
is-said-more p q f (Back v ns) h = tt
is-said-more p q f (Finished v) h = tt
is-said-more p q f (Down v c b) h = tt
is-said-more p q f (NotStarted v) h = tt
is-said-more p q f (Start v slot) h = tt
is-said-more p q f (Run v ns) h = tt
is-said-more p q f (RunAll v) h = tt
is-said-more p q f (Steal v ns) h = tt
is-said-more p q f (Shutdown v) h = tt
is-said-more p q f (Kill v) h = tt
is-said-more p q f (Over how) h = tt

told-said : (p : ℕ → What → Type 0) (e : Entry) → is_input e ≡ false → IsSaid p e
told-said p (Collected v g) h = absurd (differ (sym h))
told-said p (Refused v text) h = absurd (differ (sym h))
told-said p (Ready v) h = tt
told-said p (Done v n o ms b) h = tt
told-said p (Back v ns) h = tt
told-said p (Finished v) h = tt
told-said p (Down v c b) h = tt
told-said p (NotStarted v) h = tt
told-said p (Start v slot) h = tt
told-said p (Run v ns) h = tt
told-said p (RunAll v) h = tt
told-said p (Steal v ns) h = tt
told-said p (Shutdown v) h = tt
told-said p (Kill v) h = tt
told-said p (Over how) h = tt

-- what news mean
abbrev Means : ℕ → What → Option Entry → Type 0
Means v x None = Unit {0}
Means v x (Some e) = IsSaid (IsThis v x) e

module _ (v : ℕ) (log : Option Log) (spent : ℕ) (s : State) where
  means-ids : (own : List (List ℕ)) (e : Entry) → ((e ≡ Collected v ids.Same) ⊎ (e ≡ Collected v (ids.List own))) → IsSaid (IsThis v (what.Collected own)) e
  means-ids own e (inl q) = subst (IsSaid (IsThis v (what.Collected own))) (sym q) tt
  means-ids own e (inr q) = subst (IsSaid (IsThis v (what.Collected own))) (sym q) (refl, refl)

  means : (x : What) → Means v x (meaning_of v log spent s x)
  means what.Ready = in_both (Means v what.Ready) (may_follow s (Ready v)) _ _ (λ k. tt) (λ k. tt)
  means (what.Collected own) = in_both (Means v (what.Collected own)) (may_follow s (given_ids v own s)) (Some (given_ids v own s)) _ (λ k. means-ids own (given_ids v own s) (given-is v v log spent s own)) (λ k. tt)
  means (what.LogStart n number) = in_both (Means v (what.LogStart n number)) (may_start_log v n number log s) None (Some (breach v log spent s)) (λ k. tt) (λ k. tt)
  means (what.Piece number bytes) = in_both (Means v (what.Piece number bytes)) (is_open_log number log) None (Some (breach v log spent s)) (λ k. tt) (λ k. tt)
  means (what.LogClosed number) = in_both (Means v (what.LogClosed number)) (is_open_log number log) None (Some (breach v log spent s)) (λ k. tt) (λ k. tt)
  means (what.Done n o ms) = in_both (Means v (what.Done n o ms)) (names_head v n s && is_of n log && not (any_open log)) (Some (Done v n o ms (output_of v o log spent s))) (Some (breach v log spent s)) (λ k. tt) (λ k. tt)
  means (what.Back ns) = in_both (Means v (what.Back ns)) (may_follow s (Back v ns)) _ _ (λ k. tt) (λ k. tt)
  means what.Finished = in_both (Means v what.Finished) (may_follow s (Finished v)) _ _ (λ k. tt) (λ k. tt)
  means (what.Closed None) = tt
  means (what.Closed (Some text)) = in_both (Means v (what.Closed (Some text))) (may_follow s (Refused v text)) _ _ (λ k. (refl, refl)) (λ k. tt)
  means what.Stray = tt
  means (what.Gone c) = tt
  means what.NotStarted = in_both (Means v what.NotStarted) (may_follow s (NotStarted v)) _ _ (λ k. tt) (λ k. tt)

input-means : (settings : Settings) (taken : List News) (n : News) → Means n.worker n.what (input_after settings taken n)
input-means settings taken n =
    let r = run_of settings taken in
    in_meaning settings taken n (Means n.worker n.what) tt (means n.worker (log_of (said_by n.worker r.taken)) (spent_by r.entries) r.state n.what)

-- Each listed collection and each refusal in the journal is among what its worker said.
pub all-said : (settings : Settings) → IsProper settings [] → (taken : List News) (e : Entry) → IsIn e (run_of settings taken).entries → IsSaid (Among taken) e
all-said settings proper =
    forward (λ (taken : List News). (e : Entry) → IsIn e (run_of settings taken).entries → IsSaid (Among taken) e)
    (λ e i. told-said (Among []) e (in_any is_input e (first_starts settings) i (starts-none is_input (λ x h. h) 0 settings.workers))) more
  where
    grown : (taken : List News) (n : News) (v : ℕ) (x : What) → Among taken v x → Among (taken ++ n ∷ []) v x
    grown taken n v x k = subst (IsIn x) (sym (said-join v taken (n ∷ []))) (in_first x (said_by v taken) (said_by v (n ∷ [])) k)

    this : (taken : List News) (n : News) (v : ℕ) (x : What) → IsThis n.worker n.what v x → Among (taken ++ n ∷ []) v x
    this taken n v x k =
        let own : (n.worker == v) ≡ true = ap (λ (u : ℕ). n.worker == u) k.0 ∙ grind (arith, nat_tests) in
        subst (IsIn x) (sym (said-join v taken (n ∷ []) ∙ ap (λ (l : List What). said_by v taken ++ l) (said-own v n own ∙ ap (λ (y : What). y ∷ []) (sym k.1)))) (in_last x (said_by v taken))

    of_added : (taken : List News) (n : News) (e : Entry) (o : Option Entry) → input_after settings taken n ≡ o → Means n.worker n.what o → IsIn e (added (run_of settings taken) o) → IsSaid (Among (taken ++ n ∷ [])) e
    of_added taken n e None q m i = absurd (nothing i.0 i.2)
      where
        nothing : (l : List Entry) → [] ≡ l ++ e ∷ i.1 → ⊥
        nothing [] z = cc
        nothing (y ∷ l) z = cc
    of_added taken n e (Some x) q m i = by_part (in_join e (x ∷ []) (outputs r.state x) i)
      where
        r : SoFar
        r = run_of settings taken

        first : (l after : List Entry) → x ∷ [] ≡ l ++ e ∷ after → x ≡ e
        first [] after z = (let y : x ≡ e = cc in y)
        first (y ∷ l) after z = absurd (none l (let k : [] ≡ l ++ e ∷ after = cc in k))
          where
            none : (l : List Entry) → [] ≡ l ++ e ∷ after → ⊥
            none [] k = cc
            none (y ∷ l) k = cc

        by_part : IsIn e (x ∷ []) ⊎ IsIn e (outputs r.state x) → IsSaid (Among (taken ++ n ∷ [])) e
        by_part (inl k) = subst (IsSaid (Among (taken ++ n ∷ []))) (first k.0 k.1 k.2) (is-said-more (IsThis n.worker n.what) (Among (taken ++ n ∷ [])) (this taken n) x m)
        by_part (inr k) = told-said (Among (taken ++ n ∷ [])) e (in_any is_input e (outputs r.state x) k (no-inputs (after_effect r.state x) (outputs r.state x) (outputs-orderly settings r n x (sound-run settings taken proper) q)))

    more : (taken : List News) (n : News) → ((e : Entry) → IsIn e (run_of settings taken).entries → IsSaid (Among taken) e) → (e : Entry) → IsIn e (run_of settings (taken ++ n ∷ [])).entries → IsSaid (Among (taken ++ n ∷ [])) e
    more taken n k e i = by_part (in_join e (run_of settings taken).entries (added (run_of settings taken) (input_after settings taken n)) (subst (IsIn e) (entries-more settings taken n) i))
      where
        by_part : IsIn e (run_of settings taken).entries ⊎ IsIn e (added (run_of settings taken) (input_after settings taken n)) → IsSaid (Among (taken ++ n ∷ [])) e
        by_part (inl h) = is-said-more (Among taken) (Among (taken ++ n ∷ [])) (grown taken n) e (k e h)
        by_part (inr h) = of_added taken n e (input_after settings taken n) refl (input-means settings taken n) h

pub collected-said : (settings : Settings) → IsProper settings [] → (taken : List News) (v : ℕ) (own : List (List ℕ)) → IsIn (Collected v (ids.List own)) (run_of settings taken).entries → IsIn (what.Collected own) (said_by v taken)
collected-said settings proper taken v own i = all-said settings proper taken (Collected v (ids.List own)) i

pub refused-said : (settings : Settings) → IsProper settings [] → (taken : List News) (v : ℕ) (text : List ℕ) → IsIn (Refused v text) (run_of settings taken).entries → IsIn (what.Closed (Some text)) (said_by v taken)
refused-said settings proper taken v text i = all-said settings proper taken (Refused v text) i
