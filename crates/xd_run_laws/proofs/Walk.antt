-- A walk over a proper journal: each entry comes after a tidy state as what a worker may say, or as an output in order.
use Rattle.std.proofs.Common.{◌≡◌, ℕ, zero, suc, ◌+◌, List, [], ◌∷◌, ◌++◌, length, Bool, true, false, refl, ap, sym, ◌∙◌, subst, inl, inr, append_assoc, length-append}
use Rattle.std.specs.Prelude.{◌⊎◌, if◌then◌else◌}
use Rattle.std.specs.List.{list_all}
use Rattle.std.proofs.lemmas.List.{append-nil}
use Rattle.xd_journal.specs.declared.settings.Settings.{Settings}
use Rattle.xd_journal.specs.declared.entry.Entry.{Entry}
use Rattle.xd_journal.specs.declared.entry.Entry.TheVariants.{Ready, Collected, Done, Back, Finished, Refused, Down, NotStarted, Start, Run, RunAll, Steal, Shutdown, Kill, Over}
use Rattle.xd_run.specs.Workers.{started}
use Rattle.xd_run.specs.Sharing.{State}
use Rattle.xd_run.specs.State.{is_input, after_effect, after_entry, reached, after_entries, settled, no_one, state_at}
use Rattle.xd_run.specs.Outputs.{outputs, after_input}
use Rattle.xd_run.specs.Histories.{starts_from, first_starts, after_starts, grown, journal_of, after_inputs}
use Rattle.xd_run.specs.Proper.{may_follow, all_may_follow}
use Rattle.xd_run.specs.Orderly.{is_orderly, all_orderly}
use Rattle.xd_run.specs.Reports.{Report, reports_of, reports_from, reports}
use Rattle.xd_run_laws.proofs.Logic.{differ, split-and, and, in_both}
use Rattle.xd_run_laws.proofs.Members.{Numbered, numbered-more, none-next}
use Rattle.xd_run_laws.proofs.Placed.{Placed, placed-output}
use Rattle.xd_run_laws.proofs.Turns.{Tidy, next-output, after_entries-first, after_entries-join}
use Rattle.xd_run_laws.proofs.Inputs.{tidy-input}
use Rattle.xd_run_laws.proofs.Rule.{Rule}
use Rattle.xd_run_laws.proofs.Outputs.{outputs-fit}
use Rattle.xd_run_laws.proofs.Runs.{Holds, begun-holds, after_input-holds, placed-none}

-- how an entry may come after a state
abbrev pub Comes : State → Entry → Type 0
Comes s e = (Tidy s × (may_follow s e ≡ true)) ⊎ (Placed s × (is_orderly s e ≡ true))

-- each of these entries comes so
abbrev pub AllCome : State → List Entry → Type 0
AllCome s [] = Unit {0}
AllCome s (e ∷ es) = Comes (reached s e) e × AllCome (after_entry s e) es

-- where an entry is reached

pub input-of : (s : State) (e : Entry) → may_follow s e ≡ true → is_input e ≡ true
input-of s (Ready w) h = refl
input-of s (Collected w g) h = refl
input-of s (Done w i u m o) h = refl
input-of s (Back w i) h = refl
input-of s (Finished w) h = refl
input-of s (Refused w t) h = refl
input-of s (Down w c o) h = refl
input-of s (NotStarted w) h = refl
input-of s (Start w slot) h = absurd (differ h)
input-of s (Run w is) h = absurd (differ h)
input-of s (RunAll w) h = absurd (differ h)
input-of s (Steal w is) h = absurd (differ h)
input-of s (Shutdown w) h = absurd (differ h)
input-of s (Kill w) h = absurd (differ h)
input-of s (Over how) h = absurd (differ h)

pub all-inputs : (s : State) (es : List Entry) → all_may_follow s es ≡ true → list_all is_input es ≡ true
all-inputs s [] h = refl
all-inputs s (e ∷ es) h = (let p = split-and (may_follow s e) (all_may_follow (after_input s e) es) h in and (input-of s e p.0) (all-inputs (after_input s e) es p.1))

output-of : (s : State) (e : Entry) → is_orderly s e ≡ true → is_input e ≡ false
output-of s (Start w slot) h = refl
output-of s (Run w is) h = refl
output-of s (RunAll w) h = refl
output-of s (Steal w is) h = refl
output-of s (Shutdown w) h = refl
output-of s (Kill w) h = refl
output-of s (Over how) h = refl
output-of s (Ready w) h = absurd (differ h)
output-of s (Collected w g) h = absurd (differ h)
output-of s (Done w i u m o) h = absurd (differ h)
output-of s (Back w i) h = absurd (differ h)
output-of s (Finished w) h = absurd (differ h)
output-of s (Refused w t) h = absurd (differ h)
output-of s (Down w c o) h = absurd (differ h)
output-of s (NotStarted w) h = absurd (differ h)

reached-by : (s : State) (b : Bool) → b ≡ true → (if b then settled s else s) ≡ settled s
reached-by s true h = refl
reached-by s false h = absurd (differ h)

unreached-by : (s : State) (b : Bool) → b ≡ false → (if b then settled s else s) ≡ s
unreached-by s true h = absurd (differ (sym h))
unreached-by s false h = refl

input-reached : (s : State) (e : Entry) → may_follow (settled s) e ≡ true → reached s e ≡ settled s
input-reached s e h = reached-by s (is_input e) (input-of (settled s) e h)

output-reached : (s : State) (e : Entry) → is_orderly s e ≡ true → reached s e ≡ s
output-reached s e h = unreached-by s (is_input e) (output-of s e h)

-- the entries of a journal come so

come-outputs : (s : State) (es more : List Entry) → all_orderly s es ≡ true → Placed s → AllCome (after_entries s es) more → AllCome s (es ++ more)
come-outputs s [] more h k m = m
come-outputs s (e ∷ es) more h k m =
    let p = split-and (is_orderly s e) (all_orderly (after_effect s e) es) h in
    let here : Comes s e = inr (k, p.0) in
    let rest : AllCome (after_effect s e) (es ++ more) = come-outputs (after_effect s e) es more p.1 (placed-output s e p.0 k) (subst (λ (u : State). AllCome u more) (after_entries-first s e es p.0) m) in
    (subst (λ (u : State). Comes u e) (sym (output-reached s e p.0)) here, subst (λ (u : State). AllCome u (es ++ more)) (sym (next-output s e p.0)) rest)

come-grown : (X : State → Type 0) → Rule X → (x : State) (es : List Entry) → all_may_follow (settled x) es ≡ true → Holds X (settled x) → AllCome x (grown (settled x) es)
come-grown X rule x [] h k = tt
come-grown X rule x (e ∷ es) h k =
    let s = settled x in
    let p = split-and (may_follow s e) (all_may_follow (after_input s e) es) h in
    let f = outputs-fit X rule s e p.0 k.tidy k.also in
    let y = after_entries (after_effect s e) (outputs s e) in
    let rest : AllCome y (grown (settled y) es) = come-grown X rule y es p.1 (after_input-holds X rule s e p.0 k) in
    let same : reached x e ≡ s = input-reached x e p.0 in
    let here : Comes s e = inl (k.tidy, p.0) in
    let following : AllCome (after_effect s e) (outputs s e ++ grown (settled y) es) = come-outputs (after_effect s e) (outputs s e) (grown (settled y) es) f.orderly (tidy-input s e p.0 k.tidy).placed rest in
    (subst (λ (u : State). Comes u e) (sym same) here, subst (λ (u : State). AllCome (after_effect u e) (outputs s e ++ grown (settled y) es)) (sym same) following)

starts-orderly : (s : State) (w n : ℕ) → w ≡ length s.books.members → Numbered s.books.members → all_orderly s (starts_from w n) ≡ true
starts-orderly s w zero e c = refl
starts-orderly s w (suc n) e c =
    let here : is_orderly s (Start w w) ≡ true = subst (λ (v : ℕ). is_orderly s (Start v w) ≡ true) (sym e) (rw (none-next s.books.members c)) in
    and here (starts-orderly (after_effect s (Start w w)) (w + 1) n (ap (λ (k : ℕ). k + 1) e ∙ sym (length-append s.books.members (started w w ∷ []))) (numbered-more s.books.members (started w w) e c))

pub come-journal : (X : State → Type 0) → Rule X → (settings : Settings) (inputs : List Entry) → X (no_one settings) → all_may_follow (after_starts settings) inputs ≡ true
    → AllCome (no_one settings) (journal_of settings inputs)
come-journal X rule settings inputs x h =
    let first = after_entries (no_one settings) (first_starts settings) in
    come-outputs (no_one settings) (first_starts settings) (grown (after_starts settings) inputs) (starts-orderly (no_one settings) 0 settings.workers refl refl) (placed-none settings)
    (come-grown X rule first inputs h (begun-holds X rule settings x))

-- the first of them come so
pub come-front : (s : State) (xs ys : List Entry) → AllCome s (xs ++ ys) → AllCome s xs
come-front s [] ys c = tt
come-front s (x ∷ xs) ys c = (c.0, come-front (after_entry s x) xs ys c.1)

-- reports

pub reports-append : (s : State) (xs ys : List Entry) → reports_from s (xs ++ ys) ≡ reports_from s xs ++ reports_from (after_entries s xs) ys
reports-append s [] ys = refl
reports-append s (x ∷ xs) ys =
    ap (λ (rs : List Report). reports_of (reached s x) x ++ rs) (reports-append (after_entry s x) xs ys)
    ∙ sym (append_assoc (reports_of (reached s x) x) (reports_from (after_entry s x) xs) (reports_from (after_entries (after_entry s x) xs) ys))

reports-one : (s : State) (e : Entry) → reports_from s (e ∷ []) ≡ reports_of (reached s e) e
reports-one s e = append-nil (reports_of (reached s e) e)

-- the reports of one entry more
pub reports-more : (settings : Settings) (es : List Entry) (e : Entry) (s : State) → s ≡ reached (after_entries (no_one settings) es) e → reports settings (es ++ e ∷ []) ≡ reports settings es ++ reports_of s e
reports-more settings es e s at =
    reports-append (no_one settings) es (e ∷ []) ∙ ap (λ (rs : List Report). reports settings es ++ rs) (reports-one (after_entries (no_one settings) es) e)
    ∙ ap (λ (u : State). reports settings es ++ reports_of u e) (sym at)

-- what each entry keeps of the state and the entries so far

pub record Keeps (settings : Settings) (R : State → List Entry → Type 0) : Type 0 where
  pub said : (s : State) (es : List Entry) (e : Entry) → Tidy s → may_follow s e ≡ true → s ≡ reached (after_entries (no_one settings) es) e → R s es → R (after_effect s e) (es ++ e ∷ [])
  pub told : (s : State) (es : List Entry) (e : Entry) → Placed s → is_orderly s e ≡ true → s ≡ reached (after_entries (no_one settings) es) e → R s es → R (after_effect s e) (es ++ e ∷ [])
  pub settled : (s : State) (es : List Entry) → R s es → R (settled s) es

module _ (settings : Settings) (R : State → List Entry → Type 0) (k : Keeps settings R) where
  one-more : (es : List Entry) (e : Entry) → Comes (reached (after_entries (no_one settings) es) e) e → R (after_entries (no_one settings) es) es → R (after_entry (after_entries (no_one settings) es) e) (es ++ e ∷ [])
  one-more es e c r =
      let s = after_entries (no_one settings) es in
      let u = reached s e in
      let here : R u es = in_both (λ (v : State). R v es) (is_input e) (settled s) s (λ h. k.settled s es r) (λ h. r) in
      elim c [
        | inl a ↦ k.said u es e a.0 a.1 refl here
        | inr a ↦ k.told u es e a.0 a.1 refl here
      ]

  pub walk-from : (es more : List Entry) → AllCome (after_entries (no_one settings) es) more → R (after_entries (no_one settings) es) es → R (after_entries (no_one settings) (es ++ more)) (es ++ more)
  walk-from es [] c r = subst (λ (xs : List Entry). R (after_entries (no_one settings) xs) xs) (sym (append-nil es)) r
  walk-from es (e ∷ more) c r =
      let s = after_entries (no_one settings) es in
      let same : after_entries (no_one settings) (es ++ e ∷ []) ≡ after_entry s e = after_entries-join (no_one settings) es (e ∷ []) in
      let r_next : R (after_entries (no_one settings) (es ++ e ∷ [])) (es ++ e ∷ []) = subst (λ (v : State). R v (es ++ e ∷ [])) (sym same) (one-more es e c.0 r) in
      let c_next : AllCome (after_entries (no_one settings) (es ++ e ∷ [])) more = subst (λ (v : State). AllCome v more) (sym same) c.1 in
      subst (λ (xs : List Entry). R (after_entries (no_one settings) xs) xs) (append_assoc es (e ∷ []) more) (walk-from (es ++ e ∷ []) more c_next r_next)

  -- it holds after each part of a journal
  pub walk : (es : List Entry) → AllCome (no_one settings) es → R (no_one settings) [] → R (after_entries (no_one settings) es) es
  walk es c r = walk-from [] es c r

-- the state after a journal is that after its inputs

state-grown : (x : State) (es : List Entry) → all_may_follow (settled x) es ≡ true → settled (after_entries x (grown (settled x) es)) ≡ after_inputs (settled x) es
state-grown x [] h = refl
state-grown x (e ∷ es) h =
    let s = settled x in
    let p = split-and (may_follow s e) (all_may_follow (after_input s e) es) h in
    let outs = outputs s e in
    let y = after_entries (after_effect s e) outs in
    let more = grown (settled y) es in
    ap (λ (u : State). settled (after_entries (after_effect u e) (outs ++ more))) (input-reached x e p.0) ∙ ap settled (after_entries-join (after_effect s e) outs more) ∙ state-grown y es p.1

pub journal-state : (settings : Settings) (inputs : List Entry) → all_may_follow (after_starts settings) inputs ≡ true → state_at settings (journal_of settings inputs) ≡ after_inputs (after_starts settings) inputs
journal-state settings inputs h =
    ap settled (after_entries-join (no_one settings) (first_starts settings) (grown (after_starts settings) inputs)) ∙ state-grown (after_entries (no_one settings) (first_starts settings)) inputs h
