-- A journal grows by an input and what follows it.
use Rattle.std.proofs.Common.{[], ◌≡◌, ◌+◌, ◌-◌, List, ◌∷◌, ◌++◌, refl, ap, sym, subst, ◌∙◌, arith, true, append_assoc}
use Rattle.std.proofs.lemmas.List.{append-nil}
use Rattle.xd_journal.specs.declared.settings.Settings.{Settings}
use Rattle.xd_journal.specs.declared.entry.Entry.{Entry}
use Rattle.xd_journal.specs.declared.entry.Entry.TheVariants.{Ready, Collected, Done, Back, Finished, Refused, Down, NotStarted, Start, Run, RunAll, Steal, Shutdown, Kill, Over}
use Rattle.xd_run.specs.Histories.{after_starts, first_starts, grown, journal_of, after_inputs}
use Rattle.xd_run.specs.Meaning.{spent_by}
use Rattle.xd_run.specs.Orderly.{all_orderly, is_orderly, is_orderly_run}
use Rattle.xd_run.specs.Outputs.{outputs, after_input}
use Rattle.xd_run.specs.Proper.{IsProper, all_may_follow, may_follow}
use Rattle.xd_run.specs.Sharing.{State}
use Rattle.xd_run.specs.State.{after_effect, state_at}
use Rattle.xd_run_laws.proofs.Laws.{orderly}
use Rattle.xd_run_laws.proofs.Logic.{and, differ, split-and}
use Rattle.xd_run_laws.proofs.Walk.{input-of}
use Rattle.xd_session_rules.proofs.Closing.{state-grown}

-- the state after one more input

pub state-next : (settings : Settings) (es : List Entry) (e : Entry) → may_follow (state_at settings es) e ≡ true → state_at settings (es ++ e ∷ outputs (state_at settings es) e) ≡ after_input (state_at settings es) e
state-next settings es e h = state-grown settings es (outputs (state_at settings es) e) e (input-of (state_at settings es) e h)

-- a journal grows by its inputs

grown-more : (s : State) (ins : List Entry) (e : Entry) → grown s (ins ++ e ∷ []) ≡ grown s ins ++ (e ∷ outputs (after_inputs s ins) e)
grown-more s [] e = append-nil (e ∷ outputs s e)
grown-more s (i ∷ ins) e = ap (λ xs. (i ∷ outputs s i) ++ xs) (grown-more (after_input s i) ins e) ∙ sym (append_assoc (i ∷ outputs s i) (grown (after_input s i) ins) (e ∷ outputs (after_inputs s (i ∷ ins)) e))

pub journal-more : (settings : Settings) (ins : List Entry) (e : Entry) → journal_of settings (ins ++ e ∷ []) ≡ journal_of settings ins ++ (e ∷ outputs (after_inputs (after_starts settings) ins) e)
journal-more settings ins e = ap (λ xs. first_starts settings ++ xs) (grown-more (after_starts settings) ins e) ∙ sym (append_assoc (first_starts settings) (grown (after_starts settings) ins) (e ∷ outputs (after_inputs (after_starts settings) ins) e))

follow-more : (s : State) (ins : List Entry) (e : Entry) → all_may_follow s ins ≡ true → may_follow (after_inputs s ins) e ≡ true → all_may_follow s (ins ++ e ∷ []) ≡ true
follow-more s [] e h k = and k refl
follow-more s (i ∷ ins) e h k =
    let p = split-and (may_follow s i) (all_may_follow (after_input s i) ins) h in
    and p.0 (follow-more (after_input s i) ins e p.1 k)

pub proper-more : (settings : Settings) (ins : List Entry) (e : Entry) → IsProper settings ins → may_follow (after_inputs (after_starts settings) ins) e ≡ true → IsProper settings (ins ++ e ∷ [])
proper-more settings ins e p h = record { mode = p.mode; some_worker = p.some_worker; few_workers = p.few_workers; few_restarts = p.few_restarts; follow = follow-more (after_starts settings) ins e p.follow h }

-- what follows an input is in order, in every mode

orderly-last : (s : State) (ins : List Entry) (e : Entry) → is_orderly_run s (ins ++ e ∷ []) ≡ true → all_orderly (after_effect (after_inputs s ins) e) (outputs (after_inputs s ins) e) ≡ true
orderly-last s [] e h = (split-and (all_orderly (after_effect s e) (outputs s e)) true h).0
orderly-last s (i ∷ ins) e h = orderly-last (after_input s i) ins e (split-and (all_orderly (after_effect s i) (outputs s i)) (is_orderly_run (after_input s i) (ins ++ e ∷ [])) h).1

pub orderly-next : (settings : Settings) (ins : List Entry) (s : State) (e : Entry) → IsProper settings ins → s ≡ after_inputs (after_starts settings) ins → may_follow s e ≡ true → all_orderly (after_effect s e) (outputs s e) ≡ true
orderly-next settings ins s e p same h =
    let follows : may_follow (after_inputs (after_starts settings) ins) e ≡ true = ap (λ (u : State). may_follow u e) (sym same) ∙ h in
    let Ordered : State → Type 0 = λ u. all_orderly (after_effect u e) (outputs u e) ≡ true in
    subst Ordered (sym same) (orderly-last (after_starts settings) ins e (orderly settings (ins ++ e ∷ []) (proper-more settings ins e p follows)))

-- outputs keep nothing of a test

spends-nothing : (s : State) (e : Entry) → is_orderly s e ≡ true → (es : List Entry) → spent_by (e ∷ es) ≡ spent_by es
spends-nothing s (Start w slot) h es = refl
spends-nothing s (Run w is) h es = refl
spends-nothing s (RunAll w) h es = refl
spends-nothing s (Steal w is) h es = refl
spends-nothing s (Shutdown w) h es = refl
spends-nothing s (Kill w) h es = refl
spends-nothing s (Over how) h es = refl
spends-nothing s (Ready w) h es = absurd (differ h)
spends-nothing s (Collected w g) h es = absurd (differ h)
spends-nothing s (Done w i u m o) h es = absurd (differ h)
spends-nothing s (Back w i) h es = absurd (differ h)
spends-nothing s (Finished w) h es = absurd (differ h)
spends-nothing s (Refused w t) h es = absurd (differ h)
spends-nothing s (Down w c o) h es = absurd (differ h)
spends-nothing s (NotStarted w) h es = absurd (differ h)

quiet-spends : (s : State) (es : List Entry) → all_orderly s es ≡ true → spent_by es ≡ 0
quiet-spends s [] h = refl
quiet-spends s (e ∷ es) h =
    let p = split-and (is_orderly s e) (all_orderly (after_effect s e) es) h in
    spends-nothing s e p.0 es ∙ quiet-spends (after_effect s e) es p.1

spent-first : (e : Entry) (es : List Entry) → spent_by (e ∷ es) ≡ spent_by (e ∷ []) + spent_by es
spent-first (Done w i u m o) es = omega arith
spent-first (Down w c o) es = omega arith
spent-first (Ready w) es = omega arith
spent-first (Collected w g) es = omega arith
spent-first (Back w i) es = omega arith
spent-first (Finished w) es = omega arith
spent-first (Refused w t) es = omega arith
spent-first (NotStarted w) es = omega arith
spent-first (Start w slot) es = omega arith
spent-first (Run w is) es = omega arith
spent-first (RunAll w) es = omega arith
spent-first (Steal w is) es = omega arith
spent-first (Shutdown w) es = omega arith
spent-first (Kill w) es = omega arith
spent-first (Over how) es = omega arith

pub spent-append : (es fs : List Entry) → spent_by (es ++ fs) ≡ spent_by es + spent_by fs
spent-append [] fs = omega arith
spent-append (e ∷ es) fs = (let a = spent-first e (es ++ fs) in let b = spent-first e es in let k = spent-append es fs in omega arith)

pub spent-more : (s : State) (es : List Entry) (e : Entry) → all_orderly (after_effect s e) (outputs s e) ≡ true → spent_by (es ++ e ∷ outputs s e) ≡ spent_by es + spent_by (e ∷ [])
spent-more s es e h =
    let none = quiet-spends (after_effect s e) (outputs s e) h in
    let a = spent-append es (e ∷ outputs s e) in
    let b = spent-first e (outputs s e) in
    omega arith

-- the state after inputs, and one more

pub after_input-more : (s : State) (ins : List Entry) (e : Entry) → after_inputs s (ins ++ e ∷ []) ≡ after_input (after_inputs s ins) e
after_input-more s [] e = refl
after_input-more s (i ∷ ins) e = after_input-more (after_input s i) ins e
