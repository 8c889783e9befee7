-- The reports of a journal are of the items that its state has as reported, in their order.
use Rattle.std.proofs.Common.{◌≡◌, ℕ, zero, suc, ◌+◌, List, [], ◌∷◌, ◌++◌, map, Bool, true, false, not, refl, ap, sym, ◌∙◌, append_assoc, inl, inr}
use Rattle.std.specs.Prelude.{if◌then◌else◌}
use Rattle.std.proofs.lemmas.List.{append-nil}
use Rattle.xd_journal.specs.declared.settings.Settings.{Settings}
use Rattle.xd_journal.specs.declared.entry.Outcome.{Outcome}
use Rattle.xd_journal.specs.declared.entry.Entry.{Entry}
use Rattle.xd_journal.specs.declared.entry.Entry.TheVariants.{Ready, Collected, Done, Back, Finished, Refused, Down, NotStarted, Start, Run, RunAll, Steal, Shutdown, Kill, Over}
use Rattle.xd_run.specs.Table.{Table, crash_item, held, in_rota}
use Rattle.xd_run.specs.Plan.{is_each, base}
use Rattle.xd_run.specs.Books.{marked}
use Rattle.xd_run.specs.Workers.{is_active, was_ready, slot_of, made_collected}
use Rattle.xd_run.specs.Collections.{unequal, listed, with_list}
use Rattle.xd_run.specs.Retry.{is_retry}
use Rattle.xd_run.specs.Sharing.{State, in_books}
use Rattle.xd_run.specs.Results.{completed_first}
use Rattle.xd_run.specs.State.{after_effect, after_entries, settled, no_one}
use Rattle.xd_run.specs.Outputs.{outputs, after_input}
use Rattle.xd_run.specs.Histories.{starts_from, first_starts, after_starts, grown, journal_of, after_inputs}
use Rattle.xd_run.specs.Proper.{may_follow, all_may_follow}
use Rattle.xd_run.specs.Orderly.{is_orderly, all_orderly}
use Rattle.xd_run.specs.Reports.{Report, Result, Crash, item_of, reports_of, reports_from, reports}
use Rattle.xd_run_laws.proofs.Logic.{differ, cases_of, split-and, not_true}
use Rattle.xd_run_laws.proofs.Places.{no-crash}
use Rattle.xd_run_laws.proofs.Placed.{Placed}
use Rattle.xd_run_laws.proofs.Turns.{after_entries-first}
use Rattle.xd_run_laws.proofs.Inputs.{collecting-keeps}
use Rattle.xd_run_laws.proofs.Rule.{Rule}
use Rattle.xd_run_laws.proofs.Outputs.{outputs-fit}
use Rattle.xd_run_laws.proofs.Runs.{Holds, after_input-holds}
use Rattle.xd_run_laws.proofs.Queue.{held-none}

-- the items of these reports
abbrev pub items_told : List Report → List ℕ
items_told rs = map item_of rs

told-append : (xs ys : List Report) → items_told (xs ++ ys) ≡ items_told xs ++ items_told ys
told-append [] ys = refl
told-append (x ∷ xs) ys = ap (λ (zs : List ℕ). item_of x ∷ zs) (told-append xs ys)

-- the items that the state has as reported
abbrev reported : State → List ℕ
reported s = s.books.table.reported

-- outputs report nothing

quiet-reports : (s : State) (e : Entry) → is_orderly s e ≡ true → (reports_of s e ≡ []) × (reported (after_effect s e) ≡ reported s)
quiet-reports s (Start w slot) h = (refl, refl)
quiet-reports s (Run w is) h = (refl, refl)
quiet-reports s (RunAll w) h = (refl, refl)
quiet-reports s (Steal w is) h = (refl, refl)
quiet-reports s (Shutdown w) h = (refl, refl)
quiet-reports s (Kill w) h = (refl, refl)
quiet-reports s (Over how) h = (refl, refl)
quiet-reports s (Ready w) h = absurd (differ h)
quiet-reports s (Collected w g) h = absurd (differ h)
quiet-reports s (Done w i u m o) h = absurd (differ h)
quiet-reports s (Back w i) h = absurd (differ h)
quiet-reports s (Finished w) h = absurd (differ h)
quiet-reports s (Refused w t) h = absurd (differ h)
quiet-reports s (Down w c o) h = absurd (differ h)
quiet-reports s (NotStarted w) h = absurd (differ h)

reports-first : (s : State) (e : Entry) (es : List Entry) → is_orderly s e ≡ true → reports_from s (e ∷ es) ≡ reports_from (after_effect s e) es
reports-first s (Start w slot) es h = refl
reports-first s (Run w is) es h = refl
reports-first s (RunAll w) es h = refl
reports-first s (Steal w is) es h = refl
reports-first s (Shutdown w) es h = refl
reports-first s (Kill w) es h = refl
reports-first s (Over how) es h = refl
reports-first s (Ready w) es h = absurd (differ h)
reports-first s (Collected w g) es h = absurd (differ h)
reports-first s (Done w i u m o) es h = absurd (differ h)
reports-first s (Back w i) es h = absurd (differ h)
reports-first s (Finished w) es h = absurd (differ h)
reports-first s (Refused w t) es h = absurd (differ h)
reports-first s (Down w c o) es h = absurd (differ h)
reports-first s (NotStarted w) es h = absurd (differ h)

-- outputs in order, and then more
reports-following : (s : State) (es more : List Entry) → all_orderly s es ≡ true → (reports_from s (es ++ more) ≡ reports_from (after_entries s es) more) × (reported (after_entries s es) ≡ reported s)
reports-following s [] more h = (refl, refl)
reports-following s (e ∷ es) more h =
    let p = split-and (is_orderly s e) (all_orderly (after_effect s e) es) h in
    let r = reports-following (after_effect s e) es more p.1 in
    let same = after_entries-first s e es p.0 in (
      reports-first s e (es ++ more) p.0 ∙ r.0 ∙ ap (λ (u : State). reports_from u more) (sym same),
      ap reported same ∙ r.1 ∙ (quiet-reports s e p.0).1,
    )

-- an input reports what it adds

one-by : (b : Bool) (i j w : ℕ) (u : Outcome) (t : Table)
    → (completed_first w (if b then i ∷ [] else j ∷ []) t).reported ≡ t.reported ++ items_told (map (λ item. Result w item u) (if b then i ∷ [] else j ∷ []))
one-by true i j w u t = refl
one-by false i j w u t = refl

crash-items : (w : ℕ) (items : List ℕ) → items_told (map (λ item. Crash w item) items) ≡ items
crash-items w [] = refl
crash-items w (i ∷ is) = ap (λ (xs : List ℕ). i ∷ xs) (crash-items w is)

-- a worker that could not be started holds nothing
pub none-held : (s : State) (w : ℕ) → Placed s → may_follow s (NotStarted w) ≡ true → held w s.books.table ≡ []
none-held s w k h =
    let a = not_true (was_ready w s.books) (split-and (is_active w s.books) (not (was_ready w s.books)) h).1 in
    elim (cases_of (in_rota w s.books.table)) [ inl r ↦ absurd (differ (sym a ∙ k.fits.ready w r)) | inr r ↦ held-none w s.books.table.rota r ]

same_reported : (s t : State) → reported t ≡ reported s → reported t ≡ reported s ++ []
same_reported s t h = h ∙ sym (append-nil (reported s))

told-input : (s : State) (e : Entry) → may_follow s e ≡ true → Placed s → reported (after_effect s e) ≡ reported s ++ items_told (reports_of s e)
told-input s (Ready w) h k = same_reported s (after_effect s (Ready w)) refl
told-input s (Collected w g) h k = same_reported s (after_effect s (Collected w g))
    (collecting-keeps (λ (u : State). reported u ≡ reported s) (in_books (λ b. marked (made_collected w) (with_list w g b)) s) w (unequal w g (listed w s.books)) refl refl refl (λ n. refl))
told-input s (Done w i u m o) h k = one-by (is_each s.plan.mode) (base (slot_of w s.books) s.plan + i) i w u s.books.table
told-input s (Back w is) h k = same_reported s (after_effect s (Back w is)) refl
told-input s (Finished w) h k = same_reported s (after_effect s (Finished w)) refl
told-input s (Refused w t) h k = same_reported s (after_effect s (Refused w t)) refl
told-input s (Down w c o) h k = ap (λ (xs : List ℕ). reported s ++ xs) (sym (crash-items w (crash_item (is_retry w s.books) (held w s.books.table))))
told-input s (NotStarted w) h k = ap (λ (xs : List ℕ). reported s ++ crash_item (is_retry w s.books) xs) (none-held s w k h) ∙ ap (λ (xs : List ℕ). reported s ++ xs) (no-crash (is_retry w s.books))
told-input s (Start w slot) h k = absurd (differ h)
told-input s (Run w is) h k = absurd (differ h)
told-input s (RunAll w) h k = absurd (differ h)
told-input s (Steal w is) h k = absurd (differ h)
told-input s (Shutdown w) h k = absurd (differ h)
told-input s (Kill w) h k = absurd (differ h)
told-input s (Over how) h k = absurd (differ h)

-- an input comes after a settled state
input-first : (x : State) (e : Entry) (es : List Entry) → may_follow (settled x) e ≡ true → reports_from x (e ∷ es) ≡ reports_of (settled x) e ++ reports_from (after_effect (settled x) e) es
input-first x (Ready w) es h = refl
input-first x (Collected w g) es h = refl
input-first x (Done w i u m o) es h = refl
input-first x (Back w is) es h = refl
input-first x (Finished w) es h = refl
input-first x (Refused w t) es h = refl
input-first x (Down w c o) es h = refl
input-first x (NotStarted w) es h = refl
input-first x (Start w slot) es h = absurd (differ h)
input-first x (Run w is) es h = absurd (differ h)
input-first x (RunAll w) es h = absurd (differ h)
input-first x (Steal w is) es h = absurd (differ h)
input-first x (Shutdown w) es h = absurd (differ h)
input-first x (Kill w) es h = absurd (differ h)
input-first x (Over how) es h = absurd (differ h)

told-grown : (X : State → Type 0) → Rule X → (x : State) (es : List Entry) → all_may_follow (settled x) es ≡ true → Holds X (settled x)
    → reported (after_inputs (settled x) es) ≡ reported x ++ items_told (reports_from x (grown (settled x) es))
told-grown X rule x [] h k = sym (append-nil (reported x))
told-grown X rule x (e ∷ es) h k =
    let s = settled x in
    let p = split-and (may_follow s e) (all_may_follow (after_input s e) es) h in
    let f = outputs-fit X rule s e p.0 k.tidy k.also in
    let y = after_entries (after_effect s e) (outputs s e) in
    let more = grown (settled y) es in
    let b = reports-following (after_effect s e) (outputs s e) more f.orderly in
    let rest = told-grown X rule y es p.1 (after_input-holds X rule s e p.0 k) in
    let own = items_told (reports_of s e) in
    let last = items_told (reports_from y more) in
    let split : items_told (reports_from x (e ∷ (outputs s e ++ more))) ≡ own ++ last =
    ap items_told (input-first x e (outputs s e ++ more) p.0 ∙ ap (λ (rs : List Report). reports_of s e ++ rs) b.0) ∙ told-append (reports_of s e) (reports_from y more) in
    rest ∙ ap (λ (xs : List ℕ). xs ++ last) (b.1 ∙ told-input s e p.0 k.tidy.placed) ∙ append_assoc (reported x) own last ∙ ap (λ (xs : List ℕ). reported x ++ xs) (sym split)

starts-reports : (s : State) (w n : ℕ) (more : List Entry) → reports_from s (starts_from w n ++ more) ≡ reports_from (after_entries s (starts_from w n)) more
starts-reports s w zero more = refl
starts-reports s w (suc n) more = starts-reports (after_effect s (Start w w)) (w + 1) n more

starts-reported : (s : State) (w n : ℕ) → reported (after_entries s (starts_from w n)) ≡ reported s
starts-reported s w zero = refl
starts-reported s w (suc n) = starts-reported (after_effect s (Start w w)) (w + 1) n

pub told-all : (X : State → Type 0) → Rule X → (settings : Settings) (inputs : List Entry) → all_may_follow (after_starts settings) inputs ≡ true → Holds X (after_starts settings)
    → items_told (reports settings (journal_of settings inputs)) ≡ reported (after_inputs (after_starts settings) inputs)
told-all X rule settings inputs h k =
    let x = after_entries (no_one settings) (first_starts settings) in
    let none : reported x ≡ [] = starts-reported (no_one settings) 0 settings.workers in
    ap items_told (starts-reports (no_one settings) 0 settings.workers (grown (after_starts settings) inputs))
    ∙ sym (told-grown X rule x inputs h k ∙ ap (λ (xs : List ℕ). xs ++ items_told (reports_from x (grown (settled x) inputs))) none)
