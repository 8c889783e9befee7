-- The failures that the books of a run keep are its failed reports.
use Rattle.std.proofs.Common.{◌≡◌, ℕ, ◌+◌, Bool, true, false, List, [], ◌∷◌, ◌++◌, length, map, filter, Option, Some, None, if◌then◌else◌, refl, sym, ◌∙◌, ap, arith, length-append}
use Rattle.std.proofs.lemmas.List.{length-map}
use Rattle.std.proofs.lemmas.List.Elements.{filter-append}
use Rattle.std.proofs.lemmas.List.Sums.{fold-append}
use Rattle.xd_journal.specs.declared.entry.Entry.{Entry}
use Rattle.xd_journal.specs.declared.entry.Entry.TheVariants.{Ready, Collected, Done, Back, Finished, Refused, Down, NotStarted, Start, Run, RunAll, Steal, Shutdown, Kill, Over}
use Rattle.xd_journal.specs.declared.entry.Outcome.{Outcome}
use Rattle.xd_journal.specs.declared.entry.Outcome.TheVariants.{Passed, Skipped, Failed}
use Rattle.xd_journal.specs.declared.entry.RunStop.{RunStop}
use Rattle.xd_journal.specs.declared.entry.RunStop.TheVariants.{OutFault}
use Rattle.xd_journal.specs.declared.journal.Journal.{Journal}
use Rattle.xd_journal.specs.declared.settings.Settings.{Settings}
use Rattle.xd_run.specs.Books.{on_table, marked}
use Rattle.xd_run.specs.Collecting.{collecting}
use Rattle.xd_run.specs.Collections.{listed, unequal, with_list}
use Rattle.xd_run.specs.Ending.{stop_of}
use Rattle.xd_run.specs.Plan.{base, is_each}
use Rattle.xd_run.specs.Reports.{Report, Result, Crash, reports_of, reports_from, reports}
use Rattle.xd_run.specs.Results.{completed_first, failing}
use Rattle.xd_run.specs.Retry.{is_retry}
use Rattle.xd_run.specs.Sharing.{State, in_books, is_full, shared_now}
use Rattle.xd_run.specs.State.{after_entries, is_input, after_effect, after_entry, no_one, reached, settled, state_at}
use Rattle.xd_run.specs.Stops.{stopped_by}
use Rattle.xd_run.specs.Table.{Table, crash_item, held, joined}
use Rattle.xd_run.specs.Workers.{is_shut, made_collected, slot_of}
use Rattle.xd_report.specs.EachReport.{is_failure}
use Rattle.xd_report.specs.Status.{status_in, status_of, stop_status}
use Rattle.xd_report.specs.Summary.{counts}
use Rattle.xd_report.specs.Tests.{tests}
use Rattle.xd_report.proofs.EachReport.{failed-all, settings-kept}

abbrev failures : State → ℕ
failures s = s.books.failures

abbrev reported : State → ℕ
reported s = length s.books.table.reported

abbrev failed_in : List Report → ℕ
failed_in rs = length (filter is_failure rs)

-- From one state to the after_entry the failures grew by the failed reports among these, and the reported items by all of them; but
-- that which a worker held that could not be started is in both and no report.
abbrev Grew : State → State → List Report → Type 0
Grew s t rs = failures t + (reported s + length rs) ≡ failures s + failed_in rs + reported t

-- both are as they were
abbrev Same : State → State → Type 0
Same s t = (failures t ≡ failures s) × (reported t ≡ reported s)

still : (s t : State) → Same s t → Grew s t []
still s t e = omega (e.0, e.1, arith)

pick : (b : Bool) (s x y : State) → Same s x → Same s y → Same s (if b then x else y)
pick true s x y first second = first
pick false s x y first second = second

collecting-same : (w : ℕ) (how : Option RunStop) (s : State) → Same s (collecting w how s)
collecting-same w (Some how) s = pick (is_shut w s.books) s s (in_books (stopped_by (Some how)) s) (refl, refl) (refl, refl)
collecting-same w None s =
    let t = in_books (on_table (joined w)) s in
    pick (is_shut w s.books) s s (if is_full t.books then shared_now t else t) (refl, refl) (pick (is_full t.books) s (shared_now t) t (refl, refl) (refl, refl))

-- a Done is one report of one item
one-grew : (w item : ℕ) (o : Outcome) (f : ℕ) (t : Table) → f + failing o + (length t.reported + 1) ≡ f + failed_in (Result w item o ∷ []) + length (t.reported ++ item ∷ [])
one-grew w item Passed f t = omega (length-append t.reported (item ∷ []), arith)
one-grew w item Skipped f t = omega (length-append t.reported (item ∷ []), arith)
one-grew w item (Failed code) f t = omega (length-append t.reported (item ∷ []), arith)

done-grew : (b : Bool) (i j w : ℕ) (o : Outcome) (f : ℕ) (t : Table)
    → f + failing o + (length t.reported + length (map (λ item. Result w item o) (if b then i ∷ [] else j ∷ [])))
    ≡ f + failed_in (map (λ item. Result w item o) (if b then i ∷ [] else j ∷ [])) + length (completed_first w (if b then i ∷ [] else j ∷ []) t).reported
done-grew true i j w o f t = one-grew w i o f t
done-grew false i j w o f t = one-grew w j o f t

all-crashes : (w : ℕ) (items : List ℕ) → failed_in (map (λ item. Crash w item) items) ≡ length items
all-crashes w [] = refl
all-crashes w (i ∷ is) = omega (all-crashes w is, arith)

down-grew : (w f : ℕ) (items told : List ℕ) → f + length items + (length told + length (map (λ item. Crash w item) items)) ≡ f + failed_in (map (λ item. Crash w item) items) + length (told ++ items)
down-grew w f items told = omega (all-crashes w items, length-map items (λ item. Crash w item), length-append told items, arith)

unstarted-grew : (f : ℕ) (items told : List ℕ) → f + length items + (length told + 0) ≡ f + 0 + length (told ++ items)
unstarted-grew f items told = omega (length-append told items, arith)

moved-grew : (s : State) (e : Entry) → Grew s (after_effect s e) (reports_of s e)
moved-grew s (Done w i o ms out) = done-grew (is_each s.plan.mode) (base (slot_of w s.books) s.plan + i) i w o (failures s) s.books.table
moved-grew s (Down w cause out) = down-grew w (failures s) (crash_item (is_retry w s.books) (held w s.books.table)) s.books.table.reported
moved-grew s (NotStarted w) = unstarted-grew (failures s) (crash_item (is_retry w s.books) (held w s.books.table)) s.books.table.reported
moved-grew s (Collected w given) =
    still s (after_effect s (Collected w given)) (collecting-same w (unequal w given (listed w s.books)) (in_books (λ b. marked (made_collected w) (with_list w given b)) s))
moved-grew s (Ready w) = still s (after_effect s (Ready w)) (refl, refl)
moved-grew s (Back w is) = still s (after_effect s (Back w is)) (refl, refl)
moved-grew s (Finished w) = still s (after_effect s (Finished w)) (refl, refl)
moved-grew s (Refused w text) = still s (after_effect s (Refused w text)) (refl, refl)
moved-grew s (Start w slot) = still s (after_effect s (Start w slot)) (refl, refl)
moved-grew s (Run w is) = still s (after_effect s (Run w is)) (refl, refl)
moved-grew s (RunAll w) = still s (after_effect s (RunAll w)) (refl, refl)
moved-grew s (Steal w is) = still s (after_effect s (Steal w is)) (refl, refl)
moved-grew s (Shutdown w) = still s (after_effect s (Shutdown w)) (refl, refl)
moved-grew s (Kill w) = still s (after_effect s (Kill w)) (refl, refl)
moved-grew s (Over how) = still s (after_effect s (Over how)) (refl, refl)

all-grew : (s : State) (es : List Entry) → Grew s (after_entries s es) (reports_from s es)
all-grew s [] = still s s (refl, refl)
all-grew s (e ∷ es) =
    let t = reached s e in
    let now = after_entry s e in
    let same : Same s t = pick (is_input e) s (settled s) s (refl, refl) (refl, refl) in
    let first = reports_of t e in
    let rest = reports_from now es in
    omega (
      all-grew now es,
      moved-grew t e,
      same.0,
      same.1,
      ap length (filter-append is_failure first rest),
      length-append (filter is_failure first) (filter is_failure rest),
      length-append first rest,
      arith,
    )

-- where each reported item has a report, the failures are the failed reports
pub failures-told : (settings : Settings) (es : List Entry) → length (reports settings es) ≡ length (after_entries (no_one settings) es).books.table.reported
    → (after_entries (no_one settings) es).books.failures ≡ (counts settings es).failed
failures-told settings es told =
    let s = after_entries (no_one settings) es in
    let grew : failures s + (0 + length (reports settings es)) ≡ 0 + failed_in (reports settings es) + reported s = all-grew (no_one settings) es in
    let failed : (counts settings es).failed ≡ 0 + failed_in (reports settings es) = failed-all (no_one settings) es (record { failed = 0; passed = 0; skipped = 0 }) in
    omega (grew, failed, told, arith)

-- what is read off the state before the end of a journal is its status
pub status-over : (j : Journal) (es : List Entry) (how : RunStop) → j.entries.items ≡ es ++ Over how ∷ [] → stop_of j ≡ how
    → (after_entries (no_one j.settings) j.entries.items).books.failures ≡ (counts j.settings j.entries.items).failed → status_in (after_entries (no_one j.settings) es) how ≡ status_of j
status-over j es how is stop failed =
    let last = after_entries (no_one j.settings) es in
    let whole = after_entries (no_one j.settings) j.entries.items in
    let same : whole ≡ last = ap (after_entries (no_one j.settings)) is ∙ fold-append after_entry (no_one j.settings) es (Over how ∷ []) in
    ap (λ (st : Settings). stop_status st.mode how (tests last) (failures last)) (settings-kept (no_one j.settings) es)
    ∙ ap (λ (s : State). stop_status j.settings.mode how (tests s) (failures s)) (sym same)
    ∙ ap (λ (n : ℕ). stop_status j.settings.mode how (tests whole) n) failed
    ∙ ap (λ (h : RunStop). stop_status j.settings.mode h (tests whole) (counts j.settings j.entries.items).failed) (sym stop)

-- where the output failed
pub status-faulty : (j : Journal) → stop_of j ≡ OutFault → status_of j ≡ 3
status-faulty j stop = ap (λ (h : RunStop). stop_status j.settings.mode h (tests (state_at j.settings j.entries.items)) (counts j.settings j.entries.items).failed) stop
