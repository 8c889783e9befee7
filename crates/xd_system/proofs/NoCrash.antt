-- Where nobody goes down, a worker's reports are its results.
use Rattle.std.proofs.Common.{◌≡◌, ℕ, List, [], ◌∷◌, ◌++◌, map, Bool, true, false, ◌||◌, refl, ap, sym, ◌∙◌}
use Rattle.std.specs.Prelude.{◌==◌, filter, if◌then◌else◌}
use Rattle.std.specs.List.{list_any}
use Rattle.std.proofs.lemmas.List.Elements.{filter-append}
use Rattle.xd_journal.specs.declared.entry.Entry.{Entry}
use Rattle.xd_journal.specs.declared.entry.Entry.TheVariants.{Ready, Collected, Done, Back, Finished, Refused, Down, NotStarted, Start, Run, RunAll, Steal, Shutdown, Kill, Over}
use Rattle.xd_run.specs.Plan.{items_named}
use Rattle.xd_run.specs.Reports.{Report, Result, reports_from, reports_of}
use Rattle.xd_run.specs.Sharing.{State}
use Rattle.xd_run.specs.State.{after_effect, reached}
use Rattle.xd_run.specs.Workers.{slot_of}
use Rattle.xd_run_laws.specs.Stopped.{is_death}
use Rattle.xd_run_laws.proofs.Logic.{differ}
use Rattle.xd_system.specs.Deaths.{is_result_of}
use Rattle.xd_system.specs.Laws.{is_report_of}

no-crash-in : (w : ℕ) (s : State) (e : Entry) → is_death e ≡ false → filter (is_report_of w) (reports_of s e) ≡ filter (is_result_of w) (reports_of s e)
no-crash-in w s (Ready v) h = refl
no-crash-in w s (Collected v g) h = refl
no-crash-in w s (Done v n o ms b) h = go (items_named (slot_of v s.books) (n ∷ []) s.plan)
  where
    go : (items : List ℕ) → filter (is_report_of w) (map (λ item. Result v item o) items) ≡ filter (is_result_of w) (map (λ item. Result v item o) items)
    go [] = refl
    go (x ∷ items) = ap (λ (l : List Report). if v == w then Result v x o ∷ l else l) (go items)
no-crash-in w s (Back v ns) h = refl
no-crash-in w s (Finished v) h = refl
no-crash-in w s (Refused v text) h = refl
no-crash-in w s (Down v c b) h = absurd (differ (sym h))
no-crash-in w s (NotStarted v) h = refl
no-crash-in w s (Start v slot) h = refl
no-crash-in w s (Run v ns) h = refl
no-crash-in w s (RunAll v) h = refl
no-crash-in w s (Steal v ns) h = refl
no-crash-in w s (Shutdown v) h = refl
no-crash-in w s (Kill v) h = refl
no-crash-in w s (Over how) h = refl

pub no-crashes : (w : ℕ) (s : State) (es : List Entry) → list_any is_death es ≡ false → filter (is_report_of w) (reports_from s es) ≡ filter (is_result_of w) (reports_from s es)
no-crashes w s [] h = refl
no-crashes w s (e ∷ es) h =
    let p = neither (is_death e) (list_any is_death es) h in
    let u = reached s e in
    filter-append (is_report_of w) (reports_of u e) (reports_from (after_effect u e) es)
    ∙ ap (λ (l : List Report). l ++ filter (is_report_of w) (reports_from (after_effect u e) es)) (no-crash-in w u e p.0)
    ∙ ap (λ (l : List Report). filter (is_result_of w) (reports_of u e) ++ l) (no-crashes w (after_effect u e) es p.1)
    ∙ sym (filter-append (is_result_of w) (reports_of u e) (reports_from (after_effect u e) es))
  where
    neither : (a b : Bool) → (a || b) ≡ false → (a ≡ false) × (b ≡ false)
    neither true b k = absurd (differ (sym k))
    neither false b k = (refl, k)
