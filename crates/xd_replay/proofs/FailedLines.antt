-- The lines of failed reports give the ids of these reports.
use Rattle.std.proofs.Common.{◌≡◌, ℕ, Bool, true, false, List, [], ◌∷◌, ◌++◌, map, refl, sym, ◌∙◌, ap, ap₂, subst, if◌then◌else◌}
use Rattle.std.specs.Prelude.{Option, Some, None, option_map}
use Rattle.xd_edge.specs.declared.mode.ModeKind.{ModeKind}
use Rattle.xd_journal.specs.declared.entry.Entry.{Entry}
use Rattle.xd_journal.specs.declared.entry.Entry.TheVariants.{Ready, Collected, Done, Back, Finished, Refused, Down, NotStarted, Start, Run, RunAll, Steal, Shutdown, Kill, Over}
use Rattle.xd_journal.specs.declared.entry.Outcome.{Outcome}
use Rattle.xd_journal.specs.declared.entry.Outcome.TheVariants.{Passed, Skipped, Failed}
use Rattle.xd_journal.specs.declared.settings.Settings.{Settings}
use Rattle.xd_run.specs.Collecting.{after_collected}
use Rattle.xd_run.specs.Numbers.{first_of}
use Rattle.xd_run.specs.Reports.{Report, Result, Crash, reports_from, reports_of}
use Rattle.xd_run.specs.Retry.{is_retry}
use Rattle.xd_run.specs.Sharing.{State}
use Rattle.xd_run.specs.State.{after_entry, reached}
use Rattle.xd_run.specs.Table.{crash_item, held}
use Rattle.xd_report.specs.Blocks.{failed_id}
use Rattle.xd_report.specs.EachReport.{Line, NodeDown, Of, Replaces, Retried, Tests, is_failure, reports_told, text_of_line}
use Rattle.xd_report.specs.Lines.{collected_line, last_of_slot, lines_from, lines_of, lost_line, replacing}
use Rattle.xd_report.specs.Tests.{id_of, item_id, mode_of, tests}
use Rattle.xd_report.proofs.EachReport.{collected-settings, done-reports, join, next-settings, nothing, plain_line, reached-settings, report_line}
use Rattle.xd_replay.specs.Failed.{GivesFailed, failed_from, failed_told, with_id}
use Rattle.xd_replay.proofs.Failures.{with-more}

if-more : (b : Bool) (id : List ℕ) (xs ys zs : List (List ℕ)) → xs ≡ ys ++ zs → (if b then (id ∷ xs) else xs) ≡ (if b then (id ∷ ys) else ys) ++ zs
if-more true id xs ys zs e = ap (λ (l : List (List ℕ)). id ∷ l) e
if-more false id xs ys zs e = e

failed-append : (xs ys : List Line) → failed_told (xs ++ ys) ≡ failed_told xs ++ failed_told ys
failed-append [] ys = refl
failed-append (Of report id ∷ xs) ys = if-more (is_failure report) id (failed_told (xs ++ ys)) (failed_told xs) (failed_told ys) (failed-append xs ys)
failed-append (Tests n k ∷ xs) ys = failed-append xs ys
failed-append (NodeDown w why ∷ xs) ys = failed-append xs ys
failed-append (Retried w item id ∷ xs) ys = failed-append xs ys
failed-append (Replaces old ∷ xs) ys = failed-append xs ys

both : (mode : ModeKind) (a b : List ℕ) (rs ss : List Report) (is ks : List (List ℕ)) → GivesFailed mode a rs is → GivesFailed mode b ss ks → GivesFailed mode (a ++ b) (rs ++ ss) (is ++ ks)
both mode a b rs ss is ks x y = record {
  lines = join mode a b rs ss x.lines y.lines;
  ids_are = failed-append x.lines.lines y.lines.lines ∙ ap₂ (λ (us vs : List (List ℕ)). us ++ vs) x.ids_are y.ids_are;
}

no_line : (mode : ModeKind) → GivesFailed mode [] [] []
no_line mode = record { lines = nothing mode; ids_are = refl }

-- one line that is of no report, and one that is
other : (mode : ModeKind) (l : Line) → reports_told (l ∷ []) ≡ [] → failed_told (l ∷ []) ≡ [] → GivesFailed mode (text_of_line mode l) [] []
other mode l none failed = record { lines = plain_line mode l none; ids_are = failed }

report : (mode : ModeKind) (r : Report) (id : List ℕ) → GivesFailed mode (text_of_line mode (Of r id)) (r ∷ []) (if is_failure r then (id ∷ []) else [])
report mode r id = record { lines = report_line mode r id; ids_are = refl }

perhaps : (mode : ModeKind) (b : Bool) (n k : ℕ) → GivesFailed mode (if b then text_of_line mode (Tests n k) else []) [] []
perhaps mode true n k = other mode (Tests n k) refl refl
perhaps mode false n k = no_line mode

lost : (mode : ModeKind) (w : ℕ) (id : ℕ → List ℕ) (h : List ℕ) (retry : Bool)
    → GivesFailed mode (elim (first_of h) [ None ↦ [] | Some item ↦ lost_line retry mode w (id item) ]) (map (λ item. Crash w item) (crash_item retry h)) (with_id (option_map id (first_of (crash_item retry h))) [])
lost mode w id [] true = no_line mode
lost mode w id [] false = no_line mode
lost mode w id (x ∷ xs) true = other mode (Retried w x (id x)) refl refl
lost mode w id (x ∷ xs) false = report mode (Crash w x) (id x)

replaced : (mode : ModeKind) (old : Option ℕ) → GivesFailed mode (replacing mode old) [] []
replaced mode None = no_line mode
replaced mode (Some old) = other mode (Replaces old) refl refl

abbrev GivesEntry : State → Entry → Type 0
GivesEntry s e = GivesFailed (mode_of s) (lines_of s e) (reports_of s e) (with_id (failed_id s e) [])

-- the result of a test, with the id where it failed
result : (s : State) (w i : ℕ) (outcome : Outcome) (ms : ℕ) (out : List ℕ) (ids : List (List ℕ)) → ((item : ℕ) → (if is_failure (Result w item outcome) then (id_of w i s ∷ []) else []) ≡ ids)
    → GivesFailed (mode_of s) (lines_of s (Done w i outcome ms out)) (reports_of s (Done w i outcome ms out)) ids
result s w i outcome ms out ids is =
    let one = done-reports s w i outcome ms out in
    subst (λ (rs : List Report). GivesFailed (mode_of s) (lines_of s (Done w i outcome ms out)) rs ids) (sym one.1)
    (subst (λ (ks : List (List ℕ)). GivesFailed (mode_of s) (lines_of s (Done w i outcome ms out)) (Result w one.0 outcome ∷ []) ks) (is one.0) (report (mode_of s) (Result w one.0 outcome) (id_of w i s)))

entry : (s : State) (e : Entry) → GivesEntry s e
entry s (Collected w given) =
    let t = after_collected w given s in
    subst (λ (k : Settings). GivesFailed k.mode (collected_line s.books.shared t) [] []) (collected-settings w given s) (perhaps (mode_of t) _ (tests t) t.books.settings.workers)
entry s (Done w i Passed ms out) = result s w i Passed ms out [] (λ item. refl)
entry s (Done w i Skipped ms out) = result s w i Skipped ms out [] (λ item. refl)
entry s (Done w i (Failed code) ms out) = result s w i (Failed code) ms out (id_of w i s ∷ []) (λ item. refl)
entry s (Down w cause out) =
    both (mode_of s) _ _ [] _ [] _ (other (mode_of s) (NodeDown w (Some cause)) refl refl) (lost (mode_of s) w (λ item. item_id w item s) (held w s.books.table) (is_retry w s.books))
entry s (NotStarted w) = other (mode_of s) (NodeDown w None) refl refl
entry s (Start w slot) = replaced (mode_of s) (last_of_slot slot s.books.members None)
entry s (Ready w) = no_line (mode_of s)
entry s (Back w is) = no_line (mode_of s)
entry s (Finished w) = no_line (mode_of s)
entry s (Refused w text) = no_line (mode_of s)
entry s (Run w is) = no_line (mode_of s)
entry s (RunAll w) = no_line (mode_of s)
entry s (Steal w is) = no_line (mode_of s)
entry s (Shutdown w) = no_line (mode_of s)
entry s (Kill w) = no_line (mode_of s)
entry s (Over how) = no_line (mode_of s)

pub gives-failed : (s : State) (es : List Entry) → GivesFailed (mode_of s) (lines_from s es) (reports_from s es) (failed_from s es)
gives-failed s [] = no_line (mode_of s)
gives-failed s (e ∷ es) =
    let t = reached s e in
    let next = after_entry s e in
    subst (λ (ids : List (List ℕ)). GivesFailed (mode_of s) (lines_of t e ++ lines_from next es) (reports_of t e ++ reports_from next es) ids) (sym (with-more (failed_id t e) [] (failed_from next es)))
    (both (mode_of s) (lines_of t e) (lines_from next es) (reports_of t e) (reports_from next es) (with_id (failed_id t e) []) (failed_from next es)
    (subst (λ (k : Settings). GivesFailed k.mode (lines_of t e) (reports_of t e) (with_id (failed_id t e) [])) (reached-settings s e) (entry t e))
    (subst (λ (k : Settings). GivesFailed k.mode (lines_from next es) (reports_from next es) (failed_from next es)) (next-settings s e) (gives-failed next es)))
