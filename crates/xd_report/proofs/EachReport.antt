-- Each report of a run has one line, each failed one has a block, and each is counted once.
use Rattle.std.proofs.Common.{◌≡◌, ℕ, ◌+◌, Bool, true, false, List, [], ◌∷◌, ◌++◌, length, map, filter, Option, Some, None, is_some, if◌then◌else◌, refl, sym, ◌∙◌, ap, subst, arith, add-zero, append_assoc, length-append}
use Rattle.std.proofs.lemmas.List.{append-nil}
use Rattle.std.proofs.lemmas.List.Elements.{filter-append}
use Rattle.xd_edge.specs.declared.mode.ModeKind.{ModeKind}
use Rattle.xd_journal.specs.declared.entry.Entry.{Entry}
use Rattle.xd_journal.specs.declared.entry.Entry.TheVariants.{Ready, Collected, Done, Back, Finished, Refused, Down, NotStarted, Start, Run, RunAll, Steal, Shutdown, Kill, Over}
use Rattle.xd_journal.specs.declared.entry.Outcome.{Outcome}
use Rattle.xd_journal.specs.declared.entry.Outcome.TheVariants.{Passed, Skipped, Failed}
use Rattle.xd_journal.specs.declared.entry.Ids.{Ids}
use Rattle.xd_journal.specs.declared.entry.RunStop.{RunStop}
use Rattle.xd_journal.specs.declared.settings.Settings.{Settings}
use Rattle.xd_run.specs.Books.{on_table, marked}
use Rattle.xd_run.specs.Collections.{listed, unequal, with_list}
use Rattle.xd_run.specs.Numbers.{first_of}
use Rattle.xd_run.specs.Plan.{base, is_each}
use Rattle.xd_run.specs.Reports.{Report, Result, Crash, reports_of, reports_from}
use Rattle.xd_run.specs.Retry.{is_retry}
use Rattle.xd_run.specs.Sharing.{State, in_books, is_full, shared_now}
use Rattle.xd_run.specs.Collecting.{after_collected, collecting}
use Rattle.xd_run.specs.State.{is_input, after_effect, after_entries, after_entry, reached, settled}
use Rattle.xd_run.specs.Stops.{stopped_by}
use Rattle.xd_run.specs.Table.{crash_item, held, joined}
use Rattle.xd_run.specs.Workers.{is_shut, made_collected, slot_of}
use Rattle.xd_report.specs.declared.counts.Counts.{Counts}
use Rattle.xd_report.specs.Blocks.{block, block_of, blocks_from, crash_reason}
use Rattle.xd_report.specs.EachReport.{Block, Line, Tests, Of, NodeDown, Retried, Replaces, HasBlockEach, HasLineEach, outputs_from, outputs_of, text_of_blocks, text_of_report, reports_told, text_of_line, text_of_lines, is_failure, is_passed, is_skipped}
use Rattle.xd_report.specs.Lines.{collected_line, last_of_slot, lines_from, lines_of, lost_line, replacing}
use Rattle.xd_report.specs.Summary.{counted, counted_from}
use Rattle.xd_report.specs.Tests.{id_of, item_id, mode_of, tests}

-- a Done is one report

one_item : (b : Bool) (f : ℕ → ℕ) (i : ℕ) → (item : ℕ) × ((if b then map f (i ∷ []) else (i ∷ [])) ≡ item ∷ [])
one_item true f i = (f i, refl)
one_item false f i = (i, refl)

pub done-reports : (s : State) (w i : ℕ) (outcome : Outcome) (ms : ℕ) (out : List ℕ) → (item : ℕ) × (reports_of s (Done w i outcome ms out) ≡ Result w item outcome ∷ [])
done-reports s w i outcome ms out =
    let one = one_item (is_each s.plan.mode) (λ x. base (slot_of w s.books) s.plan + x) i in
    (one.0, ap (map (λ item. Result w item outcome)) one.1)

-- how many of them are of a kind
abbrev many : (Report → Bool) → List Report → ℕ
many kind rs = length (filter kind rs)

-- counts

abbrev Adds : (Counts → ℕ) → (Report → Bool) → State → Entry → Type 0
Adds field kind s e = (n : Counts) → field (counted s e n) ≡ field n + many kind (reports_of s e)

-- what is so of one report is so of a Done
of_done : (field : Counts → ℕ) (kind : Report → Bool) (s : State) (w i : ℕ) (outcome : Outcome) (ms : ℕ) (out : List ℕ)
    → ((item : ℕ) (n : Counts) → field (counted s (Done w i outcome ms out) n) ≡ field n + many kind (Result w item outcome ∷ [])) → Adds field kind s (Done w i outcome ms out)
of_done field kind s w i outcome ms out step n =
    let one = done-reports s w i outcome ms out in
    step one.0 n ∙ ap (λ rs. field n + many kind rs) (sym one.1)

failed-down : (h : List ℕ) (retry : Bool) (w n : ℕ) → n + (if is_some (first_of (crash_item retry h)) then 1 else 0) ≡ n + many is_failure (map (λ item. Crash w item) (crash_item retry h))
failed-down h true w n = refl
failed-down [] false w n = refl
failed-down (x ∷ xs) false w n = refl

none-down : (kind : Report → Bool) (h : List ℕ) (retry : Bool) (w n : ℕ) → ((item : ℕ) → kind (Crash w item) ≡ false) → n ≡ n + many kind (map (λ item. Crash w item) (crash_item retry h))
none-down kind h true w n none = sym (add-zero n)
none-down kind [] false w n none = sym (add-zero n)
none-down kind (x ∷ xs) false w n none = sym (add-zero n) ∙ ap (λ b. n + length (if b then (Crash w x ∷ []) else [])) (sym (none x))

failed-adds : (s : State) (e : Entry) → Adds (λ n. n.failed) is_failure s e
failed-adds s (Done w i Passed ms out) = of_done (λ n. n.failed) is_failure s w i Passed ms out (λ item n. sym (add-zero n.failed))
failed-adds s (Done w i Skipped ms out) = of_done (λ n. n.failed) is_failure s w i Skipped ms out (λ item n. sym (add-zero n.failed))
failed-adds s (Done w i (Failed code) ms out) = of_done (λ n. n.failed) is_failure s w i (Failed code) ms out (λ item n. refl)
failed-adds s (Down w cause out) = λ n. failed-down (held w s.books.table) (is_retry w s.books) w n.failed
failed-adds s (Ready w) = λ n. refl
failed-adds s (Collected w given) = λ n. refl
failed-adds s (Back w is) = λ n. refl
failed-adds s (Finished w) = λ n. refl
failed-adds s (Refused w text) = λ n. refl
failed-adds s (NotStarted w) = λ n. refl
failed-adds s (Start w slot) = λ n. refl
failed-adds s (Run w is) = λ n. refl
failed-adds s (RunAll w) = λ n. refl
failed-adds s (Steal w is) = λ n. refl
failed-adds s (Shutdown w) = λ n. refl
failed-adds s (Kill w) = λ n. refl
failed-adds s (Over how) = λ n. refl

passed-adds : (s : State) (e : Entry) → Adds (λ n. n.passed) is_passed s e
passed-adds s (Done w i Passed ms out) = of_done (λ n. n.passed) is_passed s w i Passed ms out (λ item n. refl)
passed-adds s (Done w i Skipped ms out) = of_done (λ n. n.passed) is_passed s w i Skipped ms out (λ item n. sym (add-zero n.passed))
passed-adds s (Done w i (Failed code) ms out) = of_done (λ n. n.passed) is_passed s w i (Failed code) ms out (λ item n. sym (add-zero n.passed))
passed-adds s (Down w cause out) = λ n. none-down is_passed (held w s.books.table) (is_retry w s.books) w n.passed (λ item. refl)
passed-adds s (Ready w) = λ n. sym (add-zero n.passed)
passed-adds s (Collected w given) = λ n. sym (add-zero n.passed)
passed-adds s (Back w is) = λ n. sym (add-zero n.passed)
passed-adds s (Finished w) = λ n. sym (add-zero n.passed)
passed-adds s (Refused w text) = λ n. sym (add-zero n.passed)
passed-adds s (NotStarted w) = λ n. sym (add-zero n.passed)
passed-adds s (Start w slot) = λ n. sym (add-zero n.passed)
passed-adds s (Run w is) = λ n. sym (add-zero n.passed)
passed-adds s (RunAll w) = λ n. sym (add-zero n.passed)
passed-adds s (Steal w is) = λ n. sym (add-zero n.passed)
passed-adds s (Shutdown w) = λ n. sym (add-zero n.passed)
passed-adds s (Kill w) = λ n. sym (add-zero n.passed)
passed-adds s (Over how) = λ n. sym (add-zero n.passed)

skipped-adds : (s : State) (e : Entry) → Adds (λ n. n.skipped) is_skipped s e
skipped-adds s (Done w i Passed ms out) = of_done (λ n. n.skipped) is_skipped s w i Passed ms out (λ item n. sym (add-zero n.skipped))
skipped-adds s (Done w i Skipped ms out) = of_done (λ n. n.skipped) is_skipped s w i Skipped ms out (λ item n. refl)
skipped-adds s (Done w i (Failed code) ms out) = of_done (λ n. n.skipped) is_skipped s w i (Failed code) ms out (λ item n. sym (add-zero n.skipped))
skipped-adds s (Down w cause out) = λ n. none-down is_skipped (held w s.books.table) (is_retry w s.books) w n.skipped (λ item. refl)
skipped-adds s (Ready w) = λ n. sym (add-zero n.skipped)
skipped-adds s (Collected w given) = λ n. sym (add-zero n.skipped)
skipped-adds s (Back w is) = λ n. sym (add-zero n.skipped)
skipped-adds s (Finished w) = λ n. sym (add-zero n.skipped)
skipped-adds s (Refused w text) = λ n. sym (add-zero n.skipped)
skipped-adds s (NotStarted w) = λ n. sym (add-zero n.skipped)
skipped-adds s (Start w slot) = λ n. sym (add-zero n.skipped)
skipped-adds s (Run w is) = λ n. sym (add-zero n.skipped)
skipped-adds s (RunAll w) = λ n. sym (add-zero n.skipped)
skipped-adds s (Steal w is) = λ n. sym (add-zero n.skipped)
skipped-adds s (Shutdown w) = λ n. sym (add-zero n.skipped)
skipped-adds s (Kill w) = λ n. sym (add-zero n.skipped)
skipped-adds s (Over how) = λ n. sym (add-zero n.skipped)

adds-all : (field : Counts → ℕ) (kind : Report → Bool) → ((s : State) (e : Entry) → Adds field kind s e) → (s : State) (es : List Entry) (n : Counts) → field (counted_from s es n) ≡ field n + many kind (reports_from s es)
adds-all field kind step s [] n = sym (add-zero (field n))
adds-all field kind step s (e ∷ es) n =
    let t = reached s e in
    let rest = reports_from (after_entry s e) es in
    omega (
      adds-all field kind step (after_entry s e) es (counted t e n),
      step t e n,
      ap length (filter-append kind (reports_of t e) rest),
      length-append (filter kind (reports_of t e)) (filter kind rest),
      arith,
    )

pub failed-all : (s : State) (es : List Entry) (n : Counts) → (counted_from s es n).failed ≡ n.failed + many is_failure (reports_from s es)
failed-all s es n = adds-all (λ n. n.failed) is_failure failed-adds s es n

pub passed-all : (s : State) (es : List Entry) (n : Counts) → (counted_from s es n).passed ≡ n.passed + many is_passed (reports_from s es)
passed-all s es n = adds-all (λ n. n.passed) is_passed passed-adds s es n

pub skipped-all : (s : State) (es : List Entry) (n : Counts) → (counted_from s es n).skipped ≡ n.skipped + many is_skipped (reports_from s es)
skipped-all s es n = adds-all (λ n. n.skipped) is_skipped skipped-adds s es n

-- each report is of one kind
pub each_of_one_kind : (rs : List Report) → many is_failure rs + many is_passed rs + many is_skipped rs ≡ length rs
each_of_one_kind [] = refl
each_of_one_kind (Result w item Passed ∷ rs) = omega (each_of_one_kind rs, arith)
each_of_one_kind (Result w item Skipped ∷ rs) = omega (each_of_one_kind rs, arith)
each_of_one_kind (Result w item (Failed code) ∷ rs) = omega (each_of_one_kind rs, arith)
each_of_one_kind (Crash w item ∷ rs) = omega (each_of_one_kind rs, arith)

-- no entry changes the settings

either : (b : Bool) (x y : State) (k : Settings) → x.books.settings ≡ k → y.books.settings ≡ k → (if b then x else y).books.settings ≡ k
either true x y k first second = first
either false x y k first second = second

collecting-settings : (w : ℕ) (how : Option RunStop) (s : State) → (collecting w how s).books.settings ≡ s.books.settings
collecting-settings w (Some how) s = either (is_shut w s.books) s (in_books (stopped_by (Some how)) s) s.books.settings refl refl
collecting-settings w None s =
    let t = in_books (on_table (joined w)) s in
    either (is_shut w s.books) s (if is_full t.books then shared_now t else t) s.books.settings refl (either (is_full t.books) (shared_now t) t s.books.settings refl refl)

pub collected-settings : (w : ℕ) (given : Ids) (s : State) → (after_collected w given s).books.settings ≡ s.books.settings
collected-settings w given s = collecting-settings w (unequal w given (listed w s.books)) (in_books (λ b. marked (made_collected w) (with_list w given b)) s)

after_effect-settings : (s : State) (e : Entry) → (after_effect s e).books.settings ≡ s.books.settings
after_effect-settings s (Collected w given) = collected-settings w given s
after_effect-settings s (Done w i outcome ms out) = refl
after_effect-settings s (Down w cause out) = refl
after_effect-settings s (Ready w) = refl
after_effect-settings s (Back w is) = refl
after_effect-settings s (Finished w) = refl
after_effect-settings s (Refused w text) = refl
after_effect-settings s (NotStarted w) = refl
after_effect-settings s (Start w slot) = refl
after_effect-settings s (Run w is) = refl
after_effect-settings s (RunAll w) = refl
after_effect-settings s (Steal w is) = refl
after_effect-settings s (Shutdown w) = refl
after_effect-settings s (Kill w) = refl
after_effect-settings s (Over how) = refl

pub reached-settings : (s : State) (e : Entry) → (reached s e).books.settings ≡ s.books.settings
reached-settings s e = either (is_input e) (settled s) s s.books.settings refl refl

pub next-settings : (s : State) (e : Entry) → (after_entry s e).books.settings ≡ s.books.settings
next-settings s e = after_effect-settings (reached s e) e ∙ reached-settings s e

pub settings-kept : (s : State) (es : List Entry) → (after_entries s es).books.settings ≡ s.books.settings
settings-kept s [] = refl
settings-kept s (e ∷ es) = settings-kept (after_entry s e) es ∙ next-settings s e

-- lines

pub text-append : (mode : ModeKind) (xs ys : List Line) → text_of_lines mode (xs ++ ys) ≡ text_of_lines mode xs ++ text_of_lines mode ys
text-append mode [] ys = refl
text-append mode (x ∷ xs) ys =
    ap (λ (l : List ℕ). text_of_line mode x ++ l) (text-append mode xs ys) ∙ sym (append_assoc (text_of_line mode x) (text_of_lines mode xs) (text_of_lines mode ys))

pub told-append : (xs ys : List Line) → reports_told (xs ++ ys) ≡ reports_told xs ++ reports_told ys
told-append [] ys = refl
told-append (Of report id ∷ xs) ys = ap (λ (l : List Report). report ∷ l) (told-append xs ys)
told-append (Tests n k ∷ xs) ys = told-append xs ys
told-append (NodeDown w why ∷ xs) ys = told-append xs ys
told-append (Retried w item id ∷ xs) ys = told-append xs ys
told-append (Replaces old ∷ xs) ys = told-append xs ys

abbrev pub join : (mode : ModeKind) (a b : List ℕ) (rs ss : List Report) → HasLineEach mode a rs → HasLineEach mode b ss → HasLineEach mode (a ++ b) (rs ++ ss)
join mode a b rs ss x y = record {
  lines = x.lines ++ y.lines;
  text_is = ap (λ (l : List ℕ). l ++ b) x.text_is ∙ ap (λ (l : List ℕ). text_of_lines mode x.lines ++ l) y.text_is ∙ sym (text-append mode x.lines y.lines);
  each_once = told-append x.lines y.lines ∙ ap (λ (l : List Report). l ++ reports_told y.lines) x.each_once ∙ ap (λ (l : List Report). rs ++ l) y.each_once;
}

abbrev pub nothing : (mode : ModeKind) → HasLineEach mode [] []
nothing mode = record { lines = []; text_is = refl; each_once = refl }

-- one line that is of no report, and one that is
abbrev pub plain_line : (mode : ModeKind) (l : Line) → reports_told (l ∷ []) ≡ [] → HasLineEach mode (text_of_line mode l) []
plain_line mode l none = record { lines = l ∷ []; text_is = sym (append-nil (text_of_line mode l)); each_once = none }

abbrev pub report_line : (mode : ModeKind) (report : Report) (id : List ℕ) → HasLineEach mode (text_of_line mode (Of report id)) (report ∷ [])
report_line mode report id = record { lines = Of report id ∷ []; text_is = sym (append-nil (text_of_line mode (Of report id))); each_once = refl }

perhaps : (mode : ModeKind) (b : Bool) (l : Line) → reports_told (l ∷ []) ≡ [] → HasLineEach mode (if b then text_of_line mode l else []) []
perhaps mode true l none = plain_line mode l none
perhaps mode false l none = nothing mode

lost_lines : (mode : ModeKind) (w : ℕ) (id : ℕ → List ℕ) (h : List ℕ) (retry : Bool)
    → HasLineEach mode (elim (first_of h) [ None ↦ [] | Some item ↦ lost_line retry mode w (id item) ]) (map (λ item. Crash w item) (crash_item retry h))
lost_lines mode w id [] true = nothing mode
lost_lines mode w id [] false = nothing mode
lost_lines mode w id (x ∷ xs) true = plain_line mode (Retried w x (id x)) refl
lost_lines mode w id (x ∷ xs) false = report_line mode (Crash w x) (id x)

replacing_lines : (mode : ModeKind) (old : Option ℕ) → HasLineEach mode (replacing mode old) []
replacing_lines mode None = nothing mode
replacing_lines mode (Some old) = plain_line mode (Replaces old) refl

entry_lines : (s : State) (e : Entry) → HasLineEach (mode_of s) (lines_of s e) (reports_of s e)
entry_lines s (Collected w given) =
    let t = after_collected w given s in
    subst (λ (k : Settings). HasLineEach k.mode (collected_line s.books.shared t) []) (collected-settings w given s) (perhaps (mode_of t) _ (Tests (tests t) t.books.settings.workers) refl)
entry_lines s (Done w i outcome ms out) =
    let one = done-reports s w i outcome ms out in
    subst (λ (rs : List Report). HasLineEach (mode_of s) (lines_of s (Done w i outcome ms out)) rs) (sym one.1) (report_line (mode_of s) (Result w one.0 outcome) (id_of w i s))
entry_lines s (Down w cause out) =
    join (mode_of s) _ _ [] _ (plain_line (mode_of s) (NodeDown w (Some cause)) refl) (lost_lines (mode_of s) w (λ item. item_id w item s) (held w s.books.table) (is_retry w s.books))
entry_lines s (NotStarted w) = plain_line (mode_of s) (NodeDown w None) refl
entry_lines s (Start w slot) = replacing_lines (mode_of s) (last_of_slot slot s.books.members None)
entry_lines s (Ready w) = nothing (mode_of s)
entry_lines s (Back w is) = nothing (mode_of s)
entry_lines s (Finished w) = nothing (mode_of s)
entry_lines s (Refused w text) = nothing (mode_of s)
entry_lines s (Run w is) = nothing (mode_of s)
entry_lines s (RunAll w) = nothing (mode_of s)
entry_lines s (Steal w is) = nothing (mode_of s)
entry_lines s (Shutdown w) = nothing (mode_of s)
entry_lines s (Kill w) = nothing (mode_of s)
entry_lines s (Over how) = nothing (mode_of s)

pub all_lines : (s : State) (es : List Entry) → HasLineEach (mode_of s) (lines_from s es) (reports_from s es)
all_lines s [] = nothing (mode_of s)
all_lines s (e ∷ es) =
    let t = reached s e in
    join (mode_of s) (lines_of t e) (lines_from (after_entry s e) es) (reports_of t e) (reports_from (after_entry s e) es)
    (subst (λ (k : Settings). HasLineEach k.mode (lines_of t e) (reports_of t e)) (reached-settings s e) (entry_lines t e))
    (subst (λ (k : Settings). HasLineEach k.mode (lines_from (after_entry s e) es) (reports_from (after_entry s e) es)) (next-settings s e) (all_lines (after_entry s e) es))

-- blocks

pub blocks-append : (mode : ModeKind) (xs ys : List Block) → text_of_blocks mode (xs ++ ys) ≡ text_of_blocks mode xs ++ text_of_blocks mode ys
blocks-append mode [] ys = refl
blocks-append mode (x ∷ xs) ys =
    let first = text_of_report mode x.report x.id x.output in
    ap (λ (l : List ℕ). first ++ l) (blocks-append mode xs ys) ∙ sym (append_assoc first (text_of_blocks mode xs) (text_of_blocks mode ys))

pub named-append : (xs ys : List Block) → map (λ b. b.report) (xs ++ ys) ≡ map (λ b. b.report) xs ++ map (λ b. b.report) ys
named-append [] ys = refl
named-append (x ∷ xs) ys = ap (λ (l : List Report). x.report ∷ l) (named-append xs ys)

pub outputs-append : (xs ys : List Block) → map (λ b. b.output) (xs ++ ys) ≡ map (λ b. b.output) xs ++ map (λ b. b.output) ys
outputs-append [] ys = refl
outputs-append (x ∷ xs) ys = ap (λ (l : List (List ℕ)). x.output ∷ l) (outputs-append xs ys)

abbrev pub join_blocks : (mode : ModeKind) (a b : List ℕ) (rs ss : List Report) (os ps : List (List ℕ)) → HasBlockEach mode a rs os → HasBlockEach mode b ss ps → HasBlockEach mode (a ++ b) (rs ++ ss) (os ++ ps)
join_blocks mode a b rs ss os ps x y = record {
  blocks = x.blocks ++ y.blocks;
  text_is = ap (λ (l : List ℕ). l ++ b) x.text_is ∙ ap (λ (l : List ℕ). text_of_blocks mode x.blocks ++ l) y.text_is ∙ sym (blocks-append mode x.blocks y.blocks);
  each_once = named-append x.blocks y.blocks ∙ ap (λ (l : List Report). l ++ map (λ b. b.report) y.blocks) x.each_once ∙ ap (λ (l : List Report). filter is_failure rs ++ l) y.each_once ∙ sym (filter-append is_failure rs ss);
  outputs_are = outputs-append x.blocks y.blocks ∙ ap (λ (l : List (List ℕ)). l ++ map (λ b. b.output) y.blocks) x.outputs_are ∙ ap (λ (l : List (List ℕ)). os ++ l) y.outputs_are;
}

no_block : (mode : ModeKind) (rs : List Report) → filter is_failure rs ≡ [] → HasBlockEach mode [] rs []
no_block mode rs none = record { blocks = []; text_is = refl; each_once = sym none; outputs_are = refl }

one_block : (mode : ModeKind) (report : Report) (id output : List ℕ) → is_failure report ≡ true → HasBlockEach mode (text_of_report mode report id output) (report ∷ []) (output ∷ [])
one_block mode report id output fails = record {
  blocks = record { report = report; id = id; output = output } ∷ [];
  text_is = sym (append-nil (text_of_report mode report id output));
  each_once = ap (λ b. if b then (report ∷ []) else []) (sym fails);
  outputs_are = refl;
}

crash_blocks : (mode : ModeKind) (w : ℕ) (id : ℕ → List ℕ) (output h : List ℕ) (retry : Bool)
    → HasBlockEach mode (elim (first_of (crash_item retry h)) [ None ↦ [] | Some item ↦ block mode w (id item) (crash_reason mode w (id item)) output ]) (map (λ item. Crash w item) (crash_item retry h)) (map (λ _. output) (crash_item retry h))
crash_blocks mode w id output h true = no_block mode [] refl
crash_blocks mode w id output [] false = no_block mode [] refl
crash_blocks mode w id output (x ∷ xs) false = one_block mode (Crash w x) (id x) output refl

entry_blocks : (s : State) (e : Entry) → HasBlockEach (mode_of s) (block_of s e) (reports_of s e) (outputs_of s e)
entry_blocks s (Done w i Passed ms out) =
    let one = done-reports s w i Passed ms out in
    no_block (mode_of s) (reports_of s (Done w i Passed ms out)) (ap (filter is_failure) one.1)
entry_blocks s (Done w i Skipped ms out) =
    let one = done-reports s w i Skipped ms out in
    no_block (mode_of s) (reports_of s (Done w i Skipped ms out)) (ap (filter is_failure) one.1)
entry_blocks s (Done w i (Failed code) ms out) =
    let one = done-reports s w i (Failed code) ms out in
    subst (λ (rs : List Report). HasBlockEach (mode_of s) (block_of s (Done w i (Failed code) ms out)) rs (out ∷ [])) (sym one.1)
    (one_block (mode_of s) (Result w one.0 (Failed code)) (id_of w i s) out refl)
entry_blocks s (Down w cause out) = crash_blocks (mode_of s) w (λ item. item_id w item s) out (held w s.books.table) (is_retry w s.books)
entry_blocks s (Collected w given) = no_block (mode_of s) [] refl
entry_blocks s (NotStarted w) = no_block (mode_of s) [] refl
entry_blocks s (Start w slot) = no_block (mode_of s) [] refl
entry_blocks s (Ready w) = no_block (mode_of s) [] refl
entry_blocks s (Back w is) = no_block (mode_of s) [] refl
entry_blocks s (Finished w) = no_block (mode_of s) [] refl
entry_blocks s (Refused w text) = no_block (mode_of s) [] refl
entry_blocks s (Run w is) = no_block (mode_of s) [] refl
entry_blocks s (RunAll w) = no_block (mode_of s) [] refl
entry_blocks s (Steal w is) = no_block (mode_of s) [] refl
entry_blocks s (Shutdown w) = no_block (mode_of s) [] refl
entry_blocks s (Kill w) = no_block (mode_of s) [] refl
entry_blocks s (Over how) = no_block (mode_of s) [] refl

pub all_blocks : (s : State) (es : List Entry) → HasBlockEach (mode_of s) (blocks_from s es) (reports_from s es) (outputs_from s es)
all_blocks s [] = no_block (mode_of s) [] refl
all_blocks s (e ∷ es) =
    let t = reached s e in
    join_blocks (mode_of s) (block_of t e) (blocks_from (after_entry s e) es) (reports_of t e) (reports_from (after_entry s e) es) (outputs_of t e) (outputs_from (after_entry s e) es)
    (subst (λ (k : Settings). HasBlockEach k.mode (block_of t e) (reports_of t e) (outputs_of t e)) (reached-settings s e) (entry_blocks t e))
    (subst (λ (k : Settings). HasBlockEach k.mode (blocks_from (after_entry s e) es) (reports_from (after_entry s e) es) (outputs_from (after_entry s e) es)) (next-settings s e) (all_blocks (after_entry s e) es))
