-- In a run without workers each line has the id of its test.
use Rattle.std.proofs.Common.{◌≡◌, ◌≤◌, ℕ, ◌+◌, Bool, true, false, List, [], ◌∷◌, ◌++◌, length, drop, if◌then◌else◌, refl, sym, ◌∙◌, ap, ap₂, arith}
use Rattle.std.specs.Prelude.{slice_index_or}
use Rattle.std.proofs.lemmas.List.{append-nil, drop_more}
use Rattle.xd_edge.specs.declared.mode.ModeKind.{ModeKind}
use Rattle.xd_edge.specs.declared.mode.ModeKind.TheVariants.{Local}
use Rattle.xd_journal.specs.declared.entry.Entry.TheVariants.{Run}
use Rattle.xd_journal.specs.declared.entry.Ids.TheVariants.{List as Listed}
use Rattle.xd_journal.specs.declared.settings.Settings.{Settings}
use Rattle.xd_journal.specs.Local.{TestResult, round, rounds, local_entries}
use Rattle.xd_run.specs.Books.{marked, on_table}
use Rattle.xd_run.specs.Collections.{with_list}
use Rattle.xd_run.specs.Sharing.{State, ids_at, in_books, is_full, shared_now}
use Rattle.xd_run.specs.Table.{joined}
use Rattle.xd_run.specs.Plan.{is_each}
use Rattle.xd_run.specs.Workers.{made_collected, slot_of}
use Rattle.xd_run.specs.Collecting.{after_collected}
use Rattle.xd_run.specs.State.{after_entries, after_entry, no_one, settled}
use Rattle.xd_report.specs.Lines.{collected_line, lines_from, result_line, run_lines, tests_line}
use Rattle.xd_report.specs.LocalLines.{test_lines}
use Rattle.xd_report.specs.Tests.{id_of, mode_of}
use Rattle.xd_report.proofs.Texts.{lines-more}

-- a run without workers whose tests these are
record Lists (settings : Settings) (ids : List (List ℕ)) (s : State) : Type 0 where
  set : s.books.settings ≡ settings
  listed : ids_at 0 s.books.lists ≡ ids

shares : (b : Bool) (settings : Settings) (ids : List (List ℕ)) (s : State) → Lists settings ids s → Lists settings ids (if b then shared_now s else s)
shares true settings ids s l = record { set = l.set; listed = l.listed }
shares false settings ids s l = l

ran : (settings : Settings) (ids : List (List ℕ)) (s : State) (test : ℕ) (r : TestResult) → Lists settings ids s → Lists settings ids (after_entries s (round test r))
ran settings ids s test r l = record { set = l.set; listed = l.listed }

-- the id of a test by its number
named : (settings : Settings) (ids : List (List ℕ)) (s : State) (test : ℕ) → settings.mode ≡ Local → Lists settings ids s → id_of 0 test s ≡ slice_index_or ids test []
named settings ids s test local l =
    let mode : mode_of s ≡ Local = ap (λ (x : Settings). x.mode) l.set ∙ local in
    ap (λ (m : ModeKind). slice_index_or (ids_at (if is_each m then slot_of 0 s.books else 0) s.books.lists) test []) mode
    ∙ ap (λ (x : List (List ℕ)). slice_index_or x test []) l.listed

-- the line of a result after a state of such a run
line-of : (settings : Settings) (ids : List (List ℕ)) (s : State) (test : ℕ) (r : TestResult) → settings.mode ≡ Local → Lists settings ids s
    → lines_from s (round test r) ≡ result_line Local 0 r.outcome (slice_index_or ids test []) ++ []
line-of settings ids s test r local l =
    let t = settled (after_entry s (Run 0 (test ∷ []))) in
    let there : Lists settings ids t = record { set = l.set; listed = l.listed } in
    let mode : mode_of t ≡ Local = ap (λ (x : Settings). x.mode) l.set ∙ local in
    ap₂ (λ (m : ModeKind) (id : List ℕ). result_line m 0 r.outcome id ++ []) mode (named settings ids t test local there)

named-none : (ids : List (List ℕ)) → test_lines ids [] ≡ []
named-none [] = refl
named-none (id ∷ ids) = refl

-- the lines of the tests from a number on
lines-of-rounds : (settings : Settings) (ids : List (List ℕ)) (s : State) (test : ℕ) (rs : List TestResult) → settings.mode ≡ Local → test + length rs ≤ length ids → Lists settings ids s
    → lines_from s (rounds test rs) ≡ test_lines (drop test ids) rs
lines-of-rounds settings ids s test [] local few l = sym (named-none (drop test ids))
lines-of-rounds settings ids s test (r ∷ rs) local few l =
    let one : lines_from s (round test r) ≡ result_line Local 0 r.outcome (slice_index_or ids test []) =
    line-of settings ids s test r local l ∙ append-nil (result_line Local 0 r.outcome (slice_index_or ids test [])) in
    let rest : lines_from (after_entries s (round test r)) (rounds (test + 1) rs) ≡ test_lines (drop (test + 1) ids) rs =
    lines-of-rounds settings ids (after_entries s (round test r)) (test + 1) rs local (omega (few, arith)) (ran settings ids s test r l) in
    lines-more s (round test r) (rounds (test + 1) rs)
    ∙ ap₂ (λ (x y : List ℕ). x ++ y) one rest
    ∙ sym (ap (λ (x : List (List ℕ)). test_lines x (r ∷ rs)) (drop_more ids test [] (omega (few, arith))))

-- the state after the collection
collected : (settings : Settings) (ids : List (List ℕ)) → settings.mode ≡ Local → Lists settings ids (after_collected 0 (Listed ids) (settled (no_one settings)))
collected settings ids local =
    let s = in_books (on_table (joined 0)) (in_books (λ b. marked (made_collected 0) (with_list 0 (Listed ids) b)) (settled (no_one settings))) in
    shares (is_full s.books) settings ids s (record { set = refl; listed = rw local refl })

pub local-lines : (settings : Settings) (ids : List (List ℕ)) (rs : List TestResult) → settings.mode ≡ Local → length rs ≤ length ids
    → run_lines settings (local_entries ids rs) ≡ tests_line Local (length ids) settings.workers ++ test_lines ids rs
local-lines settings ids rs local few =
    let l = collected settings ids local in
    let s = after_collected 0 (Listed ids) (settled (no_one settings)) in
    let mode : mode_of s ≡ Local = ap (λ (x : Settings). x.mode) l.set ∙ local in
    let first : collected_line false s ≡ tests_line Local (length ids) settings.workers = rw (mode, l.listed, l.set) refl in
    ap₂ (λ (x y : List ℕ). x ++ y) first (lines-of-rounds settings ids s 0 rs local (omega (few, arith)) l)
