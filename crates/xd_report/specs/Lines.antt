-- The lines of a journal's entries, each by the state in which its entry stands. The words of a result are those of
-- pytest-xdist's verbose report, as those of lost workers are; the rest is a choice of this project.
use Rattle.std.specs.Prelude.{ℕ, ◌-◌, ◌==◌, Bool, not, ◌&&◌, ◌||◌, List, [], ◌∷◌, ◌++◌, take, drop, Option, Some, None, codes, if◌then◌else◌}
use Rattle.std.specs.Fmt.{decimal}
use Rattle.xd_edge.specs.declared.mode.ModeKind.{ModeKind}
use Rattle.xd_journal.specs.declared.settings.Settings.{Settings}
use Rattle.xd_journal.specs.declared.entry.Entry.{Entry}
use Rattle.xd_journal.specs.declared.entry.Entry.TheVariants.{Collected, Done, Down, NotStarted, Start}
use Rattle.xd_journal.specs.declared.entry.Outcome.{Outcome}
use Rattle.xd_journal.specs.declared.journal.Journal.{Journal}
use Rattle.xd_journal.specs.Local.{is_local_mode}
use Rattle.xd_run.specs.declared.member.Member.{Member}
use Rattle.xd_run.specs.Retry.{is_retry}
use Rattle.xd_run.specs.Sharing.{State}
use Rattle.xd_run.specs.Collecting.{after_collected}
use Rattle.xd_run.specs.State.{reached, after_entry, after_entries, no_one}
use Rattle.xd_report_phrases.specs.Names.{name, tag, plain, outcome_text, lost_text, mode_text, cause_text}
use Rattle.xd_report.specs.Tests.{mode_of, id_of, head, item_id, tests}

-- how many tests there are, and on whom they run
unfoldable pub tests_line : ModeKind → ℕ → ℕ → List ℕ
tests_line mode n workers =
    if is_local_mode mode then (decimal n ++ (codes " tests" ++ 10 ∷ []))
    else (decimal n ++ (codes " tests on " ++ (decimal workers ++ (codes " workers, " ++ (mode_text mode ++ 10 ∷ [])))))

-- after a collection: it tells how many tests there are where they are shared now and were not before; without workers
-- each collection does
abbrev pub collected_line : Bool → State → List ℕ
collected_line was_shared s =
    if is_local_mode (mode_of s) || (s.books.shared && not was_shared)
    then tests_line (mode_of s) (tests s) s.books.settings.workers
    else []

-- how a test of the worker went
abbrev pub result_line : ModeKind → ℕ → Outcome → List ℕ → List ℕ
result_line mode worker outcome id = tag mode worker ++ (outcome_text outcome ++ (plain id ++ 10 ∷ []))

-- that a worker went down, and why: the words are those of pytest-xdist's `pytest_testnodedown`
abbrev pub down_line : ModeKind → ℕ → List ℕ → List ℕ
down_line mode worker why = tag mode worker ++ (codes "node down: " ++ (why ++ 10 ∷ []))

-- the test at the head of a worker that went down; it is tried again, or it crashed
abbrev pub lost_line : Bool → ModeKind → ℕ → List ℕ → List ℕ
lost_line retry mode worker id = tag mode worker ++ (lost_text retry ++ (plain id ++ 10 ∷ []))

-- the line of the test at the worker's head, where it goes down with one
abbrev pub lost_head_line : ℕ → State → List ℕ
lost_head_line worker s = elim (head worker s) [ None ↦ [] | Some item ↦ lost_line (is_retry worker s.books) (mode_of s) worker (item_id worker item s) ]

-- the last worker of the slot so far
abbrev pub last_of_slot : ℕ → List Member → Option ℕ → Option ℕ
last_of_slot slot [] found = found
last_of_slot slot (m ∷ ms) found = last_of_slot slot ms (if m.slot == slot then Some m.worker else found)

-- a worker that replaces another
abbrev pub replacing : ModeKind → Option ℕ → List ℕ
replacing mode None = []
replacing mode (Some old) = codes "replacing crashed worker " ++ (name mode old ++ 10 ∷ [])

-- the lines of an entry that the state before it tells
-- Example: `[gw0] node down: Not properly terminated` and `[gw0] CRASHED a`, or `[gw0] RETRY a` where `a` is tried again.
abbrev pub lines_told : State → Entry → List ℕ
lines_told s (Done worker index outcome ms output) = result_line (mode_of s) worker outcome (id_of worker index s)
lines_told s (Down worker cause output) = down_line (mode_of s) worker (cause_text cause) ++ lost_head_line worker s
lines_told s (NotStarted worker) = down_line (mode_of s) worker (codes "not started")
lines_told s (Start worker slot) = replacing (mode_of s) (last_of_slot slot s.books.members None)
lines_told s _ = []

-- the lines of one entry after the state s
abbrev pub lines_of : State → Entry → List ℕ
lines_of s (Collected worker given) = collected_line s.books.shared (after_collected worker given s)
lines_of s e = lines_told s e

-- the lines of these entries after a state
abbrev pub lines_from : State → List Entry → List ℕ
lines_from s [] = []
lines_from s (e ∷ es) = lines_of (reached s e) e ++ lines_from (after_entry s e) es

-- the lines of these entries, the first ones of a run
abbrev pub run_lines : Settings → List Entry → List ℕ
run_lines settings entries = lines_from (no_one settings) entries

-- the lines of the entries from one place up to another
abbrev pub lines_between : Journal → ℕ → ℕ → List ℕ
lines_between j from to = lines_from (after_entries (no_one j.settings) (take from j.entries.items)) (take (to - from) (drop from j.entries.items))
