-- The blocks of what failed: a failed test, or a test at the head of a worker that went down, which is not tried again. A choice
-- of this project.
use Rattle.std.specs.Prelude.{ℕ, ℤ, zero, suc, ◌-◌, ◌≡◌, ◌==◌, Bool, true, false, List, [], ◌∷◌, ◌++◌, length, take, Option, Some, None, is_some, option_map, slice_index_or, negsuc, if◌then◌else◌, codes}
use Rattle.std.specs.List.{HoldsAt}
use Rattle.std.specs.Fmt.{decimal, signed_decimal}
use Rattle.xd_edge.specs.declared.mode.ModeKind.{ModeKind}
use Rattle.xd_journal.specs.declared.entry.Entry.{Entry}
use Rattle.xd_journal.specs.declared.entry.Entry.TheVariants.{Done, Down}
use Rattle.xd_journal.specs.declared.entry.Outcome.TheVariants.{Failed}
use Rattle.xd_journal.specs.declared.journal.Journal.{Journal}
use Rattle.xd_run.specs.Sharing.{State}
use Rattle.xd_run.specs.State.{reached, after_entry, after_entries, no_one}
use Rattle.xd_report_phrases.specs.Names.{name, tag, plain}
use Rattle.xd_report.specs.Tests.{mode_of, id_of, crash_of, item_id}

-- why a test failed
unfoldable pub reason_of : ℤ → List ℕ
reason_of (negsuc zero) = codes "killed by a signal"
reason_of (negsuc (suc zero)) = codes "could not be started"
reason_of (negsuc (suc (suc zero))) = codes "could not be read"
reason_of s = codes "status " ++ signed_decimal s

-- why a test failed in which a worker went down, in the words of pytest-xdist's `handle_crashitem`
unfoldable pub crash_reason : ModeKind → ℕ → List ℕ → List ℕ
crash_reason mode worker id = codes "worker '" ++ (name mode worker ++ (codes "' crashed while running '" ++ (plain id ++ codes "'")))

-- the bytes end with a newline
abbrev pub ends_line : List ℕ → Bool
ends_line bytes = slice_index_or bytes (length bytes - 1) 0 == 10

-- a newline where the bytes end with none
abbrev pub line_end : List ℕ → List ℕ
line_end bytes = if ends_line bytes then [] else 10 ∷ []

-- the line that says how many bytes of output follow
abbrev pub count_line : ℕ → List ℕ
count_line n = codes "---- output: " ++ decimal n ++ codes " bytes ----" ++ 10 ∷ []

-- the kept output of a test, where there is one
unfoldable pub output_text : List ℕ → List ℕ
output_text output = if length output == 0 then [] else (count_line (length output) ++ output ++ line_end output)

-- the first line of a block: the worker's name and the test's id
unfoldable pub heading_line : ModeKind → ℕ → List ℕ → List ℕ
heading_line mode worker id = codes "==== " ++ (tag mode worker ++ (plain id ++ (codes " ====" ++ 10 ∷ [])))

-- the block of a test that failed on a worker: its heading, the reason, and its kept output
abbrev pub block : ModeKind → ℕ → List ℕ → List ℕ → List ℕ → List ℕ
block mode worker id reason output = heading_line mode worker id ++ (reason ++ (10 ∷ [] ++ output_text output))

-- the block of the test at the head of a worker that went down, where it is not tried again
abbrev pub crash_block : ℕ → List ℕ → State → List ℕ
crash_block worker output s = elim (crash_of worker s) [
  | None ↦ []
  | Some item ↦ block (mode_of s) worker (item_id worker item s) (crash_reason (mode_of s) worker (item_id worker item s)) output
]

-- the block of one entry after the state s, where it is a failed report
-- Example: `==== [main] b ====`, `status 3`, and nothing more where no output was kept.
abbrev pub block_of : State → Entry → List ℕ
block_of s (Done worker index (Failed code) ms output) = block (mode_of s) worker (id_of worker index s) (reason_of code) output
block_of s (Down worker cause output) = crash_block worker output s
block_of s _ = []

-- the entry is a failed report: a failed test, or the end of a worker that held one, where that is not tried again
abbrev pub is_failed_report : State → Entry → Bool
is_failed_report s (Done worker index (Failed code) ms output) = true
is_failed_report s (Down worker cause output) = is_some (crash_of worker s)
is_failed_report s _ = false

-- the id of the test of an entry that is a failed report
-- Example: gw0 holds a and b and goes down: a, unless a is tried again.
abbrev pub failed_id : State → Entry → Option (List ℕ)
failed_id s (Done worker index (Failed code) ms output) = Some (id_of worker index s)
failed_id s (Down worker cause output) = option_map (λ item. item_id worker item s) (crash_of worker s)
failed_id s _ = None

-- the blocks of these entries after a state
abbrev pub blocks_from : State → List Entry → List ℕ
blocks_from s [] = []
blocks_from s (e ∷ es) = block_of (reached s e) e ++ blocks_from (after_entry s e) es

-- the state after the entries before a place
abbrev pub state_before : Journal → ℕ → State
state_before j at = after_entries (no_one j.settings) (take at j.entries.items)

-- The entry at a place is a failed report.
abbrev pub IsFailedAt : Journal → ℕ → Type 0
IsFailedAt j at = HoldsAt (λ e. is_failed_report (state_before j at) e ≡ true) j.entries.items at

-- This is the block of the entry at a place.
abbrev pub IsBlockAt : Journal → ℕ → List ℕ → Type 0
IsBlockAt j at text = HoldsAt (λ e. block_of (state_before j at) e ≡ text) j.entries.items at
