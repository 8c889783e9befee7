-- Worked journals and the tests that failed in them, computed whole by the definitions.
use Rattle.std.specs.Prelude.{◌≡◌, ℕ, List, [], ◌∷◌, true, None, pos, codes}
use Rattle.std.proofs.Common.{refl}
use Rattle.xd_edge.specs.declared.mode.ModeKind.{ModeKind}
use Rattle.xd_edge.specs.declared.mode.ModeKind.TheVariants.{Each, Load, Local}
use Rattle.xd_journal.specs.declared.settings.Settings.{Settings}
use Rattle.xd_journal.specs.declared.entry.Ids.TheVariants as ids
use Rattle.xd_journal.specs.declared.entry.Cause.TheVariants.{Ended}
use Rattle.xd_journal.specs.declared.entry.Outcome.TheVariants.{Passed, Skipped, Failed}
use Rattle.xd_journal.specs.declared.entry.Entry.{Entry}
use Rattle.xd_journal.specs.declared.entry.Entry.TheVariants.{Ready, Collected, Done, Down, Start, Run, RunAll, Shutdown, Kill}
use Rattle.xd_replay.specs.Failed.{each_once, failed_in}

abbrev a : List ℕ
a = codes "a"

abbrev b : List ℕ
b = codes "b"

abbrev c : List ℕ
c = codes "c"

abbrev two_workers : ModeKind → ℕ → Settings
two_workers mode retries = record { mode = mode; workers = 2; maxfail = 0; restarts = 8; chunk = None; reorder = true; retries = retries }

pub stands_where_first : each_once (b ∷ a ∷ b ∷ []) ≡ b ∷ a ∷ []
stands_where_first = refl

-- b fails in both slots, a after it in one
abbrev two_slots : List Entry
two_slots =
    Start 0 0 ∷ Start 1 1 ∷ Ready 0 ∷ Collected 0 (ids.List (a ∷ b ∷ [])) ∷ Ready 1 ∷ Collected 1 (ids.List (a ∷ b ∷ [])) ∷ RunAll 0 ∷ Shutdown 0 ∷ RunAll 1 ∷ Shutdown 1
    ∷ Done 0 0 Passed 5 [] ∷ Done 0 1 (Failed (pos 1)) 5 [] ∷ Done 1 0 (Failed (pos 2)) 5 [] ∷ Done 1 1 (Failed (pos 1)) 5 [] ∷ []

pub in_two_slots : failed_in (two_workers Each 0) two_slots ≡ b ∷ a ∷ []
in_two_slots = refl

-- gw0 goes down at a, which it holds before c
abbrev a_crashed : List Entry
a_crashed =
    Start 0 0 ∷ Start 1 1 ∷ Ready 0 ∷ Collected 0 (ids.List (a ∷ b ∷ c ∷ [])) ∷ Ready 1 ∷ Collected 1 ids.Same ∷ Run 0 (0 ∷ []) ∷ Run 1 (1 ∷ []) ∷ Run 0 (2 ∷ []) ∷ Shutdown 0 ∷ Shutdown 1
    ∷ Down 0 Ended [] ∷ Kill 0 ∷ Start 2 0 ∷ []

pub crash_is_failed : failed_in (two_workers Load 0) a_crashed ≡ a ∷ []
crash_is_failed = refl

pub retry_is_none : failed_in (two_workers Load 1) a_crashed ≡ []
retry_is_none = refl

abbrev alone : Settings
alone = record { mode = Local; workers = 0; maxfail = 0; restarts = 0; chunk = None; reorder = true; retries = 0 }

abbrev three_alone : List Entry
three_alone = Collected 0 (ids.List (a ∷ b ∷ c ∷ [])) ∷ Run 0 (0 ∷ []) ∷ Done 0 0 Passed 5 [] ∷ Run 0 (1 ∷ []) ∷ Done 0 1 (Failed (pos 3)) 5 [] ∷ Run 0 (2 ∷ []) ∷ Done 0 2 Skipped 5 [] ∷ []

pub without_workers : failed_in alone three_alone ≡ b ∷ []
without_workers = refl
