-- Worked journals that pin the numbers of the modes' rules.
use Rattle.std.specs.Prelude.{◌≡◌, ℕ, List, [], ◌∷◌, true, Some, None}
use Rattle.std.proofs.Common.{refl}
use Rattle.xd_edge.specs.declared.mode.ModeKind.TheVariants.{Load, LoadFile, WorkSteal}
use Rattle.xd_journal.specs.declared.entry.Cause.TheVariants.{Ended}
use Rattle.xd_journal.specs.declared.entry.Entry.TheVariants.{Ready, Collected, Done, Down, Start, Run, Shutdown, Kill}
use Rattle.xd_journal.specs.declared.entry.Ids.TheVariants as ids
use Rattle.xd_journal.specs.declared.entry.Outcome.TheVariants.{Passed}
use Rattle.xd_journal.specs.declared.settings.Settings.{Settings}
use Rattle.xd_run.specs.Histories.{journal_of}
use Rattle.xd_run.proofs.Rows.{hundred_ids, ten_ids, four_ids}

abbrev files_ids : List (List ℕ)
files_ids = (97 ∷ 58 ∷ 58 ∷ 49 ∷ []) ∷ (98 ∷ 58 ∷ 58 ∷ 49 ∷ []) ∷ (99 ∷ 58 ∷ 58 ∷ 49 ∷ []) ∷ (100 ∷ 58 ∷ 58 ∷ 49 ∷ []) ∷ (101 ∷ 58 ∷ 58 ∷ 49 ∷ []) ∷ (102 ∷ 58 ∷ 58 ∷ 49 ∷ []) ∷ (103 ∷ 58 ∷ 58 ∷ 49 ∷ []) ∷ (104 ∷ 58 ∷ 58 ∷ 49 ∷ []) ∷ (105 ∷ 58 ∷ 58 ∷ 49 ∷ []) ∷ (106 ∷ 58 ∷ 58 ∷ 49 ∷ []) ∷ []

abbrev of_two : Settings
of_two = record { mode = Load; workers = 2; maxfail = 0; restarts = 8; chunk = None; reorder = true; retries = 0 }

-- a test of 99 ms is not slow: the worker is refilled
pub a_test_of_99_ms_is_not_slow : journal_of of_two (Ready 0 ∷ Collected 0 (ids.List hundred_ids) ∷ Ready 1 ∷ Collected 1 ids.Same ∷ Done 0 0 Passed 5 [] ∷ Done 0 1 Passed 5 [] ∷ Done 0 2 Passed 5 [] ∷ Done 0 3 Passed 99 [] ∷ [])
    ≡ (Start 0 0 ∷ Start 1 1 ∷ Ready 0 ∷ Collected 0 (ids.List hundred_ids) ∷ Ready 1 ∷ Collected 1 ids.Same ∷ Run 0 (0 ∷ 1 ∷ 2 ∷ 3 ∷ 4 ∷ 5 ∷ 6 ∷ 7 ∷ 8 ∷ 9 ∷ 10 ∷ 11 ∷ []) ∷ Run 1 (12 ∷ 13 ∷ 14 ∷ 15 ∷ 16 ∷ 17 ∷ 18 ∷ 19 ∷ 20 ∷ 21 ∷ 22 ∷ 23 ∷ []) ∷ Done 0 0 Passed 5 [] ∷ Done 0 1 Passed 5 [] ∷ Done 0 2 Passed 5 [] ∷ Done 0 3 Passed 99 [] ∷ Run 0 (24 ∷ 25 ∷ 26 ∷ 27 ∷ 28 ∷ 29 ∷ 30 ∷ 31 ∷ 32 ∷ 33 ∷ 34 ∷ []) ∷ [])
a_test_of_99_ms_is_not_slow = refl

-- after slow tests a worker is refilled only once it holds fewer than two
pub a_slow_test_leaves_two : journal_of of_two (Ready 0 ∷ Collected 0 (ids.List hundred_ids) ∷ Ready 1 ∷ Collected 1 ids.Same ∷ Done 0 0 Passed 100 [] ∷ Done 0 1 Passed 100 [] ∷ Done 0 2 Passed 100 [] ∷ Done 0 3 Passed 100 [] ∷ Done 0 4 Passed 100 [] ∷ Done 0 5 Passed 100 [] ∷ Done 0 6 Passed 100 [] ∷ Done 0 7 Passed 100 [] ∷ Done 0 8 Passed 100 [] ∷ Done 0 9 Passed 100 [] ∷ Done 0 10 Passed 100 [] ∷ [])
    ≡ (Start 0 0 ∷ Start 1 1 ∷ Ready 0 ∷ Collected 0 (ids.List hundred_ids) ∷ Ready 1 ∷ Collected 1 ids.Same ∷ Run 0 (0 ∷ 1 ∷ 2 ∷ 3 ∷ 4 ∷ 5 ∷ 6 ∷ 7 ∷ 8 ∷ 9 ∷ 10 ∷ 11 ∷ []) ∷ Run 1 (12 ∷ 13 ∷ 14 ∷ 15 ∷ 16 ∷ 17 ∷ 18 ∷ 19 ∷ 20 ∷ 21 ∷ 22 ∷ 23 ∷ []) ∷ Done 0 0 Passed 100 [] ∷ Done 0 1 Passed 100 [] ∷ Done 0 2 Passed 100 [] ∷ Done 0 3 Passed 100 [] ∷ Done 0 4 Passed 100 [] ∷ Done 0 5 Passed 100 [] ∷ Done 0 6 Passed 100 [] ∷ Done 0 7 Passed 100 [] ∷ Done 0 8 Passed 100 [] ∷ Done 0 9 Passed 100 [] ∷ Done 0 10 Passed 100 [] ∷ Run 0 (24 ∷ 25 ∷ 26 ∷ 27 ∷ 28 ∷ 29 ∷ 30 ∷ 31 ∷ 32 ∷ 33 ∷ 34 ∷ 35 ∷ 36 ∷ 37 ∷ 38 ∷ 39 ∷ 40 ∷ 41 ∷ []) ∷ [])
a_slow_test_leaves_two = refl

-- a worker that holds nothing gets the two that it needs, also where batches are of one
pub a_new_worker_gets_two : journal_of (record of_two { chunk = Some 1 }) (Ready 0 ∷ Collected 0 (ids.List ten_ids) ∷ Ready 1 ∷ Collected 1 ids.Same ∷ Down 0 Ended [] ∷ Ready 2 ∷ Collected 2 ids.Same ∷ [])
    ≡ (Start 0 0 ∷ Start 1 1 ∷ Ready 0 ∷ Collected 0 (ids.List ten_ids) ∷ Ready 1 ∷ Collected 1 ids.Same ∷ Run 0 (0 ∷ 1 ∷ []) ∷ Run 1 (2 ∷ 3 ∷ []) ∷ Down 0 Ended [] ∷ Kill 0 ∷ Start 2 0 ∷ Ready 2 ∷ Collected 2 ids.Same ∷ Run 2 (4 ∷ 5 ∷ []) ∷ [])
a_new_worker_gets_two = refl

-- a death refills everyone as after a fast test
pub a_death_refills_after_slow_tests : journal_of of_two (Ready 0 ∷ Collected 0 (ids.List hundred_ids) ∷ Ready 1 ∷ Collected 1 ids.Same ∷ Done 0 0 Passed 100 [] ∷ Done 0 1 Passed 100 [] ∷ Done 0 2 Passed 100 [] ∷ Done 0 3 Passed 100 [] ∷ Done 0 4 Passed 100 [] ∷ Done 0 5 Passed 100 [] ∷ Done 0 6 Passed 100 [] ∷ Down 1 Ended [] ∷ [])
    ≡ (Start 0 0 ∷ Start 1 1 ∷ Ready 0 ∷ Collected 0 (ids.List hundred_ids) ∷ Ready 1 ∷ Collected 1 ids.Same ∷ Run 0 (0 ∷ 1 ∷ 2 ∷ 3 ∷ 4 ∷ 5 ∷ 6 ∷ 7 ∷ 8 ∷ 9 ∷ 10 ∷ 11 ∷ []) ∷ Run 1 (12 ∷ 13 ∷ 14 ∷ 15 ∷ 16 ∷ 17 ∷ 18 ∷ 19 ∷ 20 ∷ 21 ∷ 22 ∷ 23 ∷ []) ∷ Done 0 0 Passed 100 [] ∷ Done 0 1 Passed 100 [] ∷ Done 0 2 Passed 100 [] ∷ Done 0 3 Passed 100 [] ∷ Done 0 4 Passed 100 [] ∷ Done 0 5 Passed 100 [] ∷ Done 0 6 Passed 100 [] ∷ Down 1 Ended [] ∷ Kill 1 ∷ Run 0 (24 ∷ 25 ∷ 26 ∷ 27 ∷ 28 ∷ 29 ∷ 30 ∷ 31 ∷ 32 ∷ 33 ∷ 34 ∷ 35 ∷ 36 ∷ 37 ∷ 38 ∷ 39 ∷ 40 ∷ 41 ∷ 42 ∷ 43 ∷ 44 ∷ 45 ∷ 46 ∷ 47 ∷ 48 ∷ 49 ∷ 50 ∷ 51 ∷ 52 ∷ 53 ∷ 54 ∷ 55 ∷ 56 ∷ 57 ∷ 58 ∷ 59 ∷ 60 ∷ 61 ∷ []) ∷ Start 2 1 ∷ [])
a_death_refills_after_slow_tests = refl

-- nothing is taken from a worker that holds two: the idle one is shut down
pub two_tests_are_not_stolen_from : journal_of (record of_two { mode = WorkSteal }) (Ready 0 ∷ Collected 0 (ids.List four_ids) ∷ Ready 1 ∷ Collected 1 ids.Same ∷ Done 0 0 Passed 5 [] ∷ [])
    ≡ (Start 0 0 ∷ Start 1 1 ∷ Ready 0 ∷ Collected 0 (ids.List four_ids) ∷ Ready 1 ∷ Collected 1 ids.Same ∷ Run 0 (0 ∷ 1 ∷ []) ∷ Run 1 (2 ∷ 3 ∷ []) ∷ Done 0 0 Passed 5 [] ∷ Shutdown 0 ∷ [])
two_tests_are_not_stolen_from = refl

-- a worker that holds nothing gets units until it holds two tests
pub a_new_worker_gets_two_units : journal_of (record of_two { mode = LoadFile }) (Ready 0 ∷ Collected 0 (ids.List files_ids) ∷ Ready 1 ∷ Collected 1 ids.Same ∷ Down 0 Ended [] ∷ Ready 2 ∷ Collected 2 ids.Same ∷ [])
    ≡ (Start 0 0 ∷ Start 1 1 ∷ Ready 0 ∷ Collected 0 (ids.List files_ids) ∷ Ready 1 ∷ Collected 1 ids.Same ∷ Run 0 (0 ∷ []) ∷ Run 1 (1 ∷ []) ∷ Run 0 (2 ∷ []) ∷ Run 1 (3 ∷ []) ∷ Down 0 Ended [] ∷ Kill 0 ∷ Run 1 (4 ∷ []) ∷ Start 2 0 ∷ Ready 2 ∷ Collected 2 ids.Same ∷ Run 2 (5 ∷ []) ∷ Run 2 (6 ∷ []) ∷ [])
a_new_worker_gets_two_units = refl

-- a death that the limit allows is made good
pub one_restart : journal_of (record of_two { restarts = 1 }) (Ready 0 ∷ Collected 0 (ids.List ten_ids) ∷ Ready 1 ∷ Collected 1 ids.Same ∷ Down 0 Ended [] ∷ Ready 2 ∷ Collected 2 ids.Same ∷ Down 1 Ended [] ∷ [])
    ≡ (Start 0 0 ∷ Start 1 1 ∷ Ready 0 ∷ Collected 0 (ids.List ten_ids) ∷ Ready 1 ∷ Collected 1 ids.Same ∷ Run 0 (0 ∷ 1 ∷ []) ∷ Run 1 (2 ∷ 3 ∷ []) ∷ Down 0 Ended [] ∷ Kill 0 ∷ Start 2 0 ∷ Ready 2 ∷ Collected 2 ids.Same ∷ Run 2 (4 ∷ 5 ∷ []) ∷ Down 1 Ended [] ∷ Kill 1 ∷ Shutdown 2 ∷ [])
one_restart = refl
