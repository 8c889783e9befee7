-- Worked journals, computed whole by the definitions.
use Rattle.std.specs.Prelude.{◌≡◌, ℕ, List, [], ◌∷◌, true, false, Some, None, pos}
use Rattle.std.proofs.Common.{refl}
use Rattle.xd_edge.specs.declared.mode.ModeKind.TheVariants.{Each, Load, LoadFile, LoadGroup, WorkSteal}
use Rattle.xd_journal.specs.declared.settings.Settings.{Settings}
use Rattle.xd_journal.specs.declared.entry.Ids.TheVariants as ids
use Rattle.xd_journal.specs.declared.entry.Cause.TheVariants.{Ended, Breach}
use Rattle.xd_journal.specs.declared.entry.Outcome.TheVariants.{Passed, Failed}
use Rattle.xd_journal.specs.declared.entry.Entry.TheVariants.{Ready, Collected, Done, Back, Finished, Down, Start, Run, RunAll, Steal, Shutdown, Kill}
use Rattle.xd_run.specs.Histories.{journal_of}

abbrev pub ten_ids : List (List ℕ)
ten_ids = (97 ∷ []) ∷ (98 ∷ []) ∷ (99 ∷ []) ∷ (100 ∷ []) ∷ (101 ∷ []) ∷ (102 ∷ []) ∷ (103 ∷ []) ∷ (104 ∷ []) ∷ (105 ∷ []) ∷ (106 ∷ []) ∷ []

-- ten tests: the first batches have two each, and a completed test brings one more
abbrev load_ten_tests_settings : Settings
load_ten_tests_settings = record { mode = Load; workers = 2; maxfail = 0; restarts = 8; chunk = None; reorder = true; retries = 0 }

pub load_ten_tests : journal_of load_ten_tests_settings (Ready 0 ∷ Collected 0 (ids.List ten_ids) ∷ Ready 1 ∷ Collected 1 ids.Same ∷ Done 0 0 Passed 5 [] ∷ [])
    ≡ (Start 0 0 ∷ Start 1 1 ∷ Ready 0 ∷ Collected 0 (ids.List ten_ids) ∷ Ready 1 ∷ Collected 1 ids.Same ∷ Run 0 (0 ∷ 1 ∷ []) ∷ Run 1 (2 ∷ 3 ∷ []) ∷ Done 0 0 Passed 5 [] ∷ Run 0 (4 ∷ []) ∷ [])
load_ten_tests = refl

abbrev pub hundred_ids : List (List ℕ)
hundred_ids = (97 ∷ []) ∷ (98 ∷ []) ∷ (99 ∷ []) ∷ (100 ∷ []) ∷ (101 ∷ []) ∷ (102 ∷ []) ∷ (103 ∷ []) ∷ (104 ∷ []) ∷ (105 ∷ []) ∷ (106 ∷ []) ∷ (107 ∷ []) ∷ (108 ∷ []) ∷ (109 ∷ []) ∷ (110 ∷ []) ∷ (111 ∷ []) ∷ (112 ∷ []) ∷ (113 ∷ []) ∷ (114 ∷ []) ∷ (115 ∷ []) ∷ (116 ∷ []) ∷ (117 ∷ []) ∷ (118 ∷ []) ∷ (119 ∷ []) ∷ (120 ∷ []) ∷ (121 ∷ []) ∷ (122 ∷ []) ∷ (116 ∷ 50 ∷ 54 ∷ []) ∷ (116 ∷ 50 ∷ 55 ∷ []) ∷ (116 ∷ 50 ∷ 56 ∷ []) ∷ (116 ∷ 50 ∷ 57 ∷ []) ∷ (116 ∷ 51 ∷ 48 ∷ []) ∷ (116 ∷ 51 ∷ 49 ∷ []) ∷ (116 ∷ 51 ∷ 50 ∷ []) ∷ (116 ∷ 51 ∷ 51 ∷ []) ∷ (116 ∷ 51 ∷ 52 ∷ []) ∷ (116 ∷ 51 ∷ 53 ∷ []) ∷ (116 ∷ 51 ∷ 54 ∷ []) ∷ (116 ∷ 51 ∷ 55 ∷ []) ∷ (116 ∷ 51 ∷ 56 ∷ []) ∷ (116 ∷ 51 ∷ 57 ∷ []) ∷ (116 ∷ 52 ∷ 48 ∷ []) ∷ (116 ∷ 52 ∷ 49 ∷ []) ∷ (116 ∷ 52 ∷ 50 ∷ []) ∷ (116 ∷ 52 ∷ 51 ∷ []) ∷ (116 ∷ 52 ∷ 52 ∷ []) ∷ (116 ∷ 52 ∷ 53 ∷ []) ∷ (116 ∷ 52 ∷ 54 ∷ []) ∷ (116 ∷ 52 ∷ 55 ∷ []) ∷ (116 ∷ 52 ∷ 56 ∷ []) ∷ (116 ∷ 52 ∷ 57 ∷ []) ∷ (116 ∷ 53 ∷ 48 ∷ []) ∷ (116 ∷ 53 ∷ 49 ∷ []) ∷ (116 ∷ 53 ∷ 50 ∷ []) ∷ (116 ∷ 53 ∷ 51 ∷ []) ∷ (116 ∷ 53 ∷ 52 ∷ []) ∷ (116 ∷ 53 ∷ 53 ∷ []) ∷ (116 ∷ 53 ∷ 54 ∷ []) ∷ (116 ∷ 53 ∷ 55 ∷ []) ∷ (116 ∷ 53 ∷ 56 ∷ []) ∷ (116 ∷ 53 ∷ 57 ∷ []) ∷ (116 ∷ 54 ∷ 48 ∷ []) ∷ (116 ∷ 54 ∷ 49 ∷ []) ∷ (116 ∷ 54 ∷ 50 ∷ []) ∷ (116 ∷ 54 ∷ 51 ∷ []) ∷ (116 ∷ 54 ∷ 52 ∷ []) ∷ (116 ∷ 54 ∷ 53 ∷ []) ∷ (116 ∷ 54 ∷ 54 ∷ []) ∷ (116 ∷ 54 ∷ 55 ∷ []) ∷ (116 ∷ 54 ∷ 56 ∷ []) ∷ (116 ∷ 54 ∷ 57 ∷ []) ∷ (116 ∷ 55 ∷ 48 ∷ []) ∷ (116 ∷ 55 ∷ 49 ∷ []) ∷ (116 ∷ 55 ∷ 50 ∷ []) ∷ (116 ∷ 55 ∷ 51 ∷ []) ∷ (116 ∷ 55 ∷ 52 ∷ []) ∷ (116 ∷ 55 ∷ 53 ∷ []) ∷ (116 ∷ 55 ∷ 54 ∷ []) ∷ (116 ∷ 55 ∷ 55 ∷ []) ∷ (116 ∷ 55 ∷ 56 ∷ []) ∷ (116 ∷ 55 ∷ 57 ∷ []) ∷ (116 ∷ 56 ∷ 48 ∷ []) ∷ (116 ∷ 56 ∷ 49 ∷ []) ∷ (116 ∷ 56 ∷ 50 ∷ []) ∷ (116 ∷ 56 ∷ 51 ∷ []) ∷ (116 ∷ 56 ∷ 52 ∷ []) ∷ (116 ∷ 56 ∷ 53 ∷ []) ∷ (116 ∷ 56 ∷ 54 ∷ []) ∷ (116 ∷ 56 ∷ 55 ∷ []) ∷ (116 ∷ 56 ∷ 56 ∷ []) ∷ (116 ∷ 56 ∷ 57 ∷ []) ∷ (116 ∷ 57 ∷ 48 ∷ []) ∷ (116 ∷ 57 ∷ 49 ∷ []) ∷ (116 ∷ 57 ∷ 50 ∷ []) ∷ (116 ∷ 57 ∷ 51 ∷ []) ∷ (116 ∷ 57 ∷ 52 ∷ []) ∷ (116 ∷ 57 ∷ 53 ∷ []) ∷ (116 ∷ 57 ∷ 54 ∷ []) ∷ (116 ∷ 57 ∷ 55 ∷ []) ∷ (116 ∷ 57 ∷ 56 ∷ []) ∷ (116 ∷ 57 ∷ 57 ∷ []) ∷ []

-- a hundred tests: batches of twelve, refilled below a quarter of the even share up to half of it
abbrev load_hundred_tests_settings : Settings
load_hundred_tests_settings = record { mode = Load; workers = 2; maxfail = 0; restarts = 8; chunk = None; reorder = true; retries = 0 }

pub load_hundred_tests : journal_of load_hundred_tests_settings (Ready 0 ∷ Collected 0 (ids.List hundred_ids) ∷ Ready 1 ∷ Collected 1 ids.Same ∷ Done 0 0 Passed 5 [] ∷ Done 0 1 Passed 5 [] ∷ Done 0 2 Passed 5 [] ∷ Done 0 3 Passed 5 [] ∷ [])
    ≡ (Start 0 0 ∷ Start 1 1 ∷ Ready 0 ∷ Collected 0 (ids.List hundred_ids) ∷ Ready 1 ∷ Collected 1 ids.Same ∷ Run 0 (0 ∷ 1 ∷ 2 ∷ 3 ∷ 4 ∷ 5 ∷ 6 ∷ 7 ∷ 8 ∷ 9 ∷ 10 ∷ 11 ∷ []) ∷ Run 1 (12 ∷ 13 ∷ 14 ∷ 15 ∷ 16 ∷ 17 ∷ 18 ∷ 19 ∷ 20 ∷ 21 ∷ 22 ∷ 23 ∷ []) ∷ Done 0 0 Passed 5 [] ∷ Done 0 1 Passed 5 [] ∷ Done 0 2 Passed 5 [] ∷ Done 0 3 Passed 5 [] ∷ Run 0 (24 ∷ 25 ∷ 26 ∷ 27 ∷ 28 ∷ 29 ∷ 30 ∷ 31 ∷ 32 ∷ 33 ∷ 34 ∷ []) ∷ [])
load_hundred_tests = refl

-- a test of 100 ms brings nothing to a worker that holds enough
abbrev load_slow_test_settings : Settings
load_slow_test_settings = record { mode = Load; workers = 2; maxfail = 0; restarts = 8; chunk = None; reorder = true; retries = 0 }

pub load_slow_test : journal_of load_slow_test_settings (Ready 0 ∷ Collected 0 (ids.List hundred_ids) ∷ Ready 1 ∷ Collected 1 ids.Same ∷ Done 0 0 Passed 5 [] ∷ Done 0 1 Passed 5 [] ∷ Done 0 2 Passed 5 [] ∷ Done 0 3 Passed 100 [] ∷ [])
    ≡ (Start 0 0 ∷ Start 1 1 ∷ Ready 0 ∷ Collected 0 (ids.List hundred_ids) ∷ Ready 1 ∷ Collected 1 ids.Same ∷ Run 0 (0 ∷ 1 ∷ 2 ∷ 3 ∷ 4 ∷ 5 ∷ 6 ∷ 7 ∷ 8 ∷ 9 ∷ 10 ∷ 11 ∷ []) ∷ Run 1 (12 ∷ 13 ∷ 14 ∷ 15 ∷ 16 ∷ 17 ∷ 18 ∷ 19 ∷ 20 ∷ 21 ∷ 22 ∷ 23 ∷ []) ∷ Done 0 0 Passed 5 [] ∷ Done 0 1 Passed 5 [] ∷ Done 0 2 Passed 5 [] ∷ Done 0 3 Passed 100 [] ∷ [])
load_slow_test = refl

abbrev pub three_ids : List (List ℕ)
three_ids = (97 ∷ []) ∷ (98 ∷ []) ∷ (99 ∷ []) ∷ []

-- three tests are dealt singly; a death brings a new worker at the same slot, which gets what is left
abbrev load_three_tests_and_a_death_settings : Settings
load_three_tests_and_a_death_settings = record { mode = Load; workers = 2; maxfail = 0; restarts = 8; chunk = None; reorder = true; retries = 0 }

pub load_three_tests_and_a_death : journal_of load_three_tests_and_a_death_settings (Ready 0 ∷ Collected 0 (ids.List three_ids) ∷ Ready 1 ∷ Collected 1 ids.Same ∷ Down 0 Ended [] ∷ Ready 2 ∷ Collected 2 ids.Same ∷ Done 1 1 Passed 5 [] ∷ Finished 1 ∷ Done 2 2 Passed 5 [] ∷ Finished 2 ∷ [])
    ≡ (Start 0 0 ∷ Start 1 1 ∷ Ready 0 ∷ Collected 0 (ids.List three_ids) ∷ Ready 1 ∷ Collected 1 ids.Same ∷ Run 0 (0 ∷ []) ∷ Run 1 (1 ∷ []) ∷ Run 0 (2 ∷ []) ∷ Shutdown 0 ∷ Shutdown 1 ∷ Down 0 Ended [] ∷ Kill 0 ∷ Start 2 0 ∷ Ready 2 ∷ Collected 2 ids.Same ∷ Run 2 (2 ∷ []) ∷ Shutdown 2 ∷ Done 1 1 Passed 5 [] ∷ Finished 1 ∷ Done 2 2 Passed 5 [] ∷ Finished 2 ∷ [])
load_three_tests_and_a_death = refl

-- an idle worker brings a steal, an empty answer another one, and what comes back goes to the idle one
abbrev worksteal_ten_tests_settings : Settings
worksteal_ten_tests_settings = record { mode = WorkSteal; workers = 2; maxfail = 0; restarts = 8; chunk = None; reorder = true; retries = 0 }

pub worksteal_ten_tests : journal_of worksteal_ten_tests_settings (Ready 0 ∷ Collected 0 (ids.List ten_ids) ∷ Ready 1 ∷ Collected 1 ids.Same ∷ Done 0 0 Passed 5 [] ∷ Done 0 1 Passed 5 [] ∷ Done 0 2 Passed 5 [] ∷ Done 0 3 Passed 5 [] ∷ Done 1 5 Passed 5 [] ∷ Done 1 6 Passed 5 [] ∷ Back 1 ([]) ∷ Back 1 (9 ∷ []) ∷ [])
    ≡ (Start 0 0 ∷ Start 1 1 ∷ Ready 0 ∷ Collected 0 (ids.List ten_ids) ∷ Ready 1 ∷ Collected 1 ids.Same ∷ Run 0 (0 ∷ 1 ∷ 2 ∷ 3 ∷ 4 ∷ []) ∷ Run 1 (5 ∷ 6 ∷ 7 ∷ 8 ∷ 9 ∷ []) ∷ Done 0 0 Passed 5 [] ∷ Done 0 1 Passed 5 [] ∷ Done 0 2 Passed 5 [] ∷ Done 0 3 Passed 5 [] ∷ Steal 1 (8 ∷ 9 ∷ []) ∷ Done 1 5 Passed 5 [] ∷ Done 1 6 Passed 5 [] ∷ Back 1 ([]) ∷ Steal 1 (9 ∷ []) ∷ Back 1 (9 ∷ []) ∷ Run 0 (9 ∷ []) ∷ [])
worksteal_ten_tests = refl

-- a death closes its open steal, and the pool is dealt to the idle one
abbrev worksteal_victim_dies_settings : Settings
worksteal_victim_dies_settings = record { mode = WorkSteal; workers = 2; maxfail = 0; restarts = 8; chunk = None; reorder = true; retries = 0 }

pub worksteal_victim_dies : journal_of worksteal_victim_dies_settings (Ready 0 ∷ Collected 0 (ids.List ten_ids) ∷ Ready 1 ∷ Collected 1 ids.Same ∷ Done 0 0 Passed 5 [] ∷ Done 0 1 Passed 5 [] ∷ Done 0 2 Passed 5 [] ∷ Done 0 3 Passed 5 [] ∷ Down 1 Ended [] ∷ Ready 2 ∷ Collected 2 ids.Same ∷ [])
    ≡ (Start 0 0 ∷ Start 1 1 ∷ Ready 0 ∷ Collected 0 (ids.List ten_ids) ∷ Ready 1 ∷ Collected 1 ids.Same ∷ Run 0 (0 ∷ 1 ∷ 2 ∷ 3 ∷ 4 ∷ []) ∷ Run 1 (5 ∷ 6 ∷ 7 ∷ 8 ∷ 9 ∷ []) ∷ Done 0 0 Passed 5 [] ∷ Done 0 1 Passed 5 [] ∷ Done 0 2 Passed 5 [] ∷ Done 0 3 Passed 5 [] ∷ Steal 1 (8 ∷ 9 ∷ []) ∷ Down 1 Ended [] ∷ Kill 1 ∷ Run 0 (6 ∷ 7 ∷ 8 ∷ 9 ∷ []) ∷ Start 2 1 ∷ Ready 2 ∷ Collected 2 ids.Same ∷ Steal 0 (8 ∷ 9 ∷ []) ∷ [])
worksteal_victim_dies = refl

abbrev group_ids : List (List ℕ)
group_ids = (97 ∷ 46 ∷ 112 ∷ 121 ∷ 58 ∷ 58 ∷ 116 ∷ 64 ∷ 103 ∷ []) ∷ (97 ∷ 46 ∷ 112 ∷ 121 ∷ 58 ∷ 58 ∷ 116 ∷ 91 ∷ 120 ∷ 64 ∷ 121 ∷ 93 ∷ []) ∷ []

-- a group is what stands after the last @, unless a ] stands after it; the worker without a unit is shut down first
abbrev loadgroup_scopes_settings : Settings
loadgroup_scopes_settings = record { mode = LoadGroup; workers = 3; maxfail = 0; restarts = 12; chunk = None; reorder = true; retries = 0 }

pub loadgroup_scopes : journal_of loadgroup_scopes_settings (Ready 0 ∷ Collected 0 (ids.List group_ids) ∷ Ready 1 ∷ Collected 1 ids.Same ∷ Ready 2 ∷ Collected 2 ids.Same ∷ [])
    ≡ (Start 0 0 ∷ Start 1 1 ∷ Start 2 2 ∷ Ready 0 ∷ Collected 0 (ids.List group_ids) ∷ Ready 1 ∷ Collected 1 ids.Same ∷ Ready 2 ∷ Collected 2 ids.Same ∷ Shutdown 2 ∷ Run 0 (0 ∷ []) ∷ Run 1 (1 ∷ []) ∷ Shutdown 0 ∷ Shutdown 1 ∷ [])
loadgroup_scopes = refl

-- the first failure stops the run; what was handed out is still reported
abbrev load_maxfail_settings : Settings
load_maxfail_settings = record { mode = Load; workers = 2; maxfail = 1; restarts = 8; chunk = None; reorder = true; retries = 0 }

pub load_maxfail : journal_of load_maxfail_settings (Ready 0 ∷ Collected 0 (ids.List ten_ids) ∷ Ready 1 ∷ Collected 1 ids.Same ∷ Done 0 0 (Failed (pos 1)) 5 [] ∷ Done 0 1 Passed 5 [] ∷ Done 1 2 Passed 5 [] ∷ Done 1 3 Passed 5 [] ∷ Finished 0 ∷ Finished 1 ∷ [])
    ≡ (Start 0 0 ∷ Start 1 1 ∷ Ready 0 ∷ Collected 0 (ids.List ten_ids) ∷ Ready 1 ∷ Collected 1 ids.Same ∷ Run 0 (0 ∷ 1 ∷ []) ∷ Run 1 (2 ∷ 3 ∷ []) ∷ Done 0 0 (Failed (pos 1)) 5 [] ∷ Shutdown 0 ∷ Shutdown 1 ∷ Done 0 1 Passed 5 [] ∷ Done 1 2 Passed 5 [] ∷ Done 1 3 Passed 5 [] ∷ Finished 0 ∷ Finished 1 ∷ [])
load_maxfail = refl

abbrev five_ids : List (List ℕ)
five_ids = (97 ∷ []) ∷ (98 ∷ []) ∷ (99 ∷ []) ∷ (100 ∷ []) ∷ (101 ∷ []) ∷ []

abbrev five_other_ids : List (List ℕ)
five_other_ids = (97 ∷ []) ∷ (98 ∷ []) ∷ (99 ∷ []) ∷ (100 ∷ []) ∷ (102 ∷ []) ∷ []

-- collections that differ stop the run
abbrev load_unequal_settings : Settings
load_unequal_settings = record { mode = Load; workers = 2; maxfail = 0; restarts = 8; chunk = None; reorder = true; retries = 0 }

pub load_unequal : journal_of load_unequal_settings (Ready 0 ∷ Collected 0 (ids.List five_ids) ∷ Ready 1 ∷ Collected 1 (ids.List five_other_ids) ∷ [])
    ≡ (Start 0 0 ∷ Start 1 1 ∷ Ready 0 ∷ Collected 0 (ids.List five_ids) ∷ Ready 1 ∷ Collected 1 (ids.List five_other_ids) ∷ Shutdown 0 ∷ Shutdown 1 ∷ [])
load_unequal = refl

abbrev pub four_ids : List (List ℕ)
four_ids = (97 ∷ []) ∷ (98 ∷ []) ∷ (99 ∷ []) ∷ (100 ∷ []) ∷ []

-- without restarts a death stops the run
abbrev load_no_restarts_settings : Settings
load_no_restarts_settings = record { mode = Load; workers = 2; maxfail = 0; restarts = 0; chunk = None; reorder = true; retries = 0 }

pub load_no_restarts : journal_of load_no_restarts_settings (Ready 0 ∷ Collected 0 (ids.List four_ids) ∷ Ready 1 ∷ Collected 1 ids.Same ∷ Down 0 Ended [] ∷ Done 1 2 Passed 5 [] ∷ Done 1 3 Passed 5 [] ∷ Finished 1 ∷ [])
    ≡ (Start 0 0 ∷ Start 1 1 ∷ Ready 0 ∷ Collected 0 (ids.List four_ids) ∷ Ready 1 ∷ Collected 1 ids.Same ∷ Run 0 (0 ∷ 1 ∷ []) ∷ Run 1 (2 ∷ 3 ∷ []) ∷ Shutdown 0 ∷ Shutdown 1 ∷ Down 0 Ended [] ∷ Kill 0 ∷ Done 1 2 Passed 5 [] ∷ Done 1 3 Passed 5 [] ∷ Finished 1 ∷ [])
load_no_restarts = refl

-- a breach is a death; the rest of the worker goes to the end of the pool
abbrev load_breach_settings : Settings
load_breach_settings = record { mode = Load; workers = 2; maxfail = 0; restarts = 8; chunk = None; reorder = true; retries = 0 }

pub load_breach : journal_of load_breach_settings (Ready 0 ∷ Collected 0 (ids.List ten_ids) ∷ Ready 1 ∷ Collected 1 ids.Same ∷ Down 0 Breach [] ∷ [])
    ≡ (Start 0 0 ∷ Start 1 1 ∷ Ready 0 ∷ Collected 0 (ids.List ten_ids) ∷ Ready 1 ∷ Collected 1 ids.Same ∷ Run 0 (0 ∷ 1 ∷ []) ∷ Run 1 (2 ∷ 3 ∷ []) ∷ Down 0 Breach [] ∷ Kill 0 ∷ Start 2 0 ∷ [])
load_breach = refl

-- each worker runs all; a new worker of the slot runs what is left of it
abbrev each_death_settings : Settings
each_death_settings = record { mode = Each; workers = 2; maxfail = 0; restarts = 8; chunk = None; reorder = true; retries = 0 }

pub each_death : journal_of each_death_settings (Ready 0 ∷ Collected 0 (ids.List three_ids) ∷ Ready 1 ∷ Collected 1 (ids.List three_ids) ∷ Done 0 0 Passed 5 [] ∷ Down 0 Ended [] ∷ Ready 2 ∷ Collected 2 ids.Same ∷ [])
    ≡ (Start 0 0 ∷ Start 1 1 ∷ Ready 0 ∷ Collected 0 (ids.List three_ids) ∷ Ready 1 ∷ Collected 1 (ids.List three_ids) ∷ RunAll 0 ∷ Shutdown 0 ∷ RunAll 1 ∷ Shutdown 1 ∷ Done 0 0 Passed 5 [] ∷ Down 0 Ended [] ∷ Kill 0 ∷ Start 2 0 ∷ Ready 2 ∷ Collected 2 ids.Same ∷ Run 2 (2 ∷ []) ∷ Shutdown 2 ∷ [])
each_death = refl

abbrev pub file_ids : List (List ℕ)
file_ids = (97 ∷ 58 ∷ 58 ∷ 49 ∷ []) ∷ (97 ∷ 58 ∷ 58 ∷ 50 ∷ []) ∷ (98 ∷ 58 ∷ 58 ∷ 49 ∷ []) ∷ (99 ∷ 58 ∷ 58 ∷ 49 ∷ []) ∷ (99 ∷ 58 ∷ 58 ∷ 50 ∷ []) ∷ (99 ∷ 58 ∷ 58 ∷ 51 ∷ []) ∷ []

-- the largest scope first; what is left of a unit waits in the queue, without the crashed test
abbrev loadfile_death_settings : Settings
loadfile_death_settings = record { mode = LoadFile; workers = 2; maxfail = 0; restarts = 8; chunk = None; reorder = true; retries = 0 }

pub loadfile_death : journal_of loadfile_death_settings (Ready 0 ∷ Collected 0 (ids.List file_ids) ∷ Ready 1 ∷ Collected 1 ids.Same ∷ Done 1 0 Passed 5 [] ∷ Down 1 Ended [] ∷ Ready 2 ∷ Collected 2 ids.Same ∷ [])
    ≡ (Start 0 0 ∷ Start 1 1 ∷ Ready 0 ∷ Collected 0 (ids.List file_ids) ∷ Ready 1 ∷ Collected 1 ids.Same ∷ Run 0 (3 ∷ 4 ∷ 5 ∷ []) ∷ Run 1 (0 ∷ 1 ∷ []) ∷ Run 1 (2 ∷ []) ∷ Shutdown 0 ∷ Shutdown 1 ∷ Done 1 0 Passed 5 [] ∷ Down 1 Ended [] ∷ Kill 1 ∷ Start 2 1 ∷ Ready 2 ∷ Collected 2 ids.Same ∷ Run 2 (2 ∷ []) ∷ [])
loadfile_death = refl

-- a new worker clears the mark that the run is shutting
abbrev load_shutting_is_cleared_settings : Settings
load_shutting_is_cleared_settings = record { mode = Load; workers = 2; maxfail = 0; restarts = 8; chunk = None; reorder = true; retries = 0 }

pub load_shutting_is_cleared : journal_of load_shutting_is_cleared_settings (Ready 0 ∷ Collected 0 (ids.List three_ids) ∷ Ready 1 ∷ Collected 1 ids.Same ∷ Down 1 Ended [] ∷ Done 0 0 Passed 5 [] ∷ Ready 2 ∷ Down 0 Ended [] ∷ Ready 3 ∷ Collected 2 ids.Same ∷ Collected 3 ids.Same ∷ Finished 2 ∷ Finished 3 ∷ [])
    ≡ (Start 0 0 ∷ Start 1 1 ∷ Ready 0 ∷ Collected 0 (ids.List three_ids) ∷ Ready 1 ∷ Collected 1 ids.Same ∷ Run 0 (0 ∷ []) ∷ Run 1 (1 ∷ []) ∷ Run 0 (2 ∷ []) ∷ Shutdown 0 ∷ Shutdown 1 ∷ Down 1 Ended [] ∷ Kill 1 ∷ Start 2 1 ∷ Done 0 0 Passed 5 [] ∷ Ready 2 ∷ Shutdown 2 ∷ Down 0 Ended [] ∷ Kill 0 ∷ Start 3 0 ∷ Ready 3 ∷ Shutdown 3 ∷ Collected 2 ids.Same ∷ Collected 3 ids.Same ∷ Finished 2 ∷ Finished 3 ∷ [])
load_shutting_is_cleared = refl

-- a chunk of one bounds the batches
abbrev load_chunk_settings : Settings
load_chunk_settings = record { mode = Load; workers = 2; maxfail = 0; restarts = 8; chunk = (Some 1); reorder = true; retries = 0 }

pub load_chunk : journal_of load_chunk_settings (Ready 0 ∷ Collected 0 (ids.List hundred_ids) ∷ Ready 1 ∷ Collected 1 ids.Same ∷ Done 0 0 Passed 5 [] ∷ [])
    ≡ (Start 0 0 ∷ Start 1 1 ∷ Ready 0 ∷ Collected 0 (ids.List hundred_ids) ∷ Ready 1 ∷ Collected 1 ids.Same ∷ Run 0 (0 ∷ 1 ∷ []) ∷ Run 1 (2 ∷ 3 ∷ []) ∷ Done 0 0 Passed 5 [] ∷ Run 0 (4 ∷ []) ∷ [])
load_chunk = refl

-- without reordering the scopes come in order of first appearance
abbrev loadfile_no_reorder_settings : Settings
loadfile_no_reorder_settings = record { mode = LoadFile; workers = 2; maxfail = 0; restarts = 8; chunk = None; reorder = false; retries = 0 }

pub loadfile_no_reorder : journal_of loadfile_no_reorder_settings (Ready 0 ∷ Collected 0 (ids.List file_ids) ∷ Ready 1 ∷ Collected 1 ids.Same ∷ [])
    ≡ (Start 0 0 ∷ Start 1 1 ∷ Ready 0 ∷ Collected 0 (ids.List file_ids) ∷ Ready 1 ∷ Collected 1 ids.Same ∷ Run 0 (0 ∷ 1 ∷ []) ∷ Run 1 (2 ∷ []) ∷ Run 0 (3 ∷ 4 ∷ 5 ∷ []) ∷ Shutdown 1 ∷ Shutdown 0 ∷ [])
loadfile_no_reorder = refl
