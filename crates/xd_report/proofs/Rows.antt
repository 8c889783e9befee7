-- Worked reports, computed whole by the definitions.
use Rattle.std.specs.Prelude.{◌≡◌, ℕ, List, [], ◌∷◌, ◌++◌, true, None, pos, codes}
use Rattle.std.proofs.Common.{refl}
use Rattle.xd_edge.specs.declared.mode.ModeKind.TheVariants.{Load, Local}
use Rattle.xd_journal.specs.declared.settings.Settings.{Settings}
use Rattle.xd_journal.specs.declared.entry.Ids.TheVariants as ids
use Rattle.xd_journal.specs.declared.entry.Cause.TheVariants.{Ended}
use Rattle.xd_journal.specs.declared.entry.Outcome.TheVariants.{Passed, Skipped, Failed}
use Rattle.xd_journal.specs.declared.entry.RunStop.TheVariants.{OutFault}
use Rattle.xd_journal.specs.declared.entry.Entry.{Entry}
use Rattle.xd_journal.specs.declared.entry.Entry.TheVariants.{Ready, Collected, Done, Finished, Refused, Down, NotStarted, Start, Run, Shutdown, Kill, Over}
use Rattle.std.specs.Fmt.{digits}
use lib.Utf8.{encode}
use Rattle.xd_report.specs.Blocks.{reason_of, output_text, crash_reason, heading_line}
use Rattle.xd_report_phrases.specs.Names.{line, name, plain, tag}
use Rattle.xd_report.specs.Lines.{tests_line}
use Rattle.xd_report.specs.Status.{run_status}
use Rattle.xd_report_phrases.specs.StopLine.{limit_line, disabled_line, most_line, place_text, refusal_text}
use Rattle.xd_report.specs.Text.{run_text}

abbrev ten_ids : List (List ℕ)
ten_ids = (97 ∷ []) ∷ (98 ∷ []) ∷ (99 ∷ []) ∷ (100 ∷ []) ∷ (101 ∷ []) ∷ (102 ∷ []) ∷ (103 ∷ []) ∷ (104 ∷ []) ∷ (105 ∷ []) ∷ (106 ∷ []) ∷ []

abbrev load_maxfail_settings : Settings
load_maxfail_settings = record { mode = Load; workers = 2; maxfail = 1; restarts = 8; chunk = None; reorder = true; retries = 0 }

abbrev load_maxfail : List Entry
load_maxfail = Start 0 0 ∷ Start 1 1 ∷ Ready 0 ∷ Collected 0 (ids.List ten_ids) ∷ Ready 1 ∷ Collected 1 ids.Same ∷ Run 0 (0 ∷ 1 ∷ []) ∷ Run 1 (2 ∷ 3 ∷ []) ∷ Done 0 0 (Failed (pos 1)) 5 [] ∷ Shutdown 0 ∷ Shutdown 1 ∷ Done 0 1 Passed 5 [] ∷ Done 1 2 Passed 5 [] ∷ Done 1 3 Passed 5 [] ∷ Finished 0 ∷ Finished 1 ∷ []

pub text_of_load_maxfail : run_text load_maxfail_settings load_maxfail ≡ line (codes "10 tests on 2 workers, load") ++ line (codes "[gw0] FAILED a") ++ line (codes "[gw0] PASSED b") ++ line (codes "[gw1] PASSED c") ++ line (codes "[gw1] PASSED d") ++ line (codes "==== [gw0] a ====") ++ line (codes "status 1") ++ line (codes "stopping after 1 failures") ++ line (codes "1 failed, 3 passed")
unfolding digits encode reason_of output_text crash_reason heading_line name plain tag tests_line limit_line disabled_line most_line place_text refusal_text
text_of_load_maxfail = refl

pub status_of_load_maxfail : run_status load_maxfail_settings load_maxfail ≡ 2
status_of_load_maxfail = refl

abbrev five_ids : List (List ℕ)
five_ids = (97 ∷ []) ∷ (98 ∷ []) ∷ (99 ∷ []) ∷ (100 ∷ []) ∷ (101 ∷ []) ∷ []

abbrev five_other_ids : List (List ℕ)
five_other_ids = (97 ∷ []) ∷ (98 ∷ []) ∷ (99 ∷ []) ∷ (100 ∷ []) ∷ (102 ∷ []) ∷ []

abbrev load_unequal_settings : Settings
load_unequal_settings = record { mode = Load; workers = 2; maxfail = 0; restarts = 8; chunk = None; reorder = true; retries = 0 }

abbrev load_unequal : List Entry
load_unequal = Start 0 0 ∷ Start 1 1 ∷ Ready 0 ∷ Collected 0 (ids.List five_ids) ∷ Ready 1 ∷ Collected 1 (ids.List five_other_ids) ∷ Shutdown 0 ∷ Shutdown 1 ∷ []

pub text_of_load_unequal : run_text load_unequal_settings load_unequal ≡ line (codes "different tests collected by gw0 and gw1, first at place 4") ++ line (codes "no tests ran")
unfolding digits encode reason_of output_text crash_reason heading_line name plain tag tests_line limit_line disabled_line most_line place_text refusal_text
text_of_load_unequal = refl

pub status_of_load_unequal : run_status load_unequal_settings load_unequal ≡ 1
status_of_load_unequal = refl

abbrev four_ids : List (List ℕ)
four_ids = (97 ∷ []) ∷ (98 ∷ []) ∷ (99 ∷ []) ∷ (100 ∷ []) ∷ []

abbrev load_no_restarts_settings : Settings
load_no_restarts_settings = record { mode = Load; workers = 2; maxfail = 0; restarts = 0; chunk = None; reorder = true; retries = 0 }

abbrev load_no_restarts : List Entry
load_no_restarts = Start 0 0 ∷ Start 1 1 ∷ Ready 0 ∷ Collected 0 (ids.List four_ids) ∷ Ready 1 ∷ Collected 1 ids.Same ∷ Run 0 (0 ∷ 1 ∷ []) ∷ Run 1 (2 ∷ 3 ∷ []) ∷ Shutdown 0 ∷ Shutdown 1 ∷ Down 0 Ended [] ∷ Kill 0 ∷ Done 1 2 Passed 5 [] ∷ Done 1 3 Passed 5 [] ∷ Finished 1 ∷ []

pub text_of_load_no_restarts : run_text load_no_restarts_settings load_no_restarts ≡ line (codes "4 tests on 2 workers, load") ++ line (codes "[gw0] node down: Not properly terminated") ++ line (codes "[gw0] CRASHED a") ++ line (codes "[gw1] PASSED c") ++ line (codes "[gw1] PASSED d") ++ line (codes "==== [gw0] a ====") ++ line (codes "worker 'gw0' crashed while running 'a'") ++ line (codes "worker gw0 crashed and worker restarting disabled") ++ line (codes "1 failed, 2 passed")
unfolding digits encode reason_of output_text crash_reason heading_line name plain tag tests_line limit_line disabled_line most_line place_text refusal_text
text_of_load_no_restarts = refl

pub status_of_load_no_restarts : run_status load_no_restarts_settings load_no_restarts ≡ 1
status_of_load_no_restarts = refl

abbrev three_ids : List (List ℕ)
three_ids = (97 ∷ []) ∷ (98 ∷ []) ∷ (99 ∷ []) ∷ []

abbrev load_three_tests_and_a_death_settings : Settings
load_three_tests_and_a_death_settings = record { mode = Load; workers = 2; maxfail = 0; restarts = 8; chunk = None; reorder = true; retries = 0 }

abbrev load_three_tests_and_a_death : List Entry
load_three_tests_and_a_death = Start 0 0 ∷ Start 1 1 ∷ Ready 0 ∷ Collected 0 (ids.List three_ids) ∷ Ready 1 ∷ Collected 1 ids.Same ∷ Run 0 (0 ∷ []) ∷ Run 1 (1 ∷ []) ∷ Run 0 (2 ∷ []) ∷ Shutdown 0 ∷ Shutdown 1 ∷ Down 0 Ended [] ∷ Kill 0 ∷ Start 2 0 ∷ Ready 2 ∷ Collected 2 ids.Same ∷ Run 2 (2 ∷ []) ∷ Shutdown 2 ∷ Done 1 1 Passed 5 [] ∷ Finished 1 ∷ Done 2 2 Passed 5 [] ∷ Finished 2 ∷ []

pub text_of_load_three_tests_and_a_death : run_text load_three_tests_and_a_death_settings load_three_tests_and_a_death ≡ line (codes "3 tests on 2 workers, load") ++ line (codes "[gw0] node down: Not properly terminated") ++ line (codes "[gw0] CRASHED a") ++ line (codes "replacing crashed worker gw0") ++ line (codes "[gw1] PASSED b") ++ line (codes "[gw2] PASSED c") ++ line (codes "==== [gw0] a ====") ++ line (codes "worker 'gw0' crashed while running 'a'") ++ line (codes "1 failed, 2 passed")
unfolding digits encode reason_of output_text crash_reason heading_line name plain tag tests_line limit_line disabled_line most_line place_text refusal_text
text_of_load_three_tests_and_a_death = refl

pub status_of_load_three_tests_and_a_death : run_status load_three_tests_and_a_death_settings load_three_tests_and_a_death ≡ 1
status_of_load_three_tests_and_a_death = refl

-- gw1 and then gw0 die while the run is shutting; those that replace them are shut at once
abbrev load_two_deaths : List Entry
load_two_deaths = Start 0 0 ∷ Start 1 1 ∷ Ready 0 ∷ Collected 0 (ids.List three_ids) ∷ Ready 1 ∷ Collected 1 ids.Same ∷ Run 0 (0 ∷ []) ∷ Run 1 (1 ∷ []) ∷ Run 0 (2 ∷ []) ∷ Shutdown 0 ∷ Shutdown 1 ∷ Down 1 Ended [] ∷ Kill 1 ∷ Start 2 1 ∷ Done 0 0 Passed 5 [] ∷ Ready 2 ∷ Shutdown 2 ∷ Down 0 Ended [] ∷ Kill 0 ∷ Start 3 0 ∷ Ready 3 ∷ Shutdown 3 ∷ Collected 2 ids.Same ∷ Finished 2 ∷ Collected 3 ids.Same ∷ Finished 3 ∷ []

pub text_of_load_two_deaths : run_text load_three_tests_and_a_death_settings load_two_deaths ≡ line (codes "3 tests on 2 workers, load") ++ line (codes "[gw1] node down: Not properly terminated") ++ line (codes "[gw1] CRASHED b") ++ line (codes "replacing crashed worker gw1") ++ line (codes "[gw0] PASSED a") ++ line (codes "[gw0] node down: Not properly terminated") ++ line (codes "[gw0] CRASHED c") ++ line (codes "replacing crashed worker gw0") ++ line (codes "==== [gw1] b ====") ++ line (codes "worker 'gw1' crashed while running 'b'") ++ line (codes "==== [gw0] c ====") ++ line (codes "worker 'gw0' crashed while running 'c'") ++ line (codes "2 failed, 1 passed")
unfolding digits encode reason_of output_text crash_reason heading_line name plain tag tests_line limit_line disabled_line most_line place_text refusal_text
text_of_load_two_deaths = refl

pub status_of_load_two_deaths : run_status load_three_tests_and_a_death_settings load_two_deaths ≡ 1
status_of_load_two_deaths = refl

-- a test at the head of a worker that went down is tried again once: the retry is no report, and the second crash is one
abbrev once_more : Settings
once_more = record { mode = Load; workers = 2; maxfail = 0; restarts = 8; chunk = None; reorder = true; retries = 1 }

abbrev crashed_twice : List Entry
crashed_twice = Start 0 0 ∷ Start 1 1 ∷ Ready 0 ∷ Collected 0 (ids.List three_ids) ∷ Ready 1 ∷ Collected 1 ids.Same ∷ Run 0 (0 ∷ []) ∷ Run 1 (1 ∷ []) ∷ Run 0 (2 ∷ []) ∷ Shutdown 0 ∷ Shutdown 1 ∷ Down 0 Ended [] ∷ Kill 0 ∷ Start 2 0 ∷ Ready 2 ∷ Collected 2 ids.Same ∷ Run 2 (0 ∷ 2 ∷ []) ∷ Down 2 Ended [] ∷ Kill 2 ∷ Start 3 0 ∷ []

pub text_of_crashed_twice : run_text once_more crashed_twice ≡ line (codes "3 tests on 2 workers, load") ++ line (codes "[gw0] node down: Not properly terminated") ++ line (codes "[gw0] RETRY a") ++ line (codes "replacing crashed worker gw0") ++ line (codes "[gw2] node down: Not properly terminated") ++ line (codes "[gw2] CRASHED a") ++ line (codes "replacing crashed worker gw2") ++ line (codes "==== [gw2] a ====") ++ line (codes "worker 'gw2' crashed while running 'a'") ++ line (codes "1 failed")
unfolding digits encode reason_of output_text crash_reason heading_line name plain tag tests_line limit_line disabled_line most_line place_text refusal_text
text_of_crashed_twice = refl

-- the same test passes when it is tried again
abbrev passed_at_last : List Entry
passed_at_last = Start 0 0 ∷ Start 1 1 ∷ Ready 0 ∷ Collected 0 (ids.List three_ids) ∷ Ready 1 ∷ Collected 1 ids.Same ∷ Run 0 (0 ∷ []) ∷ Run 1 (1 ∷ []) ∷ Run 0 (2 ∷ []) ∷ Shutdown 0 ∷ Shutdown 1 ∷ Down 0 Ended [] ∷ Kill 0 ∷ Start 2 0 ∷ Ready 2 ∷ Collected 2 ids.Same ∷ Run 2 (0 ∷ 2 ∷ []) ∷ Shutdown 2 ∷ Done 1 1 Passed 5 [] ∷ Finished 1 ∷ Done 2 0 Passed 5 [] ∷ Done 2 2 Passed 5 [] ∷ Finished 2 ∷ []

pub text_of_passed_at_last : run_text once_more passed_at_last ≡ line (codes "3 tests on 2 workers, load") ++ line (codes "[gw0] node down: Not properly terminated") ++ line (codes "[gw0] RETRY a") ++ line (codes "replacing crashed worker gw0") ++ line (codes "[gw1] PASSED b") ++ line (codes "[gw2] PASSED a") ++ line (codes "[gw2] PASSED c") ++ line (codes "3 passed")
unfolding digits encode reason_of output_text crash_reason heading_line name plain tag tests_line limit_line disabled_line most_line place_text refusal_text
text_of_passed_at_last = refl

pub status_of_passed_at_last : run_status once_more passed_at_last ≡ 0
status_of_passed_at_last = refl

-- the suite file of the one worker is missing
abbrev one_worker : Settings
one_worker = record { mode = Load; workers = 1; maxfail = 0; restarts = 4; chunk = None; reorder = true; retries = 0 }

abbrev no_suite : List Entry
no_suite = Start 0 0 ∷ Ready 0 ∷ Refused 0 (codes "suite cannot be read") ∷ []

pub text_of_no_suite : run_text one_worker no_suite ≡ line (codes "collection failed on gw0: suite cannot be read") ++ line (codes "no tests ran")
unfolding digits encode reason_of output_text crash_reason heading_line name plain tag tests_line limit_line disabled_line most_line place_text refusal_text
text_of_no_suite = refl

pub status_of_no_suite : run_status one_worker no_suite ≡ 2
status_of_no_suite = refl

-- a worker that could not be started
abbrev not_started : List Entry
not_started = Start 0 0 ∷ Start 1 1 ∷ NotStarted 0 ∷ Start 2 0 ∷ []

pub text_of_not_started : run_text load_three_tests_and_a_death_settings not_started ≡ line (codes "[gw0] node down: not started") ++ line (codes "replacing crashed worker gw0") ++ line (codes "no tests ran")
unfolding digits encode reason_of output_text crash_reason heading_line name plain tag tests_line limit_line disabled_line most_line place_text refusal_text
text_of_not_started = refl

-- without workers; the kept output does not end its line, and the report could not be written
abbrev local_settings : Settings
local_settings = record { mode = Local; workers = 0; maxfail = 0; restarts = 0; chunk = None; reorder = true; retries = 0 }

abbrev local_run : List Entry
local_run = Collected 0 (ids.List three_ids) ∷ Run 0 (0 ∷ []) ∷ Done 0 0 Passed 5 [] ∷ Run 0 (1 ∷ []) ∷ Done 0 1 (Failed (pos 3)) 5 (104 ∷ 105 ∷ []) ∷ Run 0 (2 ∷ []) ∷ Done 0 2 Skipped 5 [] ∷ Over OutFault ∷ []

pub text_of_local_run : run_text local_settings local_run ≡ line (codes "3 tests") ++ line (codes "[main] PASSED a") ++ line (codes "[main] FAILED b") ++ line (codes "[main] SKIPPED c") ++ line (codes "==== [main] b ====") ++ line (codes "status 3") ++ line (codes "---- output: 2 bytes ----") ++ line (codes "hi") ++ line (codes "1 failed, 1 passed, 1 skipped")
unfolding digits encode reason_of output_text crash_reason heading_line name plain tag tests_line limit_line disabled_line most_line place_text refusal_text
text_of_local_run = refl

pub status_of_local_run : run_status local_settings local_run ≡ 3
status_of_local_run = refl
