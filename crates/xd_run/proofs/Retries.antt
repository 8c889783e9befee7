-- Worked journals of runs whose crashed tests are tried again.
use Rattle.std.specs.Prelude.{◌≡◌, List, [], ◌∷◌, ◌++◌, true, None, Some, pos}
use Rattle.std.proofs.Common.{refl}
use Rattle.xd_edge.specs.declared.mode.ModeKind.TheVariants.{Each, Load, LoadFile}
use Rattle.xd_journal.specs.declared.settings.Settings.{Settings}
use Rattle.xd_journal.specs.declared.news.What.TheVariants.{LogStart, Piece, Gone}
use Rattle.xd_journal.specs.declared.entry.Ids.TheVariants as ids
use Rattle.xd_journal.specs.declared.entry.Cause.TheVariants.{Ended}
use Rattle.xd_journal.specs.declared.entry.Outcome.TheVariants.{Passed, Failed}
use Rattle.xd_journal.specs.declared.entry.RunStop.TheVariants.{MaxFail, Restarts}
use Rattle.xd_journal.specs.declared.entry.Entry.{Entry}
use Rattle.xd_journal.specs.declared.entry.Entry.TheVariants.{Ready, Collected, Done, Down, Start, Run, RunAll, Shutdown, Kill}
use Rattle.xd_run.specs.Histories.{journal_of}
use Rattle.xd_run.specs.Meaning.{meaning}
use Rattle.xd_run.specs.Reports.{reports}
use Rattle.xd_run.specs.Reports.Report.{Result, Crash}
use Rattle.xd_run.specs.State.{state_at}
use Rattle.xd_run.proofs.Rows.{ten_ids, three_ids, four_ids, file_ids}

-- a crashed test is tried once more
abbrev once_more : Settings
once_more = record { mode = Load; workers = 2; maxfail = 0; restarts = 8; chunk = None; reorder = true; retries = 1 }

-- three tests are shared
abbrev shared_three : List Entry
shared_three = Start 0 0 ∷ Start 1 1 ∷ Ready 0 ∷ Collected 0 (ids.List three_ids) ∷ Ready 1 ∷ Collected 1 ids.Same ∷ Run 0 (0 ∷ []) ∷ Run 1 (1 ∷ []) ∷ Run 0 (2 ∷ []) ∷ Shutdown 0 ∷ Shutdown 1 ∷ []

-- their first one crashes, and crashes again at the worker that replaces the other
abbrev crashed_twice : List Entry
crashed_twice = Ready 0 ∷ Collected 0 (ids.List three_ids) ∷ Ready 1 ∷ Collected 1 ids.Same ∷ Down 0 Ended [] ∷ Ready 2 ∷ Collected 2 ids.Same ∷ Down 2 Ended [] ∷ []

abbrev tried_twice : List Entry
tried_twice = shared_three ++ (Down 0 Ended [] ∷ Kill 0 ∷ Start 2 0 ∷ Ready 2 ∷ Collected 2 ids.Same ∷ Run 2 (0 ∷ 2 ∷ []) ∷ Down 2 Ended [] ∷ Kill 2 ∷ Start 3 0 ∷ [])

pub a_crashed_test_is_tried_again : journal_of once_more crashed_twice ≡ tried_twice
a_crashed_test_is_tried_again = refl

-- it stands first in the pool, before the rest of its worker
pub a_retried_test_is_first : (state_at once_more (shared_three ++ Down 0 Ended [] ∷ [])).books.table.pool ≡ 0 ∷ 2 ∷ []
a_retried_test_is_first = refl

-- of ten tests: before those that wait, and the rest after them
abbrev shared_ten : List Entry
shared_ten = Start 0 0 ∷ Start 1 1 ∷ Ready 0 ∷ Collected 0 (ids.List ten_ids) ∷ Ready 1 ∷ Collected 1 ids.Same ∷ Run 0 (0 ∷ 1 ∷ []) ∷ Run 1 (2 ∷ 3 ∷ []) ∷ []

pub its_rest_is_last : (state_at once_more (shared_ten ++ Down 0 Ended [] ∷ [])).books.table.pool ≡ 0 ∷ 4 ∷ 5 ∷ 6 ∷ 7 ∷ 8 ∷ 9 ∷ 1 ∷ []
its_rest_is_last = refl

-- and is reported once its retries are spent
pub a_retry_is_not_reported : reports once_more (shared_three ++ Down 0 Ended [] ∷ []) ≡ []
a_retry_is_not_reported = refl

pub the_last_crash_is_reported : reports once_more tried_twice ≡ Crash 2 0 ∷ []
the_last_crash_is_reported = refl

pub the_rest_is_left : (state_at once_more tried_twice).books.table.pool ≡ 2 ∷ []
the_rest_is_left = refl

-- a crash of another test has retries of its own
pub each_test_has_its_retries : reports once_more (shared_three ++ (Down 0 Ended [] ∷ Kill 0 ∷ Start 2 0 ∷ Down 1 Ended [] ∷ [])) ≡ []
each_test_has_its_retries = refl

-- a retry counts as no failure: the second crash is the first one, and stops the run
pub a_retry_is_no_failure : journal_of (record once_more { maxfail = 1 }) crashed_twice
    ≡ (shared_three ++ (Down 0 Ended [] ∷ Kill 0 ∷ Start 2 0 ∷ Ready 2 ∷ Collected 2 ids.Same ∷ Run 2 (0 ∷ 2 ∷ []) ∷ Down 2 Ended [] ∷ Kill 2 ∷ []))
a_retry_is_no_failure = refl

pub the_crash_is_the_failure : (state_at (record once_more { maxfail = 1 }) tried_twice).books.stop ≡ Some (MaxFail 1)
the_crash_is_the_failure = refl

-- a retry counts as a death: where one may be made good, the second one stops the run, and its test is reported
pub a_retry_is_a_death : (state_at (record once_more { restarts = 1; retries = 2 }) tried_twice).books.stop ≡ Some (Restarts 2 1)
a_retry_is_a_death = refl

pub the_last_death_is_no_retry : reports (record once_more { restarts = 1; retries = 2 }) tried_twice ≡ Crash 2 0 ∷ []
the_last_death_is_no_retry = refl

-- after a stop nothing is tried again
pub a_stopped_run_tries_nothing_again : reports (record once_more { maxfail = 1 }) (shared_three ++ (Done 1 1 (Failed (pos 1)) 5 [] ∷ Down 0 Ended [] ∷ [])) ≡ Result 1 1 (Failed (pos 1)) ∷ Crash 0 0 ∷ []
a_stopped_run_tries_nothing_again = refl

-- where no death is made good nothing is tried again
abbrev without_restarts : Settings
without_restarts = record once_more { restarts = 0 }

abbrev crashed_at_last : List Entry
crashed_at_last = Start 0 0 ∷ Start 1 1 ∷ Ready 0 ∷ Collected 0 (ids.List four_ids) ∷ Ready 1 ∷ Collected 1 ids.Same ∷ Run 0 (0 ∷ 1 ∷ []) ∷ Run 1 (2 ∷ 3 ∷ []) ∷ Shutdown 0 ∷ Shutdown 1 ∷ Down 0 Ended [] ∷ Kill 0 ∷ []

pub one_death_too_many_is_no_retry : journal_of without_restarts (Ready 0 ∷ Collected 0 (ids.List four_ids) ∷ Ready 1 ∷ Collected 1 ids.Same ∷ Down 0 Ended [] ∷ []) ≡ crashed_at_last
one_death_too_many_is_no_retry = refl

pub its_head_is_reported : reports without_restarts crashed_at_last ≡ Crash 0 0 ∷ []
its_head_is_reported = refl

-- a retried test is a unit of its own, the first of the queue, and not one with the rest of its scope
pub a_retried_test_is_a_unit : journal_of (record once_more { mode = LoadFile }) (Ready 0 ∷ Collected 0 (ids.List file_ids) ∷ Ready 1 ∷ Collected 1 ids.Same ∷ Down 0 Ended [] ∷ Ready 2 ∷ Collected 2 ids.Same ∷ [])
    ≡ (Start 0 0 ∷ Start 1 1 ∷ Ready 0 ∷ Collected 0 (ids.List file_ids) ∷ Ready 1 ∷ Collected 1 ids.Same ∷ Run 0 (3 ∷ 4 ∷ 5 ∷ []) ∷ Run 1 (0 ∷ 1 ∷ []) ∷ Run 1 (2 ∷ []) ∷ Shutdown 0 ∷ Shutdown 1 ∷ Down 0 Ended [] ∷ Kill 0 ∷ Start 2 0 ∷ Ready 2 ∷ Collected 2 ids.Same ∷ Run 2 (3 ∷ []) ∷ Run 2 (4 ∷ 5 ∷ []) ∷ [])
a_retried_test_is_a_unit = refl

-- in mode each a new worker of the slot begins with it
pub each_begins_with_the_retried_test : journal_of (record once_more { mode = Each }) (Ready 0 ∷ Collected 0 (ids.List three_ids) ∷ Ready 1 ∷ Collected 1 (ids.List three_ids) ∷ Done 0 0 Passed 5 [] ∷ Down 0 Ended [] ∷ Ready 2 ∷ Collected 2 ids.Same ∷ [])
    ≡ (Start 0 0 ∷ Start 1 1 ∷ Ready 0 ∷ Collected 0 (ids.List three_ids) ∷ Ready 1 ∷ Collected 1 (ids.List three_ids) ∷ RunAll 0 ∷ Shutdown 0 ∷ RunAll 1 ∷ Shutdown 1 ∷ Done 0 0 Passed 5 [] ∷ Down 0 Ended [] ∷ Kill 0 ∷ Start 2 0 ∷ Ready 2 ∷ Collected 2 ids.Same ∷ Run 2 (1 ∷ 2 ∷ []) ∷ Shutdown 2 ∷ [])
each_begins_with_the_retried_test = refl

-- a retry keeps none of the output of its test, and a crash does
pub a_retry_keeps_no_output : meaning 0 shared_three (state_at once_more shared_three) (LogStart 0 2 ∷ Piece 2 (104 ∷ 105 ∷ []) ∷ []) (Gone Ended) ≡ Some (Down 0 Ended [])
a_retry_keeps_no_output = refl

pub a_crash_keeps_its_output : meaning 0 shared_three (state_at (record once_more { retries = 0 }) shared_three) (LogStart 0 2 ∷ Piece 2 (104 ∷ 105 ∷ []) ∷ []) (Gone Ended) ≡ Some (Down 0 Ended (104 ∷ 105 ∷ []))
a_crash_keeps_its_output = refl
