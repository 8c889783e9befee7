-- A worked run with a retry, and what the laws rule out in it.
use Rattle.std.specs.Prelude.{◌≡◌, List, [], ◌∷◌, ◌++◌, true, false, Some}
use Rattle.std.proofs.Common.{refl, arith, ◌≤◌, take}
use Rattle.xd_journal.specs.declared.settings.Settings.{Settings}
use Rattle.xd_journal.specs.declared.entry.Ids.TheVariants as ids
use Rattle.xd_journal.specs.declared.entry.Cause.TheVariants.{Ended}
use Rattle.xd_journal.specs.declared.entry.Outcome.TheVariants.{Passed}
use Rattle.xd_journal.specs.declared.entry.Entry.{Entry}
use Rattle.xd_journal.specs.declared.entry.Entry.TheVariants.{Ready, Collected, Done, Finished, Down}
use Rattle.xd_run.specs.Books.{on_table}
use Rattle.xd_run.specs.Retry.{is_retry}
use Rattle.xd_run.specs.Sharing.{State, in_books}
use Rattle.xd_run.specs.Stops.{is_stopped}
use Rattle.xd_run.specs.Histories.{after_starts, journal_of, after_inputs, is_over}
use Rattle.xd_run.specs.Proper.{IsProper}
use Rattle.xd_run.specs.Reports.{reports, Result, Crash}
use Rattle.xd_run_laws.specs.Once.{IsOnce}
use Rattle.xd_run_laws.specs.Places.{InPool, Reported, StandsAt, place_by}
use Rattle.xd_run_laws.specs.Reported.{AreOnce}
use Rattle.xd_run_laws.proofs.Logic.{differ}
use Rattle.xd_run_laws.proofs.Rows.{a_death, three}

-- a crashed test is tried again once
abbrev pub one_retry : Settings
one_retry = record three { retries = 1 }

-- worker 0 goes down at test 0
abbrev pub first_crash : List Entry
first_crash = take 5 a_death

abbrev after_first_crash : State
after_first_crash = after_inputs (after_starts one_retry) first_crash

first_crash-pool : after_first_crash.books.table.pool ≡ 0 ∷ 2 ∷ []
first_crash-pool = refl

first_crash-reports : reports one_retry (journal_of one_retry first_crash) ≡ []
first_crash-reports = refl

first_crash-place : place_by one_retry (journal_of one_retry first_crash) 0 ≡ Some InPool
first_crash-place = refl

-- worker 2 comes in its place, and passes both tests
abbrev a_retry : List Entry
a_retry = first_crash ++ Ready 2 ∷ Collected 2 ids.Same ∷ Done 1 1 Passed 5 [] ∷ Finished 1 ∷ Done 2 0 Passed 5 [] ∷ Done 2 2 Passed 5 [] ∷ Finished 2 ∷ []

a_retry-proper : IsProper one_retry a_retry
a_retry-proper = record { mode = refl; some_worker = refl; few_workers = refl; few_restarts = refl; follow = refl }

a_retry-over : is_over (after_inputs (after_starts one_retry) a_retry).books ≡ true
a_retry-over = refl

a_retry-unstopped : is_stopped (after_inputs (after_starts one_retry) a_retry).books ≡ false
a_retry-unstopped = refl

a_retry-reports : reports one_retry (journal_of one_retry a_retry) ≡ Result 1 1 Passed ∷ Result 2 0 Passed ∷ Result 2 2 Passed ∷ []
a_retry-reports = refl

-- or worker 2 goes down at test 0 as well
abbrev second_crash : List Entry
second_crash = first_crash ++ Ready 2 ∷ Collected 2 ids.Same ∷ Down 2 Ended [] ∷ []

second_crash-pool : (after_inputs (after_starts one_retry) second_crash).books.table.pool ≡ 2 ∷ []
second_crash-pool = refl

second_crash-reports : reports one_retry (journal_of one_retry second_crash) ≡ Crash 2 0 ∷ []
second_crash-reports = refl

-- what the laws rule out

-- a crash of a test that is tried again
crash_of_retry : is_retry 0 (after_inputs (after_starts one_retry) (take 4 a_death)).books ≡ false → ⊥
crash_of_retry h = absurd (differ cc)

-- a retried test is reported as well
retried_and_reported : IsOnce (in_books (on_table (λ t. record t { reported = 0 ∷ [] })) after_first_crash) → ⊥
retried_and_reported once =
    let two : 2 ≡ 1 = once.each_once refl 0 (omega arith) in
    omega (two, arith)

-- so stands the last entry that moves it
retried_is_reported : StandsAt after_first_crash.books.table 0 (Some Reported) → ⊥
retried_is_reported h = differ h

-- a test is told as crashed at its first death, and has a result
told_at_both : AreOnce (Crash 0 0 ∷ Result 2 0 Passed ∷ []) after_first_crash → ⊥
told_at_both once =
    let two : 2 ≤ 1 = once.at_most 0 in
    omega (two, arith)
