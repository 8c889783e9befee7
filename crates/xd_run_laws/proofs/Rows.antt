-- A worked run that the laws speak of: it is proper, it is over without a stop, and its reports are of all its tests.
-- After it stands what the laws rule out.
use Rattle.std.specs.Prelude.{◌≡◌, List, [], ◌∷◌, true, false, None}
use Rattle.std.proofs.Common.{refl, arith, ◌≤◌, take}
use Rattle.xd_edge.specs.declared.mode.ModeKind.TheVariants.{Load}
use Rattle.xd_journal.specs.declared.settings.Settings.{Settings}
use Rattle.xd_journal.specs.declared.entry.Ids.TheVariants as ids
use Rattle.xd_journal.specs.declared.entry.Cause.TheVariants.{Ended}
use Rattle.xd_journal.specs.declared.entry.Outcome.TheVariants.{Passed}
use Rattle.xd_journal.specs.declared.entry.Entry.{Entry}
use Rattle.xd_journal.specs.declared.entry.Entry.TheVariants.{Ready, Collected, Done, Finished, Down, Run, Steal, Shutdown}
use Rattle.xd_run.specs.Books.{on_table}
use Rattle.xd_run.specs.Sharing.{State, in_books}
use Rattle.xd_run.specs.Orderly.{is_orderly}
use Rattle.xd_run.specs.Stops.{is_stopped}
use Rattle.xd_run_laws.specs.Once.{IsOnce}
use Rattle.xd_run_laws.specs.Reported.{AreOnce}
use Rattle.xd_run.specs.Plan.{total}
use Rattle.xd_run.specs.Histories.{after_starts, journal_of, after_inputs, is_over}
use Rattle.xd_run.specs.Proper.{IsProper}
use Rattle.xd_run.specs.Reports.{reports, Result, Crash}

-- mode load with two workers, and three tests
abbrev pub three : Settings
three = record { mode = Load; workers = 2; maxfail = 0; restarts = 8; chunk = None; reorder = true; retries = 0 }

-- worker 0 goes down at its first test, and worker 2 comes in its place
abbrev pub a_death : List Entry
a_death = Ready 0 ∷ Collected 0 (ids.List ((97 ∷ []) ∷ (98 ∷ []) ∷ (99 ∷ []) ∷ [])) ∷ Ready 1 ∷ Collected 1 ids.Same ∷ Down 0 Ended [] ∷ Ready 2 ∷ Collected 2 ids.Same ∷ Done 1 1 Passed 5 [] ∷ Finished 1 ∷ Done 2 2 Passed 5 [] ∷ Finished 2 ∷ []

pub a_death-proper : IsProper three a_death
a_death-proper = record { mode = refl; some_worker = refl; few_workers = refl; few_restarts = refl; follow = refl }

pub a_death-over : is_over (after_inputs (after_starts three) a_death).books ≡ true
a_death-over = refl

pub a_death-unstopped : is_stopped (after_inputs (after_starts three) a_death).books ≡ false
a_death-unstopped = refl

pub a_death-tests : total (after_inputs (after_starts three) a_death).plan ≡ 3
a_death-tests = refl

pub a_death-reports : reports three (journal_of three a_death) ≡ Crash 0 0 ∷ Result 1 1 Passed ∷ Result 2 2 Passed ∷ []
a_death-reports = refl

-- what the laws rule out

abbrev pub ended : State
ended = after_inputs (after_starts three) a_death

-- a test that was reported stands in the pool again
again_in_pool : IsOnce (in_books (on_table (λ t. record t { pool = 0 ∷ [] })) ended) → ⊥
again_in_pool once =
    let two : 2 ≡ 1 = once.each_once refl 0 (omega arith) in
    omega (two, arith)

-- a test stands nowhere
lost : IsOnce (in_books (on_table (λ t. record t { reported = 1 ∷ 2 ∷ [] })) ended) → ⊥
lost once =
    let none : 0 ≡ 1 = once.each_once refl 0 (omega arith) in
    omega (none, arith)

-- a test has a result and is told as crashed as well
told_twice : AreOnce (Result 1 0 Passed ∷ Crash 0 0 ∷ []) ended → ⊥
told_twice once =
    let two : 2 ≤ 1 = once.at_most 0 in
    omega (two, arith)

-- a run is over, and one test has no report
not_told : AreOnce (Result 1 1 Passed ∷ Result 2 2 Passed ∷ []) ended → ⊥
not_told once =
    let none : 0 ≡ 1 = once.all_told refl refl 0 (omega arith) in
    omega (none, arith)

-- two workers, to whom the three tests went
abbrev shared_out : State
shared_out = after_inputs (after_starts three) (take 4 a_death)

-- a test is given to a second worker
given_twice : is_orderly shared_out (Run 1 (0 ∷ [])) ≡ false
given_twice = refl

-- a worker that was told to shut down is told so again
shut_twice : is_orderly shared_out (Shutdown 0) ≡ false
shut_twice = refl

-- a test that its worker may be running is asked back
head_asked_back : is_orderly shared_out (Steal 0 (0 ∷ [])) ≡ false
head_asked_back = refl
