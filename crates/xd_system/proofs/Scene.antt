-- What the worked moments share: news and inputs in short, and a run in mode worksteal.
use Rattle.std.specs.Prelude.{ℕ, List, [], ◌∷◌, ◌++◌, map, true, Some, None}
use Rattle.std.proofs.Common.{refl}
use Rattle.xd_edge.specs.declared.mode.ModeKind.TheVariants.{WorkSteal}
use Rattle.xd_journal.specs.declared.settings.Settings.{Settings}
use Rattle.xd_journal.specs.declared.entry.Outcome.TheVariants.{Passed}
use Rattle.xd_journal.specs.declared.news.News.{News}
use Rattle.xd_journal.specs.declared.news.What.{What}
use Rattle.xd_journal.specs.declared.news.What.TheVariants as what
use Rattle.xd_commands.specs.declared.order.Order.TheVariants.{RunTests, Steal}
use Rattle.xd_run.specs.Proper.{IsProper}
use Rattle.xd_worker_tests.specs.declared.input.Input.{Input}
use Rattle.xd_worker_tests.specs.declared.input.Input.TheVariants as input
use Rattle.xd_worker_tests.specs.History.{Given}
use Rattle.xd_system.specs.Moment.{LinkNow}

-- these news of one worker
abbrev pub by : ℕ → List What → List News
by w news = map (λ x. record { worker = w; what = x }) news

-- a test with its log, which passes
abbrev pub run_test : ℕ → ℕ → List What
run_test n log = what.LogStart n log ∷ what.LogClosed log ∷ what.Done n Passed 1 ∷ []

-- an input, with room for a log
abbrev pub given : Input → Given
given i = record { room = true; input = i }

-- a worker that was called and has a whole link
abbrev pub link_with : List Given → LinkNow
link_with inputs = record { called = true; given = inputs; whole = true }

-- two workers and ten tests

abbrev pub stealing : Settings
stealing = record { mode = WorkSteal; workers = 2; maxfail = 0; restarts = 8; chunk = None; reorder = true; retries = 0 }

pub stealing-proper : IsProper stealing []
stealing-proper = record { mode = refl; some_worker = refl; few_workers = refl; few_restarts = refl; follow = refl }

abbrev pub ten : List (List ℕ)
ten = (97 ∷ []) ∷ (98 ∷ []) ∷ (99 ∷ []) ∷ (100 ∷ []) ∷ (101 ∷ []) ∷ (102 ∷ []) ∷ (103 ∷ []) ∷ (104 ∷ []) ∷ (105 ∷ []) ∷ (106 ∷ []) ∷ []

-- gw0 ran 0 to 3, and nothing was taken of gw1 but its collection
abbrev pub taken : List News
taken = by 0 (what.Ready ∷ []) ++ (by 1 (what.Ready ∷ []) ++ (by 0 (what.Collected ten ∷ []) ++ (by 1 (what.Collected ten ∷ [])
    ++ (by 0 (run_test 0 2) ++ (by 0 (run_test 1 4) ++ (by 0 (run_test 2 6) ++ by 0 (run_test 3 8)))))))

-- gw1 got 5 to 9, ran 5 and 6, and runs 7
abbrev pub before_steal : List Given
before_steal =
    given (input.Done Passed 1) ∷ given (input.Done Passed 1) ∷ given (input.Command (Some (RunTests (5 ∷ 6 ∷ 7 ∷ 8 ∷ 9 ∷ [])))) ∷ given (input.Suite ten) ∷ []

-- then the Steal of 8 and 9 came to it
abbrev pub after_steal : List Given
after_steal = given (input.Command (Some (Steal (8 ∷ 9 ∷ [])))) ∷ before_steal

-- what gw1 told of this after its collection, before the Steal came
abbrev pub told_before : List What
told_before = run_test 5 2 ++ (run_test 6 4 ++ (what.LogStart 7 6 ∷ []))
