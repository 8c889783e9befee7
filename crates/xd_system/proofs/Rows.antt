-- Worked moments: a steal that is on the way while completions are, a test that is tried again, mode each with
-- two slots, and a link that is cut in a completion.
use Rattle.std.specs.Prelude.{◌≡◌, ℕ, List, [], ◌∷◌, ◌++◌, true, false, Some, None}
use Rattle.std.proofs.Common.{refl, inl, inr}
use Rattle.xd_edge.specs.declared.mode.ModeKind.TheVariants.{Each, Load}
use Rattle.xd_journal.specs.declared.settings.Settings.{Settings}
use Rattle.xd_journal.specs.declared.entry.Cause.TheVariants.{Ended}
use Rattle.xd_journal.specs.declared.entry.Outcome.TheVariants.{Passed}
use Rattle.xd_journal.specs.declared.news.News.{News}
use Rattle.xd_journal.specs.declared.news.What.TheVariants as what
use Rattle.xd_commands.specs.declared.order.Order.TheVariants.{RunTests, RunAll, Shutdown, Steal}
use Rattle.xd_run.specs.Proper.{IsProper}
use Rattle.xd_run.specs.Reports.{Result, Crash, reports}
use Rattle.xd_run.specs.Table.{held}
use Rattle.xd_worker_tests.specs.declared.input.Input.TheVariants as input
use Rattle.xd_worker_tests.specs.History.{Given, call_after}
use Rattle.xd_worker_tests.specs.Line.{left, running_test, tests_in_line}
use Rattle.xd_session.specs.History.{run_of}
use Rattle.xd_system.specs.Laws.{items_given_back, items_of_link}
use Rattle.xd_system.specs.Moment.{IsHonestAt, LinkNow, news_on_way, orders_on_way}
use Rattle.xd_system.specs.Own.{is_accused, told_to}
use Rattle.xd_system.proofs.Accused.{never_accused}
use Rattle.xd_system.proofs.Begun.{later-begun}
use Rattle.xd_system.proofs.Runs.{first-begun}
use Rattle.xd_system.proofs.Scene.{after_steal, before_steal, by, given, link_with, run_test, stealing, stealing-proper, taken, ten, told_before}

-- ---- a steal of 8 and 9 is on the way, while 5 and 6 are reported on the way and the worker runs 7 with 8 next

told : told_to 1 (run_of stealing taken).entries ≡ RunTests (5 ∷ 6 ∷ 7 ∷ 8 ∷ 9 ∷ []) ∷ Steal (8 ∷ 9 ∷ []) ∷ []
told = refl

runs-seven : running_test (call_after before_steal) ≡ Some 7
runs-seven = refl

eight-next : tests_in_line (left (call_after before_steal)) ≡ 7 ∷ 8 ∷ 9 ∷ []
eight-next = refl

steal-on-way : orders_on_way stealing taken 1 (link_with before_steal) ≡ Steal (8 ∷ 9 ∷ []) ∷ []
steal-on-way = refl

news-on-way : news_on_way taken 1 (link_with before_steal) ≡ told_before
news-on-way = refl

-- 8 is next and no more in the queue, so the worker gives nothing back
answer-on-way : news_on_way taken 1 (link_with after_steal) ≡ told_before ++ what.Back [] ∷ []
answer-on-way = refl

honest-before : IsHonestAt stealing taken 1 (link_with before_steal)
honest-before = record {
  comes = refl;
  uncalled = λ e. absurd cc;
  orders = (Steal (8 ∷ 9 ∷ []) ∷ [], refl);
  begun = first-begun stealing taken 1 stealing-proper refl;
  news = (told_before, refl);
}

honest-after : IsHonestAt stealing taken 1 (link_with after_steal)
honest-after = record {
  comes = refl;
  uncalled = λ e. absurd cc;
  orders = ([], refl);
  begun = first-begun stealing taken 1 stealing-proper refl;
  news = (told_before ++ what.Back [] ∷ [], refl);
}

-- the controller thinks that gw1 holds 5 to 9, and these are in their places at both moments

holds-five : held 1 (run_of stealing taken).state.books.table ≡ 5 ∷ 6 ∷ 7 ∷ 8 ∷ 9 ∷ []
holds-five = refl

places-before : items_of_link stealing taken 1 (link_with before_steal) ≡ 5 ∷ 6 ∷ 7 ∷ 8 ∷ 9 ∷ []
places-before = refl

places-after : items_of_link stealing taken 1 (link_with after_steal) ≡ 5 ∷ 6 ∷ 7 ∷ 8 ∷ 9 ∷ []
places-after = refl

-- and where all of it was taken the worker is in no breach
all-taken : is_accused 1 (run_of stealing (taken ++ by 1 (told_before ++ what.Back [] ∷ []))).entries ≡ false
all-taken = refl

-- where the steal comes while 5 runs, 8 and 9 are queued and given back: then they are in the answer alone
abbrev early_steal : List Given
early_steal =
    given (input.Command (Some (Steal (8 ∷ 9 ∷ [])))) ∷ given (input.Command (Some (RunTests (5 ∷ 6 ∷ 7 ∷ 8 ∷ 9 ∷ [])))) ∷ given (input.Suite ten) ∷ []

gives-back : news_on_way taken 1 (link_with early_steal) ≡ what.LogStart 5 2 ∷ what.Back (8 ∷ 9 ∷ []) ∷ []
gives-back = refl

in-answer : items_given_back stealing taken 1 (link_with early_steal) ≡ 8 ∷ 9 ∷ []
in-answer = refl

in-place : items_of_link stealing taken 1 (link_with early_steal) ≡ 5 ∷ 6 ∷ 7 ∷ []
in-place = refl

-- ---- gw0 died in test 0, which is tried again: gw1 got both tests, and runs 0

abbrev retrying : Settings
retrying = record { mode = Load; workers = 1; maxfail = 0; restarts = 8; chunk = None; reorder = true; retries = 1 }

retrying-proper : IsProper retrying []
retrying-proper = record { mode = refl; some_worker = refl; few_workers = refl; few_restarts = refl; follow = refl }

abbrev two : List (List ℕ)
two = (97 ∷ []) ∷ (98 ∷ []) ∷ []

abbrev gw0_died : List News
gw0_died = by 0 (what.Ready ∷ what.Collected two ∷ what.LogStart 0 2 ∷ what.Gone Ended ∷ [])

abbrev gw1_joined : List News
gw1_joined = gw0_died ++ by 1 (what.Ready ∷ what.Collected two ∷ [])

abbrev runs_again : List Given
runs_again = given (input.Command (Some (RunTests (0 ∷ 1 ∷ [])))) ∷ given (input.Suite two) ∷ []

given-again : told_to 1 (run_of retrying gw1_joined).entries ≡ RunTests (0 ∷ 1 ∷ []) ∷ []
given-again = refl

no-report-yet : reports retrying (run_of retrying gw1_joined).entries ≡ []
no-report-yet = refl

again-on-way : news_on_way gw1_joined 1 (link_with runs_again) ≡ what.LogStart 0 2 ∷ []
again-on-way = refl

honest-again : IsHonestAt retrying gw1_joined 1 (link_with runs_again)
honest-again = record {
  comes = refl;
  uncalled = λ e. absurd cc;
  orders = ([], refl);
  begun = later-begun retrying gw0_died (by 1 (what.Ready ∷ what.Collected two ∷ [])) 1 retrying-proper refl refl;
  news = (what.LogStart 0 2 ∷ [], refl);
}

places-again : items_of_link retrying gw1_joined 1 (link_with runs_again) ≡ 0 ∷ 1 ∷ []
places-again = refl

holds-again : held 1 (run_of retrying gw1_joined).state.books.table ≡ 0 ∷ 1 ∷ []
holds-again = refl

-- gw0, whose link was cut after it told that 0 started, was honest as well
abbrev gw0_link : LinkNow
gw0_link = record { called = true; given = runs_again; whole = false }

honest-dead : IsHonestAt retrying gw1_joined 0 gw0_link
honest-dead = record {
  comes = refl;
  uncalled = λ e. absurd cc;
  orders = (Shutdown ∷ [], refl);
  begun = first-begun retrying gw1_joined 0 retrying-proper refl;
  news = inr (inl (record { heard = what.Ready ∷ what.Collected two ∷ what.LogStart 0 2 ∷ []; cause = Ended; begins = ([], refl); are = refl; honest = refl }));
}

-- ---- mode each: gw0 has two tests, gw1 has three, and runs its second

abbrev each_of_two : Settings
each_of_two =
    record { mode = Each; workers = 2; maxfail = 0; restarts = 8; chunk = None; reorder = true; retries = 0 }

each-proper : IsProper each_of_two []
each-proper = record { mode = refl; some_worker = refl; few_workers = refl; few_restarts = refl; follow = refl }

abbrev three : List (List ℕ)
three = (97 ∷ []) ∷ (98 ∷ []) ∷ (99 ∷ []) ∷ []

abbrev both_joined : List News
both_joined = by 0 (what.Ready ∷ what.Collected two ∷ []) ++ by 1 (what.Ready ∷ what.Collected three ∷ [])

abbrev runs_second : List Given
runs_second = given (input.Done Passed 1) ∷ given (input.Command (Some RunAll)) ∷ given (input.Suite three) ∷ []

told-all : told_to 1 (run_of each_of_two both_joined).entries ≡ RunAll ∷ Shutdown ∷ []
told-all = refl

shutdown-on-way : orders_on_way each_of_two both_joined 1 (link_with runs_second) ≡ Shutdown ∷ []
shutdown-on-way = refl

runs-one : running_test (call_after runs_second) ≡ Some 1
runs-one = refl

honest-each : IsHonestAt each_of_two both_joined 1 (link_with runs_second)
honest-each = record {
  comes = refl;
  uncalled = λ e. absurd cc;
  orders = (Shutdown ∷ [], refl);
  begun = first-begun each_of_two both_joined 1 each-proper refl;
  news = (run_test 0 2 ++ (what.LogStart 1 4 ∷ []), refl);
}

-- its tests 0, 1 and 2 are the items 2, 3 and 4 of the run
places-each : items_of_link each_of_two both_joined 1 (link_with runs_second) ≡ 2 ∷ 3 ∷ 4 ∷ []
places-each = refl

holds-each : held 1 (run_of each_of_two both_joined).state.books.table ≡ 2 ∷ 3 ∷ 4 ∷ []
holds-each = refl

-- ---- the link of gw1 is cut in the completion of 5: the controller took that its log was closed, and that the link is gone

abbrev cut_link : LinkNow
cut_link = record { called = true; given = before_steal; whole = false }

abbrev cut_taken : List News
cut_taken = taken ++ by 1 (what.LogStart 5 2 ∷ what.LogClosed 2 ∷ what.Gone Ended ∷ [])

honest-cut : IsHonestAt stealing cut_taken 1 cut_link
honest-cut = record {
  comes = refl;
  uncalled = λ e. absurd cc;
  orders = (Steal (8 ∷ 9 ∷ []) ∷ [], refl);
  begun = first-begun stealing cut_taken 1 stealing-proper refl;
  news = inr (inl (record {
    heard = what.Ready ∷ what.Collected ten ∷ what.LogStart 5 2 ∷ what.LogClosed 2 ∷ [];
    cause = Ended;
    begins = (what.Done 5 Passed 1 ∷ (run_test 6 4 ++ (what.LogStart 7 6 ∷ [])), refl);
    are = refl;
    honest = refl;
  }));
}

-- the worker went down, in no breach, and 5 is the test that it is blamed for, although its program had ended
not-accused : is_accused 1 (run_of stealing cut_taken).entries ≡ false
not-accused = never_accused stealing cut_taken 1 cut_link stealing-proper honest-cut

blamed : reports stealing (run_of stealing cut_taken).entries
    ≡ Result 0 0 Passed ∷ Result 0 1 Passed ∷ Result 0 2 Passed ∷ Result 0 3 Passed ∷ Crash 1 5 ∷ []
blamed = refl
