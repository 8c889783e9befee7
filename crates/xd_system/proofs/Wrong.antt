-- Four wrong workers. Each is shown at a moment of the run of Scene: what it tells, that the controller calls it
-- in breach or that a law's equation is false of it, and what the machine of `run_tests` does in its place. So a
-- definition of an honest worker that let it through would make the law false.
use Rattle.std.specs.Prelude.{◌≡◌, List, [], ◌∷◌, ◌++◌, true, Some, None}
use Rattle.std.proofs.Common.{false, refl, sym, ◌∙◌}
use Rattle.xd_journal.specs.declared.entry.Outcome.TheVariants.{Passed}
use Rattle.xd_journal.specs.declared.news.News.{News}
use Rattle.xd_journal.specs.declared.news.What.{What}
use Rattle.xd_journal.specs.declared.news.What.TheVariants as what
use Rattle.xd_commands.specs.declared.order.Order.TheVariants.{Shutdown}
use Rattle.xd_run.specs.Table.{held}
use Rattle.xd_run_laws.proofs.Logic.{differ}
use Rattle.xd_worker_tests.specs.declared.input.Input.TheVariants as input
use Rattle.xd_worker_tests.specs.History.{Given, call_after, started_tests}
use Rattle.xd_worker_tests.specs.Line.{left, running_test, tests_in_line}
use Rattle.xd_session.specs.History.{run_of}
use Rattle.xd_system.specs.Moment.{IsHonestAt, LinkNow}
use Rattle.xd_system.specs.Own.{is_accused}
use Rattle.xd_system.specs.Tells.{tells}
use Rattle.xd_system.proofs.Accused.{never_accused}
use Rattle.xd_system.proofs.Scene.{link_with, run_test, after_steal, before_steal, by, given, stealing, stealing-proper, taken, ten, told_before}

-- whatever came to it and however its link stands, whoever is called in breach was not honest
not-honest : (news : List News) → is_accused 1 (run_of stealing news).entries ≡ true → (l : LinkNow)
    → IsHonestAt stealing news 1 l → ⊥
not-honest news breach l honest = differ (sym (never_accused stealing news 1 l stealing-proper honest) ∙ breach)

-- ---- one that gives back its next test, which it runs all the same

-- 8 is next, and it answers the steal by 8 and 9
abbrev gave_next : List What
gave_next = told_before ++ what.Back (8 ∷ 9 ∷ []) ∷ []

-- the controller takes that answer, gives 8 to gw0 and 9 to gw1 anew, and thinks that gw1 holds 7 and 9
taken-back : held 1 (run_of stealing (taken ++ by 1 gave_next)).state.books.table ≡ 7 ∷ 9 ∷ []
taken-back = refl

-- it has 7 and its next test, 8, in its line, and 9 is on the way to it: the equation of places is false
not-placed : held 1 (run_of stealing (taken ++ by 1 gave_next)).state.books.table ≡ 7 ∷ 8 ∷ 9 ∷ [] → ⊥
not-placed h = absurd (let e : 7 ∷ 9 ∷ [] ≡ 7 ∷ 8 ∷ 9 ∷ [] = sym taken-back ∙ h in cc)

-- it is next, so it runs, and that is a breach
steals-next : is_accused 1 (run_of stealing (taken ++ by 1 (gave_next ++ what.LogClosed 6 ∷ what.Done 7 Passed 1 ∷ what.LogStart 8 8 ∷ []))).entries ≡ true
steals-next = refl

steals-next-not-honest : (l : LinkNow)
    → IsHonestAt stealing (taken ++ by 1 (gave_next ++ what.LogClosed 6 ∷ what.Done 7 Passed 1 ∷ what.LogStart 8 8 ∷ [])) 1 l
    → ⊥
steals-next-not-honest =
    not-honest (taken ++ by 1 (gave_next ++ what.LogClosed 6 ∷ what.Done 7 Passed 1 ∷ what.LogStart 8 8 ∷ [])) steals-next

-- the machine gives nothing back there
machine-keeps-next : tells after_steal ≡ what.Ready ∷ what.Collected ten ∷ (told_before ++ what.Back [] ∷ [])
machine-keeps-next = refl

-- ---- one that answers a part of what a steal asks

answers-part : is_accused 1 (run_of stealing (taken ++ by 1 (told_before ++ what.Back (9 ∷ []) ∷ []))).entries ≡ true
answers-part = refl

answers-part-not-honest : (l : LinkNow)
    → IsHonestAt stealing (taken ++ by 1 (told_before ++ what.Back (9 ∷ []) ∷ [])) 1 l → ⊥
answers-part-not-honest = not-honest (taken ++ by 1 (told_before ++ what.Back (9 ∷ []) ∷ [])) answers-part

-- or all of it in another order than that of its line
answers-turned : is_accused 1 (run_of stealing (taken ++ by 1 (told_before ++ what.Back (9 ∷ 8 ∷ []) ∷ []))).entries ≡ true
answers-turned = refl

-- ---- one that completes anywhere in its line

-- it ran 5, and tells that 7 ended
completes-seven : is_accused 1 (run_of stealing (taken ++ by 1 (what.LogStart 5 2 ∷ what.LogClosed 2 ∷ what.Done 7 Passed 1 ∷ []))).entries ≡ true
completes-seven = refl

completes-seven-not-honest : (l : LinkNow)
    → IsHonestAt stealing (taken ++ by 1 (what.LogStart 5 2 ∷ what.LogClosed 2 ∷ what.Done 7 Passed 1 ∷ [])) 1 l → ⊥
completes-seven-not-honest =
    not-honest (taken ++ by 1 (what.LogStart 5 2 ∷ what.LogClosed 2 ∷ what.Done 7 Passed 1 ∷ [])) completes-seven

-- or it starts 7 before 5
starts-seven : is_accused 1 (run_of stealing (taken ++ by 1 (what.LogStart 7 2 ∷ []))).entries ≡ true
starts-seven = refl

-- ---- one that starts the last test of its line without its mark

-- it ran 5 to 8, and 9 is left; no Shutdown came
abbrev one_left : List Given
one_left = given (input.Done Passed 1) ∷ given (input.Done Passed 1) ∷ before_steal

-- the machine waits: it runs nothing, and has not started 9
machine-waits : running_test (call_after one_left) ≡ None
machine-waits = refl

nine-left : tests_in_line (left (call_after one_left)) ≡ 9 ∷ []
nine-left = refl

nine-unstarted : started_tests one_left ≡ 5 ∷ 6 ∷ 7 ∷ 8 ∷ []
nine-unstarted = refl

-- with the mark it starts it
nine-starts : started_tests (given (input.Command (Some Shutdown)) ∷ one_left) ≡ 5 ∷ 6 ∷ 7 ∷ 8 ∷ 9 ∷ []
nine-starts = refl

-- one that starts 9 all the same is called in no breach, since the controller cannot tell
abbrev ran_four : List What
ran_four = run_test 5 2 ++ (run_test 6 4 ++ (run_test 7 6 ++ run_test 8 8))

unmarked-unseen : is_accused 1 (run_of stealing (taken ++ by 1 (ran_four ++ what.LogStart 9 10 ∷ []))).entries ≡ false
unmarked-unseen = refl

-- but nobody honest to whom this came told so
unmarked-not-honest : IsHonestAt stealing (taken ++ by 1 (ran_four ++ what.LogStart 9 10 ∷ [])) 1 (link_with one_left)
    → ⊥
unmarked-not-honest h =
    let later = h.news.0 in
    let told : what.Ready ∷ what.Collected ten ∷ ran_four ≡ what.Ready ∷ what.Collected ten ∷ (ran_four ++ what.LogStart 9 10 ∷ later) = h.news.1 in
    absurd cc
