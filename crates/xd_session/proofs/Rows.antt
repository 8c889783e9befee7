-- Small runs that the laws of sessions speak of, and a journal that they rule out.
use Rattle.std.specs.Prelude.{◌≡◌, List, [], ◌∷◌, true, None}
use Rattle.std.proofs.Common.{refl, ap}
use Rattle.xd_edge.specs.declared.mode.ModeKind.TheVariants.{Load}
use Rattle.xd_journal.specs.declared.settings.Settings.{Settings}
use Rattle.xd_journal.specs.declared.entry.Cause.TheVariants.{Ended}
use Rattle.xd_journal.specs.declared.entry.Ids.TheVariants as ids
use Rattle.xd_journal.specs.declared.entry.Entry.{Entry}
use Rattle.xd_journal.specs.declared.entry.Entry.TheVariants.{Ready, Collected, Down, Start, Run, Shutdown, Kill}
use Rattle.xd_journal.specs.declared.news.News.{News}
use Rattle.xd_journal.specs.declared.news.What.TheVariants as what
use Rattle.xd_run.specs.Proper.{IsProper}
use Rattle.xd_session.specs.History.{run_of}
use Rattle.xd_session.specs.Part.{inputs_by, meant_by}
use Rattle.xd_session.proofs.Part.{part-of}

-- mode load with one worker
abbrev pub alone : Settings
alone = record { mode = Load; workers = 1; maxfail = 0; restarts = 8; chunk = None; reorder = true; retries = 0 }

alone-proper : IsProper alone []
alone-proper = record { mode = refl; some_worker = refl; few_workers = refl; few_restarts = refl; follow = refl }

-- the worker collects one test and starts its log, then its link is gone; what comes then is not heard
abbrev a_loss : List News
a_loss =
    record { worker = 0; what = what.Ready } ∷ record { worker = 0; what = what.Collected ((97 ∷ []) ∷ []) } ∷ record { worker = 0; what = what.LogStart 0 2 }
    ∷ record { worker = 0; what = what.Gone Ended } ∷ record { worker = 0; what = what.Ready } ∷ []

a_loss-inputs : inputs_by 0 (run_of alone a_loss).entries ≡ Ready 0 ∷ Collected 0 (ids.List ((97 ∷ []) ∷ [])) ∷ Down 0 Ended [] ∷ []
a_loss-inputs = refl

a_loss-meant : meant_by alone 0 a_loss ≡ Ready 0 ∷ Collected 0 (ids.List ((97 ∷ []) ∷ [])) ∷ Down 0 Ended [] ∷ []
a_loss-meant = refl

-- with one retry the test goes to the worker that comes for it, and nothing is kept of its output; its second crash keeps it
abbrev two_losses : List News
two_losses =
    record { worker = 0; what = what.Ready } ∷ record { worker = 0; what = what.Collected ((97 ∷ []) ∷ []) } ∷ record { worker = 0; what = what.LogStart 0 2 }
    ∷ record { worker = 0; what = what.Piece 2 (104 ∷ []) } ∷ record { worker = 0; what = what.Gone Ended } ∷ record { worker = 1; what = what.Ready }
    ∷ record { worker = 1; what = what.Collected ((97 ∷ []) ∷ []) } ∷ record { worker = 1; what = what.LogStart 0 2 } ∷ record { worker = 1; what = what.Piece 2 (105 ∷ []) }
    ∷ record { worker = 1; what = what.Gone Ended } ∷ []

a_retry : (run_of (record alone { retries = 1 }) two_losses).entries
    ≡ (Start 0 0 ∷ Ready 0 ∷ Collected 0 (ids.List ((97 ∷ []) ∷ [])) ∷ Run 0 (0 ∷ []) ∷ Shutdown 0 ∷ Down 0 Ended [] ∷ Kill 0 ∷ Start 1 0 ∷ Ready 1 ∷ Collected 1 ids.Same ∷ Run 1 (0 ∷ []) ∷ Shutdown 1
    ∷ Down 1 Ended (105 ∷ []) ∷ Kill 1 ∷ Start 2 0 ∷ [])
a_retry = refl

-- a worker collects after its end
abbrev collects_late : List Entry
collects_late = Start 0 0 ∷ Ready 0 ∷ Down 0 Ended [] ∷ Kill 0 ∷ Start 1 0 ∷ Collected 0 (ids.List ((97 ∷ []) ∷ [])) ∷ []

not_after_the_end : (taken : List News) → (run_of alone taken).entries ≡ collects_late → ⊥
not_after_the_end taken h =
    let late : List Entry = Collected 0 (ids.List ((97 ∷ []) ∷ [])) ∷ [] in
    let part = part-of alone taken 0 alone-proper in
    let none : late ≡ [] = part.none_later (Ready 0 ∷ []) late (Down 0 Ended []) (ap (inputs_by 0) h) refl in
    absurd cc
