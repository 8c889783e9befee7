-- Which of the news that a hub gives are taken. pytest-xdist's loop, too, drops what comes of a worker that is not
-- active.
use Rattle.std.specs.Prelude.{◌≡◌, false, List, [], ◌∷◌, ◌++◌, fold, if◌then◌else◌}
use Rattle.xd_journal.specs.declared.settings.Settings.{Settings}
use Rattle.xd_journal.specs.declared.news.News.{News}
use Rattle.xd_run.specs.Histories.{is_over}
use Rattle.xd_run.specs.Workers.{is_active}
use Rattle.xd_session.specs.History.{Run, run_of}

-- after these news a further one is taken where its worker is active
abbrev pub taken_with : Settings → List News → News → List News
taken_with settings taken n = if is_active n.worker (run_of settings taken).state.books then taken ++ n ∷ [] else taken

-- the news that are taken of those that were given
-- Example: gw0 died, and then a result of gw0 comes: it was given and not taken.
abbrev pub taken_of : Settings → List News → List News
taken_of settings given = fold (taken_with settings) [] given

-- the run that the news make, where those of workers that are not active are dropped
abbrev pub run_given : Settings → List News → Run
run_given settings given = run_of settings (taken_of settings given)

-- None of these news was asked for where the run was over: after the news before it the run was not.
-- Example: the last worker finishes: that its link ends then is not waited for.
abbrev pub AreInTime : Settings → List News → Type 0
AreInTime settings given = (before : List News) (n : News) (after : List News) → given ≡ before ++ n ∷ after → is_over (run_given settings before).state.books ≡ false
