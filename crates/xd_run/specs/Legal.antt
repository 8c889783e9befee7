-- Which journals a run may have. A choice of this project.
use Rattle.std.specs.Prelude.{ℕ, ◌≡◌, ◌==◌, ◌<◌, ◌≤◌, ◌⊎◌, ◌||◌, Bool, true, List, [], ◌∷◌, ◌++◌, length, take, None}
use Rattle.std.specs.List.{list_all}
use Rattle.xd_edge.specs.declared.mode.ModeKind.TheVariants.{Local}
use Rattle.xd_journal.specs.declared.settings.Settings.{Settings}
use Rattle.xd_journal.specs.declared.entry.Entry.{Entry}
use Rattle.xd_journal.specs.declared.entry.Entry.TheVariants.{Over}
use Rattle.xd_journal.specs.declared.entry.RunStop.TheVariants.{OutFault}
use Rattle.xd_journal.specs.declared.journal.Journal.{Journal}
use Rattle.xd_journal.specs.Local.{TestResult, local_entries}
use Rattle.xd_run.specs.Books.{Books}
use Rattle.xd_run.specs.Stops.{is_stopped}
use Rattle.xd_run.specs.State.{is_input, state_at}
use Rattle.xd_run.specs.Histories.{journal_of, after_inputs, after_starts, run_end_of}
use Rattle.xd_run.specs.Proper.{has_workers}
use Rattle.xd_run.specs.Ending.{ending, may_close, stop_of}

-- These are the last entries of a run with workers that has these books: none as long as it has no end, and else its end.
abbrev pub EndsWith : Books → List Entry → Type 0
EndsWith b last = (last ≡ []) ⊎ ((out_failed : Bool) × (may_close out_failed b ≡ true) × (last ≡ ending out_failed b))

-- what a run of these settings keeps after the collection and the first tests
abbrev pub books_after : Settings → List (List ℕ) → List TestResult → Books
books_after settings ids results = (state_at settings (local_entries ids results)).books

-- The journal of a run without workers, with its end: the collection, then each test in suite order, none after the
-- one that stopped the run, and then the end. It ends with the first stop, or complete after the last test; where the
-- output failed it may end after any test.
pub record RunsAlone (j : Journal) : Type 0 where
  pub mode : j.settings.mode ≡ Local
  pub ids : List (List ℕ)
  pub results : List TestResult
  pub entries : j.entries.items ≡ local_entries ids results ++ Over (stop_of j) ∷ []
  pub within : length results ≤ length ids
  pub unstopped : (k : ℕ) → k < length results → (books_after j.settings ids (take k results)).stop ≡ None
  pub ends : (stop_of j ≡ OutFault)
      ⊎ ((stop_of j ≡ run_end_of (books_after j.settings ids results))
      × ((is_stopped (books_after j.settings ids results) || (length results == length ids)) ≡ true))

-- The journal of a run with workers, so far or with its end: the first Start entries, each input with its outputs after
-- it, and then the end, where the run is over, or anywhere where the output failed.
pub record RunsWithWorkers (j : Journal) : Type 0 where
  pub mode : has_workers j.settings.mode ≡ true
  pub inputs : List Entry
  pub are_inputs : list_all is_input inputs ≡ true
  pub last : List Entry
  pub entries : j.entries.items ≡ journal_of j.settings inputs ++ last
  pub ends : EndsWith (after_inputs (after_starts j.settings) inputs).books last

-- A journal that a run may have: one without workers with its end, or one with workers, so far or with its end.
-- Example: Collected a, b; Run 0, Done 0; Over OutFault is legal without workers; with Run 1 after it, it is not.
abbrev pub IsLegal : Journal → Type 0
IsLegal j = RunsAlone j ⊎ RunsWithWorkers j
