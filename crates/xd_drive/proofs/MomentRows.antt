-- Moments of a small run, and moments that come too late.
use Rattle.std.specs.Prelude.{◌≡◌, ℕ, List, [], ◌∷◌, length, drop, Bool, true, false, Option, Some, None}
use Rattle.std.proofs.Common.{ap, inl, inr, refl, sym}
use Rattle.xd_edge.specs.declared.mode.ModeKind.TheVariants.{Load}
use Rattle.xd_edge.specs.Sink.{Sunk}
use Rattle.xd_journal.specs.declared.settings.Settings.{Settings}
use Rattle.xd_journal.specs.declared.entry.Entry.{Entry}
use Rattle.xd_journal.specs.declared.entry.Entry.TheVariants.{Run, Shutdown, Start}
use Rattle.xd_journal.specs.declared.news.News.{News}
use Rattle.xd_journal.specs.declared.news.What.TheVariants as what
use Rattle.xd_run_laws.proofs.Logic.{differ}
use Rattle.xd_report.specs.Lines.{run_lines}
use Rattle.xd_drive.specs.Marks.{no_marks}
use Rattle.xd_drive.specs.Moments.{IsBetween}
use Rattle.xd_drive.specs.Seen.{HubScene, HubSeen, TurnScene}
use Rattle.xd_drive.specs.Taken.{run_given}

-- one worker, which is ready and has the test a
abbrev one_worker : Settings
one_worker = record { mode = Load; workers = 1; maxfail = 0; restarts = 8; chunk = None; reorder = true; retries = 0 }

abbrev ready : News
ready = record { worker = 0; what = what.Ready }

abbrev collected : News
collected = record { worker = 0; what = what.Collected ((97 ∷ []) ∷ []) }

-- the line of the collection
abbrev line : List ℕ
line = run_lines one_worker (run_given one_worker (ready ∷ collected ∷ [])).entries

abbrev scene : List Entry → List News → List ℕ → TurnScene
scene calls given bytes = record { seen = Some (record { calls = calls; given = given }); sunk = Some (record { bytes = bytes; flushed = length bytes; closed = false }) }

-- nothing was called for, given or printed
abbrev first : HubScene
first = record { marks = λ w. no_marks; seen = (scene [] [] []).seen; sunk = (scene [] [] []).sunk }

-- the line was handed on, and the worker was not told to run the test
in_time : IsBetween one_worker (ready ∷ []) collected first (scene (Start 0 0 ∷ []) (ready ∷ collected ∷ []) line)
in_time = record { tells = refl; shows = inr refl }

abbrev is_none : {A : Type 0} → List A → Bool
is_none [] = true
is_none (x ∷ xs) = false

abbrev bytes_in : Option Sunk → List ℕ
bytes_in None = []
bytes_in (Some s) = s.bytes

abbrev called_once : Option HubSeen → Bool
called_once None = true
called_once (Some s) = is_none (drop 1 s.calls)

-- it was not handed on yet, and is not empty
too_late : (line ≡ [] → ⊥) → IsBetween one_worker (ready ∷ []) collected first (scene (Start 0 0 ∷ []) (ready ∷ collected ∷ []) []) → ⊥
too_late some b = elim b.shows [
  | inl h ↦ some h.0
  | inr h ↦ some (sym (ap bytes_in h))
]

-- the worker was told before
performed_before : IsBetween one_worker (ready ∷ []) collected first (scene (Start 0 0 ∷ Run 0 (0 ∷ []) ∷ Shutdown 0 ∷ []) (ready ∷ collected ∷ []) line) → ⊥
performed_before b = (let n : false ≡ true = ap called_once b.tells in differ n)
