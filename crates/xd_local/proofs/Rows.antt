-- Moments that come too late.
use Rattle.std.specs.Prelude.{◌≡◌, List, [], ◌∷◌, length, map, false, Option, Some, None}
use Rattle.std.proofs.Common.{ℕ, ap, arith, inl, inr, sym}
use Rattle.std.proofs.lemmas.List.{length-map}
use Rattle.xd_edge.specs.Children.{ChildRun}
use Rattle.xd_edge.specs.Sink.{Sunk}
use Rattle.xd_suite.specs.declared.test.Test.{Test}
use Rattle.xd_journal.specs.declared.entry.Outcome.{Outcome}
use Rattle.xd_journal.specs.declared.settings.Settings.{Settings}
use Rattle.xd_journal.specs.Local.{TestResult, local_entries}
use Rattle.xd_child.specs.Ending.{outcome_of}
use Rattle.xd_report.specs.Lines.{run_lines}
use Rattle.xd_local.specs.Local.{IsAfterTest, RoundSeen}

abbrev nothing : Sunk
nothing = record { bytes = []; flushed = 0; closed = false }

abbrev seen_at : List ChildRun → RoundSeen
seen_at runs = record { runs = Some runs; sunk = Some nothing }

abbrev bytes_in : Option Sunk → List ℕ
bytes_in None = []
bytes_in (Some s) = s.bytes

abbrev count_of : Option (List ChildRun) → ℕ
count_of None = 0
count_of (Some runs) = length runs

module _ (settings : Settings) (tests : List Test) (r : TestResult) where
  -- the line of the first test was not handed on yet, and is not empty
  not_printed : (runs : List ChildRun) → (run_lines settings (local_entries (map (λ t. t.id) tests) (r ∷ [])) ≡ [] → ⊥) → IsAfterTest settings tests [] r (seen_at []) (seen_at runs) → ⊥
  not_printed runs some m = elim m.shows [
    | inl h ↦ some h.0
    | inr h ↦ some (sym (ap bytes_in h))
  ]

  -- the second test was started already
  started_more : (a b : ChildRun) (m : RoundSeen) → m.runs ≡ Some (a ∷ b ∷ []) → IsAfterTest settings tests [] r (seen_at []) m → ⊥
  started_more a b m two after =
      let ran = after.ran in
      omega (arith, ap count_of two, ap count_of ran.added, ap length ran.outcomes, length-map ran.runs (λ (c : ChildRun). outcome_of c.fate), length-map (r ∷ []) (λ (t : TestResult). Some t.outcome))
