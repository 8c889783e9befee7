-- Results that the first tests of a run without workers can have had.
use Rattle.std.specs.Prelude.{◌≡◌, ℕ, ◌+◌, ◌<◌, ◌≤◌, true, List, [], ◌∷◌, take, length, None}
use Rattle.xd_journal.specs.declared.settings.Settings.{Settings}
use Rattle.xd_journal.specs.Local.{TestResult}
use Rattle.xd_run.specs.Legal.{books_after}
use Rattle.xd_replay.specs.Alone.{all_kept}

-- how many bytes are kept once these results came, where those before them keep `spent`
abbrev pub kept_after : ℕ → List TestResult → ℕ
kept_after spent [] = spent
kept_after spent (r ∷ rs) = kept_after (spent + length r.output) rs

-- these results can be those of the first tests of such a run
pub record CanResult (settings : Settings) (ids : List (List ℕ)) (results : List TestResult) : Type 0 where
  pub within : length results ≤ length ids
  pub unstopped : (k : ℕ) → k < length results → (books_after settings ids (take k results)).stop ≡ None
  pub kept : all_kept 0 results ≡ true
