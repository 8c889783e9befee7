-- Which of the peer's numbers came.
use Rattle.std.specs.Prelude.{ℕ, ◌/◌, Bool}
use Rattle.xd_factory.specs.declared.seen.Seen.{Seen}
use Rattle.xd_factory.specs.inner.Runs.{in_runs}

-- the number came: of the numbers of one parity each has a place of its own
-- Example: after 1, 5 and 3 of the peer's odd numbers there is one run, and 7 did not come.
abbrev pub was_seen : Seen → ℕ → Bool
was_seen s c = in_runs s.places (c / 2)
