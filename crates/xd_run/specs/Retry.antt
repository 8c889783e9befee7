-- Which crashed tests are tried again. A choice of this project: pytest-xdist reports each of them as failed.
use Rattle.std.specs.Prelude.{ℕ, ◌+◌, Bool, false, not, ◌&&◌, nat_le, nat_lt, List, [], ◌∷◌}
use Rattle.xd_run.specs.Numbers.{times}
use Rattle.xd_run.specs.Table.{held}
use Rattle.xd_run.specs.Books.{Books}
use Rattle.xd_run.specs.Stops.{is_stopped}

-- one death more is made good by a new worker
abbrev pub may_restart : Books → Bool
may_restart b = not (is_stopped b) && nat_le (b.deaths + 1) b.settings.restarts

-- fewer workers so far died with the item at their head than the retries say
abbrev pub has_retries : ℕ → Books → Bool
has_retries item b = nat_lt (times item b.lost) b.settings.retries

-- the first of these items, which a worker holds that goes down, is tried again: it has retries left, and a new worker follows
abbrev pub retries_first : List ℕ → Books → Bool
retries_first items b = elim items [ [] ↦ false | item ∷ rest ↦ may_restart b && has_retries item b ]

-- a Down of the worker after these books is a retry
-- Example: with one retry test 0 crashes on gw0, which is a retry, and again on gw2, which is none.
abbrev pub is_retry : ℕ → Books → Bool
is_retry worker b = retries_first (held worker b.table) b
