-- Which numbers a set of runs has.
use Rattle.std.specs.Prelude.{ℕ, nat_le, ◌&&◌, Bool}
use Rattle.std.specs.List.{list_any}
use Rattle.xd_factory.specs.declared.runs.Runs.{Runs}

-- the number stands in the run, which is its first and its last number
abbrev pub is_between : ℕ → ℕ × ℕ → Bool
is_between c run = nat_le run.0 c && nat_le c run.1

-- the number stands in one of the runs
abbrev pub in_runs : Runs → ℕ → Bool
in_runs s c = list_any (is_between c) s.lasts.entries
