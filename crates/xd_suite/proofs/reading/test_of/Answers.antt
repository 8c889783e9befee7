use Rattle.std.proofs.Common.{ℕ, ◌<◌, List, length, sym, subst}
use Rattle.toml.specs.View.{table_view}
use Rattle.xd_suite.proofs.Runs.{runs_something}
use Rattle.xd_suite.proofs.reading.test_of.Goals as goal

pub returns-clause-run : goal.returns-clause-run
returns-clause-run c = subst (λ (l : List (List ℕ)). 0 < length l) (sym c.in_ok-run.ensures) (runs_something (table_view c.args.table.now) c.requires)
