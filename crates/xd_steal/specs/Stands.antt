-- The plans that a mode worksteal stands for.
use Rattle.std.specs.Prelude.{◌≡◌, ℕ, List, Option, option_map}
use Rattle.xd_edge.specs.declared.mode.ModeKind.TheVariants.{WorkSteal}
use Rattle.xd_journal.specs.declared.entry.Entry.{Entry}
use Rattle.xd_run.specs.Plan.{Plan}
use Rattle.xd_run.specs.Table.{Table}
use Rattle.xd_run.specs.Turn.{Turn}

-- it keeps which worker has not answered its steal
-- Example: after the death of the worker that was asked, a mode that still keeps it stands for no plan of the run.
pub record StandsForSteal (asked : Option ℕ) (p : Plan) : Type 0 where
  pub mode : p.mode ≡ WorkSteal
  pub steal : option_map (λ a. a.worker) p.steal ≡ asked

-- the table and the outputs are those of this turn, and the mode stands for its plan
pub record MatchesTurn (u : Turn) (t : Table) (acts : List Entry) (asked : Option ℕ) : Type 0 where
  pub table_is : t ≡ u.table
  pub acts_are : acts ≡ u.acts
  pub stands_for : StandsForSteal asked u.plan
