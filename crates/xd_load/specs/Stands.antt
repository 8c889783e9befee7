-- The plans that a mode load stands for.
use Rattle.std.specs.Prelude.{◌≡◌, ℕ, Option, None, sum}
use Rattle.xd_edge.specs.declared.mode.ModeKind.TheVariants.{Load}
use Rattle.xd_run.specs.Plan.{Plan, chunk_of}

-- it keeps the setting of the chunk and the number of tests, and nobody steals
-- Example: `Load::new` with a chunk of 3 stands for no plan whose chunk is 4.
pub record StandsForLoad (setting : Option ℕ) (total : ℕ) (p : Plan) : Type 0 where
  pub mode : p.mode ≡ Load
  pub chunk : p.chunk ≡ setting
  pub tests : sum p.sizes ≡ total
  pub steal : p.steal ≡ None

-- a plan of mode load whose chunk is this one
pub record InChunks (most : ℕ) (p : Plan) : Type 0 where
  pub mode : p.mode ≡ Load
  pub chunk : chunk_of p ≡ most
