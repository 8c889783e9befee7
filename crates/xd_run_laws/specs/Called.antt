-- The states of proper runs, and the calls of the mode there.
use Rattle.std.specs.Prelude.{◌≡◌, List}
use Rattle.xd_journal.specs.declared.entry.Entry.{Entry}
use Rattle.xd_journal.specs.declared.settings.Settings.{Settings}
use Rattle.xd_run.specs.Histories.{after_starts, after_inputs}
use Rattle.xd_run.specs.Modes.{ModeCall, turned}
use Rattle.xd_run.specs.Outputs.{acts_of, turn_of}
use Rattle.xd_run.specs.Proper.{IsProper}
use Rattle.xd_run.specs.Sharing.{State}
use Rattle.xd_run.specs.State.{after_entries}
use Rattle.xd_run.specs.Suits.{Finds}

-- the table fits the plan, and what the mode says makes of the state what its rule computes
-- Example: after the Done that left gw0 one test, mode load's Run of two more moves these two from the pool.
pub record Called (c : ModeCall) (s : State) : Type 0 where
  pub finds : Finds c s.plan s.books.table
  pub table : (after_entries s (acts_of c s)).books.table ≡ (turned s.plan.mode c (turn_of s)).table
  pub plan : (after_entries s (acts_of c s)).plan ≡ (turned s.plan.mode c (turn_of s)).plan

-- the state is that after the inputs of a proper run and all that follows them
pub record Reached (s : State) : Type 0 where
  pub settings : Settings
  pub inputs : List Entry
  pub proper : IsProper settings inputs
  pub state : s ≡ after_inputs (after_starts settings) inputs
