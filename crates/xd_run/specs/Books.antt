-- What the controller keeps of a run, but for the mode's plan.
use Rattle.std.specs.Prelude.{ℕ, Bool, List, map, Option}
use Rattle.xd_journal.specs.declared.settings.Settings.{Settings}
use Rattle.xd_journal.specs.declared.entry.RunStop.{RunStop}
use Rattle.xd_run.specs.declared.member.Member.{Member}
use Rattle.xd_run.specs.declared.member.Listed.{Listed}
use Rattle.xd_run.specs.Table.{Table}

-- the books of a run: its workers, collections, table, counts and first stop; pytest-xdist keeps them in DSession
-- Example: gw0 died at slot 0 and gw2 replaces it: the members are gw0, gw1, gw2 at 0, 1, 0, and gw0 is not active.
pub record Books : Type 0 where
  pub settings : Settings
  pub members : List Member  -- whoever was started, in order of starts
  pub lists : List Listed  -- the collections that others are compared with
  pub table : Table
  pub shared : Bool  -- the tests were shared
  pub failures : ℕ
  pub deaths : ℕ
  pub lost : List ℕ  -- the heads of the workers that died, in order of the deaths
  pub stop : Option RunStop  -- the first stop
  pub shutting : Bool  -- nothing is left to hand out

-- the books with their table changed so
abbrev pub on_table : (Table → Table) → Books → Books
on_table change b = record b { table = change b.table }

-- the books with each member changed so
abbrev pub marked : (Member → Member) → Books → Books
marked change b = record b { members = map change b.members }
