-- How much output a journal keeps.
use Rattle.std.specs.Prelude.{◌≡◌, ◌≤◌, Bool, true, nat_le, List, length}
use Rattle.std.specs.List.{list_all}
use Rattle.xd_journal.specs.declared.entry.Entry.{Entry}
use Rattle.xd_journal.specs.declared.entry.Entry.TheVariants.{Done, Down}
use Rattle.xd_journal.specs.Kept.{most_of_all, most_of_one}
use Rattle.xd_run.specs.Meaning.{spent_by}

-- what the entry keeps of a test is no more than may be kept of one
abbrev pub keeps_few : Entry → Bool
keeps_few (Done worker index outcome ms output) = nat_le (length output) most_of_one
keeps_few (Down worker cause output) = nat_le (length output) most_of_one
keeps_few _ = true

-- each entry keeps no more than may be kept of one test, and all together no more than may be kept of all
-- Example: of a failed test that wrote 10,000 bytes 8,192 are kept.
pub record IsBounded (entries : List Entry) : Type 0 where
  pub each : list_all keeps_few entries ≡ true
  pub together : spent_by entries ≤ most_of_all
