-- The ids of a run's items, and that its report names them by these.
use Rattle.std.specs.Prelude.{ℕ, zero, suc, ◌+◌, List, [], ◌++◌}
use Rattle.xd_journal.specs.declared.journal.Journal.{Journal}
use Rattle.xd_run.specs.declared.member.Listed.{Listed}
use Rattle.xd_run.specs.Books.{Books}
use Rattle.xd_run.specs.Reports.{reports_in}
use Rattle.xd_run.specs.Sharing.{ids_at}
use Rattle.xd_run.specs.State.{no_one, state_at}
use Rattle.xd_run_laws.specs.Collected.{slots}
use Rattle.xd_report.specs.Blocks.{blocks_from}
use Rattle.xd_report.specs.EachReport.{HasNamedBlockEach, HasNamedLineEach, id_in, kept_outputs}
use Rattle.xd_report.specs.Lines.{run_lines}

-- the ids of n slots, one slot after the other, from this slot on
abbrev pub ids_from : List Listed → ℕ → ℕ → List (List ℕ)
ids_from ls slot zero = []
ids_from ls slot (suc n) = ids_at slot ls ++ ids_from ls (slot + 1) n

-- the ids of the items, in order: those of the first collection, in mode each of the first one of each slot
-- Example: in mode each slot 0 has `a` and `b`, and slot 1 has `c`: item 2 is `c`.
abbrev pub item_ids : Books → List (List ℕ)
item_ids b = ids_from b.lists 0 (slots b.settings)

-- the ids of the items of a journal, in order
abbrev pub ids_in : Journal → List (List ℕ)
ids_in j = item_ids (state_at j.settings j.entries.items).books

-- In the report of the journal the line of each report and of each test that is tried again, and the block of each failed
-- report, gives the id of its item.
-- Example: in mode each gw1 at slot 1 passes its test 0, whose item has the id `c`: the line is `[gw1] PASSED c`.
pub record NamesItems (j : Journal) : Type 0 where
  pub lines : HasNamedLineEach (id_in (ids_in j)) j.settings.mode (run_lines j.settings j.entries.items) (reports_in j)
  pub blocks : HasNamedBlockEach (id_in (ids_in j)) j.settings.mode (blocks_from (no_one j.settings) j.entries.items) (reports_in j) (kept_outputs j.settings j.entries.items)
