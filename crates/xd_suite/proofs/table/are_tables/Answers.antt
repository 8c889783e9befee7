use Rattle.std.proofs.Common.{◌∙◌}
use Rattle.xd_suite.specs.Faults.{is_table}
use Rattle.xd_suite.proofs.Items.{all_items-view}
use Rattle.xd_suite.proofs.table.are_tables.Goals as goal

pub returns : goal.returns
returns c = c.each_is_table.ensures ∙ all_items-view is_table c.args.array.now.items
