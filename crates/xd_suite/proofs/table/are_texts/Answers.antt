use Rattle.std.proofs.Common.{◌∙◌}
use Rattle.xd_suite.specs.Faults.{is_toml_text}
use Rattle.xd_suite.proofs.Items.{all_items-view}
use Rattle.xd_suite.proofs.table.are_texts.Goals as goal

pub returns : goal.returns
returns c = c.each_is_text.ensures ∙ all_items-view is_toml_text c.args.array.now.items
