use Rattle.std.proofs.Common.{◌∙◌}
use Rattle.xd_suite.specs.Faults.{is_test_key}
use Rattle.xd_suite.proofs.Keys.{has_only_keys-view}
use Rattle.xd_suite.proofs.table.has_test_keys.Goals as goal

pub returns : goal.returns
returns c = c.are_test_keys.ensures ∙ has_only_keys-view is_test_key c.args.table.now.entries
