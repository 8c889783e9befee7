use Rattle.std.proofs.Common.{◌≡◌, ◌∙◌, length, rules}
use Rattle.xd_suite.proofs.Items.{count_items-view}
use Rattle.xd_suite.proofs.table.count.Goals as goal

pub returns-clause-count : goal.returns-clause-count
returns-clause-count c =
    let is : c.len.result ≡ length c.args.array.now.items = search rules in
    is ∙ count_items-view c.args.array.now.items
