use Rattle.std.proofs.Common.{sym, ap, ◌∙◌, arith}
use Rattle.xd_value.specs.View.{view}
use Rattle.xd_value.proofs.Walks.{view-Tuple}
use Rattle.xd_commands.specs.Calls.{call_in}
use Rattle.xd_commands.proofs.Tuples.{not_two, just_two}
use Rattle.xd_commands.proofs.call.call_of.Goals as goal

pub returns-then-len-ne2 : goal.returns-then-len-ne2
returns-then-len-ne2 c =
    sym (not_two c.in-Tuple.items.items (λ two. omega arith)) ∙ ap call_in (sym (ap view c.in-Tuple.is ∙ view-Tuple c.in-Tuple.items))

pub returns : goal.returns
returns c =
    c.call_by.ensures
    ∙ just_two c.in-Tuple.items.items c.index.result.now c.index-2.result.now (omega arith) c.index.ensures c.index-2.ensures
    ∙ ap call_in (sym (ap view c.in-Tuple.is ∙ view-Tuple c.in-Tuple.items))
