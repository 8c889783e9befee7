use Rattle.std.proofs.Common.{sym, ap, ◌∙◌, arith}
use Rattle.xd_value.specs.View.{view}
use Rattle.xd_value.proofs.Walks.{view-Tuple}
use Rattle.xd_commands.specs.Functions.{called_in}
use Rattle.xd_commands.proofs.Fours.{not_four, just_four}
use Rattle.xd_commands.proofs.function.read_call.Goals as goal

pub returns-then-len-ne4 : goal.returns-then-len-ne4
returns-then-len-ne4 c =
    sym (not_four c.args.started c.in-Tuple.items.items (λ four. omega arith)) ∙ ap (called_in c.args.started) (sym (ap view c.in-Tuple.is ∙ view-Tuple c.in-Tuple.items))

pub returns : goal.returns
returns c =
    c.in_ok-called.ensures
    ∙ just_four c.args.started c.in-Tuple.items.items c.index.result.now c.index-2.result.now c.index-3.result.now c.index-4.result.now (omega arith) c.index.ensures c.index-2.ensures c.index-3.ensures c.index-4.ensures
    ∙ ap (called_in c.args.started) (sym (ap view c.in-Tuple.is ∙ view-Tuple c.in-Tuple.items))
