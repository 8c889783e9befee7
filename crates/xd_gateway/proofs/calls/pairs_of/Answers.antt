use Rattle.std.proofs.Common.{sym, ap, ◌∙◌}
use Rattle.xd_value.specs.Tree.{Pairs, text}
use Rattle.xd_value.specs.View.{view}
use Rattle.xd_value.specs.Reading.{snoc_pair}
use Rattle.xd_gateway.proofs.Kwargs.{kwargs_push}
use Rattle.xd_gateway.proofs.calls.pairs_of.Goals as goal

pub loop-item-preserved : goal.loop-item-preserved
loop-item-preserved c =
    c.in_ok-add_pair.ensures
    ∙ ap (λ (ps : Pairs). snoc_pair ps (text c.in-Some.item.0) (view c.in-Some.item.1)) c.loop-item.invariant
    ∙ sym (kwargs_push c.loop-item.yielded c.in-Some.item)
