use Rattle.std.proofs.Common.{◌≡◌, List, [], ◌∷◌, ◌++◌, rules, ap, ◌∙◌}
use Rattle.xd_value.specs.Tree.{Tree}
use Rattle.xd_value.specs.View.{view, pair_views}
use Rattle.xd_value.specs.Reading.{snoc_pair}
use Rattle.xd_value.specs.declared.value.Value.{Value}
use Rattle.xd_value.proofs.Cells.{pair_views_push}
use Rattle.xd_gateway.proofs.calls.add_pair.Goals as goal

pub returns : goal.returns
returns c =
    let grown : c.push.new.self.items ≡ c.args.pairs.now.items ++ (c.text_value-key.result, c.args.item.1) ∷ [] = search rules in
    ap (λ (ps : List (Value × Value)). pair_views ps) grown
    ∙ pair_views_push c.args.pairs.now.items c.text_value-key.result c.args.item.1
    ∙ ap (λ (k : Tree). snoc_pair (pair_views c.args.pairs.now.items) k (view c.args.item.1)) c.text_value-key.ensures
