use Rattle.std.proofs.Common.{rules, not, ap, ◌∙◌}
use Rattle.std.proofs.lemmas.Fn.{filter_same}
use Rattle.xd_run.specs.Numbers.{among, without}
use Rattle.xd_held.proofs.held.Held.walk.Goals as goal

pub returns : goal.returns
returns c =
    filter_same _ (λ x. not (among x c.args.items.now)) _ (λ x b w h. search rules) _ _ c.retain.ensures.filtered ∙ ap (without c.args.items.now) c.self.view_is
