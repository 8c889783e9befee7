use Rattle.std.proofs.Common.{rules, map, ap, ◌∙◌, not, ◌==◌}
use Rattle.std.proofs.lemmas.Fn.{filter_same}
use Rattle.xd_held.specs.Holders.{seat_of_holder}
use Rattle.xd_held.proofs.HolderFacts.{left-seats}
use Rattle.xd_held.proofs.holder.leave.Goals as goal

pub returns : goal.returns
returns c =
    let e = filter_same _ (λ d. not (d.worker == c.args.worker)) _ (λ x b w h. search rules) _ _ c.retain.ensures.filtered in
    ap (map seat_of_holder) e ∙ left-seats c.args.worker c.args.rota.now.items
