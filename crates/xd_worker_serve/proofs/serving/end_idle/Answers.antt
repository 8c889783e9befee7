use Rattle.std.proofs.Common.{List, [], ◌∷◌, ◌++◌, ap, ◌∙◌}
use Rattle.xd_worker_runner.specs.Orders.{Order}
use Rattle.xd_worker_serve.proofs.Finals.{idle_mail, idle_ran}
use Rattle.xd_worker_serve.proofs.serving.end_idle.Goals as goal

pub close_with-ordered-requires : goal.close_with-ordered-requires
close_with-ordered-requires g c = let f = c.requires.fresh in idle_mail _ _ _ _ _ _ _ _ f.1 c.put.ensures.ring f.2 c.join-children.ensures.gives.0

pub returns-clause-runs : goal.returns-clause-runs
returns-clause-runs g c =
    let f = c.requires.fresh in
    (idle_ran _ _ _ _ _ _ _ _ c.close_with-ordered.result.rest _ f.1 c.put.ensures.ring f.2
    (c.put.ensures.put ∙ (ap (λ (l : List Order). l ++ c.no_order.result ∷ []) f.0 ∙ ap (λ (o : Order). o ∷ []) c.no_order.ensures)) c.join-children.ensures.gives.0 c.close_with-ordered.ensures.emptied).0

pub returns-clause-faults : goal.returns-clause-faults
returns-clause-faults g c =
    let f = c.requires.fresh in
    (idle_ran _ _ _ _ _ _ _ _ c.close_with-ordered.result.rest _ f.1 c.put.ensures.ring f.2
    (c.put.ensures.put ∙ (ap (λ (l : List Order). l ++ c.no_order.result ∷ []) f.0 ∙ ap (λ (o : Order). o ∷ []) c.no_order.ensures)) c.join-children.ensures.gives.0 c.close_with-ordered.ensures.emptied).1
