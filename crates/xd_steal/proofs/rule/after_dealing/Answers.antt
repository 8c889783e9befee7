use Rattle.std.proofs.Common.{◌≡◌, List, ℕ, true, sym, subst, ◌∙◌}
use Rattle.xd_run.specs.Numbers.{all_among}
use Rattle.xd_run.specs.Table.{workers_of}
use Rattle.xd_steal.proofs.Rota.{idle_seated}
use Rattle.xd_steal.proofs.rule.after_dealing.Goals as goal

pub ask_or_shut-requires-clause-seated : goal.ask_or_shut-requires-clause-seated
ask_or_shut-requires-clause-seated c =
    let t = c.args.ledger.now in
    subst (λ (ws : List ℕ). all_among ws (workers_of t) ≡ true) (sym (c.deref.ensures.value ∙ c.workers.view_is ∙ c.in_ok-workers.ensures)) (idle_seated t)
