use Rattle.std.proofs.Common.{◌≡◌, List, ℕ, true, sym, subst, ap, ◌∙◌}
use Rattle.std.specs.Prelude.{◌==◌}
use Rattle.std.proofs.lemmas.Result.{on_ok_weaker}
use Rattle.xd_ledger.specs.Calls.{turn}
use Rattle.xd_run.specs.Numbers.{all_among}
use Rattle.xd_run.specs.Table.{workers_of}
use Rattle.xd_run.specs.Turn.{Turn}
use Rattle.xd_run.specs.Worksteal.{after_dealing}
use Rattle.xd_steal.specs.Stands.{MatchesTurn}
use Rattle.xd_steal.proofs.Rota.{idle_seated}
use Rattle.xd_steal.proofs.Rules.{rule-deals}
use Rattle.xd_steal.proofs.rule.rule.Goals as goal

pub deal-requires : goal.deal-requires
deal-requires c =
    let t = c.args.ledger.now in
    subst (λ (ws : List ℕ). all_among ws (workers_of t) ≡ true) (sym (c.deref.ensures.value ∙ c.workers.view_is ∙ c.in_ok-workers.ensures)) (idle_seated t)

pub returns : goal.returns
returns c =
    let ws : List ℕ = c.deref.result.now in
    let e = c.deref.ensures.value ∙ c.workers.view_is ∙ c.in_ok-workers.ensures in
    let some = ap (λ n. n == 0) c.deref.ensures.len ∙ sym c.if-is_empty.ensures in
    on_ok_weaker c.after_dealing.result (λ after p s. (let u = turn c.args.ledger.now p c.args.acts.now.items in
    subst (λ (v : Turn). MatchesTurn v c.after_dealing.new.ledger c.after_dealing.new.acts.items c.after_dealing.new.asked)
    (ap after_dealing (c.in_ok-deal.ensures.dealt p) ∙ sym (rule-deals ws u e some)) (after p s))) c.after_dealing.ensures
