use Rattle.std.proofs.Common.{ℕ, List, take, ap, arith}
use Rattle.std.proofs.lemmas.List.{take_all}
use Rattle.xd_ledger.specs.Calls.{turn}
use Rattle.xd_run.specs.ScopeModes.{scope_refill}
use Rattle.xd_run.specs.Table.{workers_of}
use Rattle.xd_run.specs.Turn.{in_turn}
use Rattle.xd_scope.proofs.Turned.{is-at-same}
use Rattle.xd_scope.proofs.refill.refill_all.Goals as goal

pub returns : goal.returns
returns c = λ p h.
    (let ws = workers_of c.args.ledger.now in
    let t = turn c.args.ledger.now p c.args.acts.now.items in
    let all = take_all c.rota_len-count.result ws (omega (arith, c.rota_len-count.ensures)) in
    is-at-same (in_turn scope_refill (take c.rota_len-count.result ws) t) (in_turn scope_refill ws t) c.deal_each.new.ledger c.deal_each.new.acts.items c.deal_each.new.units
    (ap (λ (vs : List ℕ). in_turn scope_refill vs t) all) (c.in_ok-deal_each.ensures.turned p h))
