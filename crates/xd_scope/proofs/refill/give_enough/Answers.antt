use Rattle.std.proofs.Common.{◌∙◌, sym}
use Rattle.xd_ledger.specs.Calls.{turn}
use Rattle.xd_run.specs.ScopeModes.{give_more, give_unit}
use Rattle.xd_run.specs.Turn.{enough}
use Rattle.xd_run.proofs.Turns.{in_rota-same}
use Rattle.xd_scope.specs.Stands.{give_where_few}
use Rattle.xd_scope.proofs.Turned.{give_more-is, is-at-same, then-step}
use Rattle.xd_scope.proofs.refill.give_enough.Goals as goal

pub give_where_few-requires-clause-seated : goal.give_where_few-requires-clause-seated
give_where_few-requires-clause-seated c = in_rota-same c.args.worker c.give_unit.new.ledger c.args.ledger.now c.in_ok-give_unit.ensures.rota ∙ c.requires.seated

pub give_where_few-requires-2-clause-seated : goal.give_where_few-requires-2-clause-seated
give_where_few-requires-2-clause-seated c =
    in_rota-same c.args.worker c.give_where_few.new.ledger c.args.ledger.now (c.in_ok-give_where_few.ensures.rota ∙ c.in_ok-give_unit.ensures.rota) ∙ c.requires.seated

pub returns-clause-turned : goal.returns-clause-turned
returns-clause-turned c = λ p h.
    (let w = c.args.worker in
    let t = give_unit w (turn c.args.ledger.now p c.args.acts.now.items) in
    let one = c.in_ok-give_unit.ensures.turned p h in
    let two = then-step (give_where_few w) t c.give_unit.new.ledger c.give_unit.new.acts.items c.give_unit.new.units c.give_where_few.new.ledger c.give_where_few.new.acts.items c.give_where_few.new.units
    one c.in_ok-give_where_few.ensures.turned in
    let three = then-step (give_where_few w) (give_where_few w t) c.give_where_few.new.ledger c.give_where_few.new.acts.items c.give_where_few.new.units c.give_where_few-2.new.ledger c.give_where_few-2.new.acts.items c.give_where_few-2.new.units
    two c.in_ok-give_where_few-2.ensures.turned in
    is-at-same (give_where_few w (give_where_few w t)) (give_more enough w t) c.give_where_few-2.new.ledger c.give_where_few-2.new.acts.items c.give_where_few-2.new.units
    (sym (give_more-is w t)) three)
