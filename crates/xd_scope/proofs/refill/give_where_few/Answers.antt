use Rattle.std.proofs.Common.{◌<◌, length, sym, arith}
use Rattle.xd_ledger.specs.Calls.{turn}
use Rattle.xd_run.specs.ScopeModes.{give_unit}
use Rattle.xd_run.specs.Table.{held}
use Rattle.xd_scope.specs.Stands.{give_where_few}
use Rattle.xd_scope.proofs.Turned.{few-gives, is-at-same}
use Rattle.xd_scope.proofs.refill.give_where_few.Goals as goal

pub returns-clause-turned : goal.returns-clause-turned
returns-clause-turned c = λ p h.
    (let t = turn c.args.ledger.now p c.args.acts.now.items in
    let few : length (held c.args.worker c.args.ledger.now) < 2 = omega (arith, c.held_len.ensures) in
    is-at-same (give_unit c.args.worker t) (give_where_few c.args.worker t) c.give_unit.new.ledger c.give_unit.new.acts.items c.give_unit.new.units
    (sym (few-gives c.args.worker t few)) (c.in_ok-give_unit.ensures.turned p h))
