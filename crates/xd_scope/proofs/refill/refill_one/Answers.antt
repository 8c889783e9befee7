use Rattle.std.proofs.Common.{◌≡◌, ◌≤◌, ◌∙◌, false, length, sym, ap, arith}
use Rattle.xd_ledger.specs.Calls.{turn}
use Rattle.xd_run.specs.ScopeModes.{give_more, give_unit, scope_refill}
use Rattle.xd_run.specs.Turn.{enough}
use Rattle.xd_run.specs.Table.{held, seat_shut, workers_of}
use Rattle.xd_run.specs.Turn.{Turn}
use Rattle.xd_run.proofs.Turns.{some_plan, workers-shut_turn}
use Rattle.xd_scope.proofs.Turned.{is-at-same, refill-due}
use Rattle.xd_scope.proofs.refill.refill_one.Goals as goal

pub returns-then-len-eq0-clause-rota : goal.returns-then-len-eq0-clause-rota
returns-then-len-eq0-clause-rota c =
    ap (λ (u : Turn). workers_of u.table) (c.in_ok-shut.ensures some_plan) ∙ workers-shut_turn c.args.worker (turn c.args.ledger.now some_plan c.args.acts.now.items)

pub returns-clause-turned : goal.returns-clause-turned
returns-clause-turned c = λ p h.
    (let t = turn c.args.ledger.now p c.args.acts.now.items in
    let open_seat : seat_shut c.args.worker c.args.ledger.now ≡ false = sym c.is_shut.ensures ∙ c.if-is_shut.false in
    let few : length (held c.args.worker c.args.ledger.now) ≤ 2 = omega (arith, c.held_len.ensures) in
    let same = ap length h.queue in
    is-at-same (give_more enough c.args.worker (give_unit c.args.worker t)) (scope_refill c.args.worker t) c.give_enough.new.ledger c.give_enough.new.acts.items c.give_enough.new.units
    (sym (refill-due c.args.worker t open_seat (λ e. absurd (omega (arith, e, same, c.len.ensures, c.args.units.now.queue.ok))) few)) (c.in_ok-give_enough.ensures.turned p h))
