use Rattle.std.proofs.Common.{◌∙◌, ℕ, List, take, drop, length, ap, sym, subst, arith}
use Rattle.std.specs.Prelude.{reverse}
use Rattle.xd_ledger.specs.Calls.{turn}
use Rattle.xd_run.specs.ScopeModes.{give_unit, scope_refill}
use Rattle.xd_run.specs.Suits.{AreInPool}
use Rattle.xd_run.specs.Table.{workers_of}
use Rattle.xd_run.specs.Turn.{Turn, in_turn, shut_each}
use Rattle.xd_run.proofs.Turns.{some_plan}
use Rattle.xd_scope.specs.Stands.{IsAt}
use Rattle.xd_scope.proofs.Shares.{is-at-turn, pool-shut_each, workers-shut_each}
use Rattle.xd_scope.proofs.Turned.{then-step}
use Rattle.xd_scope.proofs.share.serve.Goals as goal

pub deal_each-requires-clause-within : goal.deal_each-requires-clause-within
deal_each-requires-clause-within c =
    let ws = workers_of c.args.ledger.now in
    let same = ap (λ (u : Turn). workers_of u.table) (c.in_ok-shut_surplus.ensures some_plan) ∙ workers-shut_each (reverse (drop c.args.count ws)) (turn c.args.ledger.now some_plan c.args.acts.now.items) in
    omega (arith, ap length same, c.requires.within)

pub deal_each-requires-clause-fits : goal.deal_each-requires-clause-fits
deal_each-requires-clause-fits c =
    let ws = workers_of c.args.ledger.now in
    let same = ap (λ (u : Turn). u.table.pool) (c.in_ok-shut_surplus.ensures some_plan) ∙ pool-shut_each (reverse (drop c.args.count ws)) (turn c.args.ledger.now some_plan c.args.acts.now.items) in
    subst (λ (pool : List ℕ). AreInPool c.args.units.now.queue.items pool) (sym same) c.requires.fits

pub deal_each-requires-2-clause-within : goal.deal_each-requires-2-clause-within
deal_each-requires-2-clause-within c =
    let ws = workers_of c.args.ledger.now in
    let same = ap (λ (u : Turn). workers_of u.table) (c.in_ok-shut_surplus.ensures some_plan) ∙ workers-shut_each (reverse (drop c.args.count ws)) (turn c.args.ledger.now some_plan c.args.acts.now.items) in
    omega (arith, ap length same, ap length c.in_ok-deal_each.ensures.rota, c.requires.within)

pub returns-clause-turned : goal.returns-clause-turned
returns-clause-turned c = λ p h.
    (let ws = workers_of c.args.ledger.now in
    let k = c.args.count in
    let t = turn c.args.ledger.now p c.args.acts.now.items in
    let same = ap (λ (u : Turn). workers_of u.table) (c.in_ok-shut_surplus.ensures some_plan) ∙ workers-shut_each (reverse (drop k ws)) (turn c.args.ledger.now some_plan c.args.acts.now.items) in
    let still = c.in_ok-deal_each.ensures.rota ∙ same in
    let one = is-at-turn (shut_each (reverse (drop k ws)) t) c.shut_surplus.new.ledger p c.shut_surplus.new.acts.items c.args.units.now (c.in_ok-shut_surplus.ensures p) h in
    let two = then-step (in_turn give_unit (take k ws)) (shut_each (reverse (drop k ws)) t) c.shut_surplus.new.ledger c.shut_surplus.new.acts.items c.args.units.now c.deal_each.new.ledger c.deal_each.new.acts.items c.deal_each.new.units one
    (λ q j. subst (λ (vs : List ℕ). IsAt (in_turn give_unit (take k vs) (turn c.shut_surplus.new.ledger q c.shut_surplus.new.acts.items)) c.deal_each.new.ledger c.deal_each.new.acts.items c.deal_each.new.units) same (c.in_ok-deal_each.ensures.turned q j)) in
    then-step (in_turn scope_refill (take k ws)) (in_turn give_unit (take k ws) (shut_each (reverse (drop k ws)) t)) c.deal_each.new.ledger c.deal_each.new.acts.items c.deal_each.new.units c.deal_each-2.new.ledger c.deal_each-2.new.acts.items c.deal_each-2.new.units two
    (λ q j. subst (λ (vs : List ℕ). IsAt (in_turn scope_refill (take k vs) (turn c.deal_each.new.ledger q c.deal_each.new.acts.items)) c.deal_each-2.new.ledger c.deal_each-2.new.acts.items c.deal_each-2.new.units) still (c.in_ok-deal_each-2.ensures.turned q j)))

pub returns-clause-rota : goal.returns-clause-rota
returns-clause-rota c =
    let ws = workers_of c.args.ledger.now in
    let same = ap (λ (u : Turn). workers_of u.table) (c.in_ok-shut_surplus.ensures some_plan) ∙ workers-shut_each (reverse (drop c.args.count ws)) (turn c.args.ledger.now some_plan c.args.acts.now.items) in
    c.in_ok-deal_each-2.ensures.rota ∙ c.in_ok-deal_each.ensures.rota ∙ same
