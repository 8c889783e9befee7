use Rattle.std.proofs.Common.{◌≡◌, ◌<◌, ◌∙◌, ℕ, take, length, get_or, ap, arith}
use Rattle.xd_ledger.specs.Calls.{turn}
use Rattle.xd_run.specs.Table.{workers_of}
use Rattle.xd_run.specs.Turn.{in_turn}
use Rattle.xd_run.proofs.Turns.{in_rota-at}
use Rattle.xd_scope.specs.Stands.{dealt_to}
use Rattle.xd_scope.proofs.Turned.{is-at-same, one-step_more}
use Rattle.xd_scope.proofs.refill.deal_each.Goals as goal

pub deal_one-requires-clause-seated : goal.deal_one-requires-clause-seated
deal_one-requires-clause-seated c =
    let lt : c.loop-place.place < length (workers_of c.loop-place.ledger) = grind (arith, c.loop-place.invariant.rota, c.requires.within) in
    rw c.rota_at-worker.ensures (in_rota-at c.loop-place.ledger c.loop-place.place lt)

pub loop-place-preserved : goal.loop-place-preserved
loop-place-preserved c =
    let ws = workers_of c.args.ledger.now in
    let k = c.loop-place.place in
    let lt : k < length ws = omega (arith, c.requires.within) in
    let at : c.rota_at-worker.result ≡ get_or ws k 0 = rw (c.rota_at-worker.ensures, c.loop-place.invariant.rota) in
    record {
      rota = c.in_ok-deal_one.ensures.rota ∙ c.loop-place.invariant.rota;
      fits = c.in_ok-deal_one.ensures.fits;
      turned = λ p h.
          (one-step_more (dealt_to c.args.deal) ws c.rota_at-worker.result k (turn c.args.ledger.now p c.args.acts.now.items) c.loop-place.ledger c.loop-place.acts.items c.loop-place.units
          c.deal_one.new.ledger c.deal_one.new.acts.items c.deal_one.new.units lt at (c.loop-place.invariant.turned p h) c.in_ok-deal_one.ensures.turned);
    }

pub returns-clause-turned : goal.returns-clause-turned
returns-clause-turned c = λ p h.
    (let t = turn c.args.ledger.now p c.args.acts.now.items in
    let ws = workers_of c.args.ledger.now in
    let all : c.loop-place.place ≡ c.args.count = omega arith in
    is-at-same (in_turn (dealt_to c.args.deal) (take c.loop-place.place ws) t) (in_turn (dealt_to c.args.deal) (take c.args.count ws) t) c.loop-place.ledger c.loop-place.acts.items c.loop-place.units
    (ap (λ (n : ℕ). in_turn (dealt_to c.args.deal) (take n ws) t) all) (c.loop-place.invariant.turned p h))
