use Rattle.std.proofs.Common.{◌≡◌, ◌<◌, ◌+◌, ◌∙◌, List, ℕ, length, drop, get_or, ap, sym, subst, arith}
use Rattle.std.proofs.lemmas.List.{drop_more}
use Rattle.xd_ledger.specs.Calls.{turn}
use Rattle.xd_run.specs.Table.{workers_of}
use Rattle.xd_run.specs.Each.{give_all, give_slots}
use Rattle.xd_run.specs.Turn.{Turn}
use Rattle.xd_run.proofs.Turns.{in_rota-at}
use Rattle.xd_load.specs.Slots.{AreWaiting}
use Rattle.xd_load.proofs.SlotItems.{each_plan, each_plan-stands, pool-give_all, slots-more, waiting-next, waiting-one, workers-give_all}
use Rattle.xd_load.proofs.slots.share.Goals as goal

pub give_all-requires-clause-seated : goal.give_all-requires-clause-seated
give_all-requires-clause-seated c =
    let lt : c.loop-place.place < length (workers_of c.loop-place.ledger) = grind (arith, c.loop-place.invariant.rota) in
    rw c.rota_at-worker.ensures (in_rota-at c.loop-place.ledger c.loop-place.place lt)

pub give_all-requires-clause-waiting : goal.give_all-requires-clause-waiting
give_all-requires-clause-waiting c =
    let slots = c.args.slots.now in
    let lt : c.loop-place.place < length slots = omega (arith, c.rota_len-place-end.ensures, c.requires.each_has_one) in
    let w = subst (λ (ss : List ℕ). AreWaiting ss c.args.sizes.now c.loop-place.ledger.pool) (drop_more slots c.loop-place.place 0 lt) c.loop-place.invariant.waiting in
    waiting-one (get_or slots c.loop-place.place 0) (drop (c.loop-place.place + 1) slots) c.args.sizes.now c.loop-place.ledger.pool w

pub loop-place-preserved : goal.loop-place-preserved
loop-place-preserved c =
    let now = c.loop-place.ledger in
    let ws = workers_of c.args.ledger.now in
    let slots = c.args.slots.now in
    let counts = c.args.sizes.now in
    let k = c.loop-place.place in
    let step = c.in_ok-give_all.ensures in
    let first = step (each_plan counts) (each_plan-stands counts) in
    let t = turn now (each_plan counts) c.loop-place.acts.items in
    let lt : k < length ws = grind (arith, c.loop-place.invariant.rota) in
    let lt_slots : k < length slots = omega (arith, c.requires.each_has_one) in
    let at : c.rota_at-worker.result ≡ get_or ws k 0 = rw (c.rota_at-worker.ensures, c.loop-place.invariant.rota) in
    record {
      rota = ap (λ (u : Turn). workers_of u.table) first ∙ workers-give_all c.rota_at-worker.result (get_or slots k 0) counts t ∙ c.loop-place.invariant.rota;
      waiting = waiting-next slots counts now.pool c.give_all.new.ledger.pool k lt_slots c.requires.distinct c.loop-place.invariant.waiting
          (ap (λ (u : Turn). u.table.pool) first ∙ pool-give_all c.rota_at-worker.result (get_or slots k 0) counts t (each_plan-stands counts));
      turned = λ p h.
          (ap (give_slots (drop (k + 1) ws) (drop (k + 1) slots)) (step p h ∙ ap (λ (w : ℕ). give_all w (get_or slots k 0) (turn now p c.loop-place.acts.items)) at)
          ∙ sym (slots-more ws slots k (turn now p c.loop-place.acts.items) lt lt_slots) ∙ c.loop-place.invariant.turned p h);
    }
