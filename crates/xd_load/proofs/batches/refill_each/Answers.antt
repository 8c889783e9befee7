use Rattle.std.proofs.Common.{◌≡◌, ◌<◌, length, get_or, ap, ◌∙◌, arith}
use Rattle.xd_run.specs.Table.{workers_of}
use Rattle.xd_run.specs.Turn.{Turn}
use Rattle.xd_run.specs.Load.{load_refill}
use Rattle.xd_ledger.specs.Calls.{turn}
use Rattle.xd_run.proofs.Turns.{in_rota-at, one_more}
use Rattle.xd_load.proofs.Turns.{workers-refill, load_plan, load_plan-stands}
use Rattle.xd_load.proofs.batches.refill_each.Goals as goal

pub refill_one-requires : goal.refill_one-requires
refill_one-requires c =
    let lt : c.loop-place.place < length (workers_of c.loop-place.ledger) = grind (arith, c.loop-place.invariant.rota) in
    rw c.rota_at-worker.ensures (in_rota-at c.loop-place.ledger c.loop-place.place lt)

pub loop-place-preserved : goal.loop-place-preserved
loop-place-preserved c =
    let now = c.loop-place.ledger in
    let ws = workers_of c.args.ledger.now in
    let step = c.in_ok-refill_one.ensures in
    let one = ap (λ (u : Turn). workers_of u.table) (step (load_plan c.args.chunk) (load_plan-stands c.args.chunk)) in
    let lt : c.loop-place.place < length ws = grind (arith, c.loop-place.invariant.rota) in
    let at : c.rota_at-worker.result ≡ get_or ws c.loop-place.place 0 = rw (c.rota_at-worker.ensures, c.loop-place.invariant.rota) in
    record {
      rota = one ∙ workers-refill 0 c.rota_at-worker.result (turn now (load_plan c.args.chunk) c.loop-place.acts.items) ∙ c.loop-place.invariant.rota;
      turned = λ p h.
          (one_more (load_refill 0) c.rota_at-worker.result c.loop-place.place ws _ _ _ (step p h) (c.loop-place.invariant.turned p h) at lt);
    }
