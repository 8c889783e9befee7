use Rattle.std.proofs.Common.{◌<◌, length, arith}
use Rattle.xd_run.specs.Table.{workers_of}
use Rattle.xd_run.proofs.Turns.{in_rota-at}
use Rattle.xd_steal.proofs.Rota.{most-more}
use Rattle.xd_steal.proofs.workers.most.Goals as goal

pub held_open-requires : goal.held_open-requires
held_open-requires c =
    let lt : c.loop-place.place < length (workers_of c.args.ledger.now) = omega (arith, c.rota_len-place-end.ensures) in
    rw c.rota_at-worker.ensures (in_rota-at c.args.ledger.now c.loop-place.place lt)

pub loop-place-preserved : goal.loop-place-preserved
loop-place-preserved c =
    let t = c.args.ledger.now in
    let lt : c.loop-place.place < length (workers_of t) = omega (arith, c.rota_len-place-end.ensures) in
    most-more t c.rota_at-worker.result c.loop-place.place c.held_open.result c.loop-place.most c.max-most.result c.requires lt c.rota_at-worker.ensures c.held_open.ensures c.loop-place.invariant c.max-most.ensures
