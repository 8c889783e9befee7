use Rattle.std.proofs.Common.{◌<◌, length, sym, ◌∙◌, arith, true, false}
use Rattle.xd_run.specs.Table.{workers_of}
use Rattle.xd_run.proofs.Turns.{in_rota-at}
use Rattle.xd_steal.proofs.Rota.{first-more}
use Rattle.xd_steal.proofs.workers.victim.Goals as goal

pub holds_open-requires : goal.holds_open-requires
holds_open-requires c =
    let lt : c.loop-place.place < length (workers_of c.args.ledger.now) = omega (arith, c.rota_len-place-end.ensures) in
    rw c.rota_at-worker.ensures (in_rota-at c.args.ledger.now c.loop-place.place lt)

pub returns-then-holds_open : goal.returns-then-holds_open
returns-then-holds_open c =
    let t = c.args.ledger.now in
    let lt : c.loop-place.place < length (workers_of t) = omega (arith, c.rota_len-place-end.ensures) in
    sym (first-more t c.most-count.result c.rota_at-worker.result c.loop-place.place true c.requires lt c.rota_at-worker.ensures c.if-holds_open.ensures) ∙ c.loop-place.invariant

pub loop-place-preserved : goal.loop-place-preserved
loop-place-preserved c =
    let t = c.args.ledger.now in
    let lt : c.loop-place.place < length (workers_of t) = omega (arith, c.rota_len-place-end.ensures) in
    sym (first-more t c.most-count.result c.rota_at-worker.result c.loop-place.place false c.requires lt c.rota_at-worker.ensures c.if-holds_open.ensures) ∙ c.loop-place.invariant
