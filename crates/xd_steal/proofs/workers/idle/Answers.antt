use Rattle.std.proofs.Common.{ℕ, Vec, Global, true, false, ◌<◌, length, ap, ◌∙◌, arith}
use Rattle.xd_run.specs.Table.{workers_of}
use Rattle.xd_run.proofs.Turns.{in_rota-at}
use Rattle.xd_steal.proofs.Rota.{idle-more}
use Rattle.xd_steal.proofs.workers.idle.Goals as goal
use Rattle.xd_steal.proofs.workers.idle.Goals.{then-is_idle+in_ok-push, else-is_idle}

pub is_idle-requires : goal.is_idle-requires
is_idle-requires c =
    let lt : c.loop-place.place < length (workers_of c.args.ledger.now) = omega (arith, c.rota_len-place-end.ensures) in
    rw c.rota_at-worker.ensures (in_rota-at c.args.ledger.now c.loop-place.place lt)

pub loop-place-preserved : goal.loop-place-preserved
loop-place-preserved c =
    let t = c.args.ledger.now in
    let k = c.loop-place.place in
    let w = c.rota_at-worker.result in
    let lt : k < length (workers_of t) = omega (arith, c.rota_len-place-end.ensures) in
    elim c.if-is_idle.branch [
      | then-is_idle+in_ok-push v ↦ idle-more t w k true c.loop-place.items.items c.if-is_idle.items.items c.requires lt c.rota_at-worker.ensures v.if-is_idle.ensures c.loop-place.invariant (ap (λ (xs : Vec ℕ Global). xs.items) v.items-is ∙ v.in_ok-push.ensures.items)
      | else-is_idle v ↦ idle-more t w k false c.loop-place.items.items c.if-is_idle.items.items c.requires lt c.rota_at-worker.ensures v.if-is_idle.ensures c.loop-place.invariant (ap (λ (xs : Vec ℕ Global). xs.items) v.items-is)
    ]
