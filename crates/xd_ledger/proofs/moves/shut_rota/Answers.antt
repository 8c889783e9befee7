use Rattle.std.proofs.Common.{◌≡◌, ◌<◌, length, get_or, ap, ◌∙◌, arith}
use Rattle.xd_run.specs.Table.{workers_of}
use Rattle.xd_run.specs.Turn.{Turn, shut}
use Rattle.xd_ledger.specs.Calls.{turn}
use Rattle.xd_run.proofs.Turns.{in_rota-at, one_more, workers-shut_turn, some_plan}
use Rattle.xd_ledger.proofs.moves.shut_rota.Goals as goal

pub shut-requires : goal.shut-requires
shut-requires c =
    let lt : c.loop-place.place < length (workers_of c.loop-place.ledger) = grind (arith, c.loop-place.invariant.rota) in
    rw c.rota_at-worker.ensures (in_rota-at c.loop-place.ledger c.loop-place.place lt)

pub loop-place-preserved : goal.loop-place-preserved
loop-place-preserved c =
    let now = c.loop-place.ledger in
    let ws = workers_of c.args.ledger.now in
    let step = c.in_ok-shut.ensures in
    let one = ap (λ (u : Turn). workers_of u.table) (step some_plan) in
    let lt : c.loop-place.place < length ws = grind (arith, c.loop-place.invariant.rota) in
    let at : c.rota_at-worker.result ≡ get_or ws c.loop-place.place 0 = rw (c.rota_at-worker.ensures, c.loop-place.invariant.rota) in
    record {
      rota = one ∙ workers-shut_turn c.rota_at-worker.result (turn now some_plan c.loop-place.acts.items) ∙ c.loop-place.invariant.rota;
      turned = λ p.
          (one_more shut c.rota_at-worker.result c.loop-place.place ws _ _ _ (step p) (c.loop-place.invariant.turned p) at lt);
    }
