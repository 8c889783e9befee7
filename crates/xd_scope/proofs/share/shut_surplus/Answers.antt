use Rattle.std.proofs.Common.{◌≡◌, ◌<◌, ◌+◌, ◌-◌, ◌∙◌, ℕ, List, drop, length, get_or, sym, ap, arith}
use Rattle.std.specs.Prelude.{reverse}
use Rattle.std.proofs.lemmas.List.{take_all}
use Rattle.xd_ledger.specs.Calls.{turn}
use Rattle.xd_run.specs.Table.{workers_of}
use Rattle.xd_run.specs.Turn.{Turn, in_turn, shut}
use Rattle.xd_run.proofs.Turns.{in_rota-at, one_more, some_plan, workers-shut_turn}
use Rattle.xd_scope.proofs.Shares.{from-last, length-last}
use Rattle.xd_scope.proofs.share.shut_surplus.Goals as goal

pub shut-requires : goal.shut-requires
shut-requires c =
    let at = c.args.count + (c.rota_len.result - c.args.count - 1 - c.loop-done.done) in
    let lt : at < length (workers_of c.loop-done.ledger) = omega (arith, c.rota_len.ensures, ap length c.loop-done.invariant.rota, c.requires) in
    rw c.rota_at-worker.ensures (in_rota-at c.loop-done.ledger at lt)

pub loop-done-preserved : goal.loop-done-preserved
loop-done-preserved c =
    let now = c.loop-done.ledger in
    let ws = workers_of c.args.ledger.now in
    let last = reverse (drop c.args.count ws) in
    let step = c.in_ok-shut.ensures in
    let lt : c.loop-done.done < length ws - c.args.count = omega (arith, c.rota_len.ensures) in
    let lt_last : c.loop-done.done < length last = omega (arith, lt, length-last ws c.args.count) in
    let here : c.rota_at-worker.result ≡ get_or ws (c.args.count + (c.rota_len.result - c.args.count - 1 - c.loop-done.done)) 0 = rw (c.rota_at-worker.ensures, c.loop-done.invariant.rota) in
    let at = here ∙ ap (λ (n : ℕ). get_or ws (c.args.count + (n - c.args.count - 1 - c.loop-done.done)) 0) c.rota_len.ensures ∙ sym (from-last ws c.args.count c.loop-done.done lt) in
    record {
      rota = ap (λ (u : Turn). workers_of u.table) (step some_plan) ∙ workers-shut_turn c.rota_at-worker.result (turn now some_plan c.loop-done.acts.items) ∙ c.loop-done.invariant.rota;
      turned = λ p.
          (one_more shut c.rota_at-worker.result c.loop-done.done last _ _ _ (step p) (c.loop-done.invariant.turned p) at lt_last);
    }

pub returns : goal.returns
returns c = λ p.
    (let ws = workers_of c.args.ledger.now in
    let last = reverse (drop c.args.count ws) in
    c.loop-done.invariant.turned p ∙ ap (λ (vs : List ℕ). in_turn shut vs (turn c.args.ledger.now p c.args.acts.now.items)) (take_all c.loop-done.done last (omega (arith, length-last ws c.args.count, c.rota_len.ensures))))
