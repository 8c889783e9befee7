use Rattle.std.proofs.Common.{◌≡◌, ◌∙◌, min, length, ap, sym, arith}
use Rattle.xd_ledger.specs.Calls.{turn}
use Rattle.xd_run.specs.ScopeModes.{scope_share, shut_where_spent}
use Rattle.xd_run.specs.Table.{workers_of}
use Rattle.xd_scope.specs.Stands.{served_share}
use Rattle.xd_scope.proofs.Shares.{served-same, share-some}
use Rattle.xd_scope.proofs.Turned.{is-at-same, then-step}
use Rattle.xd_scope.proofs.share.share_all.Goals as goal

pub returns : goal.returns
returns c = λ p h.
    (let ws = workers_of c.args.ledger.now in
    let t = turn c.args.ledger.now p c.args.acts.now.items in
    let n = c.min-count.result in
    let waits = ap length h.queue in
    let e : n ≡ min (length p.queue) (length ws) = omega (arith, c.min-count.ensures, c.len.ensures, c.rota_len-workers.ensures, c.args.units.now.queue.ok, waits) in
    let served = c.in_ok-serve.ensures.turned p h in
    let done = then-step shut_where_spent (served_share n ws t) c.serve.new.ledger c.serve.new.acts.items c.serve.new.units c.shut_where_spent.new.ledger c.shut_where_spent.new.acts.items c.serve.new.units served c.in_ok-shut_where_spent.ensures in
    let same = ap shut_where_spent (served-same ws (length p.queue) n t e) ∙ sym (share-some t (λ z. absurd (omega (arith, z, c.pool_len.ensures)))) in
    is-at-same (shut_where_spent (served_share n ws t)) (scope_share t) c.shut_where_spent.new.ledger c.shut_where_spent.new.acts.items c.serve.new.units same done)
