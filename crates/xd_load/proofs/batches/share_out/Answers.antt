use Rattle.std.proofs.Common.{◌*◌, ◌<◌, length, arith}
use Rattle.std.proofs.lemmas.Grind.{common_steps}
use Rattle.xd_run.specs.Table.{workers_of}
use Rattle.xd_ledger.specs.Calls.{turn}
use Rattle.xd_load.proofs.Turns.{dealt-twice}
use Rattle.xd_load.proofs.batches.share_out.Goals as goal

pub returns-then-tests-workers : goal.returns-then-tests-workers
returns-then-tests-workers c = λ p h.
    (let lt : length c.args.ledger.now.pool < 2 * length (workers_of c.args.ledger.now) = grind (arith, common_steps) in
    dealt-twice (turn c.args.ledger.now p c.args.acts.now.items) _ _ lt (c.in_ok-give_each.ensures.given p) c.in_ok-give_each.ensures.same (c.in_ok-give_each-2.ensures.given p))
