use Rattle.std.proofs.Common.{List, ℕ, ◌/◌, ◌-◌, take, length, get_or, ap, ◌∙◌}
use Rattle.xd_run.specs.Table.{workers_of}
use Rattle.xd_run.specs.Turn.{Turn, give_front}
use Rattle.xd_ledger.specs.Calls.{turn}
use Rattle.xd_run.proofs.Turns.{workers-give, some_plan}
use Rattle.xd_steal.proofs.Rota.{seated_at}
use Rattle.xd_steal.proofs.Rules.{dealt-next}
use Rattle.xd_steal.proofs.rule.deal.Goals as goal

pub give_front-requires : goal.give_front-requires
give_front-requires c = seated_at c.args.workers.now c.args.ledger.now c.loop-i.ledger c.loop-i.i c.requires c.loop-i.invariant.rota c.loop-i-test.true

pub loop-i-preserved : goal.loop-i-preserved
loop-i-preserved c =
    let ws : List ℕ = c.args.workers.now in
    let i = c.loop-i.i in
    let now = c.loop-i.ledger in
    let step = c.in_ok-give_front.ensures in
    let one = ap (λ (u : Turn). workers_of u.table) (step some_plan) in
    record {
      rota = one ∙ workers-give (get_or ws i 0) (take (c.pool_len.result / (length ws - i)) now.pool) (turn now some_plan c.loop-i.acts.items) ∙ c.loop-i.invariant.rota;
      dealt = λ p.
          (dealt-next ws i (turn now p c.loop-i.acts.items) (turn c.give_front.new.ledger p c.give_front.new.acts.items) c.loop-i-test.true (step p ∙ ap (λ n. give_front (get_or ws i 0) (n / (length ws - i)) (turn now p c.loop-i.acts.items)) c.pool_len.ensures) ∙ c.loop-i.invariant.dealt p);
    }
