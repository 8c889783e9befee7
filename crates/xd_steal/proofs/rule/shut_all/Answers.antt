use Rattle.std.proofs.Common.{List, ℕ, get_or, ap, ◌∙◌}
use Rattle.xd_run.specs.Table.{workers_of}
use Rattle.xd_run.specs.Turn.{Turn}
use Rattle.xd_ledger.specs.Calls.{turn}
use Rattle.xd_run.proofs.Turns.{workers-shut_turn, some_plan}
use Rattle.xd_steal.proofs.Rota.{seated_at}
use Rattle.xd_steal.proofs.Rules.{shuts-next}
use Rattle.xd_steal.proofs.rule.shut_all.Goals as goal

pub shut-requires : goal.shut-requires
shut-requires c = seated_at c.args.workers.now c.args.ledger.now c.loop-i.ledger c.loop-i.i c.requires c.loop-i.invariant.rota c.loop-i-test.true

pub loop-i-preserved : goal.loop-i-preserved
loop-i-preserved c =
    let ws : List ℕ = c.args.workers.now in
    let i = c.loop-i.i in
    let now = c.loop-i.ledger in
    let step = c.in_ok-shut.ensures in
    let one = ap (λ (u : Turn). workers_of u.table) (step some_plan) in
    record {
      rota = one ∙ workers-shut_turn (get_or ws i 0) (turn now some_plan c.loop-i.acts.items) ∙ c.loop-i.invariant.rota;
      told = λ p. (shuts-next ws i (turn now p c.loop-i.acts.items) (turn c.shut.new.ledger p c.shut.new.acts.items) c.loop-i-test.true (step p) ∙ c.loop-i.invariant.told p);
    }
