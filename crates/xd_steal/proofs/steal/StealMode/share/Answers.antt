use Rattle.std.proofs.Common.{◌∙◌}
use Rattle.xd_run.specs.Sharing.{shared_plan}
use Rattle.xd_steal.proofs.Rules.{shares}
use Rattle.xd_steal.proofs.steal.StealMode.share.Goals as goal

pub returns : goal.returns
returns c = λ p s same.
    (let q = shared_plan c.args._sizes.now c.args._ids.now p in
    shares c.args._slots.now q c.args.ledger.now c.rule.new.ledger c.args.acts.now.items c.rule.new.acts.items c.args.self.now.asked c.rule.new.asked
    (record { mode = s.mode; steal = s.steal })
    (λ none. c.if-pool_len-eq0.false (c.pool_len.ensures ∙ none))
    (c.in_ok-rule.ensures q (record { mode = s.mode; steal = s.steal })))
