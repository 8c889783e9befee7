use Rattle.std.proofs.Common.{◌∙◌}
use Rattle.xd_words.proofs.Commands.{no_command}
use Rattle.xd_words.proofs.plan.plan_of_texts.Goals as goal

pub returns-in_ok-plan-in_default-first-clause-plan : goal.returns-in_ok-plan-in_default-first-clause-plan
returns-in_ok-plan-in_default-first-clause-plan c =
    c.in_ok-plan-in_default-first.ensures.plan
    ∙ no_command c.args.words.now _ c.in_default-first.not-worker c.in_default-first.not-wire c.in_default-first.not-replay
    c.in_default-first.not-socketserver
