use Rattle.std.proofs.Common.{◌≡◌, ◌∙◌, None, ap, rules}
use Rattle.xd_suite.specs.Faults.{fault_of_ids, repeat_of}
use Rattle.xd_suite.proofs.NewIds.{no_repeat}
use Rattle.xd_suite.proofs.suite.Suite.ids.Goals as goal

pub returns-clause-once : goal.returns-clause-once
returns-clause-once c =
    let good : fault_of_ids c.deref.result.now ≡ None = search rules in
    ap repeat_of c.in_ok-ids.ensures ∙ no_repeat c.deref.result.now good c.args.mode
