use Rattle.std.proofs.Common.{ℕ, List, ◌∙◌, subst, OnOk}
use Rattle.xd_run.specs.Handing.{after_run}
use Rattle.xd_run.specs.State.{settled}
use Rattle.xd_report.specs.Follows.{Follows}
use Rattle.xd_report.proofs.Moves.{settle}
use Rattle.xd_report.proofs.reporter.Reporter.note.Goals as goal

pub returns-in-Done : goal.returns-in-Done
returns-in-Done c = rw c.in-Done.is (λ s f. c.complete.ensures (settled s) c.in-Done.ms c.in-Done.output (settle c.args.self.now s f))

pub returns-in-Refused : goal.returns-in-Refused
returns-in-Refused c = rw c.in-Refused.is (λ s f. c.refuse.ensures (settled s) c.in-Refused.text (settle c.args.self.now s f))

pub returns-in-Run : goal.returns-in-Run
returns-in-Run c = rw c.in-Run.is (λ s f. subst (λ (is : List ℕ). OnOk c.assign.result (Follows c.assign.new.self (after_run c.in-Run.worker is s))) (c.deref-in-Run.ensures.value ∙ c.indices-in-Run.view_is) (c.assign.ensures s f))
