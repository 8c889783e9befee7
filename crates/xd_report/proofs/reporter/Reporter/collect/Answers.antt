use Rattle.std.proofs.Common.{Option, Some, None, OnOk, refl, sym, ◌∙◌, subst}
use Rattle.xd_journal.specs.declared.entry.RunStop.{RunStop}
use Rattle.xd_run.specs.Books.{marked}
use Rattle.xd_run.specs.Collections.{with_list}
use Rattle.xd_run.specs.Sharing.{State, in_books}
use Rattle.xd_run.specs.Collecting.{collecting}
use Rattle.xd_run.specs.Workers.{made_collected}
use Rattle.xd_report.specs.Follows.{Follows}
use Rattle.xd_report.proofs.Moves.{stays, stops, joins}
use Rattle.xd_report.proofs.reporter.Reporter.collect.Goals as goal

pub returns-then-is_shut : goal.returns-then-is_shut
returns-then-is_shut c = λ s f.
    let t : State = in_books (λ b. marked (made_collected c.args.worker) (with_list c.args.worker c.args.given.now b)) s in
    let g = c.in_ok-list.ensures s f in
    subst (Follows c.list.new.self) (sym (stays c.args.worker _ t (sym (c.is_shut.ensures t g) ∙ c.if-is_shut.true))) g

pub returns-in-Some : goal.returns-in-Some
returns-in-Some c = λ s f.
    let t : State = in_books (λ b. marked (made_collected c.args.worker) (with_list c.args.worker c.args.given.now b)) s in
    let g = c.in_ok-list.ensures s f in
    let open_still = sym (c.is_shut.ensures t g) ∙ c.if-is_shut.false in
    subst (λ (how : Option RunStop). Follows c.stop_by.new.self (collecting c.args.worker how t)) (sym c.in-Some.is ∙ c.in_ok-differs.ensures s f)
    (subst (Follows c.stop_by.new.self) (sym (stops c.args.worker (Some c.in-Some.how) t open_still refl)) (c.stop_by.ensures t g))

pub returns-in-None : goal.returns-in-None
returns-in-None c = λ s f.
    let t : State = in_books (λ b. marked (made_collected c.args.worker) (with_list c.args.worker c.args.given.now b)) s in
    let g = c.in_ok-list.ensures s f in
    let open_still = sym (c.is_shut.ensures t g) ∙ c.if-is_shut.false in
    subst (λ (how : Option RunStop). OnOk c.join.result (Follows c.join.new.self (collecting c.args.worker how t))) (sym c.in-None.is ∙ c.in_ok-differs.ensures s f)
    (subst (λ (u : State). OnOk c.join.result (Follows c.join.new.self u)) (sym (joins c.args.worker None t open_still refl)) (c.join.ensures t g))
