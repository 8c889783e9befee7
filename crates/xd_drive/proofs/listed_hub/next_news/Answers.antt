use Rattle.std.proofs.Common.{ℕ, ap, refl}
use Rattle.xd_journal.specs.declared.entry.Cause.TheVariants.{Ended}
use Rattle.xd_journal.specs.declared.news.What.TheVariants.{Gone}
use Rattle.xd_drive.proofs.NextListed.{given-no-breach, given-started, gives-first, gives-gone}
use Rattle.xd_drive.proofs.listed_hub.next_news.Goals as goal

pub returns-in-Some-clause-started : goal.returns-in-Some-clause-started
returns-in-Some-clause-started c = given-started c.args.started.now c.in-Some.next c.in-Some.ensures.may

pub returns-in-Some-clause-no_breach : goal.returns-in-Some-clause-no_breach
returns-in-Some-clause-no_breach c = given-no-breach c.args.started.now c.in-Some.next c.in-Some.ensures.may

pub returns-in-Some-clause-listed : goal.returns-in-Some-clause-listed
returns-in-Some-clause-listed c = gives-first c.args.started.now c.args.turn.now c.args.news.now.items _ _ c.in-Some.ensures.gives

pub returns-clause-listed : goal.returns-clause-listed
returns-clause-listed c = gives-gone c.args.started.now c.args.turn.now c.args.news.now.items _ _ _ c.in_default.ensures.gives (c.in_default.ensures.spent refl)
    (ap (λ (w : ℕ). record { worker = w; what = Gone Ended }) c.next_gone-worker.ensures.worker) c.next_gone-worker.ensures.next
