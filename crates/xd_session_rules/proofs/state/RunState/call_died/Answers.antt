use Rattle.xd_ledger.specs.Calls.{death_plan}
use Rattle.xd_run.specs.Modes.ModeCall.{Died}
use Rattle.xd_session_books.specs.Books.{books_of}
use Rattle.xd_session_books.specs.Known.{known_by}
use Rattle.xd_session_rules.proofs.Acts.{acted-call}
use Rattle.xd_session_rules.proofs.state.RunState.call_died.Goals as goal

pub returns : goal.returns
returns g c = λ s a.
    acted-call Died (death_plan c.args.worker c.args.retried c.args.rest c.args.self.now.books.ledger.pool) s (books_of c.args.self.now.books) _ (known_by c.args.self.now.known) _ c.new-acts.result.items c.died.new.acts.items c.died.new.ledger c.args.entries.now.items _ _ _
    c.new-acts.ensures.items a (λ p h. c.in_ok-died.ensures p h) c.in_ok-take_acts.ensures.books c.in_ok-take_acts.ensures.known c.in_ok-take_acts.ensures.entries
