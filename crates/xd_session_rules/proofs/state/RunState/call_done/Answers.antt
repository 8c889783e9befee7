use Rattle.xd_run.specs.Modes.ModeCall.{TestDone}
use Rattle.xd_session_books.specs.Books.{books_of}
use Rattle.xd_session_books.specs.Known.{known_by}
use Rattle.xd_session_rules.proofs.Acts.{acted-call, as-before, suits-by}
use Rattle.xd_session_rules.proofs.state.RunState.call_done.Goals as goal

pub done-requires-clause-suits : goal.done-requires-clause-suits
done-requires-clause-suits g c = suits-by _ (λ p. p) _ _ _ _ (as-before _ _ _ _ _ c.requires.at.1)

pub returns : goal.returns
returns g c = λ s a.
    acted-call (TestDone c.args.worker c.args.ms) (λ p. p) s (books_of c.args.self.now.books) _ (known_by c.args.self.now.known) _ c.new-acts.result.items c.done.new.acts.items c.done.new.ledger c.args.entries.now.items _ _ _
    c.new-acts.ensures.items (as-before _ s _ _ _ a) (λ p h. c.in_ok-done.ensures p h) c.in_ok-take_acts.ensures.books c.in_ok-take_acts.ensures.known c.in_ok-take_acts.ensures.entries
