use Rattle.xd_run.specs.Modes.ModeCall.{TestsBack}
use Rattle.xd_run.specs.Plan.{Plan}
use Rattle.std.specs.Prelude.{None}
use Rattle.xd_session_books.specs.Books.{books_of}
use Rattle.xd_session_books.specs.Known.{known_by}
use Rattle.xd_session_rules.proofs.Acts.{acted-call}
use Rattle.xd_session_rules.proofs.state.RunState.call_back.Goals as goal

pub returns : goal.returns
returns g c = λ s a.
    acted-call TestsBack (λ (p : Plan). record p { steal = None }) s (books_of c.args.self.now.books) _ (known_by c.args.self.now.known) _ c.new-acts.result.items c.back.new.acts.items c.back.new.ledger c.args.entries.now.items _ _ _
    c.new-acts.ensures.items a (λ p h. c.in_ok-back.ensures p h) c.in_ok-take_acts.ensures.books c.in_ok-take_acts.ensures.known c.in_ok-take_acts.ensures.entries
