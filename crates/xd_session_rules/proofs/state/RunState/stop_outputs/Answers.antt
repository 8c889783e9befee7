use Rattle.std.proofs.Common.{[]}
use Rattle.xd_run.specs.Outputs.{shut_all}
use Rattle.xd_session_books.specs.Books.{books_of}
use Rattle.xd_session_rules.proofs.Acts.{acted-by, acted-none, acted-shut, choose-no, choose-yes, stopped-at}
use Rattle.xd_session_rules.proofs.state.RunState.stop_outputs.Goals as goal

pub returns-then-before : goal.returns-then-before
returns-then-before g c = λ s e d.
    acted-by [] _ s _ _ c.args.entries.now.items c.args.entries.now.items _ (choose-yes c.args.before [] (shut_all s.books.members) c.if-before.true)
    (acted-none s _ _ c.args.entries.now.items _ (stopped-at s _ _ _ c.requires e d))

pub returns : goal.returns
returns g c = λ s e d.
    acted-by (shut_all s.books.members) _ s _ _ c.args.entries.now.items c.shut_everyone.new.entries.items _ (choose-no c.args.before [] (shut_all s.books.members) c.if-before.false)
    (acted-shut s (books_of c.args.self.now.books) (books_of c.shut_everyone.new.books) _ c.args.entries.now.items c.shut_everyone.new.entries.items _ (stopped-at s _ _ _ c.requires e d) c.in_ok-shut_everyone.ensures.told c.in_ok-shut_everyone.ensures.noted)
