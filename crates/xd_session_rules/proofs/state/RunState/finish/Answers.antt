use Rattle.std.proofs.Common.{◌≡◌, ap, sym, ◌∙◌, true, false}
use Rattle.xd_run.specs.State.{settles}
use Rattle.xd_run.specs.Stops.{is_shutting}
use Rattle.xd_session_books.specs.Books.{books_of}
use Rattle.xd_session_rules.proofs.Closing.{closed-now}
use Rattle.xd_session_rules.proofs.state.RunState.finish.Goals as goal

pub returns : goal.returns
returns g c = λ s a.
    (let h : settles s ≡ true = sym (c.settles.ensures s a) ∙ c.if-not-settles.false in
    let k : is_shutting s.books ≡ false = ap is_shutting (sym a.books_are) ∙ sym c.is_shutting.ensures ∙ c.if-is_shutting.false in
    closed-now s (books_of c.args.self.now.books) (books_of c.shut_everyone.new.books) (books_of c.shut.new.self) _ c.args.entries.now.items c.shut_everyone.new.entries.items _ a h k
    c.in_ok-shut_everyone.ensures.told c.shut.ensures c.in_ok-shut_everyone.ensures.noted)
