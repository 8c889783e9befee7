use Rattle.std.proofs.Common.{◌≡◌, [], ap, sym, ◌∙◌, true, false}
use Rattle.xd_run.specs.Modes.ModeCall.{TestsBack}
use Rattle.xd_run.specs.Outputs.{acts_of}
use Rattle.xd_run.specs.Stops.{is_stopped}
use Rattle.xd_session_books.specs.Books.{books_of}
use Rattle.xd_session_rules.proofs.Acts.{acted-by, acted-none, choose-no, choose-yes, stopped-at}
use Rattle.xd_session_rules.proofs.state.RunState.back_outputs.Goals as goal

pub returns-then-is_stopped : goal.returns-then-is_stopped
returns-then-is_stopped g c = λ s a f.
    (let stop : is_stopped (books_of c.args.self.now.books) ≡ true = sym c.is_stopped.ensures ∙ c.if-is_stopped.true in
    acted-by [] _ s _ _ c.args.entries.now.items c.args.entries.now.items _ (choose-yes (is_stopped s.books) [] (acts_of TestsBack s) (ap is_stopped (sym a.books_are) ∙ stop))
    (acted-none s _ _ c.args.entries.now.items _ (stopped-at s _ _ _ stop a.books_are a.known_is)))

pub returns : goal.returns
returns g c = λ s a f.
    (let unstopped : is_stopped s.books ≡ false = ap is_stopped (sym a.books_are) ∙ sym c.is_stopped.ensures ∙ c.if-is_stopped.false in
    acted-by (acts_of TestsBack s) _ s _ _ c.args.entries.now.items c.call_back.new.entries.items _ (choose-no (is_stopped s.books) [] (acts_of TestsBack s) unstopped)
    (c.in_ok-call_back.ensures s (record { at = a; going = unstopped; called = f unstopped })))
