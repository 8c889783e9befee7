use Rattle.std.proofs.Common.{◌≡◌, [], ap, sym, ◌∙◌, List, Bool, true, false}
use Rattle.std.specs.Prelude.{if◌then◌else◌}
use Rattle.xd_journal.specs.declared.entry.Entry.{Entry}
use Rattle.xd_run.specs.Outputs.{outputs_of_death, shut_all}
use Rattle.xd_run.specs.Stops.{is_stopped}
use Rattle.xd_session_books.specs.Books.{books_of}
use Rattle.xd_session_rules.proofs.Acts.{acted-by, choose-third}
use Rattle.xd_run_laws.proofs.Logic.{cases_of, differ}
use Rattle.std.proofs.Common.{inl, inr}
use Rattle.xd_session_rules.proofs.state.RunState.death_outputs.Goals as goal

pub returns-then-is_stopped : goal.returns-then-is_stopped
returns-then-is_stopped g c = λ s a f.
    (let stop : is_stopped s.books ≡ true = ap is_stopped (sym a.books_are) ∙ sym c.is_stopped.ensures ∙ c.if-is_stopped.true in
    let outs : Bool → List Entry = λ q. if c.args.before then [] else if q then shut_all s.books.members else outputs_of_death c.args.worker s in
    acted-by _ _ s _ _ c.args.entries.now.items c.stop_outputs.new.entries.items _ (ap outs (sym stop)) (c.in_ok-stop_outputs.ensures s a.books_are a.known_is))

pub returns : goal.returns
returns g c = λ s a f.
    (let going : is_stopped (books_of c.args.self.now.books) ≡ false = sym c.is_stopped.ensures ∙ c.if-is_stopped.false in
    let unstopped : is_stopped s.books ≡ false = ap is_stopped (sym a.books_are) ∙ going in
    let not_before : c.args.before ≡ false = elim (cases_of c.args.before) [ inl k ↦ absurd (differ (sym going ∙ c.requires.late k)) | inr k ↦ k ] in
    acted-by (outputs_of_death c.args.worker s) _ s _ _ c.args.entries.now.items c.restart.new.entries.items _
    (choose-third c.args.before (is_stopped s.books) [] (shut_all s.books.members) (outputs_of_death c.args.worker s) not_before unstopped)
    (c.in_ok-restart.ensures s a (f unstopped)))
