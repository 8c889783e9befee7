use Rattle.std.proofs.Common.{◌≡◌, ◌∷◌, [], ap, sym, ◌∙◌, List, Bool}
use Rattle.std.specs.Prelude.{if◌then◌else◌}
use Rattle.xd_journal.specs.declared.entry.Entry.{Entry}
use Rattle.xd_journal.specs.declared.entry.Entry.TheVariants.{Done}
use Rattle.xd_run.specs.Modes.ModeCall.{TestDone}
use Rattle.xd_run.specs.Outputs.{acts_of, shut_all}
use Rattle.xd_run.specs.Sharing.{State}
use Rattle.xd_run.specs.State.{after_effect}
use Rattle.xd_run.specs.Stops.{is_stopped}
use Rattle.xd_run.specs.Workers.{is_active}
use Rattle.xd_session_books.specs.Books.{books_of}
use Rattle.xd_session_books.specs.Known.{known_by}
use Rattle.xd_session_rules.proofs.Acts.{acted-by, finish}
use Rattle.xd_session_rules.proofs.Judging.{done-found, done-stopped, no-head, where-head}
use Rattle.xd_run_laws.proofs.Calls.{done-called}
use Rattle.xd_run_laws.proofs.Logic.{split-and}
use Rattle.xd_run.specs.Proper.{names_head}
use Rattle.xd_session_rules.proofs.state.RunState.done.Goals as goal

pub done_outputs-requires-clause-late : goal.done_outputs-requires-clause-late
done_outputs-requires-clause-late g c = λ h. ap is_stopped c.in_ok-score.ensures.done ∙ done-stopped c.args.worker (c.in-Some.item ∷ []) c.args.outcome (books_of c.args.self.now.books) (sym c.is_stopped-before.ensures ∙ h)

pub done_outputs-requires-clause-at : goal.done_outputs-requires-clause-at
done_outputs-requires-clause-at g c = λ h.
    (let s : State = c.requires.0 in
    let a = c.requires.1 in
    let at = done-found s c.args.worker c.args.index c.args.outcome c.args.ms c.args.output c.in-Some.item (books_of c.args.self.now.books) (books_of c.score.new.self) (known_by c.args.self.now.known) _ a.at (sym c.head_named.ensures.named ∙ c.in-Some.is) c.in_ok-score.ensures.done in
    (after_effect s (Done c.args.worker c.args.index c.args.outcome c.args.ms c.args.output), record { at = at; going = ap is_stopped (sym at.books_are) ∙ h; called = done-called s c.args.worker c.args.index c.args.outcome c.args.ms c.args.output a.reached a.follows }))

pub score-requires-clause-head : goal.score-requires-clause-head
score-requires-clause-head g c = where-head _ _ _ (sym c.head_named.ensures.named ∙ c.in-Some.is)

pub returns-in_default : goal.returns-in_default
returns-in_default g c = λ s a.
    absurd (no-head c.head_named.result (c.head_named.ensures.only s a.at.books_are a.at.known_is ∙ (split-and (is_active c.args.worker s.books) (names_head c.args.worker c.args.index s) a.follows).1) c.in_default.not-Some)

pub returns : goal.returns
returns g c = λ s a.
    (let e : Entry = Done c.args.worker c.args.index c.args.outcome c.args.ms c.args.output in
    let t : State = after_effect s e in
    let at = done-found s c.args.worker c.args.index c.args.outcome c.args.ms c.args.output c.in-Some.item (books_of c.args.self.now.books) (books_of c.score.new.self) (known_by c.args.self.now.known) _ a.at (sym c.head_named.ensures.named ∙ c.in-Some.is) c.in_ok-score.ensures.done in
    let before : c.is_stopped-before.result ≡ is_stopped s.books = c.is_stopped-before.ensures ∙ ap is_stopped a.at.books_are in
    let outs : Bool → List Entry = λ q. if q then [] else if is_stopped t.books then shut_all t.books.members else acts_of (TestDone c.args.worker c.args.ms) t in
    finish s e (books_of c.done_outputs.new.self.books) _ _ _ c.args.entries.now.items c.note.new.entries.items c.done_outputs.new.entries.items c.finish.new.entries.items _ _
    c.in_ok-note.ensures
    (acted-by _ _ t _ _ c.note.new.entries.items c.done_outputs.new.entries.items _ (ap outs before) (c.in_ok-done_outputs.ensures t at (λ h. done-called s c.args.worker c.args.index c.args.outcome c.args.ms c.args.output a.reached a.follows)))
    c.in_ok-finish.ensures)
