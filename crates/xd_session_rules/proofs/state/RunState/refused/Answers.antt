use Rattle.std.proofs.Common.{◌≡◌, ap, ◌∙◌}
use Rattle.xd_journal.specs.declared.entry.Entry.{Entry}
use Rattle.xd_journal.specs.declared.entry.Entry.TheVariants.{Refused}
use Rattle.xd_run.specs.Books.{Books}
use Rattle.xd_run.specs.Sharing.{State}
use Rattle.xd_run.specs.State.{after_effect}
use Rattle.std.specs.Prelude.{Some}
use Rattle.xd_journal.specs.declared.entry.RunStop.TheVariants.{CollectError}
use Rattle.xd_run.specs.Stops.{is_stopped, stopped_by}
use Rattle.xd_session_books.specs.Books.{books_of}
use Rattle.xd_session_rules.proofs.Acts.{acted-by, finish, refused-at, refused-outs}
use Rattle.xd_session_rules.proofs.state.RunState.refused.Goals as goal

pub returns : goal.returns
returns g c = λ s a.
    (let e : Entry = Refused c.args.worker c.args.text in
    let t : State = after_effect s e in
    let at = refused-at s c.args.worker c.args.text (books_of c.args.self.now.books) (books_of c.stop_by.new.self) _ _ a (c.stop_by.ensures ∙ ap (λ (d : Books). stopped_by (Some (CollectError c.args.worker)) d) c.mark.ensures) in
    let before : c.is_stopped-before.result ≡ is_stopped s.books = c.is_stopped-before.ensures ∙ ap is_stopped a.books_are in
    finish s e (books_of c.stop_outputs.new.self.books) _ _ _ c.args.entries.now.items c.note.new.entries.items c.stop_outputs.new.entries.items c.finish.new.entries.items _ _
    c.in_ok-note.ensures
    (acted-by _ _ t _ _ c.note.new.entries.items c.stop_outputs.new.entries.items _ (refused-outs s c.args.worker c.args.text c.is_stopped-before.result before) (c.in_ok-stop_outputs.ensures t at.books_are at.known_is))
    c.in_ok-finish.ensures)
