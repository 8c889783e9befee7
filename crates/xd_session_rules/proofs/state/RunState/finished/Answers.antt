use Rattle.std.proofs.Common.{ap, ◌∙◌, ℕ}
use Rattle.xd_journal.specs.declared.entry.Entry.{Entry}
use Rattle.xd_journal.specs.declared.entry.Entry.TheVariants.{Finished}
use Rattle.xd_run.specs.Books.{Books, marked}
use Rattle.xd_run.specs.Sharing.{State}
use Rattle.xd_run.specs.State.{after_effect}
use Rattle.xd_run.specs.Workers.{made_gone}
use Rattle.xd_session_books.specs.Books.{books_of}
use Rattle.xd_session_rules.proofs.Acts.{acted-none, finish, gone-left-at}
use Rattle.xd_session_rules.proofs.state.RunState.finished.Goals as goal

pub returns : goal.returns
returns g c = λ s a.
    (let w : ℕ = c.args.worker in
    let e : Entry = Finished w in
    let t : State = after_effect s e in
    let b : Books = books_of c.mark.new.self in
    let at = gone-left-at s w (books_of c.args.self.now.books) b _ _ a (c.mark.ensures ∙ ap (λ (d : Books). marked (made_gone w) d) c.leave.ensures) in
    finish s e b _ _ _ c.args.entries.now.items c.note.new.entries.items c.note.new.entries.items c.finish.new.entries.items _ _
    c.in_ok-note.ensures (acted-none t b _ c.note.new.entries.items _ at) c.in_ok-finish.ensures)
