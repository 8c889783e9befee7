use Rattle.std.proofs.Common.{◌≡◌, ◌∷◌, [], ap, sym, refl, ◌∙◌, List, ℕ, Bool}
use Rattle.std.specs.Prelude.{if◌then◌else◌}
use Rattle.xd_journal.specs.declared.entry.Entry.{Entry}
use Rattle.xd_journal.specs.declared.entry.Entry.TheVariants.{Down, Kill}
use Rattle.xd_run.specs.Books.{Books}
use Rattle.xd_run.specs.Outputs.{outputs_of_death, shut_all}
use Rattle.xd_run.specs.Sharing.{State}
use Rattle.xd_run.specs.State.{after_effect}
use Rattle.xd_run.specs.Stops.{is_stopped}
use Rattle.xd_session_books.specs.Books.{books_of}
use Rattle.xd_session_books.specs.Known.{known_by}
use Rattle.xd_session_rules.proofs.Acts.{acted-append, acted-by, acted-kill, down-at, finish, may-die, still-stopped}
use Rattle.xd_session_rules.proofs.state.RunState.down.Goals as goal

pub death_outputs-requires-clause-late : goal.death_outputs-requires-clause-late
death_outputs-requires-clause-late g c = λ h. ap is_stopped c.in_ok-rest.ensures.buried ∙ still-stopped c.args.worker c.is_retry-retried.result (books_of c.args.self.now.books) (sym c.is_stopped-before.ensures ∙ h)

pub death_outputs-requires-clause-at : goal.death_outputs-requires-clause-at
death_outputs-requires-clause-at g c = λ h q.
    (let s : State = c.requires.0 in
    let a = c.requires.1 in
    let at = down-at s c.args.worker c.in_ok-rest.rest c.is_retry-retried.result (books_of c.args.self.now.books) (books_of c.bury.new.self) _ (known_by c.forget_steal_of.new.self) _ a.at c.is_retry-retried.ensures c.in_ok-rest.ensures.rest c.in_ok-rest.ensures.buried c.forget_steal_of.ensures in
    let die = may-die s (Down c.args.worker c.args.cause c.args.output) c.args.worker _ _ _ a refl (ap is_stopped (sym at.books_are) ∙ h) in
    (after_effect s (Down c.args.worker c.args.cause c.args.output), record { at = at; going = die.going; called = die.hears (ap (λ (d : Books). d.shared) (sym at.books_are) ∙ q) }))

pub returns : goal.returns
returns g c = λ s a.
    (let w : ℕ = c.args.worker in
    let e : Entry = Down c.args.worker c.args.cause c.args.output in
    let t : State = after_effect s e in
    let at = down-at s c.args.worker c.in_ok-rest.rest c.is_retry-retried.result (books_of c.args.self.now.books) (books_of c.bury.new.self) _ (known_by c.forget_steal_of.new.self) _ a.at c.is_retry-retried.ensures c.in_ok-rest.ensures.rest c.in_ok-rest.ensures.buried c.forget_steal_of.ensures in
    let before : c.is_stopped-before.result ≡ is_stopped s.books = c.is_stopped-before.ensures ∙ ap is_stopped a.at.books_are in
    let outs : Bool → List Entry = λ q. if q then [] else if is_stopped t.books then shut_all t.books.members else outputs_of_death w t in
    finish s e (books_of c.death_outputs.new.self.books) _ _ _ c.args.entries.now.items c.note.new.entries.items c.death_outputs.new.entries.items c.finish.new.entries.items _ _
    c.in_ok-note.ensures
    (acted-append (Kill w ∷ []) (outs (is_stopped s.books)) t (books_of c.bury.new.self) _ _ _ c.note.new.entries.items c.note-2.new.entries.items c.death_outputs.new.entries.items _ _
    (acted-kill t w (books_of c.bury.new.self) _ c.note.new.entries.items c.note-2.new.entries.items _ at c.in_ok-note-2.ensures)
    (acted-by _ _ t _ _ c.note-2.new.entries.items c.death_outputs.new.entries.items _ (ap outs before) (c.in_ok-death_outputs.ensures t at (λ h. may-die s e w _ _ _ a refl h))))
    c.in_ok-finish.ensures)
