use Rattle.std.proofs.Common.{◌≡◌, ◌++◌, ◌∷◌, [], ap, ◌∙◌, List, ℕ, length}
use Rattle.std.specs.Prelude.{if◌then◌else◌}
use Rattle.xd_journal.specs.declared.entry.Entry.{Entry}
use Rattle.xd_journal.specs.declared.entry.Entry.TheVariants.{Start}
use Rattle.xd_run.specs.Books.{Books}
use Rattle.xd_run.specs.Modes.ModeCall.{Died}
use Rattle.xd_run.specs.Outputs.{acts_of}
use Rattle.xd_run.specs.Workers.{slot_of}
use Rattle.xd_session_books.specs.Books.{books_of}
use Rattle.xd_run.specs.State.{after_entries}
use Rattle.xd_session_rules.proofs.Acts.{acted-append, acted-by, acted-start}
use Rattle.xd_session_rules.proofs.state.RunState.restart.Goals as goal

pub returns : goal.returns
returns g c = λ s a m.
    (let w : ℕ = c.args.worker in
    let number : ℕ = c.in_ok-number.number in
    let slot : ℕ = c.slot_of-slot.result in
    let xs : List Entry = if s.books.shared then acts_of Died s else [] in
    let first = c.in_ok-hear_of_death.ensures s a m in
    let n : number ≡ length s.books.members = c.in_ok-number.ensures ∙ ap (λ (d : Books). length d.members) a.books_are in
    let p : slot ≡ slot_of w s.books = c.slot_of-slot.ensures ∙ ap (λ (d : Books). slot_of w d) a.books_are in
    let numbers : ℕ → List Entry = λ k. xs ++ Start k slot ∷ [] in
    let slots : ℕ → List Entry = λ k. xs ++ Start (length s.books.members) k ∷ [] in
    acted-by (xs ++ Start number slot ∷ []) _ s _ _ c.args.entries.now.items c.note.new.entries.items _ (ap numbers n ∙ ap slots p)
    (acted-append xs (Start number slot ∷ []) s (books_of c.hear_of_death.new.self.books) _ _ _ c.args.entries.now.items c.hear_of_death.new.entries.items c.note.new.entries.items _ _
    first
    (acted-start (after_entries s xs) number slot (books_of c.hear_of_death.new.self.books) (books_of c.start.new.self) _ c.hear_of_death.new.entries.items c.note.new.entries.items _ first.at c.in_ok-start.ensures c.in_ok-note.ensures)))
