use Rattle.std.proofs.Common.{◌≡◌, ◌++◌, ◌∷◌, [], ap, ◌∙◌, List, ℕ}
use Rattle.std.specs.Prelude.{if◌then◌else◌}
use Rattle.xd_journal.specs.declared.entry.Entry.{Entry}
use Rattle.xd_journal.specs.declared.entry.Entry.TheVariants.{Ready, Shutdown}
use Rattle.xd_run.specs.Books.{Books, marked}
use Rattle.xd_run.specs.Stops.{is_shutting}
use Rattle.xd_run.specs.Workers.{made_ready}
use Rattle.xd_session_books.specs.Books.{books_of, told_to_shut}
use Rattle.std.proofs.Common.{append_assoc}
use Rattle.xd_session_rules.proofs.Closing.{ready-at, ruled}
use Rattle.xd_session_rules.proofs.state.RunState.ready.Goals as goal

pub returns : goal.returns
returns g c = λ s a.
    (let w : ℕ = c.args.worker in
    let b : Books = books_of c.args.self.now.books in
    let old : List Entry = c.args.entries.now.items in
    let k : Books = books_of c.mark.new.self in
    let f : Books → Books = λ d. if is_shutting d then told_to_shut w d else d in
    let own : Books → List Entry = λ d. if is_shutting d then Shutdown w ∷ [] else [] in
    let e : k ≡ marked (made_ready w) b = c.mark.ensures in
    let notes : c.tell_where_shutting.new.entries.items ≡ old ++ Ready w ∷ own (marked (made_ready w) s.books) =
    c.in_ok-tell_where_shutting.ensures.noted ∙ ap (λ (xs : List Entry). xs ++ own k) c.in_ok-note.ensures ∙ append_assoc old (Ready w ∷ []) (own k) ∙ ap (λ (d : Books). old ++ Ready w ∷ own d) (e ∙ ap (λ (d : Books). marked (made_ready w) d) a.books_are) in
    ruled s (Ready w) _ _ old c.tell_where_shutting.new.entries.items c.finish.new.entries.items _
    (c.in_ok-finish.ensures _ (ready-at s w b (books_of c.tell_where_shutting.new.books) _ _ a (c.in_ok-tell_where_shutting.ensures.told ∙ ap f e)))
    notes)
