use Rattle.std.proofs.Common.{◌≡◌, ◌++◌, ◌∷◌, [], ap, sym, subst, ◌∙◌, List, ℕ, true, false}
use Rattle.xd_journal.specs.declared.entry.Entry.{Entry}
use Rattle.xd_journal.specs.declared.entry.Entry.TheVariants.{Collected}
use Rattle.xd_journal.specs.declared.entry.Ids.{Ids}
use Rattle.xd_run.specs.Books.{Books}
use Rattle.xd_run.specs.Collections.{listed}
use Rattle.xd_run.specs.Sharing.{State}
use Rattle.xd_run.specs.Stops.{is_stopped}
use Rattle.xd_run.specs.Workers.{is_shut}
use Rattle.xd_session_books.specs.declared.lists.Comparison.{Comparison}
use Rattle.xd_session_books.specs.Compared.{comparison, ids_to_list}
use Rattle.xd_session_books.specs.Books.{books_of}
use Rattle.xd_session_books.specs.Known.{known_by}
use Rattle.xd_session_rules.specs.Rules.{Ruled}
use Rattle.xd_run.specs.Books.{marked}
use Rattle.xd_run.specs.Table.{has_joined}
use Rattle.xd_run.specs.Workers.{made_collected}
use Rattle.xd_session_rules.specs.Joining.{IsBare}
use Rattle.xd_session_rules.proofs.Acts.{finish}
use Rattle.xd_session_rules.proofs.Shares.{acted-collected, acted-shut-off, at-noted, going-on, given-is, may-take_in, noted}
use Rattle.xd_session_rules.proofs.state.RunState.collected.Goals as goal

pub take_in-requires-clause-new : goal.take_in-requires-clause-new
take_in-requires-clause-new g c = ap (λ (d : Books). has_joined c.args.worker d.table) (c.mark.ensures ∙ ap (λ (d : Books). marked (made_collected c.args.worker) d) c.in_ok-taken.ensures.books) ∙ c.requires.joins.absent

pub take_in-requires-clause-bare : goal.take_in-requires-clause-bare
take_in-requires-clause-bare g c = λ h. subst (λ (d : Books). IsBare d.table) (sym (c.mark.ensures ∙ ap (λ (d : Books). marked (made_collected c.args.worker) d) c.in_ok-taken.ensures.books)) (c.requires.joins.bare (ap (λ (d : Books). d.shared) (sym (c.mark.ensures ∙ ap (λ (d : Books). marked (made_collected c.args.worker) d) c.in_ok-taken.ensures.books)) ∙ h))

pub take_in-requires-clause-going : goal.take_in-requires-clause-going
take_in-requires-clause-going g c = ap is_stopped (c.mark.ensures ∙ ap (λ (d : Books). marked (made_collected c.args.worker) d) c.in_ok-taken.ensures.books) ∙ going-on c.args.worker (books_of c.args.self.now.books) c.requires.joins.told (sym c.is_shut-shut.ensures ∙ c.if-shut.false)

pub take_in-requires-clause-at : goal.take_in-requires-clause-at
take_in-requires-clause-at g c = λ n.
    (let s : State = c.requires.at.0 in
    let a = c.requires.at.1 in
    let w : ℕ = c.args.worker in
    let own : List (List ℕ) = c.args.own in
    let b : Books = books_of c.args.self.now.books in
    let mine : Books → Comparison = λ d. comparison own (listed w d) in
    let at = at-noted w own s b (books_of c.take_list.new.self) (books_of c.mark.new.self) _ _ a.at c.in_ok-taken.ensures.books c.mark.ensures in
    let compares : c.in_ok-taken.taken.comparison ≡ mine s.books = c.in_ok-taken.ensures.comparison ∙ ap mine a.at.books_are in
    let unshut = sym c.is_shut-shut.ensures ∙ c.if-shut.false in
    let unstopped = going-on w b c.requires.joins.told unshut in
    (noted w (ids_to_list (mine s.books) own) s, (at, may-take_in w own s c.in_ok-taken.taken.comparison _ _ _ a compares (ap (λ (d : Books). is_shut w d) (sym a.at.books_are) ∙ unshut) (ap is_stopped (sym a.at.books_are) ∙ unstopped) n)))

pub returns-then-shut : goal.returns-then-shut
returns-then-shut g c = λ s a.
    (let w : ℕ = c.args.worker in
    let own : List (List ℕ) = c.args.own in
    let b : Books = books_of c.args.self.now.books in
    let mine : Books → Comparison = λ d. comparison own (listed w d) in
    let old : List Entry = c.args.entries.now.items in
    let e : Entry = Collected w (ids_to_list (mine s.books) own) in
    let at = at-noted w own s b (books_of c.take_list.new.self) (books_of c.mark.new.self) _ _ a.at c.in_ok-taken.ensures.books c.mark.ensures in
    let entry_is : c.note.new.entries.items ≡ old ++ e ∷ [] = c.in_ok-note.ensures ∙ ap (λ (i : Ids). old ++ Collected w i ∷ []) (c.in_ok-taken.ensures.ids ∙ ap (λ (d : Books). ids_to_list (mine d) own) a.at.books_are) in
    let shut : is_shut w s.books ≡ true = ap (λ (d : Books). is_shut w d) (sym a.at.books_are) ∙ sym c.is_shut-shut.ensures ∙ c.if-shut.true in
    subst (λ (x : Entry). Ruled s x (books_of c.finish.new.self.books) (known_by c.finish.new.self.known) old c.finish.new.entries.items (g.M.Mode.stands c.finish.new.self.mode)) (sym (given-is w own s))
    (finish s e (books_of c.mark.new.self) _ _ _ old c.note.new.entries.items c.note.new.entries.items c.finish.new.entries.items _ _
    entry_is (acted-shut-off w own s (books_of c.mark.new.self) _ c.note.new.entries.items _ shut at) c.in_ok-finish.ensures))

pub returns : goal.returns
returns g c = λ s a.
    (let w : ℕ = c.args.worker in
    let own : List (List ℕ) = c.args.own in
    let b : Books = books_of c.args.self.now.books in
    let mine : Books → Comparison = λ d. comparison own (listed w d) in
    let old : List Entry = c.args.entries.now.items in
    let e : Entry = Collected w (ids_to_list (mine s.books) own) in
    let at = at-noted w own s b (books_of c.take_list.new.self) (books_of c.mark.new.self) _ _ a.at c.in_ok-taken.ensures.books c.mark.ensures in
    let entry_is : c.note.new.entries.items ≡ old ++ e ∷ [] = c.in_ok-note.ensures ∙ ap (λ (i : Ids). old ++ Collected w i ∷ []) (c.in_ok-taken.ensures.ids ∙ ap (λ (d : Books). ids_to_list (mine d) own) a.at.books_are) in
    let unshut_books = sym c.is_shut-shut.ensures ∙ c.if-shut.false in
    let unshut : is_shut w s.books ≡ false = ap (λ (d : Books). is_shut w d) (sym a.at.books_are) ∙ unshut_books in
    let unstopped : is_stopped s.books ≡ false = ap is_stopped (sym a.at.books_are) ∙ going-on w b c.requires.joins.told unshut_books in
    let compares : c.in_ok-taken.taken.comparison ≡ mine s.books = c.in_ok-taken.ensures.comparison ∙ ap mine a.at.books_are in
    let done = acted-collected w own s c.in_ok-taken.taken.comparison _ _ c.note.new.entries.items c.take_in.new.entries.items _ compares unshut
    (c.in_ok-take_in.ensures (noted w (ids_to_list (mine s.books) own) s) at (λ n. may-take_in w own s c.in_ok-taken.taken.comparison _ _ _ a compares unshut unstopped n)) in
    subst (λ (x : Entry). Ruled s x (books_of c.finish-2.new.self.books) (known_by c.finish-2.new.self.known) old c.finish-2.new.entries.items (g.M.Mode.stands c.finish-2.new.self.mode)) (sym (given-is w own s))
    (finish s e _ _ _ _ old c.note.new.entries.items c.take_in.new.entries.items c.finish-2.new.entries.items _ _
    entry_is done c.in_ok-finish-2.ensures))
