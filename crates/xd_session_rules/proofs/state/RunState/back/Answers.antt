use Rattle.std.proofs.Common.{◌≡◌, ap, sym, subst, refl, ◌∙◌, List, ℕ, true}
use Rattle.xd_journal.specs.declared.entry.Entry.{Entry}
use Rattle.xd_journal.specs.declared.entry.Entry.TheVariants.{Back}
use Rattle.xd_run.specs.Modes.ModeCall.{TestsBack}
use Rattle.xd_run.specs.Outputs.{acts_of, shut_all}
use Rattle.xd_run.specs.Sharing.{State}
use Rattle.xd_run.specs.State.{after_effect}
use Rattle.xd_run.specs.Stops.{is_stopped}
use Rattle.xd_run.specs.Workers.{slot_of}
use Rattle.xd_session_books.specs.Books.{books_of}
use Rattle.xd_session_books.specs.Known.{known_by}
use Rattle.std.proofs.Common.{◌+◌, map}
use Rattle.std.specs.Prelude.{◌^◌, nat_lt}
use Rattle.std.specs.List.{list_all}
use Rattle.xd_session_books.specs.Known.{first_item}
use Rattle.xd_session_rules.proofs.Acts.{acted-by, back-at, choose-once, finish}
use Rattle.xd_session_rules.proofs.Judging.{back-named, gives-back}
use Rattle.xd_run_laws.proofs.Calls.{back-called}
use Rattle.xd_run.specs.Numbers.{all_among, all_distinct}
use Rattle.xd_run.specs.Table.{held}
use Rattle.xd_session_rules.proofs.state.RunState.back.Goals as goal

pub items_of-requires : goal.items_of-requires
items_of-requires g c =
    subst (λ (is : List ℕ). list_all (λ i. nat_lt (first_item (slot_of c.args.worker (books_of c.args.self.now.books)) (known_by c.args.self.now.known) + i) (2 ^ 32)) is ≡ true) (sym (c.deref.ensures.value ∙ c.indices.view_is))
    (gives-back c.requires.0 c.args.worker c.args.indices _ _ _ c.requires.1 c.args.self.now.known.few).fits

pub give_back-requires-clause-distinct : goal.give_back-requires-clause-distinct
give_back-requires-clause-distinct g c = ap all_distinct (c.deref-2.ensures.value ∙ c.items.view_is ∙ c.in_ok-items.ensures ∙ ap (λ (is : List ℕ). map (λ i. first_item (slot_of c.args.worker (books_of c.args.self.now.books)) (known_by c.args.self.now.known) + i) is) (c.deref.ensures.value ∙ c.indices.view_is)) ∙ (gives-back c.requires.0 c.args.worker c.args.indices _ _ _ c.requires.1 c.args.self.now.known.few).distinct

pub give_back-requires-clause-holds : goal.give_back-requires-clause-holds
give_back-requires-clause-holds g c =
    ap (λ (xs : List ℕ). all_among xs (held c.args.worker c.args.self.now.books.ledger)) (c.deref-2.ensures.value ∙ c.items.view_is ∙ c.in_ok-items.ensures ∙ ap (λ (is : List ℕ). map (λ i. first_item (slot_of c.args.worker (books_of c.args.self.now.books)) (known_by c.args.self.now.known) + i) is) (c.deref.ensures.value ∙ c.indices.view_is)) ∙ (gives-back c.requires.0 c.args.worker c.args.indices _ _ _ c.requires.1 c.args.self.now.known.few).holds

pub back_outputs-requires : goal.back_outputs-requires
back_outputs-requires g c = λ h.
    (let s : State = c.requires.0 in
    let a = c.requires.1 in
    let at = back-at s c.args.worker c.args.indices c.deref-2.result.now (books_of c.args.self.now.books) (books_of c.give_back.new.self) (known_by c.args.self.now.known) _ _ a.at ((c.deref-2.ensures.value ∙ c.items.view_is ∙ c.in_ok-items.ensures ∙ ap (λ (is : List ℕ). map (λ i. first_item (slot_of c.args.worker (books_of c.args.self.now.books)) (known_by c.args.self.now.known) + i) is) (c.deref.ensures.value ∙ c.indices.view_is)) ∙ back-named s c.args.worker c.args.indices _ _ _ a.at) c.in_ok-give_back.ensures refl in
    (after_effect s (Back c.args.worker c.args.indices), record { at = at; going = ap is_stopped (sym at.books_are) ∙ h; called = back-called s _ _ a.reached a.follows }))

pub returns : goal.returns
returns g c = λ s a.
    (let e : Entry = Back c.args.worker c.args.indices in
    let t : State = after_effect s e in
    let at = back-at s c.args.worker c.args.indices c.deref-2.result.now (books_of c.args.self.now.books) (books_of c.give_back.new.self) (known_by c.args.self.now.known) _ _ a.at ((c.deref-2.ensures.value ∙ c.items.view_is ∙ c.in_ok-items.ensures ∙ ap (λ (is : List ℕ). map (λ i. first_item (slot_of c.args.worker (books_of c.args.self.now.books)) (known_by c.args.self.now.known) + i) is) (c.deref.ensures.value ∙ c.indices.view_is)) ∙ back-named s c.args.worker c.args.indices _ _ _ a.at) c.in_ok-give_back.ensures refl in
    finish s e (books_of c.back_outputs.new.self.books) _ _ _ c.args.entries.now.items c.note.new.entries.items c.back_outputs.new.entries.items c.finish.new.entries.items _ _
    c.in_ok-note.ensures
    (acted-by _ _ t _ _ c.note.new.entries.items c.back_outputs.new.entries.items _ (choose-once (is_stopped s.books) (shut_all t.books.members) (acts_of TestsBack t)) (c.in_ok-back_outputs.ensures t at (λ h. back-called s _ _ a.reached a.follows)))
    c.in_ok-finish.ensures)
