use Rattle.std.proofs.Common.{◌≡◌, ap, subst, sym, ◌∙◌, ℕ}
use Rattle.xd_run.specs.Books.{Books}
use Rattle.xd_ledger.specs.Calls.{Turned}
use Rattle.xd_run.specs.Modes.ModeCall.{Joined}
use Rattle.xd_run.specs.Suits.{Suits}
use Rattle.xd_run.specs.Workers.{slot_of}
use Rattle.xd_session_books.specs.Books.{books_of}
use Rattle.xd_session_books.specs.Known.{known_by}
use Rattle.xd_session_rules.proofs.Acts.{acted-call, as-before, suits-by}
use Rattle.xd_session_rules.proofs.state.RunState.call_joined.Goals as goal

pub joined-requires-clause-suits : goal.joined-requires-clause-suits
joined-requires-clause-suits g c =
    let s = c.requires.at.0 in
    let a = c.requires.at.1 in
    let slot : c.slot_of-slot.result ≡ slot_of c.args.worker s.books = c.slot_of-slot.ensures ∙ ap (λ (d : Books). slot_of c.args.worker d) a.at.books_are in
    subst (λ (n : ℕ). Suits (Joined c.args.worker n) (λ p. p) c.args.self.now.books.ledger (g.M.Mode.stands c.args.self.now.mode)) (sym slot) (suits-by _ (λ p. p) _ _ _ _ (as-before _ _ _ _ _ a))

pub returns : goal.returns
returns g c = λ s a.
    (let slot : c.slot_of-slot.result ≡ slot_of c.args.worker s.books = c.slot_of-slot.ensures ∙ ap (λ (d : Books). slot_of c.args.worker d) a.at.books_are in
    acted-call (Joined c.args.worker (slot_of c.args.worker s.books)) (λ p. p) s (books_of c.args.self.now.books) _ (known_by c.args.self.now.known) _ c.new-acts.result.items c.joined.new.acts.items c.joined.new.ledger c.args.entries.now.items _ _ _
    c.new-acts.ensures.items (as-before _ s _ _ _ a)
    (λ p h. subst (λ (n : ℕ). Turned (Joined c.args.worker n) p c.args.self.now.books.ledger c.new-acts.result.items c.joined.new.ledger c.joined.new.acts.items (g.M.Mode.stands c.joined.new.self)) slot (c.in_ok-joined.ensures p h))
    c.in_ok-take_acts.ensures.books c.in_ok-take_acts.ensures.known c.in_ok-take_acts.ensures.entries)
