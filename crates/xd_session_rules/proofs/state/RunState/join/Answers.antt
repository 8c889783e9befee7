use Rattle.std.proofs.Common.{◌≡◌, ap, sym, refl, ◌∙◌, true, false}
use Rattle.xd_run.specs.Books.{Books}
use Rattle.xd_run.specs.Sharing.{State, is_full}
use Rattle.xd_session_books.specs.Books.{books_of}
use Rattle.xd_session_rules.proofs.Shares.{at-seated, calls-joined, full-unshared, joined-by, may-share, seated_in}
use Rattle.xd_session_rules.proofs.state.RunState.join.Goals as goal

pub call_joined-requires-clause-at : goal.call_joined-requires-clause-at
call_joined-requires-clause-at g c =
    let s : State = c.requires.at.0 in
    let a = c.requires.at.1.0 in
    let at = at-seated s c.args.worker (books_of c.args.self.now.books) (books_of c.seat.new.books) _ _ a c.in_ok-seat.ensures.books in
    (seated_in c.args.worker s, calls-joined c.args.worker s _ _ _ at c.requires.at.1.1 (ap (λ (d : Books). d.shared) (sym at.books_are) ∙ sym c.is_shared.ensures ∙ c.if-is_shared.true))

pub share-requires-clause-at : goal.share-requires-clause-at
share-requires-clause-at g c =
    let s : State = c.requires.at.0 in
    let a = c.requires.at.1.0 in
    let at = at-seated s c.args.worker (books_of c.args.self.now.books) (books_of c.seat.new.books) _ _ a c.in_ok-seat.ensures.books in
    let full : is_full (seated_in c.args.worker s).books ≡ true = ap is_full (sym at.books_are) ∙ sym c.is_full.ensures ∙ c.if-is_full.true in
    (seated_in c.args.worker s, (at, may-share c.args.worker s c.requires.at.1.1 full))

pub returns-then-is_shared : goal.returns-then-is_shared
returns-then-is_shared g c = λ s a m.
    (let w = c.args.worker in
    let at = at-seated s w (books_of c.args.self.now.books) (books_of c.seat.new.books) _ _ a c.in_ok-seat.ensures.books in
    let shared : s.books.shared ≡ true = ap (λ (d : Books). d.shared) (sym at.books_are) ∙ sym c.is_shared.ensures ∙ c.if-is_shared.true in
    let full : is_full (seated_in w s).books ≡ false = rw shared refl in
    joined-by s w false true _ _ _ c.args.entries.now.items c.call_joined.new.entries.items _ full shared (c.in_ok-call_joined.ensures (seated_in w s) (calls-joined w s _ _ _ at m shared)) refl)

pub returns-then-is_full : goal.returns-then-is_full
returns-then-is_full g c = λ s a m.
    (let w = c.args.worker in
    let at = at-seated s w (books_of c.args.self.now.books) (books_of c.seat.new.books) _ _ a c.in_ok-seat.ensures.books in
    let full : is_full (seated_in w s).books ≡ true = ap is_full (sym at.books_are) ∙ sym c.is_full.ensures ∙ c.if-is_full.true in
    joined-by s w true false _ _ _ c.args.entries.now.items c.share.new.entries.items _ full (full-unshared w s full) (c.in_ok-share.ensures (seated_in w s) at (may-share w s m full)) refl)
