use Rattle.std.proofs.Common.{◌≡◌, ℕ, refl, ap, sym, ◌∙◌, arith, List}
use Rattle.std.specs.Prelude.{Some}
use Rattle.std.proofs.lemmas.Grind.{common_steps}
use Rattle.xd_journal.specs.declared.news.What.TheVariants as what
use Rattle.xd_run.specs.Meaning.{with_news}
use Rattle.xd_session_books.specs.Kept.{place_of, shortened}
use Rattle.xd_session_books.proofs.Places.{log-changed, log-kept}
use Rattle.xd_session_books.proofs.logs.Logs.add.Goals as goal

pub returns-then-place-len : goal.returns-then-place-len
returns-then-place-len c = λ v number.
    (let p : c.place_of-place.result ≡ place_of c.args.worker c.self.inside.items.items = c.place_of-place.ensures ∙ ap (place_of c.args.worker) c.deref.ensures.value in
    log-changed (λ o. shortened (with_news o (what.Piece number c.args.piece.now))) v c.args.worker _ _ _ c.index_mut.result.now _ c.self.view_is p (grind (arith, common_steps)) c.index_mut.ensures.value refl
    (ap (λ (bs : List ℕ). Some (record { number = c.index_mut.result.now.number; index = c.index_mut.result.now.index; is_open = c.index_mut.result.now.is_open; bytes = bs })) (sym c.in_ok-add_first.ensures)))

pub returns : goal.returns
returns c = λ v number.
    (let p : c.place_of-place.result ≡ place_of c.args.worker c.self.inside.items.items = c.place_of-place.ensures ∙ ap (place_of c.args.worker) c.deref.ensures.value in
    log-kept (λ o. shortened (with_news o (what.Piece number c.args.piece.now))) v c.args.worker _ _ _ c.self.view_is p (grind (arith, common_steps)) refl)
