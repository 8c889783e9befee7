use Rattle.std.proofs.Common.{◌≡◌, ap, sym, ◌∙◌, arith}
use Rattle.std.proofs.lemmas.Grind.{common_steps}
use Rattle.xd_session_books.proofs.Places.{log-found, log-missing}
use Rattle.xd_run.specs.Meaning.{any_open}
use Rattle.xd_session_books.specs.Kept.{place_of}
use Rattle.xd_session_books.proofs.logs.Logs.any_open.Goals as goal

pub returns-then-place-len : goal.returns-then-place-len
returns-then-place-len c =
    let p : c.place_of-place.result ≡ place_of c.args.worker c.self.inside.items.items = c.place_of-place.ensures ∙ ap (place_of c.args.worker) c.deref.ensures.value in
    ap (any_open) (sym (log-found c.args.worker _ _ _ c.index.result.now c.self.view_is p (grind (arith, common_steps)) c.index.ensures))

pub returns : goal.returns
returns c =
    let p : c.place_of-place.result ≡ place_of c.args.worker c.self.inside.items.items = c.place_of-place.ensures ∙ ap (place_of c.args.worker) c.deref.ensures.value in
    ap (any_open) (sym (log-missing c.args.worker _ _ _ c.self.view_is p (grind (arith, common_steps))))
