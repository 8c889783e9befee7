use Rattle.std.proofs.Common.{◌≡◌, refl, ap, ◌∙◌, arith}
use Rattle.std.proofs.lemmas.Grind.{common_steps}
use Rattle.xd_session_books.specs.Kept.{log_in, place_of}
use Rattle.xd_session_books.proofs.Places.{log-pushed, log-placed}
use Rattle.xd_session_books.proofs.logs.Logs.put.Goals as goal

pub returns-then-place-len : goal.returns-then-place-len
returns-then-place-len c = λ v.
    (let p : c.place_of-place.result ≡ place_of c.args.log.worker c.self.inside.items.items = c.place_of-place.ensures ∙ ap (place_of c.args.log.worker) c.deref.ensures.value in
    log-placed v c.args.log.worker _ _ _ c.args.log c.self.view_is p (grind (arith, common_steps)) refl)

pub returns : goal.returns
returns c = λ v.
    (let p : c.place_of-place.result ≡ place_of c.args.log.worker c.self.inside.items.items = c.place_of-place.ensures ∙ ap (place_of c.args.log.worker) c.deref.ensures.value in
    ap (log_in v) c.in_ok-push.ensures.items ∙ log-pushed v c.args.log.worker _ _ _ c.args.log c.self.view_is p (grind (arith, common_steps)) refl)
